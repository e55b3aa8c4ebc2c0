-- The numbers of document 01, 'Numbers given instead of an answer', and of document 02, and the limits of 'What is ported and what is added', by name.
use Rattle.std.specs.Prelude.{ℕ, List, ◌++◌, codes, decimal}
use Rattle.refusals.specs.declared.Fault.{Fault}
use Rattle.refusals.specs.declared.Fault.TheVariants as fault
use Rattle.refusals.specs.declared.Refusal.{Refusal}

-- bytes of a source; bytes of a table; bytes of a settings file; lists and bindings open at once
abbrev pub source_limit : ℕ
source_limit = 1048576

abbrev pub table_limit : ℕ
table_limit = 16777216

abbrev pub settings_limit : ℕ
settings_limit = 65536

abbrev pub depth_limit : ℕ
depth_limit = 64

-- source, table or feed too long
abbrev pub too_long : ℕ
too_long = 1

-- start is past the source
abbrev pub past_source : ℕ
past_source = 2

abbrev pub form_feed : ℕ
form_feed = 3

-- block comment open at the end
abbrev pub open_comment : ℕ
open_comment = 4

-- literal without digits
abbrev pub no_digits : ℕ
no_digits = 5

abbrev pub foreign_digit : ℕ
foreign_digit = 6

-- above 2^128-1
abbrev pub too_large : ℕ
too_large = 7

-- `-` with 2^127
abbrev pub minus_lowest : ℕ
minus_lowest = 8

-- `)` with no list open
abbrev pub no_list_open : ℕ
no_list_open = 9

-- list open at the end
abbrev pub list_open : ℕ
list_open = 10

-- `@` when the token before it is no symbol
abbrev pub no_symbol : ℕ
no_symbol = 11

-- `)` or the end directly after a binding's `@`
abbrev pub no_tree : ℕ
no_tree = 12

-- 65th list or binding open
abbrev pub too_deep : ℕ
too_deep = 13

-- table needs more than the room lent
abbrev pub table_room : ℕ
table_room = 14

-- record cut short, or its length below 6 or past the table
abbrev pub bad_record : ℕ
bad_record = 15

-- symbol or name the lexer would not read as one
abbrev pub bad_symbol : ℕ
bad_symbol = 16

-- 17 is retired (document 02, 6/12): it is never given, and its number is not used again

-- print needs more than the room lent
abbrev pub print_room : ℕ
print_room = 18

abbrev pub fed_after_close : ℕ
fed_after_close = 19

-- record of unknown kind
abbrev pub unknown_kind : ℕ
unknown_kind = 20

-- length wrong for the record's kind
abbrev pub wrong_length : ℕ
wrong_length = 21

-- missing trees, at the table's length
abbrev pub missing_trees : ℕ
missing_trees = 22

-- bad settings file, at the first bad record or second of its kind
abbrev pub bad_settings : ℕ
bad_settings = 23

-- set in neither settings file
abbrev pub not_set : ℕ
not_set = 24

-- stored cost wrong, at the list's record
abbrev pub wrong_cost : ℕ
wrong_cost = 25

-- style name not of 1 to 32 bytes, at its length
abbrev pub bad_style_name : ℕ
bad_style_name = 26

-- the number that each fault of the code stands for, and the refusal for it at a place
abbrev pub number_of : Fault → ℕ
number_of fault.TooLong = too_long
number_of fault.PastSource = past_source
number_of fault.FormFeed = form_feed
number_of fault.OpenComment = open_comment
number_of fault.NoDigits = no_digits
number_of fault.ForeignDigit = foreign_digit
number_of fault.TooLarge = too_large
number_of fault.MinusLowest = minus_lowest
number_of fault.NoListOpen = no_list_open
number_of fault.ListOpen = list_open
number_of fault.NoSymbol = no_symbol
number_of fault.NoTree = no_tree
number_of fault.TooDeep = too_deep
number_of fault.TableRoom = table_room
number_of fault.BadRecord = bad_record
number_of fault.BadSymbol = bad_symbol
number_of fault.PrintRoom = print_room
number_of fault.FedAfterClose = fed_after_close
number_of fault.UnknownKind = unknown_kind
number_of fault.WrongLength = wrong_length
number_of fault.MissingTrees = missing_trees
number_of fault.BadSettings = bad_settings
number_of fault.NotSet = not_set
number_of fault.WrongCost = wrong_cost
number_of fault.BadStyleName = bad_style_name

abbrev pub fault_at : Fault → ℕ → Refusal
fault_at f a = record { number = number_of f; place = a }

-- what is printed of a refusal: its number and its place in decimal
abbrev pub refusal_text : Refusal → List ℕ
refusal_text r = codes "refusal " ++ (decimal r.number ++ (codes " at " ++ decimal r.place))
