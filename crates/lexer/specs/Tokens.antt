-- Tokens and answers (document 01, 'How source becomes tokens'), and what each case of the lexer's enums stands for.
use Rattle.std.specs.Prelude.{ℕ, ◌+◌, ℤ, Result as CodeResult, Ok, Err}
use Rattle.refusals.specs.declared.Refusal.{Refusal}
use Rattle.refusals.specs.Result.{Result, ok, refused_by}
use Rattle.wide.specs.Value.{value}
use Rattle.lexer.specs.declared.Token.{Token as CodeToken}
use Rattle.lexer.specs.declared.Token.TheVariants as code
use Rattle.lexer.specs.declared.Lexed.{Lexed}
use Rattle.lexer.specs.declared.Lexed.TheVariants as lexed

pub data Kind : Type 0 where
  lparen rparen at_sign symbol : Kind
  int : ℤ → Kind

-- a token carries its kind, start and length in bytes, and for a literal its integer
pub record Token : Type 0 where
  pub kind : Kind
  pub start : ℕ
  pub size : ℕ

abbrev pub token : Kind → ℕ → ℕ → Token
token k s n = record { kind = k; start = s; size = n }

-- the place past a token
abbrev pub past : Token → ℕ
past t = t.start + t.size

-- the next token, or the end
pub data Next : Type 0 where
  end : Next
  is : Token → Next

abbrev pub Answer : Type 0
Answer = Result Next

-- document 01's values for each case of the token's enum, at a start
abbrev pub token_of : CodeToken → ℕ → Token
token_of code.LParen s = token lparen s 1
token_of code.RParen s = token rparen s 1
token_of code.At s = token at_sign s 1
token_of (code.Symbol n) s = token symbol s n
token_of (code.Int w n) s = token (int (value w)) s n

-- document 01's number and values for each case of the code's answer
abbrev pub answer_of : CodeResult Lexed Refusal → Answer
answer_of (Ok lexed.End) = ok end
answer_of (Ok (lexed.Token t s)) = ok (is (token_of t s))
answer_of (Err r) = refused_by r
