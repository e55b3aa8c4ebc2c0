-- For each public function of the lent entrance two wrong answers that its promise rules out, on a given input, refuted by computation.
use mathlib.Core.Path.{◌≡◌, ap}
use mathlib.Core.List.{[], ◌∷◌}
use Prim.Native.Nat.{ℕ}
use native.Mathlib.Omega.{arith}
use Rattle.std.specs.Prelude.{Result, Ok}
use Rattle.refusals.specs.declared.Refusal.{Refusal}
use Rattle.classes.specs.Classes.{class_of}
use Rattle.lexer.specs.declared.Token.TheVariants.{RParen}
use Rattle.feeder.specs.declared.Answer.{Answer}
use Rattle.feeder.specs.declared.Answer.TheVariants as answer
use Rattle.feeder.specs.declared.Out.{Out}
use Rattle.feeder.specs.declared.Mode.TheVariants.{Blank, Symbol as InSymbol}
use Rattle.feeder.specs.Machine.{turn, step, closing}
use Rattle.feeder.specs.Feeding.{Fed, live, closed, fresh_state, feed_from, feed_of, close_of, fed_of}
use Rattle.demands.specs.LentPromises.{FedIn, ClosedIn}
use Rattle.demands.proofs.Refuted.{Not}

abbrev out : Result Answer Refusal → ℕ → Out
out a n = record { answer = a; used = n }

-- feeder_lent::feed_in: the lent state stays as it was; `)` is kept back
feed_in_stays : Not (FedIn fresh_state (41 ∷ []) (out (Ok (answer.Token RParen 0)) 1) fresh_state)
unfolding feed_of feed_from step turn class_of
feed_in_stays e = let z : ◌≡◌ {A = ℕ} 0 1 = ap (λ (f : Fed). f.state.place) e in omega arith

feed_in_late : Not (FedIn fresh_state (41 ∷ []) (out (Ok answer.More) 1) (live Blank 1))
unfolding feed_of feed_from step turn class_of
feed_in_late e = let r = ap (λ (f : Fed). f.reply) e in let z : ◌≡◌ {A = ℕ} 0 1 = cc r in omega arith

-- feeder_lent::close_in: the held token is dropped; the lent state is not closed
close_in_drops : Not (ClosedIn (live (InSymbol 0) 1) (out (Ok answer.End) 0) (closed 1))
unfolding close_of closing
close_in_drops e = let r = ap (λ (f : Fed). f.reply) e in let z : ◌≡◌ {A = ℕ} 0 1 = cc r in omega arith

close_in_open : Not (ClosedIn fresh_state (out (Ok answer.End) 0) fresh_state)
unfolding close_of closing
close_in_open e = let h = ap (λ (f : Fed). f.state.phase) e in let z : ◌≡◌ {A = ℕ} 0 1 = cc h in omega arith

-- feeder_lent::feed_through: the state comes back as it was; a byte is reported that was not there
feed_through_stays : Not (fed_of (record { out = out (Ok (answer.Token RParen 0)) 1; state = fresh_state }) ≡ feed_of fresh_state (41 ∷ []))
unfolding feed_of feed_from step turn class_of
feed_through_stays e = let z : ◌≡◌ {A = ℕ} 0 1 = ap (λ (f : Fed). f.state.place) e in omega arith

feed_through_more : Not (fed_of (record { out = out (Ok answer.More) 1; state = fresh_state }) ≡ feed_of fresh_state [])
unfolding feed_of feed_from
feed_through_more e = let z : ◌≡◌ {A = ℕ} 1 0 = ap (λ (f : Fed). f.used) e in omega arith

-- feeder_lent::close_through: the held token is dropped; the state is not closed
close_through_drops : Not (fed_of (record { out = out (Ok answer.End) 0; state = closed 1 }) ≡ close_of (live (InSymbol 0) 1))
unfolding close_of closing
close_through_drops e = let r = ap (λ (f : Fed). f.reply) e in let z : ◌≡◌ {A = ℕ} 0 1 = cc r in omega arith

close_through_open : Not (fed_of (record { out = out (Ok answer.End) 0; state = fresh_state }) ≡ close_of fresh_state)
unfolding close_of closing
close_through_open e = let h = ap (λ (f : Fed). f.state.phase) e in let z : ◌≡◌ {A = ℕ} 0 1 = cc h in omega arith
