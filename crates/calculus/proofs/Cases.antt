-- The starred questions are answered as document 01 has them, their refuting states listed, questions spelled, questions of the clause
-- profile decided by rounds, and the numbers returned as its table has them: a claim each, which antt computes.
-- Assumes nothing.
use mathlib.Core.Path.{◌≡◌, refl}
use mathlib.Core.Option.{Option, none, some}
use mathlib.Core.List.{List, map}
use Prim.Native.Nat.{ℕ}
use Rattle.calculus.specs.Limits.{VARIED}
use Rattle.calculus.specs.Syntax.{c}
use Rattle.calculus.specs.Bytes.{question}
use Rattle.calculus.specs.Derivation.{derivation}
use Rattle.calculus.specs.Reading.{accepted, reading}
use Rattle.calculus.specs.Tree.{verdict}
use Rattle.calculus.specs.States.{letters_under, refuting}
use Rattle.calculus.specs.Width.{W}
use Rattle.calculus.specs.Standard.{spelling}
use Rattle.calculus.specs.Starred.{Case, starred, refutations, large, repeated, spellings, rulings}
use Rattle.calculus.specs.Reply.{decision_reply, clauses_reply}
use Rattle.calculus.specs.Numbers.{numbers}

-- where the table prints a derivation
abbrev if_printed : Option (List ℕ) → List ℕ → Option (List ℕ)
if_printed none d = none
if_printed (some p) d = some d

-- the case with the answers that the definitions give
abbrev answered : Case → Case
answered q =
    let S = question q.bytes in
    let v = verdict q.budget S in
    record {
      bytes = q.bytes;
      budget = q.budget;
      kind = v.kind;
      reductions = v.reductions;
      closings = v.closings;
      wide = W S;
      printed = if_printed q.printed (derivation S);
    }

pub starred_right : (map (λ q. reading q.bytes) starred ≡ map (λ q. accepted) starred) × (map answered starred ≡ starred)
starred_right = (refl, refl)

pub refutations_right : map (λ q. refuting (question q.bytes)) starred ≡ refutations
unfolding letters_under
refutations_right = refl

-- "12 MANY LAMPS, more than 16 different lamps occur"
pub most_vary : VARIED ≡ 16
most_vary = refl

pub numbers_right : map (λ r. r.replied) numbers ≡ map (λ r. r.printed) numbers
unfolding letters_under
numbers_right = refl

pub spellings_right : map (λ e. spelling (question e.asked)) spellings ≡ map (λ e. e.spelt) spellings
spellings_right = refl

-- what a spelling need not keep: the width, the connectives and the tree's counts
abbrev measured : List ℕ → ℕ × ℕ × ℕ
measured q = let S = question q in (W S, c S, (verdict large S).reductions)

pub not_kept : (measured repeated ≡ (4, 2, 2)) × (measured (spelling (question repeated)) ≡ (2, 1, 1))
not_kept = (refl, refl)

pub rulings_right : map (λ e. clauses_reply e.asked) rulings ≡ map (λ e. decision_reply e.decision) rulings
rulings_right = refl
