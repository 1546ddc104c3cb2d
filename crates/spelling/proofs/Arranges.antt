-- A side's formulas entered one by one.
-- Assumes nothing.
use mathlib.Core.Path.{◌≡◌, sym, ap, ◌∙◌}
use mathlib.Core.List.{List, [], ◌∷◌, ◌++◌, map, append_assoc, append-nil}
use Prim.Native.Nat.{ℕ, ◌+◌, ◌-◌, ◌≤◌, ◌<◌}
use native.Mathlib.Nat.{add-zero}
use native.Mathlib.Omega.{arith}
use lib.ListN.{length, take, drop, length-append}
use Rattle.calculus.specs.declared.Side.{Side}
use Rattle.calculus.specs.declared.Side.TheVariants.{Left, Right}
use Rattle.calculus.specs.Limits.{FORMULAS}
use Rattle.calculus.specs.Syntax.{Formula, on_side}
use Rattle.calculus.specs.Bytes.{encode, encode_all, formulas, bytes, bytes_all, question}
use Rattle.calculus.specs.Reading.{accepted, reading}
use Rattle.calculus.specs.Standard.{insert, arranged}
use Rattle.calculus.proofs.Readings.{accepted_question}
use Rattle.calculus.proofs.Standard.{map_insert, arranged_more}
use Rattle.question.specs.Positions.{Well, formula_at, end_of}
use Rattle.question.proofs.Walks.{end_inside}
use Rattle.question.proofs.Parts.{NextDue, next_due, end_onward}
use Rattle.question.proofs.Questions.{own_bytes_lem}
use Rattle.spelling.proofs.Order.{length_insert}

pub side_few : (q : List ℕ) → reading q ≡ accepted → (s : Side) → length (on_side s (question q)) ≤ FORMULAS
side_few q a Left = (accepted_question q a).0.lefts
side_few q a Right = (accepted_question q a).0.rights

-- `done` are entered, and due more of a side's formulas xs stand from position i on
pub record Arranging (q : List ℕ) (xs : List Formula) (behind : ℕ) (entered : List (List ℕ)) (i due : ℕ) : Type 0 where
  pub done : List Formula
  pub all : done ++ take due (formulas (drop i q)) ≡ xs
  pub enough : due ≤ length (formulas (drop i q))
  pub few : length entered + due ≤ FORMULAS
  pub reached : i + bytes_all (take due (formulas (drop i q))) ≡ behind
  pub are : entered ≡ map encode (arranged done)

pub arranging_first : (q : List ℕ) (xs : List Formula) (at n : ℕ) → n ≤ FORMULAS → n ≤ length (formulas (drop at q)) → take n (formulas (drop at q)) ≡ xs
    → (entered : List (List ℕ)) → entered ≡ []
    → Arranging q xs (at + bytes_all xs) entered at n
arranging_first q xs at n f e all entered z =
    let few : length entered + n ≤ FORMULAS = omega (arith, ap length z) in
    record { done = []; all = all; enough = e; few = few; reached = ap (λ (ys : List Formula). at + bytes_all ys) all; are = z }

module _ (q : List ℕ) (xs : List Formula) (behind : ℕ) (entered : List (List ℕ)) (i due : ℕ) (a : Arranging q xs behind entered i due) where
  -- the formula at hand
  module _ (h : 0 < due) where
    next : NextDue q i due
    next = next_due q i due h a.enough

    pub here : Well q i
    here = next.well

    pub ends : (end_of q i ≤ length q) × (i ≤ end_of q i)
    ends = (end_inside q i here, omega (arith, end_onward q i))

    pub own : take (end_of q i - i) (drop i q) ≡ encode (formula_at q i)
    own = let e : end_of q i - i ≡ bytes (formula_at q i) = omega arith in rw e (own_bytes_lem q i here)

    pub arranging_next : Arranging q xs behind (insert (λ l. l) (take (end_of q i - i) (drop i q)) entered) (end_of q i) (due - 1)
    arranging_next =
        let x = formula_at q i in
        let rest = take (due - 1) (formulas (drop (end_of q i) q)) in
        let bs = take (end_of q i - i) (drop i q) in
        record {
          done = a.done ++ (x ∷ []);
          all = append_assoc a.done (x ∷ []) rest ∙ (ap (λ (l : List Formula). a.done ++ l) (sym next.split) ∙ a.all);
          enough = next.due;
          few = omega (arith, a.few, length_insert (λ l. l) bs entered);
          reached = omega (arith, a.reached, ap bytes_all next.split, length-append (encode x) (encode_all rest));
          are = ap (λ (l : List ℕ). insert (λ m. m) l entered) own
              ∙ (ap (insert (λ m. m) (encode x)) a.are ∙ (sym (map_insert encode (λ l. l) x (arranged a.done)) ∙ ap (map encode) (sym (arranged_more a.done x))));
        }

  pub arranging_last : due ≤ 0 → (entered ≡ map encode (arranged xs)) × (i ≡ behind)
  arranging_last h =
      let z : due ≡ 0 = omega arith in
      let d : a.done ≡ xs = sym (append-nil a.done) ∙ (rw z at a.all) in
      (rw d at a.are, sym (add-zero i) ∙ rw z at a.reached)
