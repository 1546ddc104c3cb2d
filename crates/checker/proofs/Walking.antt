-- The walk over a derivation: one command, then the premises one after the other.
-- Assumes nothing.
use mathlib.Core.Path.{◌≡◌, refl, sym, ap, ◌∙◌, subst}
use mathlib.Core.Option.{Option, none, some}
use Rattle.std.specs.Prelude.{Result, Ok, Err}
use mathlib.Core.List.{List, [], ◌∷◌, ◌++◌, map}
use Prim.Native.Nat.{ℕ, zero, suc, ◌+◌, ◌-◌, ◌*◌, ◌≤◌, ◌<◌}
use native.Mathlib.Omega.{arith}
use native.Mathlib.Decide.{dec_lt}
use lib.ListN.{length, take, drop, get_or, get_elem?, length-drop, take-append-drop}
use lib.Seq.{drop-cons, drop-drop}
use Rattle.calculus.specs.Fold.{fold, SUM}
use Rattle.calculus.specs.Limits.{ROOM, CUT_SHORT}
use Rattle.calculus.specs.Syntax.{Sequent, size}
use Rattle.calculus.specs.Derivation.{Move as Said, fault, waiting, shut, obey, order, faulty, proceed, check}
use Rattle.calculus.proofs.Folds.{fold_append}
use Rattle.calculus.proofs.Derivations.{Obeyed, obeyed}
use Rattle.sequent.specs.Rule.{Placing}
use Rattle.sequent.specs.declared.Counted.{Counted}
use Rattle.sequent.specs.declared.Running.{Running}
use Rattle.sequent.specs.declared.Reduction.{Reduction}
use Rattle.sequent.specs.View.{sequent_of, Good}
use Rattle.sequent.specs.Compounds.{rule_for, premises_at, premise_by, Reducible}
use Rattle.sequent.proofs.Placings.{nowhere, next, next_ends, Summed, sum_starts, sum_goes, sum_ends}
use Rattle.calculus.specs.Reached.{Reachable}
use Rattle.sequent.proofs.Goods.{premises_made, few, makes_next, made_small}
use Rattle.checker.specs.declared.Fault.{Fault}
use Rattle.checker.specs.declared.Fault.TheVariants.{CutShort}
use Rattle.checker.specs.Answers.{fault_number, fault_place}
use Rattle.checker.specs.Walks.{Walks, Tallied}
use Rattle.checker.proofs.Commands.{past}

-- ---- one command

pub cut_short : (d : List ℕ) (at : ℕ) → length d - at < 2 → (S : Sequent) → Walks d (S ∷ []) at (Err (CutShort at))
cut_short d at h S Ps = go (drop at d) (omega (arith, length-drop at d))
  where
    go : (bs : List ℕ) → length bs < 2 → check bs (S ∷ Ps) at ≡ faulty CUT_SHORT at
    go [] l = refl
    go (b ∷ []) l = refl
    go (b ∷ x ∷ bs) l = absurd (omega arith)

head_drop : (k : ℕ) (d : List ℕ) → get_elem? (drop k d) 0 ≡ get_elem? d k
head_drop zero d = refl
head_drop (suc k) [] = refl
head_drop (suc k) (b ∷ bs) = head_drop k bs

-- the byte at a place, where there is one
pub byte_at : (d : List ℕ) (k : ℕ) → k < length d → get_elem? d k ≡ some (get_or d k 0)
byte_at d k h = sym (head_drop k d) ∙ ap (λ (l : List ℕ). get_elem? l 0) (drop-cons d k 0 h)

-- only a command of three bytes shuts
not_shut : {Q : Type 0} (b i : ℕ) (S : Sequent) → obey (order b) i none S ≡ shut → Q
not_shut b i S e = absurd (subst (Obeyed S b i none) e (obeyed b i none S))

-- a command at the sequent that waits, and what follows
command : (b i : ℕ) (bs : List ℕ) (S : Sequent) (Ps : List Sequent) (at : ℕ)
    → check (b ∷ i ∷ bs) (S ∷ Ps) at ≡ proceed (obey (order b) i (get_elem? bs 0) S) at (λ Qs. check bs (Qs ++ Ps) (at + 2)) (λ Qs. check (drop 1 bs) (Qs ++ Ps) (at + 3))
command b i [] S Ps at = go (obey (order b) i none S) (not_shut b i S)
  where
    go : (m : Said) → (m ≡ shut → ⊥)
        → proceed m at (λ Qs. check [] (Qs ++ Ps) (at + 2)) (λ Qs. faulty CUT_SHORT at) ≡ proceed m at (λ Qs. check [] (Qs ++ Ps) (at + 2)) (λ Qs. check [] (Qs ++ Ps) (at + 3))
    go (fault n) z = refl
    go (waiting Qs) z = refl
    go shut z = absurd (z refl)
command b i (j ∷ bs) S Ps at = refl

-- what the command at a place says
abbrev pub said : List ℕ → ℕ → Sequent → Said
said d at S = obey (order (get_or d at 0)) (get_or d (at + 1) 0) (get_elem? d (at + 2)) S

module _ (d : List ℕ) (at : ℕ) (more : at + 2 ≤ length d) (S : Sequent) where
  module _ (m : Said) (e : said d at S ≡ m) where
    by_result : (Ps : List Sequent) → check (drop at d) (S ∷ Ps) at ≡ proceed m at (λ Qs. check (drop (at + 2) d) (Qs ++ Ps) (at + 2)) (λ Qs. check (drop (at + 3) d) (Qs ++ Ps) (at + 3))
    by_result Ps =
        let n : at + 1 ≡ suc at = omega arith in
        let k : at + 2 ≡ suc (suc at) = omega arith in
        let f : drop at d ≡ get_or d at 0 ∷ get_or d (at + 1) 0 ∷ drop (at + 2) d
        = rw (n, k) (drop-cons d at 0 (omega arith) ∙ ap (λ (l : List ℕ). get_or d at 0 ∷ l) (drop-cons d (suc at) 0 (omega arith))) in
        let j : at + 2 + 1 ≡ at + 3 = omega arith in
        let g : drop 1 (drop (at + 2) d) ≡ drop (at + 3) d = drop-drop 1 (at + 2) d ∙ ap (λ (n : ℕ). drop n d) j in
        let h : obey (order (get_or d at 0)) (get_or d (at + 1) 0) (get_elem? (drop (at + 2) d) 0) S ≡ m
        = ap (λ (o : Option ℕ). obey (order (get_or d at 0)) (get_or d (at + 1) 0) o S) (head_drop (at + 2) d) ∙ e in
        ap (λ (l : List ℕ). check l (S ∷ Ps) at) f ∙ command (get_or d at 0) (get_or d (at + 1) 0) (drop (at + 2) d) S Ps at
        ∙ ap (λ (r : Said). proceed r at (λ Qs. check (drop (at + 2) d) (Qs ++ Ps) (at + 2)) (λ Qs. check (drop 1 (drop (at + 2) d)) (Qs ++ Ps) (at + 3))) h
        ∙ ap (λ (l : List ℕ). proceed m at (λ Qs. check (drop (at + 2) d) (Qs ++ Ps) (at + 2)) (λ Qs. check l (Qs ++ Ps) (at + 3))) g

  pub walk_stopped : (f : Fault) → said d at S ≡ fault (fault_number f) → fault_place f ≡ at → Walks d (S ∷ []) at (Err f)
  walk_stopped f e p Ps = by_result (fault (fault_number f)) e Ps ∙ ap (faulty (fault_number f)) (sym p)

  pub walk_closed : said d at S ≡ waiting [] → Walks d (S ∷ []) at (Ok (at + 2))
  walk_closed e = (more, by_result (waiting []) e)

  pub three_bytes : said d at S ≡ shut → at + 3 ≤ length d
  three_bytes e = go (dec_lt (at + 2) (length d))
    where
      go : Dec (at + 2 < length d) → at + 3 ≤ length d
      go (yes h) = omega arith
      go (no h) = not_shut (get_or d at 0) (get_or d (at + 1) 0) S (rw (past d (at + 2) (omega arith)) at e)

  pub walk_paired : said d at S ≡ shut → Walks d (S ∷ []) at (Ok (at + 3))
  walk_paired e = (three_bytes e, by_result shut e)

  pub walk_reduced : (Qs : List Sequent) → said d at S ≡ waiting Qs → (w : Result ℕ Fault) → Walks d Qs (at + 2) w → Walks d (S ∷ []) at w
  walk_reduced Qs e (Ok n) h = (h.0, λ Ps. by_result (waiting Qs) e Ps ∙ h.1 Ps)
  walk_reduced Qs e (Err f) h = λ Ps. by_result (waiting Qs) e Ps ∙ h Ps

-- ---- premises ahead

drop_map : {X Y : Type 0} (f : X → Y) (j : ℕ) (xs : List X) → drop j (map f xs) ≡ map f (drop j xs)
drop_map f zero xs = refl
drop_map f (suc j) [] = refl
drop_map f (suc j) (x ∷ xs) = drop_map f j xs

-- the stores of the first j premises and of the others
stores_split : (j : ℕ) (Ps : List Sequent) → fold SUM size (take j Ps) + fold SUM size (drop j Ps) ≡ fold SUM size Ps
stores_split j Ps = sym (fold_append SUM size (take j Ps) (drop j Ps)) ∙ ap (fold SUM size) (take-append-drop j Ps)

-- j premises are walked from byte o to byte e, and n places were stored for them
pub record Ahead (d : List ℕ) (F : Placing → Sequent) (r : List Placing) (o j e n : ℕ) : Type 0 where
  pub sum : Summed F r j n
  pub inside : e ≤ length d
  pub walks : (Rs : List Sequent) → check (drop o d) (map F r ++ Rs) o ≡ check (drop e d) (map F (drop j r) ++ Rs) e

pub ahead_starts : (d : List ℕ) (F : Placing → Sequent) (r : List Placing) (o : ℕ) → o ≤ length d → Ahead d F r o 0 o 0
ahead_starts d F r o h = record { sum = sum_starts F r; inside = h; walks = λ Rs. refl }

-- the premises of a reduction
module _ {T items : List ℕ} {s : Running} (good : Good T items s) {r : Reduction} (can : Reducible T items s r) {rule : List Placing} (by : rule ≡ rule_for r) where
  module _ {d : List ℕ} {o j e n : ℕ} (a : Ahead d (premise_by T items s r) rule o j e n) where
    abbrev F : Placing → Sequent
    F = premise_by T items s r

    all_made : {t : Counted (Result ℕ Fault)} → Tallied d (map F rule) o t → Tallied d (premises_at T items s r) o t
    all_made {t} = subst (λ (Ps : List Sequent). Tallied d Ps o t) (premises_made T items s good r can rule by)

    pub ahead_ends : length rule ≤ j → Tallied d (premises_at T items s r) o (record { value = Ok e; stores = n })
    ahead_ends h =
        all_made (record {
          walks = (a.inside, λ Rs. a.walks Rs ∙ ap (λ (ps : List Placing). check (drop e d) (map F ps ++ Rs) e) (next_ends rule j h));
          stores = sum_ends F rule j n a.sum h;
        })

    module _ (reached : Reachable (sequent_of T items s)) (h : j < length rule) where
      abbrev P : Sequent
      P = F (get_or rule j nowhere)

      small : size P ≤ ROOM
      small = made_small T items s r (get_or rule j nowhere) (makes_next T items s good r can rule by reached j h)

      module _ (w : Counted (Result ℕ Fault)) (walked : Walks d (P ∷ []) e w.value × (w.stores ≡ size P)) where
        pub stores_fit : n + w.stores ≤ 2 * ROOM
        stores_fit = omega (arith, walked.1, small, a.sum.small, few T items s good r can rule by)

        sum_next : Summed F rule (j + 1) (n + w.stores)
        sum_next = sum_goes F rule j n a.sum h w.stores walked.1 small

        walks_next : (Rs : List Sequent) → check (drop o d) (map F rule ++ Rs) o ≡ check (drop e d) (P ∷ map F (drop (j + 1) rule) ++ Rs) e
        walks_next Rs = a.walks Rs ∙ ap (λ (ps : List Placing). check (drop e d) (map F ps ++ Rs) e) (next rule j h)

        pub ahead_goes : (e' : ℕ) → w.value ≡ Ok e' → Ahead d F rule o (j + 1) e' (n + w.stores)
        ahead_goes e' is =
            let k = rw is at walked.0 in
            record {
              sum = sum_next;
              inside = k.0;
              walks = λ Rs. walks_next Rs ∙ k.1 (map F (drop (j + 1) rule) ++ Rs);
            }

        pub ahead_stops : (f : Fault) → w.value ≡ Err f → Tallied d (premises_at T items s r) o (record { value = Err f; stores = n + w.stores })
        ahead_stops f is =
            let k = rw is at walked.0 in
            all_made (record {
              walks = λ Rs. walks_next Rs ∙ k (map F (drop (j + 1) rule) ++ Rs);
              stores = (
                j + 1,
                omega arith,
                omega (arith, sum_next.stores, stores_split (j + 1) (map F rule), ap (fold SUM size) (drop_map F (j + 1) rule)),
              );
            })
