-- Lists of clauses: a clause taken from behind, and the loops over them.
-- Assumes nothing.
use mathlib.Core.Path.{◌≡◌, refl, sym, ap, ap₂, ◌∙◌}
use mathlib.Core.Bool.{Bool, true, false, ◌||◌}
use mathlib.Core.List.{List, [], ◌∷◌, ◌++◌, map, append_assoc}
use Prim.Native.Nat.{ℕ, zero, suc, ◌+◌, ◌-◌, ◌≤◌, ◌<◌}
use native.Mathlib.Nat.{add-zero, zero-add}
use native.Mathlib.Omega.{arith}
use borrow.Author.Tests.{eq-eqb, ne_eqb}
use lib.Bits.{bit_or}
use lib.Dec.{eqb}
use lib.ListN.{length}
use Rattle.std.proofs.lemmas.List.{length-map}
use Rattle.std.specs.List.{HoldsAt, AllWithin}
use Rattle.std.specs.Prelude.{MatchBool}
use Rattle.calculus.specs.declared.Settled.{Settled}
use Rattle.calculus.specs.Fold.{fold, ANY, choose}
use Rattle.calculus.specs.Tree.{state}
use Rattle.calculus.specs.Clauses.{Clause, met, fired, light_all, round, until, rounds_by, settled}
use Rattle.calculus.proofs.Rounds.{light_all_append}
use Rattle.clauses.specs.declared.Masks.{Masks}
use Rattle.clauses.specs.Masks.{masks_of}
use Rattle.clauses.proofs.MaskTests.{light_mask}

-- ---- the last clause of a list

pub record Last (ms : List Masks) (m : Masks) (cs : List Clause) : Type 0 where
  pub before : List Clause
  pub last : Clause
  pub are : cs ≡ before ++ last ∷ []
  pub those : ms ≡ map masks_of before
  pub that : m ≡ masks_of last

pub last_of : (ms : List Masks) (m : Masks) (cs : List Clause) → ms ++ m ∷ [] ≡ map masks_of cs → Last ms m cs
last_of [] m [] e = absurd (cc)
last_of [] m (c ∷ []) e = record { before = []; last = c; are = refl; those = refl; that = cc }
last_of [] m (c ∷ d ∷ cs) e = absurd (cc)
last_of (k ∷ ms) m [] e = absurd (cc)
last_of (k ∷ ms) m (c ∷ cs) e =
    let r : Last ms m cs = last_of ms m cs (cc) in
    let h : k ≡ masks_of c = cc in
    record { before = c ∷ r.before; last = r.last; are = ap (λ (l : List Clause). c ∷ l) r.are; those = ap₂ (λ (n : Masks) (l : List Masks). n ∷ l) h r.those; that = r.that }

-- ---- a round, clause by clause

fired_snoc : (σ : ℕ) (cs : List Clause) (c : Clause) → fired σ (cs ++ c ∷ []) ≡ fired σ cs ++ fired σ (c ∷ [])
fired_snoc σ [] c = refl
fired_snoc σ (d ∷ cs) c = go (met σ d) (fired σ (cs ++ c ∷ [])) (fired_snoc σ cs c)
  where
    go : (b : Bool) (l : List ℕ) → l ≡ fired σ cs ++ fired σ (c ∷ []) → choose b (d.positive ++ l) l ≡ choose b (d.positive ++ fired σ cs) (fired σ cs) ++ fired σ (c ∷ [])
    go true l e = ap (λ (k : List ℕ). d.positive ++ k) e ∙ sym (append_assoc d.positive (fired σ cs) (fired σ (c ∷ [])))
    go false l e = e

-- what is lit ahead the clauses of a list
abbrev pub InRound : ℕ → List Masks → ℕ → Type 0
InRound σ ms lit = (cs : List Clause) → ms ≡ map masks_of cs → lit ≡ round cs σ

pub round_first : (σ : ℕ) → InRound σ [] σ
round_first σ [] e = refl
round_first σ (c ∷ cs) e = absurd (cc)

pub round_next : (σ : ℕ) (ms : List Masks) (lit : ℕ) (m : Masks) (r : ℕ) → InRound σ ms lit → ((c : Clause) → m ≡ masks_of c → r ≡ state (fired σ (c ∷ [])))
    → InRound σ (ms ++ m ∷ []) (bit_or lit r)
round_next σ ms lit m r v f cs e =
    let l : Last ms m cs = last_of ms m cs e in
    ap₂ bit_or (v l.before l.those) (f l.last l.that) ∙ light_mask (fired σ (l.last ∷ [])) (round l.before σ)
    ∙ sym (light_all_append (fired σ l.before) (fired σ (l.last ∷ [])) σ) ∙ ap (λ (k : List ℕ). light_all k σ) (sym (fired_snoc σ l.before l.last))
    ∙ ap (λ (k : List Clause). round k σ) (sym l.are)

-- ---- the rounds

-- with m rounds made already
abbrev pub ahead : ℕ → Settled → Settled
ahead m s = record { state = s.state; rounds = m + s.rounds }

-- the rounds so far and those ahead are all
abbrev pub InRounds : List Masks → ℕ → ℕ → Type 0
InRounds ms σ m = (cs : List Clause) → ms ≡ map masks_of cs → ahead m (rounds_by (length ms - m) cs σ) ≡ settled cs

pub rounds_first : (ms : List Masks) → InRounds ms 0 0
rounds_first ms cs s =
    let e : length ms - 0 ≡ length cs = omega (arith, ap length s, length-map cs masks_of) in
    ap (λ (n : ℕ). ahead 0 (rounds_by n cs 0)) e ∙ (λ j. record { state = (settled cs).state; rounds = zero-add (settled cs).rounds j })

module _ (ms : List Masks) (σ m next : ℕ) (v : InRounds ms σ m) (h : m < length ms) (f : (cs : List Clause) → ms ≡ map masks_of cs → next ≡ round cs σ) where
  unrolled : (cs : List Clause) → ms ≡ map masks_of cs → ahead m (until (eqb next σ) σ next (λ τ. rounds_by (length ms - (m + 1)) cs τ)) ≡ settled cs
  unrolled cs s =
      let e : suc (length ms - (m + 1)) ≡ length ms - m = omega arith in
      ap (λ (τ : ℕ). ahead m (until (eqb τ σ) σ τ (λ ρ. rounds_by (length ms - (m + 1)) cs ρ))) (f cs s)
      ∙ ap (λ (n : ℕ). ahead m (rounds_by n cs σ)) e ∙ v cs s

  pub rounds_stop : next ≡ σ → (cs : List Clause) → ms ≡ map masks_of cs → record { state = σ; rounds = m } ≡ settled cs
  rounds_stop e cs s = (λ j. record { state = σ; rounds = sym (add-zero m) j }) ∙ rw (eq-eqb next σ e) at (unrolled cs s)

  pub rounds_next : (next ≡ σ → ⊥) → InRounds ms next (m + 1)
  rounds_next e cs s =
      let r = rounds_by (length ms - (m + 1)) cs next in
      let i : m + 1 + r.rounds ≡ m + suc r.rounds = omega arith in
      (λ j. record { state = r.state; rounds = i j }) ∙ rw (ne_eqb next σ e) at (unrolled cs s)

pub rounds_last : (ms : List Masks) (σ m : ℕ) → InRounds ms σ m → length ms ≤ m → (cs : List Clause) → ms ≡ map masks_of cs → record { state = σ; rounds = m } ≡ settled cs
rounds_last ms σ m v h cs s =
    let e : length ms - m ≡ 0 = omega arith in
    (λ j. record { state = σ; rounds = sym (add-zero m) j }) ∙ rw e at (v cs s)

-- ---- a false clause

module _ (p : Clause → Bool) where
  -- the tests of a clause with these letters come to b
  abbrev pub Tests : Bool → Masks → Type 0
  Tests b m = (c : Clause) → m ≡ masks_of c → p c ≡ b

  some_true : (cs : List Clause) (k : ℕ) → k < length cs → HoldsAt (Tests true) (map masks_of cs) k → true ≡ fold ANY p cs
  some_true [] k h f = absurd (omega arith)
  some_true (c ∷ cs) zero h f = rw (f (masks_of c) c refl)
  some_true (c ∷ cs) (suc k) h f = or_so (p c) (fold ANY p cs) (some_true cs k (omega arith) f)
    where
      or_so : (a b : Bool) → true ≡ b → true ≡ (a || b)
      or_so true b e = refl
      or_so false b e = e

  none_true : (cs : List Clause) → AllWithin (Tests false) (map masks_of cs) 0 (length cs) → false ≡ fold ANY p cs
  none_true [] f = refl
  none_true (c ∷ cs) f = rw (f 0 (masks_of c) (omega arith) (omega arith) c refl) (none_true cs (λ k d l h. f (suc k) d (omega arith) (omega arith)))

  pub any_test : (ms : List Masks) (r : Bool) → MatchBool r ((k : ℕ) × (k < length ms) × HoldsAt (Tests true) ms k) (AllWithin (Tests false) ms 0 (length ms))
      → (cs : List Clause) → ms ≡ map masks_of cs → r ≡ fold ANY p cs
  any_test ms r h cs e = go r (rw e at h)
    where
      go : (r : Bool) → MatchBool r ((k : ℕ) × (k < length (map masks_of cs)) × HoldsAt (Tests true) (map masks_of cs) k) (AllWithin (Tests false) (map masks_of cs) 0 (length (map masks_of cs))) → r ≡ fold ANY p cs
      go true h = some_true cs h.0 (omega (arith, h.1, length-map cs masks_of)) h.2
      go false h = none_true cs (λ k d l m. h k d l (omega (arith, length-map cs masks_of)))
