-- The rounds of clauses: they end where one more lights none, after at most as many as there are letters; that state is below each in
-- which no clause is false; and a clause that is false there is false in every state above.
-- Assumes nothing.
use mathlib.Core.Path.{◌≡◌, refl, sym, ap, ap₂, ◌∙◌}
use mathlib.Core.Logic.{◌≢◌}
use mathlib.Core.Bool.{Bool, true, false, not, ◌&&◌, ◌||◌, or_assoc, or_comm, or-false, true≢false, false≢true}
use mathlib.Core.List.{List, [], ◌∷◌, ◌++◌}
use Prim.Native.Nat.{ℕ, zero, suc, ◌+◌, ◌≤◌, ◌<◌}
use native.Mathlib.Omega.{arith}
use borrow.Author.Tests.{eqb-true, eqb-false, eq-eqb, not-true, not-false}
use lib.Dec.{eqb}
use lib.ListN.{length, length-append}
use Rattle.calculus.specs.declared.Settled.{Settled}
use Rattle.calculus.specs.Fold.{fold, ANY, ALL, SUM, Each, choose}
use Rattle.calculus.specs.Truth.{bit}
use Rattle.calculus.specs.Tree.{among, light, state}
use Rattle.calculus.specs.Clauses.{Clause, several, Single, met, fired, light_all, round, until, rounds_by, settled, fails, Below, after, Ends}
use Rattle.calculus.proofs.Folds.{fold_append, or_elim, or_left, or_right, or_false_both, and_both}
use Rattle.calculus.proofs.Trees.{bit_light, bit_zero, bit_state}
use Rattle.calculus.proofs.States.{bit_ext}

-- ---- letters lit

pub bit_light_all : (k : ℕ) (ks : List ℕ) (σ : ℕ) → bit k (light_all ks σ) ≡ (among k ks || bit k σ)
bit_light_all k [] σ = refl
bit_light_all k (j ∷ ks) σ = bit_light_all k ks (light j σ) ∙ ap (λ (u : Bool). among k ks || u) (bit_light k j σ) ∙ swap (among k ks) (eqb k j) (bit k σ)
  where
    swap : (a b d : Bool) → (a || (b || d)) ≡ ((b || a) || d)
    swap a b d = sym (or_assoc a b d) ∙ ap (λ (u : Bool). u || d) (or_comm a b)

pub light_all_append : (us vs : List ℕ) (σ : ℕ) → light_all (us ++ vs) σ ≡ light_all vs (light_all us σ)
light_all_append [] vs σ = refl
light_all_append (u ∷ us) vs σ = light_all_append us vs (light u σ)

-- from the state in which all are dark
pub light_all_state : (ks : List ℕ) → light_all ks 0 ≡ state ks
light_all_state ks =
    bit_ext (light_all ks 0) (state ks) (λ k. bit_light_all k ks 0 ∙ ap (λ (b : Bool). among k ks || b) (bit_zero k) ∙ or-false (among k ks) ∙ sym (bit_state k ks))

below_light_all : (ks : List ℕ) (σ : ℕ) → Below σ (light_all ks σ)
below_light_all ks σ k e = bit_light_all k ks σ ∙ or_right (among k ks) (bit k σ) e

-- to light lit letters changes nothing
light_lit : (k σ : ℕ) → bit k σ ≡ true → light k σ ≡ σ
light_lit k σ e = bit_ext (light k σ) σ (λ j. bit_light j k σ ∙ go j (eqb j k) refl)
  where
    go : (j : ℕ) (b : Bool) → eqb j k ≡ b → (b || bit j σ) ≡ bit j σ
    go j true h = sym (ap (λ (i : ℕ). bit i σ) (eqb-true j k h) ∙ e)
    go j false h = refl

lit_already : (ks : List ℕ) (σ : ℕ) → fold ANY (λ k. not (bit k σ)) ks ≡ false → light_all ks σ ≡ σ
lit_already [] σ e = refl
lit_already (k ∷ ks) σ e =
    let h = or_false_both (not (bit k σ)) (fold ANY (λ j. not (bit j σ)) ks) e in
    ap (light_all ks) (light_lit k σ (not-false (bit k σ) h.0)) ∙ lit_already ks σ h.1

-- one that passes a test, where some do
pub record One (t : ℕ → Bool) (ks : List ℕ) : Type 0 where
  pub which : ℕ
  pub stands : among which ks ≡ true
  pub passes : t which ≡ true

pub one_of : (t : ℕ → Bool) (ks : List ℕ) → fold ANY t ks ≡ true → One t ks
one_of t [] e = absurd (false≢true e)
one_of t (k ∷ ks) e =
    or_elim (t k) (fold ANY t ks) e
    (λ h. record { which = k; stands = or_left (eqb k k) (among k ks) (eq-eqb k k refl); passes = h })
    (λ h. let o = one_of t ks h in record { which = o.which; stands = or_right (eqb o.which k) (among o.which ks) o.stands; passes = o.passes })

-- ---- the letters that a round lights

pub among_append : (k : ℕ) (xs ys : List ℕ) → among k (xs ++ ys) ≡ (among k xs || among k ys)
among_append k xs ys = fold_append ANY (eqb k) xs ys

-- each is the letter without NOT of a clause that is met
module _ (σ : ℕ) (P : Clause → Type 0) (Q : ℕ → Type 0) (f : (c : Clause) → P c → met σ c ≡ true → (k : ℕ) → among k c.positive ≡ true → Q k) where
  fired_each : (cs : List Clause) → Each P cs → (k : ℕ) → among k (fired σ cs) ≡ true → Q k
  fired_each [] h k e = absurd (false≢true e)
  fired_each (c ∷ cs) h k e = go (met σ c) refl (λ d. fired_each cs h.1 k d) e
    where
      go : (b : Bool) → met σ c ≡ b → (among k (fired σ cs) ≡ true → Q k) → among k (choose b (c.positive ++ fired σ cs) (fired σ cs)) ≡ true → Q k
      go true m ih e = or_elim (among k c.positive) (among k (fired σ cs)) (sym (among_append k c.positive (fired σ cs)) ∙ e) (λ d. f c h.0 m k d) ih
      go false m ih e = ih e

-- a list has the letters without NOT of a clause
abbrev pub Has : List ℕ → Clause → Type 0
Has ks c = (k : ℕ) → among k c.positive ≡ true → among k ks ≡ true

abbrev positives : List Clause → List ℕ
positives [] = []
positives (c ∷ cs) = c.positive ++ positives cs

has_positives : (cs : List Clause) (ks : List ℕ) → ((k : ℕ) → among k (positives cs) ≡ true → among k ks ≡ true) → Each (Has ks) cs
has_positives [] ks h = tt
has_positives (c ∷ cs) ks h = (
  λ k e. h k (among_append k c.positive (positives cs) ∙ or_left (among k c.positive) (among k (positives cs)) e),
  has_positives cs ks (λ k e. h k (among_append k c.positive (positives cs) ∙ or_right (among k c.positive) (among k (positives cs)) e)),
)

single_short : (ks : List ℕ) → several ks ≡ false → length ks ≤ 1
single_short [] e = omega arith
single_short (k ∷ []) e = omega arith
single_short (k ∷ m ∷ ks) e = absurd (true≢false e)

positives_short : (cs : List Clause) → Each Single cs → length (positives cs) ≤ length cs
positives_short [] h = omega arith
positives_short (c ∷ cs) h = omega (arith, length-append c.positive (positives cs), single_short c.positive h.0, positives_short cs h.1)

-- ---- each round that changes the state lights a letter that was dark

abbrev dark : ℕ → ℕ → ℕ
dark σ k = choose (bit k σ) 0 1

abbrev darks : ℕ → List ℕ → ℕ
darks σ = fold SUM (dark σ)

darks_all : (σ : ℕ) (ks : List ℕ) → darks σ ks ≤ length ks
darks_all σ [] = omega arith
darks_all σ (k ∷ ks) = go (bit k σ) (darks_all σ ks)
  where
    go : (b : Bool) → darks σ ks ≤ length ks → choose b 0 1 + darks σ ks ≤ suc (length ks)
    go true h = omega arith
    go false h = omega arith

dark_le : (σ τ k : ℕ) → Below σ τ → dark τ k ≤ dark σ k
dark_le σ τ k h = go (bit k σ) (bit k τ) (h k)
  where
    go : (a b : Bool) → (a ≡ true → b ≡ true) → choose b 0 1 ≤ choose a 0 1
    go true true l = omega arith
    go true false l = absurd (false≢true (l refl))
    go false true l = omega arith
    go false false l = omega arith

darks_le : (σ τ : ℕ) (ks : List ℕ) → Below σ τ → darks τ ks ≤ darks σ ks
darks_le σ τ [] h = omega arith
darks_le σ τ (k ∷ ks) h = omega (arith, dark_le σ τ k h, darks_le σ τ ks h)

darks_lt : (σ τ : ℕ) (ks : List ℕ) (k : ℕ) → Below σ τ → among k ks ≡ true → bit k σ ≡ false → bit k τ ≡ true → darks τ ks < darks σ ks
darks_lt σ τ [] k h m a b = absurd (false≢true m)
darks_lt σ τ (j ∷ ks) k h m a b =
    or_elim (eqb k j) (among k ks) m
    (λ e. let i : k ≡ j = eqb-true k j e in
    let x : dark σ j ≡ 1 = rw (← i, a) in
    let y : dark τ j ≡ 0 = rw (← i, b) in
    omega (arith, x, y, darks_le σ τ ks h))
    (λ e. omega (arith, dark_le σ τ j h, darks_lt σ τ ks k h e a b))

-- by the outcome of the test whether a round lights none
by_round : (Q : Settled → Type 0) (n : ℕ) (cs : List Clause) (σ : ℕ)
    → (round cs σ ≡ σ → Q (record { state = σ; rounds = 0 }))
    → (round cs σ ≢ σ → Q (record { state = (rounds_by n cs (round cs σ)).state; rounds = suc (rounds_by n cs (round cs σ)).rounds }))
    → Q (rounds_by (suc n) cs σ)
by_round Q n cs σ f g = go (eqb (round cs σ) σ) refl
  where
    go : (b : Bool) → eqb (round cs σ) σ ≡ b → Q (until b σ (round cs σ) (λ τ. rounds_by n cs τ))
    go true e = f (eqb-true (round cs σ) σ e)
    go false e = g (eqb-false (round cs σ) σ e)

module _ (cs : List Clause) (ks : List ℕ) (has : Each (Has ks) cs) where
  round_lights : (σ : ℕ) → round cs σ ≢ σ → darks (round cs σ) ks < darks σ ks
  round_lights σ n = go (fold ANY (λ k. not (bit k σ)) (fired σ cs)) refl
    where
      go : (b : Bool) → fold ANY (λ k. not (bit k σ)) (fired σ cs) ≡ b → darks (round cs σ) ks < darks σ ks
      go false h = absurd (n (lit_already (fired σ cs) σ h))
      go true h =
          let o = one_of (λ k. not (bit k σ)) (fired σ cs) h in
          let k = o.which in
          darks_lt σ (round cs σ) ks k (below_light_all (fired σ cs) σ) (fired_each σ (Has ks) (λ j. among j ks ≡ true) (λ c p m j d. p j d) cs has k o.stands) (not-true (bit k σ) o.passes)
          (bit_light_all k (fired σ cs) σ ∙ or_left (among k (fired σ cs)) (bit k σ) o.stands)

  rounds_dark : (n σ : ℕ) → (rounds_by n cs σ).rounds ≤ darks σ ks
  rounds_dark zero σ = omega arith
  rounds_dark (suc n) σ =
      by_round (λ r. r.rounds ≤ darks σ ks) n cs σ (λ e. omega arith) (λ e. omega (arith, round_lights σ e, rounds_dark n (round cs σ)))

  -- enough rounds for each dark letter end where one more lights none
  at_rest : (n σ : ℕ) → darks σ ks ≤ n → round cs (rounds_by n cs σ).state ≡ (rounds_by n cs σ).state
  at_rest zero σ l = go (eqb (round cs σ) σ) refl
    where
      go : (b : Bool) → eqb (round cs σ) σ ≡ b → round cs σ ≡ σ
      go true e = eqb-true (round cs σ) σ e
      go false e = absurd (omega (arith, round_lights σ (eqb-false (round cs σ) σ e)))
  at_rest (suc n) σ l =
      by_round (λ r. round cs r.state ≡ r.state) n cs σ (λ e. e) (λ e. at_rest n (round cs σ) (omega (arith, round_lights σ e)))

  -- the rounds that lit a letter are at most the letters
  pub rounds_bound : (settled cs).rounds ≤ length ks
  rounds_bound = omega (arith, rounds_dark (length cs) 0, darks_all 0 ks)

reached : (n : ℕ) (cs : List Clause) (σ : ℕ) → (rounds_by n cs σ).state ≡ after (rounds_by n cs σ).rounds cs σ
reached zero cs σ = refl
reached (suc n) cs σ = by_round (λ r. r.state ≡ after r.rounds cs σ) n cs σ (λ e. refl) (λ e. reached n cs (round cs σ))

lights : (n : ℕ) (cs : List Clause) (σ m : ℕ) → m < (rounds_by n cs σ).rounds → round cs (after m cs σ) ≢ after m cs σ
lights zero cs σ m h = absurd (omega arith)
lights (suc n) cs σ m h = by_round (λ r. m < r.rounds → round cs (after m cs σ) ≢ after m cs σ) n cs σ (λ e l. absurd (omega arith)) (λ e l. go e (λ k. lights n cs (round cs σ) k) m l) h
  where
    go : round cs σ ≢ σ → ((k : ℕ) → k < (rounds_by n cs (round cs σ)).rounds → round cs (after k cs (round cs σ)) ≢ after k cs (round cs σ))
        → (m : ℕ) → m < suc (rounds_by n cs (round cs σ)).rounds → round cs (after m cs σ) ≢ after m cs σ
    go e ih zero l = e
    go e ih (suc m) l = ih m (omega arith)

-- the rounds end: one more lights none
pub settled_ends : (cs : List Clause) → Each Single cs → Ends cs (settled cs)
settled_ends cs h =
    let ks = positives cs in
    record {
      reached = reached (length cs) cs 0;
      lights = lights (length cs) cs 0;
      still = at_rest cs ks (has_positives cs ks (λ k e. e)) (length cs) 0 (omega (arith, darks_all 0 ks, positives_short cs h));
    }

-- ---- where they end is below every state in which no clause is false

met_below : (σ ρ : ℕ) → Below σ ρ → (ks : List ℕ) → fold ALL (λ k. bit k σ) ks ≡ true → fold ALL (λ k. bit k ρ) ks ≡ true
met_below σ ρ h [] e = refl
met_below σ ρ h (k ∷ ks) e =
    let a = and_both (bit k σ) (fold ALL (λ j. bit j σ) ks) e in
    ap₂ ◌&&◌ (h k a.0) (met_below σ ρ h ks a.1)

-- a clause that is met and not false has its letter without NOT lit
single_lit : (ρ : ℕ) (ks : List ℕ) → several ks ≡ false → fold ANY (λ k. bit k ρ) ks ≡ true → (k : ℕ) → among k ks ≡ true → bit k ρ ≡ true
single_lit ρ [] s e k m = absurd (false≢true m)
single_lit ρ (j ∷ []) s e k m =
    let i : k ≡ j = eqb-true k j (sym (or-false (eqb k j)) ∙ m) in
    rw i (sym (or-false (bit j ρ)) ∙ e)
single_lit ρ (j ∷ i ∷ ks) s e k m = absurd (true≢false s)

met_holds : (m a : Bool) → (m && not a) ≡ false → m ≡ true → a ≡ true
met_holds m true e h = refl
met_holds m false e h = sym (rw h at e)

module _ (ρ : ℕ) (cs : List Clause) (h : Each (λ c. Single c × (fails ρ c ≡ false)) cs) where
  round_below : (σ : ℕ) → Below σ ρ → Below (round cs σ) ρ
  round_below σ l k m =
      or_elim (among k (fired σ cs)) (bit k σ) (sym (bit_light_all k (fired σ cs) σ) ∙ m)
      (λ e. fired_each σ (λ c. Single c × (fails ρ c ≡ false)) (λ j. bit j ρ ≡ true) fires cs h k e)
      (λ e. l k e)
    where
      fires : (c : Clause) → Single c × (fails ρ c ≡ false) → met σ c ≡ true → (j : ℕ) → among j c.positive ≡ true → bit j ρ ≡ true
      fires c p e = single_lit ρ c.positive p.0 (met_holds (met ρ c) (fold ANY (λ j. bit j ρ) c.positive) p.1 (met_below σ ρ l c.negative e))

  rounds_below : (n σ : ℕ) → Below σ ρ → Below (rounds_by n cs σ).state ρ
  rounds_below zero σ l = l
  rounds_below (suc n) σ l = by_round (λ r. Below r.state ρ) n cs σ (λ e. l) (λ e. rounds_below n (round cs σ) (round_below σ l))

  pub settled_below : Below (settled cs).state ρ
  settled_below = rounds_below (length cs) 0 (λ k e. absurd (false≢true (sym (bit_zero k) ∙ e)))

-- ---- a clause that is false where the rounds end has no letter without NOT, and is false in every state above

false_kept : (τ : ℕ) (cs : List Clause) → ((k : ℕ) → among k (fired τ cs) ≡ true → bit k τ ≡ true) → (ρ : ℕ) → Below τ ρ
    → fold ANY (fails τ) cs ≡ true → fold ANY (fails ρ) cs ≡ true
false_kept τ [] h ρ l e = e
false_kept τ (c ∷ cs) h ρ l e = go (met τ c) refl c.positive refl (λ g d. false_kept τ cs g ρ l d) h e
  where
    go : (b : Bool) → met τ c ≡ b → (ps : List ℕ) → c.positive ≡ ps
        → (((k : ℕ) → among k (fired τ cs) ≡ true → bit k τ ≡ true) → fold ANY (fails τ) cs ≡ true → fold ANY (fails ρ) cs ≡ true)
        → ((k : ℕ) → among k (choose b (ps ++ fired τ cs) (fired τ cs)) ≡ true → bit k τ ≡ true)
        → ((b && not (fold ANY (λ k. bit k τ) ps)) || fold ANY (fails τ) cs) ≡ true → (fails ρ c || fold ANY (fails ρ) cs) ≡ true
    go false m ps p ih h e = or_right (fails ρ c) (fold ANY (fails ρ) cs) (ih h e)
    go true m [] p ih h e =
        let a : fails ρ c ≡ true = rw (p, met_below τ ρ l c.negative m) in
        or_left (fails ρ c) (fold ANY (fails ρ) cs) a
    go true m (j ∷ ps) p ih h e =
        let a : bit j τ ≡ true = h j (or_left (eqb j j) (among j (ps ++ fired τ cs)) (eq-eqb j j refl)) in
        let d : fold ANY (fails τ) cs ≡ true = rw a at e in
        or_right (fails ρ c) (fold ANY (fails ρ) cs)
        (ih (λ k g. h k (among_append k (j ∷ ps) (fired τ cs) ∙ or_right (among k (j ∷ ps)) (among k (fired τ cs)) g)) d)

-- where a round lights none, all that it would light is lit
still_lit : (τ : ℕ) (cs : List Clause) → round cs τ ≡ τ → (k : ℕ) → among k (fired τ cs) ≡ true → bit k τ ≡ true
still_lit τ cs e k m = ap (bit k) (sym e) ∙ bit_light_all k (fired τ cs) τ ∙ or_left (among k (fired τ cs)) (bit k τ) m

pub false_above : (cs : List Clause) → Each Single cs → fold ANY (fails (settled cs).state) cs ≡ true → (ρ : ℕ) → Below (settled cs).state ρ → fold ANY (fails ρ) cs ≡ true
false_above cs s e ρ l = false_kept (settled cs).state cs (still_lit (settled cs).state cs (settled_ends cs s).still) ρ l e
