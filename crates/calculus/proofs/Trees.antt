-- The tests are right, and the tree's verdict with them.
-- Assumes nothing.
use mathlib.Core.Path.{◌≡◌, refl, sym, ap, ◌∙◌}
use mathlib.Core.Bool.{Bool, true, false, not, ◌||◌, or-true, false≢true}
use mathlib.Core.Option.{Option, none, some, none-ne-some}
use mathlib.Core.List.{List, [], ◌∷◌}
use Prim.Native.Nat.{ℕ, zero, suc, ◌+◌, ◌*◌, ◌/◌, ◌%◌, ◌^◌, min, max, ◌≤◌, ◌<◌}
use native.Mathlib.Decide.{dec_le}
use native.Mathlib.Nat.{zero-max, pow-suc, min-eq_left, min-eq_right, le_refl}
use native.Mathlib.Omega.{arith}
use borrow.Author.Tests.{eqb-true, eq-eqb}
use lib.Bits.{bit_or, or_step, or_zero_l}
use lib.Pow.{pow_pos}
use lib.Dec.{eqb, eqb-zero-suc, eqb-suc-zero, eqb-suc-suc}
use lib.ListN.{get_elem?}
use Rattle.calculus.specs.declared.Side.TheVariants.{Left, Right}
use Rattle.calculus.specs.Fold.{fold, ANY, SUM, Each, choose}
use Rattle.calculus.specs.Syntax.{Connective, NOT, two, Formula, letter, neg, join, Compound, compound, whole, Sequent, connectives, c}
use Rattle.calculus.specs.Truth.{bit, value, says, truth}
use Rattle.calculus.specs.Bytes.{same}
use Rattle.calculus.specs.Table.{Holds, premises}
use Rattle.calculus.specs.Tree.{letters, among, lower, common, next, equal_to, partner, Twins, unlike, alike, nearest, twins, Way, lettered, paired, either, closing, closing_by_letter, light, state, First, missing, here, later, first, Step, closed, opened, reduced, tests, step_by, step, reduce, Tree, chain, under, grow, leaf, grow_by, tree_by, tree}
use Rattle.calculus.specs.Derivation.{Pairs}
use Rattle.calculus.proofs.Folds.{or_elim, not_so, each}
use Rattle.calculus.proofs.Spelling.{same_eq, same_self}
use Rattle.calculus.proofs.Sequents.{Smaller, smaller}

-- ---- states

pub bit_light : (j k σ : ℕ) → bit j (light k σ) ≡ (eqb j k || bit j σ)
bit_light zero zero σ = let e : (σ / 2 * 2 + 1) % 2 ≡ 1 = omega arith in rw e
bit_light zero (suc k) σ =
    let e : (light k (σ / 2) * 2 + σ % 2) % 2 ≡ σ % 2 = omega arith in
    rw (e, eqb-zero-suc)
bit_light (suc j) zero σ =
    let e : (σ / 2 * 2 + 1) / 2 ≡ σ / 2 = omega arith in
    rw (e, eqb-suc-zero)
bit_light (suc j) (suc k) σ =
    let e : (light k (σ / 2) * 2 + σ % 2) / 2 ≡ light k (σ / 2) = omega arith in
    rw (e, eqb-suc-suc) (bit_light j k (σ / 2))

pub bit_zero : (k : ℕ) → bit k 0 ≡ false
bit_zero zero = refl
bit_zero (suc k) = bit_zero k

-- "bit k is set exactly if letter k stands" in the list
pub bit_state : (k : ℕ) (ks : List ℕ) → bit k (state ks) ≡ among k ks
bit_state k [] = bit_zero k
bit_state k (j ∷ ks) = bit_light k j (state ks) ∙ ap (λ (b : Bool). eqb k j || b) (bit_state k ks)

-- a state is what `|` makes of the letters' bits, and fits where the letters do
pub light_or : (k σ : ℕ) → bit_or (2 ^ k) σ ≡ light k σ
light_or zero σ =
    let e : max 1 (σ % 2) ≡ 1 = omega arith in
    or_step 1 σ ∙ rw (or_zero_l (σ / 2), e)
light_or (suc k) σ =
    let a : 2 ^ suc k / 2 ≡ 2 ^ k = omega (arith, pow-suc 2 k) in
    let z : 2 ^ suc k % 2 ≡ 0 = omega (arith, pow-suc 2 k) in
    or_step (2 ^ suc k) σ ∙ rw (a, z, light_or k (σ / 2), zero-max)

pub light_lt : (n k σ : ℕ) → k < n → σ < 2 ^ n → light k σ < 2 ^ n
light_lt zero k σ h l = absurd (omega arith)
light_lt (suc n) zero σ h l = omega (arith, pow-suc 2 n)
light_lt (suc n) (suc k) σ h l = omega (arith, pow-suc 2 n, light_lt n k (σ / 2) (omega arith) (omega (arith, pow-suc 2 n)))

pub state_lt : (n : ℕ) (ks : List ℕ) → Each (λ k. k < n) ks → state ks < 2 ^ n
state_lt n [] h = pow_pos n
state_lt n (k ∷ ks) h = light_lt n k (state ks) h.0 (state_lt n ks h.1)

-- ---- the closing test

abbrev pub Shared : List ℕ → List ℕ → Option ℕ → Type 0
Shared ks ms none = (j : ℕ) → among j ks ≡ true → among j ms ≡ true → ⊥
Shared ks ms (some k) = (among k ks ≡ true) × (among k ms ≡ true)

either_min : (Q : ℕ → Type 0) (k m : ℕ) → Q k → Q m → Q (min k m)
either_min Q k m p q = elim (dec_le k m) [ yes h ↦ rw (min-eq_left h) p | no h ↦ rw (min-eq_right {n = m} {m = k} (omega arith)) q ]

pub shared : (ks ms : List ℕ) → Shared ks ms (common ks ms)
shared [] ms = λ j h e. false≢true h
shared (k ∷ ks) ms = go (among k ms) refl (common ks ms) (shared ks ms)
  where
    self : among k (k ∷ ks) ≡ true
    self = rw (eq-eqb k k refl)

    more : (j : ℕ) → among j ks ≡ true → among j (k ∷ ks) ≡ true
    more j h = rw (h, or-true)

    go : (b : Bool) → among k ms ≡ b → (o : Option ℕ) → Shared ks ms o → Shared (k ∷ ks) ms (lower b k o)
    go false e none h = λ j a d. or_elim (eqb j k) (among j ks) a (λ q. false≢true (cc (eqb-true j k q))) (λ q. h j q d)
    go false e (some m) h = (more m h.0, h.1)
    go true e none h = (self, e)
    go true e (some m) h = either_min (λ (j : ℕ). (among j (k ∷ ks) ≡ true) × (among j ms ≡ true)) k m (self, e) (more m h.0, h.1)

-- the letter that `common` names is the lowest on both sides
pub lowest : (ks ms : List ℕ) (j : ℕ) → among j ks ≡ true → among j ms ≡ true → (m : ℕ) × (common ks ms ≡ some m) × (m ≤ j)
lowest [] ms j h e = absurd (false≢true h)
lowest (k ∷ ks) ms j h e = or_elim (eqb j k) (among j ks) h (λ q. own (eqb-true j k q) (common ks ms)) (λ q. below (among k ms) (common ks ms) (lowest ks ms j q e))
  where
    own : j ≡ k → (o : Option ℕ) → (m : ℕ) × (lower (among k ms) k o ≡ some m) × (m ≤ j)
    own q none = (k, rw (← q, e), omega arith)
    own q (some m) = (min k m, rw (← q, e), omega arith)

    below : (b : Bool) (o : Option ℕ) → (m : ℕ) × (o ≡ some m) × (m ≤ j) → (m : ℕ) × (lower b k o ≡ some m) × (m ≤ j)
    below true o (m, q, l) = (min k m, rw q, omega arith)
    below false o (m, q, l) = (m, q, l)

-- a letter among a side's that a test passes
any_letter : (g : Formula → Bool) (xs : List Formula) (k : ℕ) → among k (letters xs) ≡ true → g (letter k) ≡ true → fold ANY g xs ≡ true
any_letter g [] k h e = absurd (false≢true h)
any_letter g (letter j ∷ xs) k h e =
    or_elim (eqb k j) (among k (letters xs)) h (λ q. rw (← eqb-true k j q, e)) (λ q. rw (any_letter g xs k q e, or-true))
any_letter g (neg x ∷ xs) k h e = rw (any_letter g xs k h e, or-true)
any_letter g (join b x y ∷ xs) k h e = rw (any_letter g xs k h e, or-true)

-- ---- equal formulas on both sides

-- the first place of a formula equal to x
abbrev pub Equal_at : Formula → List Formula → Option ℕ → Type 0
Equal_at x ys none = (n : ℕ) → get_elem? ys n ≡ some x → ⊥
Equal_at x ys (some j) = (get_elem? ys j ≡ some x) × ((n : ℕ) → get_elem? ys n ≡ some x → j ≤ n)

pub equal_at : (x : Formula) (ys : List Formula) → Equal_at x ys (equal_to x ys)
equal_at x [] = λ n e. none-ne-some x e
equal_at x (y ∷ ys) = go (same x y) refl (equal_to x ys) (equal_at x ys)
  where
    other : same x y ≡ false → some y ≡ some x → ⊥
    other e q = let d : x ≡ y = cc in false≢true (sym e ∙ rw (← d) (same_self x))

    go : (b : Bool) → same x y ≡ b → (o : Option ℕ) → Equal_at x ys o → Equal_at x (y ∷ ys) (choose b (some 0) (next o))
    go true e o h = (ap some (sym (same_eq x y e)), λ n q. omega arith)
    go false e none h = far
      where
        far : (n : ℕ) → get_elem? (y ∷ ys) n ≡ some x → ⊥
        far zero q = other e q
        far (suc n) q = h n q
    go false e (some j) h = (h.0, far)
      where
        far : (n : ℕ) → get_elem? (y ∷ ys) n ≡ some x → suc j ≤ n
        far zero q = absurd (other e q)
        far (suc n) q = omega (arith, h.1 n q)

-- what a left formula has on the right, if it has a connective
abbrev pub Partner : Formula → List Formula → Option ℕ → Type 0
Partner x ys none = (y : Compound) → x ≡ whole y → (n : ℕ) → get_elem? ys n ≡ some x → ⊥
Partner x ys (some j) = (y : Compound) × (x ≡ whole y) × Equal_at x ys (some j)

pub partner_at : (x : Formula) (ys : List Formula) → Partner x ys (partner x ys)
partner_at (letter k) ys = λ y e n q. no_whole y.connective y.f y.g e
  where
    no_whole : (j : Connective) (f g : Formula) → letter k ≡ compound j f g → ⊥
    no_whole NOT f g e = cc
    no_whole (two b) f g e = cc
partner_at (neg x) ys = go (equal_to (neg x) ys) (equal_at (neg x) ys)
  where
    go : (o : Option ℕ) → Equal_at (neg x) ys o → Partner (neg x) ys o
    go none h = λ y e. h
    go (some j) h = (record { connective = NOT; f = x; g = x }, refl, h)
partner_at (join b x y) ys = go (equal_to (join b x y) ys) (equal_at (join b x y) ys)
  where
    go : (o : Option ℕ) → Equal_at (join b x y) ys o → Partner (join b x y) ys o
    go none h = λ z e. h
    go (some j) h = (record { connective = two b; f = x; g = y }, refl, h)

-- a formula with connectives stands in both lists, at these places
abbrev pub Both : List Formula → List Formula → ℕ → ℕ → Type 0
Both xs ys i j = Pairs i j (record { on_left = xs; on_right = ys })

-- "the lowest left place that has an equal on the right, with the lowest such right place"
abbrev pub Alike : List Formula → List Formula → Twins → Type 0
Alike xs ys unlike = (m n : ℕ) → Both xs ys m n → ⊥
Alike xs ys (alike i j) = Both xs ys i j × ((m n : ℕ) → Both xs ys m n → (i ≤ m) × (m ≡ i → j ≤ n))

pub alike_at : (xs ys : List Formula) → Alike xs ys (twins xs ys)
alike_at [] ys = λ m n h. none-ne-some (whole h.x) h.lefts
alike_at (x ∷ xs) ys = go (partner x ys) (partner_at x ys) (twins xs ys) (alike_at xs ys)
  where
    less : (m n : ℕ) → Both (x ∷ xs) ys (suc m) n → Both xs ys m n
    less m n b = record { x = b.x; lefts = b.lefts; rights = b.rights }

    alone : Partner x ys none → (n : ℕ) → Both (x ∷ xs) ys 0 n → ⊥
    alone p n b = let e : x ≡ whole b.x = cc b.lefts in p b.x e n (b.rights ∙ sym b.lefts)

    go : (o : Option ℕ) → Partner x ys o → (t : Twins) → Alike xs ys t → Alike (x ∷ xs) ys (nearest o t)
    go (some j) p t h = (record { x = p.0; lefts = ap some p.1; rights = p.2.0 ∙ ap some p.1 }, far)
      where
        far : (m n : ℕ) → Both (x ∷ xs) ys m n → (0 ≤ m) × (m ≡ 0 → j ≤ n)
        far zero n b = (omega arith, λ e. p.2.1 n (b.rights ∙ sym b.lefts))
        far (suc m) n b = (omega arith, λ e. absurd (omega arith))
    go none p unlike h = far
      where
        far : (m n : ℕ) → Both (x ∷ xs) ys m n → ⊥
        far zero n b = alone p n b
        far (suc m) n b = h m n (less m n b)
    go none p (alike i j) h = (record { x = h.0.x; lefts = h.0.lefts; rights = h.0.rights }, far)
      where
        far : (m n : ℕ) → Both (x ∷ xs) ys m n → (suc i ≤ m) × (m ≡ suc i → j ≤ n)
        far zero n b = absurd (alone p n b)
        far (suc m) n b = let q = h.1 m n (less m n b) in (omega (arith, q.0), λ e. q.1 (omega arith))

-- these say which pair it is
pub alike_only : (xs ys : List Formula) (t : Twins) → Alike xs ys t → twins xs ys ≡ t
alike_only xs ys t h = go (twins xs ys) (alike_at xs ys) t h
  where
    go : (u : Twins) → Alike xs ys u → (t : Twins) → Alike xs ys t → u ≡ t
    go unlike a unlike b = refl
    go unlike a (alike i j) b = absurd (a i j b.0)
    go (alike i j) a unlike b = absurd (b i j a.0)
    go (alike i j) a (alike m n) b =
        let p = a.1 m n b.0 in
        let q = b.1 i j a.0 in
        let e : i ≡ m = omega (arith, p.0, q.0) in
        let f : j ≡ n = omega (arith, p.1 (sym e), q.1 e) in
        rw (e, f)

any_at : (g : Formula → Bool) (xs : List Formula) (i : ℕ) (x : Formula) → get_elem? xs i ≡ some x → g x ≡ true → fold ANY g xs ≡ true
any_at g [] i x h e = absurd (none-ne-some x h)
any_at g (y ∷ xs) zero x h e = let q : y ≡ x = cc in rw (q, e)
any_at g (y ∷ xs) (suc i) x h e = rw (any_at g xs i x h e, or-true)

-- ---- what closes is true

abbrev pub Closed : Sequent → Way → Type 0
Closed S (lettered k) = Shared (letters S.on_left) (letters S.on_right) (some k)
Closed S (paired i j) = Pairs i j S

pub closed_true : (S : Sequent) (w : Way) → Closed S w → (σ : ℕ) → truth σ S ≡ true
closed_true S (lettered k) h σ = go (bit k σ) refl
  where
    go : (b : Bool) → bit k σ ≡ b → truth σ S ≡ true
    go true e = rw (any_letter (says σ Right) S.on_right k h.1 e, or-true)
    go false e = rw (any_letter (says σ Left) S.on_left k h.0 (ap not e))
closed_true S (paired i j) h σ = go (value σ (whole h.x)) refl
  where
    go : (b : Bool) → value σ (whole h.x) ≡ b → truth σ S ≡ true
    go true e = rw (any_at (says σ Right) S.on_right j (whole h.x) h.rights e, or-true)
    go false e = rw (any_at (says σ Left) S.on_left i (whole h.x) h.lefts (ap not e))

-- what the closing test says. "The letter test comes first": by equal formulas only where no letter stands on both sides
abbrev pub Closing : Sequent → Option Way → Type 0
Closing S none = Shared (letters S.on_left) (letters S.on_right) none × Alike S.on_left S.on_right unlike
Closing S (some (lettered k)) = Shared (letters S.on_left) (letters S.on_right) (some k)
Closing S (some (paired i j)) = Shared (letters S.on_left) (letters S.on_right) none × Alike S.on_left S.on_right (alike i j)

pub closing_right : (S : Sequent) → Closing S (closing S)
closing_right S =
    go (common (letters S.on_left) (letters S.on_right)) (shared (letters S.on_left) (letters S.on_right))
    (twins S.on_left S.on_right) (alike_at S.on_left S.on_right)
  where
    go : (o : Option ℕ) → Shared (letters S.on_left) (letters S.on_right) o → (t : Twins) → Alike S.on_left S.on_right t
        → Closing S (either o t)
    go (some k) h t p = h
    go none h unlike p = (h, p)
    go none h (alike i j) p = (h, p)

-- ---- the search for a compound, and the open sequent

abbrev pub Letter : Formula → Type 0
Letter (letter k) = Unit {0}
Letter (neg x) = ⊥
Letter (join b x y) = ⊥

abbrev pub Stands : List Formula → First → Type 0
Stands xs missing = Each Letter xs
Stands xs (here i x) = get_elem? xs i ≡ some (whole x)

pub stands : (xs : List Formula) → Stands xs (first xs)
stands [] = tt
stands (letter k ∷ xs) = go (first xs) (stands xs)
  where
    go : (o : First) → Stands xs o → Stands (letter k ∷ xs) (later o)
    go missing h = (tt, h)
    go (here i x) h = h
stands (neg x ∷ xs) = refl
stands (join b x y ∷ xs) = refl

no_letter : (g : Formula → Bool) (xs : List Formula) → Each Letter xs → ((k : ℕ) → among k (letters xs) ≡ true → g (letter k) ≡ false)
    → fold ANY g xs ≡ false
no_letter g [] h e = refl
no_letter g (letter k ∷ xs) h e = rw (e k (rw (eq-eqb k k refl))) (no_letter g xs h.1 (λ j q. e j (rw (q, or-true))))
no_letter g (neg x ∷ xs) h e = absurd h.0
no_letter g (join b x y ∷ xs) h e = absurd h.0

open_false : (S : Sequent) → Shared (letters S.on_left) (letters S.on_right) none → Each Letter S.on_left → Each Letter S.on_right
    → truth (state (letters S.on_left)) S ≡ false
open_false S h a b =
    rw (no_letter (says (state (letters S.on_left)) Left) S.on_left a (λ k q. rw (bit_state, q)))
    (no_letter (says (state (letters S.on_left)) Right) S.on_right b (λ k q. rw bit_state (not_so _ (λ d. h k d q))))

-- ---- what each outcome of the tests says of the sequent

abbrev pub Right_step : Sequent → Step → Type 0
Right_step S (closed w) = Closed S w
Right_step S (opened σ) = truth σ S ≡ false
Right_step S (reduced s i x) = Holds S s i x

-- a closing test is sound: where it says no, no letter stands on both sides
abbrev pub Tested : Sequent → Option Way → Type 0
Tested S none = Shared (letters S.on_left) (letters S.on_right) none
Tested S (some w) = Closed S w

abbrev pub Sound : (Sequent → Option Way) → Type 0
Sound t = (S : Sequent) → Tested S (t S)

pub closing_sound : Sound closing
closing_sound S = go (closing S) (closing_right S)
  where
    go : (o : Option Way) → Closing S o → Tested S o
    go none h = h.0
    go (some (lettered k)) h = h
    go (some (paired i j)) h = h.1.0

pub letter_sound : Sound closing_by_letter
letter_sound S = go (common (letters S.on_left) (letters S.on_right)) (shared (letters S.on_left) (letters S.on_right))
  where
    go : (o : Option ℕ) → Shared (letters S.on_left) (letters S.on_right) o → Tested S (either o unlike)
    go none h = h
    go (some k) h = h

right_tests : (S : Sequent) (o : Option Way) (a b : First) → Tested S o → Stands S.on_left a
    → Stands S.on_right b → Right_step S (tests S o a b)
right_tests S (some w) a b h p q = h
right_tests S none (here i x) b h p q = p
right_tests S none missing (here i x) h p q = q
right_tests S none missing missing h p q = open_false S h p q

pub right_step_by : (t : Sequent → Option Way) → Sound t → (S : Sequent) → Right_step S (step_by t S)
right_step_by t f S = right_tests S (t S) (first S.on_left) (first S.on_right) (f S) (stands S.on_left) (stands S.on_right)

pub right_step : (S : Sequent) → Right_step S (step S)
right_step = right_step_by closing closing_sound

-- ---- the tree, with no word of the connectives counted, and induction over it

chain_same : (r q : Sequent → Tree) (Ps : List Sequent) → Each (λ P. r P ≡ q P) Ps → chain r Ps ≡ chain q Ps
chain_same r q [] h = refl
chain_same r q (P ∷ Ps) h = rw (h.0, chain_same r q Ps h.1)

grow_same : (r q : Sequent → Tree) (S : Sequent) → ((P : Sequent) → Smaller S P → r P ≡ q P) → (t : Step) → Right_step S t → grow r S t ≡ grow q S t
grow_same r q S h (closed w) p = refl
grow_same r q S h (opened σ) p = refl
grow_same r q S h (reduced s i x) p =
    ap (under (reduce s i x.connective)) (chain_same r q (premises s i x S)
    (each (Smaller S) (λ P. r P ≡ q P) h (premises s i x S) (smaller s i x S p)))

-- where no connective is left, the tests find no compound
no_compound : (xs : List Formula) → fold SUM connectives xs ≡ 0 → first xs ≡ missing
no_compound [] e = refl
no_compound (letter k ∷ xs) e = ap later (no_compound xs (omega arith))
no_compound (neg x ∷ xs) e = absurd (omega arith)
no_compound (join b x y ∷ xs) e = absurd (omega arith)

pub bare_tests : (S : Sequent) (o : Option Way) → c S ≡ 0 → tests S o (first S.on_left) (first S.on_right) ≡ tests S o missing missing
bare_tests S o e = rw (no_compound S.on_left (omega arith), no_compound S.on_right (omega arith))

leaf_grows : (t : Sequent → Option Way) (r : Sequent → Tree) (S : Sequent) → c S ≡ 0 → leaf S (t S) ≡ grow r S (step_by t S)
leaf_grows t r S e = go (t S) ∙ ap (grow r S) (sym (bare_tests S (t S) e))
  where
    go : (o : Option Way) → leaf S o ≡ grow r S (tests S o missing missing)
    go none = refl
    go (some w) = refl

-- to count more than there are changes nothing
grow_enough : (t : Sequent → Option Way) → Sound t → (n m : ℕ) (S : Sequent) → c S ≤ n → c S ≤ m → grow_by t n S ≡ grow_by t m S
grow_enough t f zero zero S h k = refl
grow_enough t f zero (suc m) S h k = leaf_grows t (λ P. grow_by t m P) S (omega arith)
grow_enough t f (suc n) zero S h k = sym (leaf_grows t (λ P. grow_by t n P) S (omega arith))
grow_enough t f (suc n) (suc m) S h k =
    grow_same (λ P. grow_by t n P) (λ P. grow_by t m P) S (λ P l. grow_enough t f n m P (omega arith) (omega arith)) (step_by t S) (right_step_by t f S)

pub tree_by_grows : (t : Sequent → Option Way) → Sound t → (S : Sequent) → tree_by t S ≡ grow (tree_by t) S (step_by t S)
tree_by_grows t f S =
    grow_enough t f (c S) (suc (c S)) S (le_refl _) (omega arith)
    ∙ grow_same (λ P. grow_by t (c S) P) (tree_by t) S (λ P l. grow_enough t f (c S) (c P) P (omega arith) (le_refl _)) (step_by t S) (right_step_by t f S)

pub tree_grows : (S : Sequent) → tree S ≡ grow tree S (step S)
tree_grows = tree_by_grows closing closing_sound

-- a fact of each sequent, from its premises'
pub sequent_ind : (Q : Sequent → Type 0) → ((S : Sequent) → ((P : Sequent) → Smaller S P → Q P) → Q S) → (S : Sequent) → Q S
sequent_ind Q f S = go (suc (c S)) S (le_refl _)
  where
    go : (n : ℕ) (P : Sequent) → c P < n → Q P
    go zero P h = absurd (omega arith)
    go (suc n) P h = f P (λ P' l. go n P' (omega arith))

pub tree_by_ind : (t : Sequent → Option Way) → Sound t → (Q : Sequent → Tree → Type 0)
    → ((S : Sequent) (u : Step) → Right_step S u → ((P : Sequent) → Smaller S P → Q P (tree_by t P)) → Q S (grow (tree_by t) S u))
    → (S : Sequent) → Q S (tree_by t S)
tree_by_ind t f Q g = sequent_ind (λ S. Q S (tree_by t S)) (λ S h. rw (tree_by_grows t f S) (g S (step_by t S) (right_step_by t f S) h))

pub tree_ind : (Q : Sequent → Tree → Type 0)
    → ((S : Sequent) (u : Step) → Right_step S u → ((P : Sequent) → Smaller S P → Q P (tree P)) → Q S (grow tree S u)) → (S : Sequent) → Q S (tree S)
tree_ind = tree_by_ind closing closing_sound
