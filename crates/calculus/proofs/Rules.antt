-- The table: three facts, each over its ten rows.
-- Assumes nothing.
use mathlib.Core.Path.{◌≡◌, refl}
use mathlib.Core.Bool.{Bool, true, false, not}
use mathlib.Core.List.{List}
use Prim.Native.Nat.{ℕ, ◌+◌, ◌≤◌}
use native.Mathlib.Nat.{mul-one, add-zero, add_comm}
use native.Mathlib.Omega.{arith}
use Rattle.calculus.specs.declared.Side.{Side}
use Rattle.calculus.specs.declared.Side.TheVariants.{Left, Right}
use Rattle.calculus.specs.Fold.{fold, ANY, ALL, SUM, PRODUCT, Each}
use Rattle.calculus.specs.Syntax.{AND, OR, IMPLIES, EQUIV, Connective, NOT, two, Formula, Compound, compound, connectives}
use Rattle.calculus.specs.Truth.{meaning, value, says}
use Rattle.calculus.specs.Table.{Part, F, G, Put, L, R, table, reduct}
use Rattle.calculus.specs.Width.{width}

-- a measure of what stands on its side
abbrev pub at : {A X : Type 0} → (Side → X → A) → Put X → A
at f (L x) = f Left x
at f (R x) = f Right x

abbrev pub apart : Connective → Formula → Formula → Compound
apart k x y = record { connective = k; f = x; g = y }

-- ---- each premise has a connective less, and no more formulas and connectives together

-- a formula, counted with its connectives
abbrev pub weight : Side → Formula → ℕ
weight s x = 1 + connectives x

abbrev pub parts : Side → Formula → List (Put Formula) → Type 0
parts s x ps = (1 + fold SUM (at (λ t. connectives)) ps ≤ connectives x) × (fold SUM (at weight) ps ≤ weight s x)

pub parts_rule : (s : Side) (k : Connective) (x y : Formula) → Each (parts s (compound k x y)) (reduct s (apart k x y))
parts_rule Left NOT x y = omega arith
parts_rule Right NOT x y = omega arith
parts_rule Left (two AND) x y = omega arith
parts_rule Right (two AND) x y = omega arith
parts_rule Left (two OR) x y = omega arith
parts_rule Right (two OR) x y = omega arith
parts_rule Left (two IMPLIES) x y = omega arith
parts_rule Right (two IMPLIES) x y = omega arith
parts_rule Left (two EQUIV) x y = omega arith
parts_rule Right (two EQUIV) x y = omega arith

-- ---- a formula is as true as its premises are together

abbrev weigh : Bool → Bool → Put Part → Bool
weigh p q (L F) = not p
weigh p q (L G) = not q
weigh p q (R F) = p
weigh p q (R G) = q

abbrev sign : Side → Bool → Bool
sign Left b = not b
sign Right b = b

abbrev means : Connective → Bool → Bool → Bool
means NOT p q = not p
means (two b) p q = meaning b p q

abbrev Row : Connective → Side → Bool → Bool → Type 0
Row k s p q = sign s (means k p q) ≡ fold ALL (fold ANY (weigh p q)) (table k s)

row : (k : Connective) (s : Side) → Row k s true true → Row k s true false → Row k s false true → Row k s false false → (p q : Bool) → Row k s p q
row k s a b d e true true = a
row k s a b d e true false = b
row k s a b d e false true = d
row k s a b d e false false = e

pub truth_rule : (σ : ℕ) (s : Side) (k : Connective) (x y : Formula) → says σ s (compound k x y) ≡ fold ALL (fold ANY (at (says σ))) (reduct s (apart k x y))
truth_rule σ Left NOT x y = row NOT Left refl refl refl refl (value σ x) (value σ y)
truth_rule σ Right NOT x y = row NOT Right refl refl refl refl (value σ x) (value σ y)
truth_rule σ Left (two AND) x y = row (two AND) Left refl refl refl refl (value σ x) (value σ y)
truth_rule σ Right (two AND) x y = row (two AND) Right refl refl refl refl (value σ x) (value σ y)
truth_rule σ Left (two OR) x y = row (two OR) Left refl refl refl refl (value σ x) (value σ y)
truth_rule σ Right (two OR) x y = row (two OR) Right refl refl refl refl (value σ x) (value σ y)
truth_rule σ Left (two IMPLIES) x y = row (two IMPLIES) Left refl refl refl refl (value σ x) (value σ y)
truth_rule σ Right (two IMPLIES) x y = row (two IMPLIES) Right refl refl refl refl (value σ x) (value σ y)
truth_rule σ Left (two EQUIV) x y = row (two EQUIV) Left refl refl refl refl (value σ x) (value σ y)
truth_rule σ Right (two EQUIV) x y = row (two EQUIV) Right refl refl refl refl (value σ x) (value σ y)

-- ---- it is as wide as they are together

pub width_rule : (s : Side) (k : Connective) (x y : Formula) → width s (compound k x y) ≡ fold SUM (fold PRODUCT (at width)) (reduct s (apart k x y))
width_rule Left NOT x y = simp (mul-one, add-zero)
width_rule Right NOT x y = simp (mul-one, add-zero)
width_rule Left (two AND) x y = simp (mul-one, add-zero)
width_rule Right (two AND) x y = simp (mul-one, add-zero)
width_rule Left (two OR) x y = simp (mul-one, add-zero)
width_rule Right (two OR) x y = simp (mul-one, add-zero)
width_rule Left (two IMPLIES) x y = simp (mul-one, add-zero) (add_comm _ _)
width_rule Right (two IMPLIES) x y = simp (mul-one, add-zero)
width_rule Left (two EQUIV) x y = simp (mul-one, add-zero)
width_rule Right (two EQUIV) x y = simp (mul-one, add-zero)
