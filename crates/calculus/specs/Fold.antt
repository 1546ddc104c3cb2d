-- Folds over a list in a commutative monoid: any, all, sum and product are its instances.
use Rattle.std.specs.Prelude.{◌≡◌, refl, Bool, true, false, ◌&&◌, ◌||◌, List, [], ◌∷◌, ℕ, ◌+◌, ◌*◌, cond}
use Rattle.std.proofs.Math.Bool.{or_assoc, or_comm, and_assoc, and_comm}
use Rattle.std.proofs.Math.Option.{Option, none, some}
use Rattle.std.proofs.Common.{zero-add, add_assoc, add_comm, one-mul, mul_assoc, mul_comm}

pub record Monoid (A : Type 0) : Type 0 where
  pub op : A → A → A
  pub unit : A
  pub unit_left : (x : A) → op unit x ≡ x
  pub assoc : (x y z : A) → op (op x y) z ≡ op x (op y z)
  pub comm : (x y : A) → op x y ≡ op y x

abbrev pub fold : {A X : Type 0} → Monoid A → (X → A) → List X → A
fold M f [] = M.unit
fold M f (x ∷ xs) = M.op (f x) (fold M f xs)

abbrev pub ANY : Monoid Bool
ANY = record { op = ◌||◌; unit = false; unit_left = λ x. refl; assoc = or_assoc; comm = or_comm }

abbrev pub ALL : Monoid Bool
ALL = record { op = ◌&&◌; unit = true; unit_left = λ x. refl; assoc = and_assoc; comm = and_comm }

abbrev pub SUM : Monoid ℕ
SUM = record { op = ◌+◌; unit = 0; unit_left = zero-add; assoc = add_assoc; comm = add_comm }

abbrev pub PRODUCT : Monoid ℕ
PRODUCT = record { op = ◌*◌; unit = 1; unit_left = one-mul; assoc = mul_assoc; comm = mul_comm }

-- a fact of each element
abbrev pub Each : {X : Type 0} → (X → Type 0) → List X → Type 0
Each Q [] = Unit {0}
Each Q (x ∷ xs) = Q x × Each Q xs

-- if, then, else
abbrev pub choose : {A : Type 0} → Bool → A → A → A
choose = cond

-- the first element that passes a test
abbrev pub find : {X : Type 0} → (X → Bool) → List X → Option X
find t [] = none
find t (x ∷ xs) = choose (t x) (some x) (find t xs)
