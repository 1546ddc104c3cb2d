-- Lists: parts of them, places that make way, elements.
-- Assumes nothing.
use Rattle.std.proofs.Common.{◌≡◌, refl, ap, List, [], ◌∷◌, ◌++◌, map, ℕ, zero, suc, ◌<◌, arith, length, get_or}
use Rattle.std.proofs.Math.Option.{some, none-ne-some}
use mathlib.Core.List.{map-append}
use Rattle.std.proofs.Math.ListN.{get_elem?}
use Rattle.calculus.specs.declared.Side.{Side}
use Rattle.calculus.specs.declared.Side.TheVariants.{Left, Right}
use Rattle.calculus.specs.Fold.{Each}
use Rattle.calculus.specs.Syntax.{side_of, Seq, on_side}
use Rattle.calculus.specs.Table.{L, R, on, splice, premise}
use Rattle.calculus.proofs.Folds.{each_append}
use Rattle.sequent.specs.declared.Which.{Which}
use Rattle.sequent.specs.declared.Which.TheVariants.{Neither, First, Second, Both}
use Rattle.sequent.specs.Rule.{Placing, pick, parts_on, placed}

pub on_left : {X : Type 0} (xs ys : List X) → on Left (map (λ z. L z) xs ++ map (λ z. R z) ys) ≡ xs
on_left {X} (x ∷ xs) ys = ap (λ (l : List X). x ∷ l) (on_left xs ys)
on_left [] [] = refl
on_left [] (y ∷ ys) = on_left [] ys

pub on_right : {X : Type 0} (xs ys : List X) → on Right (map (λ z. L z) xs ++ map (λ z. R z) ys) ≡ ys
on_right (x ∷ xs) ys = on_right xs ys
on_right [] [] = refl
on_right {X} [] (y ∷ ys) = ap (λ (l : List X). y ∷ l) (on_right [] ys)

pub element : {X Y : Type 0} (f : X → Y) (xs : List X) (i : ℕ) (d : X) → i < length xs → get_elem? (map f xs) i ≡ some (f (get_or xs i d))
element f [] i d h = absurd (omega arith)
element f (x ∷ xs) zero d h = refl
element f (x ∷ xs) (suc i) d h = element f xs i d (omega arith)

pub element_is : {X Y : Type 0} (f : X → Y) (xs : List X) (i : ℕ) (d : X) (y : Y) → get_elem? (map f xs) i ≡ some y → (i < length xs) × (f (get_or xs i d) ≡ y)
element_is f [] i d y h = absurd (none-ne-some y h)
element_is f (x ∷ xs) zero d y h = (omega arith, cc h)
element_is f (x ∷ xs) (suc i) d y h = let r = element_is f xs i d y h in (omega (arith, r.0), r.1)

pub map_splice : {X Y : Type 0} (f : X → Y) (i : ℕ) (new xs : List X) → map f (splice i new xs) ≡ splice i (map f new) (map f xs)
map_splice f zero new [] = map-append f new []
map_splice f zero new (x ∷ xs) = map-append f new xs
map_splice f (suc i) new [] = map-append f new []
map_splice {X} {Y} f (suc i) new (x ∷ xs) = ap (λ (l : List Y). f x ∷ l) (map_splice f i new xs)

-- ---- a fact of each element

pub each_splice : {X : Type 0} (Q : X → Type 0) (i : ℕ) (new xs : List X) → Each Q new → Each Q xs → Each Q (splice i new xs)
each_splice Q zero new [] h k = each_append Q new [] h tt
each_splice Q zero new (x ∷ xs) h k = each_append Q new xs h k.1
each_splice Q (suc i) new [] h k = each_append Q new [] h tt
each_splice Q (suc i) new (x ∷ xs) h k = (k.0, each_splice Q i new xs h k.1)

pub each_parts : (Q : ℕ → Type 0) (t : Side) (p : Placing) (f g : ℕ) → Q f → Q g → Each Q (parts_on t p f g)
each_parts Q t p f g h k = go (side_of p t)
  where
    go : (w : Which) → Each Q (pick w f g)
    go Neither = tt
    go First = (h, tt)
    go Second = (k, tt)
    go Both = (h, (k, tt))

pub each_unmap : {X Y : Type 0} (f : X → Y) (Q : Y → Type 0) (xs : List X) → Each Q (map f xs) → Each (λ x. Q (f x)) xs
each_unmap f Q [] h = tt
each_unmap f Q (x ∷ xs) h = (h.0, each_unmap f Q xs h.1)

-- of the names of a premise, on each side
pub each_premise : (Q : ℕ → Type 0) (v u : Side) (i : ℕ) (N : Seq ℕ) (p : Placing) (f g : ℕ) → Each Q (parts_on u p f g) → Each Q (on_side u N)
    → Each Q (on_side u (premise v i N (placed p f g)))
each_premise Q Left Left i N p f g h k = rw (on_left (parts_on Left p f g) (parts_on Right p f g)) (each_splice Q i (parts_on Left p f g) N.on_left h k)
each_premise Q Left Right i N p f g h k = rw (on_right (parts_on Left p f g) (parts_on Right p f g)) (each_append Q N.on_right (parts_on Right p f g) k h)
each_premise Q Right Left i N p f g h k = rw (on_left (parts_on Left p f g) (parts_on Right p f g)) (each_append Q N.on_left (parts_on Left p f g) k h)
each_premise Q Right Right i N p f g h k = rw (on_right (parts_on Left p f g) (parts_on Right p f g)) (each_splice Q i (parts_on Right p f g) N.on_right h k)
