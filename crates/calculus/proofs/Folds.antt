-- Folds over a commutative monoid, and facts of each element of a list.
-- Assumes nothing.
use mathlib.Core.Path.{◌≡◌, refl, sym, ap, ◌∙◌, subst}
use mathlib.Core.Bool.{Bool, true, false, ◌&&◌, ◌||◌, or-true, true≢false, false≢true}
use mathlib.Core.Option.{some, none-ne-some}
use mathlib.Core.List.{List, [], ◌∷◌, ◌++◌, map}
use Prim.Native.Nat.{ℕ, zero, suc, ◌+◌, ◌<◌}
use native.Mathlib.Nat.{mul-add, mul-zero}
use native.Mathlib.Omega.{arith}
use lib.ListN.{length, get_or, get_elem?}
use Rattle.calculus.specs.Fold.{Monoid, fold, ANY, ALL, SUM, PRODUCT, Each, choose, find}

module _ {A : Type 0} (M : Monoid A) where
  pub left_comm : (x y z : A) → M.op x (M.op y z) ≡ M.op y (M.op x z)
  left_comm x y z = sym (M.assoc x y z) ∙ ap (λ (u : A). M.op u z) (M.comm x y) ∙ M.assoc y x z

  pub unit_right : (x : A) → M.op x M.unit ≡ x
  unit_right x = M.comm x M.unit ∙ M.unit_left x

  pub fold_append : {X : Type 0} (f : X → A) (xs ys : List X) → fold M f (xs ++ ys) ≡ M.op (fold M f xs) (fold M f ys)
  fold_append f [] ys = sym (M.unit_left _)
  fold_append f (x ∷ xs) ys = rw (fold_append f xs ys) (sym (M.assoc _ _ _))

  pub fold_map : {X Y : Type 0} (f : Y → A) (g : X → Y) (xs : List X) → fold M f (map g xs) ≡ fold M (λ x. f (g x)) xs
  fold_map f g [] = refl
  fold_map f g (x ∷ xs) = rw (fold_map f g xs)

-- one monoid distributes over another
pub record Distributes {A : Type 0} (P M : Monoid A) : Type 0 where
  pub over_sum : (x y z : A) → M.op x (P.op y z) ≡ P.op (M.op x y) (M.op x z)
  pub over_none : (x : A) → M.op x P.unit ≡ P.unit

pub times_fold : {A X : Type 0} (P M : Monoid A) → Distributes P M → (a : A) (g : X → A) (xs : List X)
    → M.op a (fold P g xs) ≡ fold P (λ x. M.op a (g x)) xs
times_fold P M D a g [] = D.over_none a
times_fold P M D a g (x ∷ xs) = D.over_sum _ _ _ ∙ rw (times_fold P M D a g xs)

pub ALL_ANY : Distributes ALL ANY
ALL_ANY = record { over_sum = or_and; over_none = or-true }
  where
    or_and : (x y z : Bool) → (x || (y && z)) ≡ ((x || y) && (x || z))
    or_and true y z = refl
    or_and false y z = refl

pub SUM_PRODUCT : Distributes SUM PRODUCT
SUM_PRODUCT = record { over_sum = mul-add; over_none = mul-zero }

pub fold_add : {X : Type 0} (f g : X → ℕ) (xs : List X) → fold SUM (λ x. f x + g x) xs ≡ fold SUM f xs + fold SUM g xs
fold_add f g [] = refl
fold_add f g (x ∷ xs) = omega (arith, fold_add f g xs)

-- how many they are, as a sum
pub ones : {X : Type 0} (xs : List X) → fold SUM (λ x. 1) xs ≡ length xs
ones [] = refl
ones (x ∷ xs) = omega (arith, ones xs)

-- ---- Booleans

pub or_elim : {Q : Type 0} (a b : Bool) → (a || b) ≡ true → (a ≡ true → Q) → (b ≡ true → Q) → Q
or_elim true b e f g = f refl
or_elim false b e f g = g e

pub or_left : (a b : Bool) → a ≡ true → (a || b) ≡ true
or_left a b e = rw e

pub or_right : (a b : Bool) → b ≡ true → (a || b) ≡ true
or_right a b e = rw e (or-true a)

pub or_false_both : (a b : Bool) → (a || b) ≡ false → (a ≡ false) × (b ≡ false)
or_false_both true b e = absurd (true≢false e)
or_false_both false b e = (refl, e)

pub and_both : (a b : Bool) → (a && b) ≡ true → (a ≡ true) × (b ≡ true)
and_both true b e = (refl, e)
and_both false b e = absurd (false≢true e)

pub not_so : (b : Bool) → (b ≡ true → ⊥) → b ≡ false
not_so true h = absurd (h refl)
not_so false h = refl

-- ---- each element

pub each : {X : Type 0} (Q Q' : X → Type 0) → ((x : X) → Q x → Q' x) → (xs : List X) → Each Q xs → Each Q' xs
each Q Q' f [] h = tt
each Q Q' f (x ∷ xs) h = (f x h.0, each Q Q' f xs h.1)

pub each_map : {X Y : Type 0} (Q : X → Type 0) (Q' : Y → Type 0) (g : X → Y) → ((x : X) → Q x → Q' (g x)) → (xs : List X) → Each Q xs
    → Each Q' (map g xs)
each_map Q Q' g f [] h = tt
each_map Q Q' g f (x ∷ xs) h = (f x h.0, each_map Q Q' g f xs h.1)

pub each_append : {X : Type 0} (Q : X → Type 0) (xs ys : List X) → Each Q xs → Each Q ys → Each Q (xs ++ ys)
each_append Q [] ys h k = k
each_append Q (x ∷ xs) ys h k = (h.0, each_append Q xs ys h.1 k)

pub each_and : {X : Type 0} (Q Q' : X → Type 0) (xs : List X) → Each Q xs → Each Q' xs → Each (λ x. Q x × Q' x) xs
each_and Q Q' [] h k = tt
each_and Q Q' (x ∷ xs) h k = ((h.0, k.0), each_and Q Q' xs h.1 k.1)

pub each_at : {X : Type 0} (Q : X → Type 0) (xs : List X) (i : ℕ) (d : X) → Each Q xs → i < length xs → Q (get_or xs i d)
each_at Q [] i d h k = absurd (omega arith)
each_at Q (x ∷ xs) zero d h k = h.0
each_at Q (x ∷ xs) (suc i) d h k = each_at Q xs i d h.1 (omega arith)

pub each_found : {X : Type 0} (Q : X → Type 0) (xs : List X) (i : ℕ) (x : X) → Each Q xs → get_elem? xs i ≡ some x → Q x
each_found Q [] i x h e = absurd (none-ne-some x e)
each_found Q (y ∷ xs) zero x h e = let p : y ≡ x = cc in subst Q p h.0
each_found Q (y ∷ xs) (suc i) x h e = each_found Q xs i x h.1 e

pub each_by : {X : Type 0} (Q : X → Type 0) (xs : List X) → ((i : ℕ) (x : X) → get_elem? xs i ≡ some x → Q x) → Each Q xs
each_by Q [] f = tt
each_by Q (x ∷ xs) f = (f 0 x refl, each_by Q xs (λ i. f (suc i)))

pub each_false : {X : Type 0} (Q : X → Type 0) (g : X → Bool) → ((x : X) → g x ≡ false → Q x) → (xs : List X) → fold ANY g xs ≡ false → Each Q xs
each_false Q g f [] e = tt
each_false Q g f (x ∷ xs) e =
    let h = or_false_both (g x) (fold ANY g xs) e in
    (f x h.0, each_false Q g f xs h.1)

-- what is found passes the test
pub found : {X : Type 0} (t : X → Bool) (xs : List X) (y : X) → find t xs ≡ some y → t y ≡ true
found t [] y e = cc
found t (x ∷ xs) y e = go (t x) refl (λ d. found t xs y d) e
  where
    go : (b : Bool) → t x ≡ b → (find t xs ≡ some y → t y ≡ true) → choose b (some x) (find t xs) ≡ some y → t y ≡ true
    go true h k d = let e : x ≡ y = cc in rw (← e) h
    go false h k d = k d
