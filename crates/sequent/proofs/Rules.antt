-- The premises that a rule makes of names stand for the premises of the rules, and have as many formulas.
-- Assumes nothing.
use Rattle.std.proofs.Common.{◌≡◌, refl, sym, ap, ◌∙◌, List, [], ◌∷◌, ◌++◌, map, ℕ, arith}
use Rattle.std.proofs.Math.Path.{fun_ext}
use mathlib.Core.List.{map-append}
use Rattle.std.proofs.Math.ListN.{length-map}
use Rattle.calculus.specs.declared.Side.{Side}
use Rattle.calculus.specs.declared.Side.TheVariants.{Left, Right}
use Rattle.calculus.specs.Fold.{fold, SUM}
use Rattle.calculus.specs.Syntax.{Formula, Compound, Seq, size}
use Rattle.calculus.specs.Table.{Part, F, G, Put, L, R, table, fill, on, splice, premise, premises}
use Rattle.calculus.proofs.Folds.{ones, fold_map}
use Rattle.sequent.specs.declared.Which.{Which}
use Rattle.sequent.specs.declared.Which.TheVariants.{Neither, First, Second, Both}
use Rattle.sequent.specs.Rule.{Placing, pick, parts_on, premise_of, premises_of, sided, placed}
use Rattle.sequent.proofs.Lists.{on_left, on_right, map_splice}
use Rattle.sequent.specs.View.{named}

-- ---- a premise by its row

abbrev part : {X : Type 0} → X → X → Part → X
part x y F = x
part x y G = y

abbrev row : {X : Type 0} → Side → ℕ → X → X → Seq X → Seq Part → Seq X
row Left i x y S P = record { on_left = splice i (map (part x y) P.on_left) S.on_left; on_right = S.on_right ++ map (part x y) P.on_right }
row Right i x y S P = record { on_left = S.on_left ++ map (part x y) P.on_left; on_right = splice i (map (part x y) P.on_right) S.on_right }

on_fill : {X : Type 0} (s : Side) (x y : X) (ps : List (Put Part)) → on s (map (fill x y) ps) ≡ map (part x y) (on s ps)
on_fill s x y [] = refl
on_fill Left x y (L F ∷ ps) = rw (on_fill Left x y ps)
on_fill Left x y (L G ∷ ps) = rw (on_fill Left x y ps)
on_fill Left x y (R F ∷ ps) = on_fill Left x y ps
on_fill Left x y (R G ∷ ps) = on_fill Left x y ps
on_fill Right x y (L F ∷ ps) = on_fill Right x y ps
on_fill Right x y (L G ∷ ps) = on_fill Right x y ps
on_fill Right x y (R F ∷ ps) = rw (on_fill Right x y ps)
on_fill Right x y (R G ∷ ps) = rw (on_fill Right x y ps)

part_pick : {X : Type 0} (x y : X) (w : Which) → map (part x y) (pick w F G) ≡ pick w x y
part_pick x y Neither = refl
part_pick x y First = refl
part_pick x y Second = refl
part_pick x y Both = refl

module _ {X : Type 0} (i : ℕ) (x y : X) (S : Seq X) where
  row_fill : (t : Side) (ps : List (Put Part)) → premise t i S (map (fill x y) ps) ≡ row t i x y S (sided ps)
  row_fill Left ps = rw (on_fill Left x y ps, on_fill Right x y ps)
  row_fill Right ps = rw (on_fill Left x y ps, on_fill Right x y ps)

  row_placed : (t : Side) (p : Placing) → premise t i S (placed p x y) ≡ row t i x y S (premise_of p)
  row_placed Left p =
      rw (on_left (parts_on Left p x y) (parts_on Right p x y), on_right (parts_on Left p x y) (parts_on Right p x y), part_pick x y p.left, part_pick x y p.right)
  row_placed Right p =
      rw (on_left (parts_on Left p x y) (parts_on Right p x y), on_right (parts_on Left p x y) (parts_on Right p x y), part_pick x y p.left, part_pick x y p.right)

  module _ {Y : Type 0} (φ : X → Y) where
    part_map : (ps : List Part) → map φ (map (part x y) ps) ≡ map (part (φ x) (φ y)) ps
    part_map [] = refl
    part_map (F ∷ ps) = rw (part_map ps)
    part_map (G ∷ ps) = rw (part_map ps)

    row_map : (t : Side) (P : Seq Part) → named φ (row t i x y S P) ≡ row t i (φ x) (φ y) (named φ S) P
    row_map Left P = rw (map_splice φ i (map (part x y) P.on_left) S.on_left, map-append φ S.on_right (map (part x y) P.on_right), part_map P.on_left, part_map P.on_right)
    row_map Right P = rw (map_splice φ i (map (part x y) P.on_right) S.on_right, map-append φ S.on_left (map (part x y) P.on_left), part_map P.on_left, part_map P.on_right)

-- ---- a rule

pub size_named : {X Y : Type 0} (φ : X → Y) (S : Seq X) → size (named φ S) ≡ size S
size_named φ S =
    omega (arith, ones (map φ S.on_left), ones (map φ S.on_right), length-map S.on_left φ, length-map S.on_right φ, ones S.on_left, ones S.on_right)

module _ (φ : ℕ → Formula) (S : Seq ℕ) (t : Side) (i : ℕ) (f g : ℕ) (x : Compound) (first : φ f ≡ x.f) (second : φ g ≡ x.g) where
  rows_named : (ps : List Placing) → map (λ p. named φ (premise t i S (placed p f g))) ps ≡ map (row t i x.f x.g (named φ S)) (map premise_of ps)
  rows_named [] = refl
  rows_named (p ∷ ps) = rw (row_placed i f g S t p, row_map i f g S φ t (premise_of p), first, second, rows_named ps)

  rows_filled : (rs : List (List (Put Part))) → map (premise t i (named φ S)) (map (map (fill x.f x.g)) rs) ≡ map (row t i x.f x.g (named φ S)) (map sided rs)
  rows_filled [] = refl
  rows_filled (r ∷ rs) = rw (row_fill i x.f x.g (named φ S) t r, rows_filled rs)

  module _ (r : List Placing) (rows : premises_of r ≡ map sided (table x.connective t)) where
    pub rule_premises : map (λ p. named φ (premise t i S (placed p f g))) r ≡ premises t i x (named φ S)
    rule_premises =
        rows_named r ∙ ap (map (row t i x.f x.g (named φ S))) rows ∙ sym (rows_filled (table x.connective t))

    -- the stores of all premises of a rule
    pub rule_stores : fold SUM (λ p. size (premise t i S (placed p f g))) r ≡ fold SUM size (premises t i x (named φ S))
    rule_stores =
        ap (λ (h : Placing → ℕ). fold SUM h r) (fun_ext (λ p. sym (size_named φ (premise t i S (placed p f g)))))
        ∙ sym (fold_map SUM size (λ p. named φ (premise t i S (placed p f g))) r) ∙ ap (fold SUM size) rule_premises
