-- "The ten reductions as a table".
use Rattle.std.specs.Prelude.{◌≡◌, List, [], ◌∷◌, ◌++◌, map, ℕ, suc, take, drop}
use Rattle.std.proofs.Math.Option.{some}
use Rattle.std.proofs.Math.ListN.{get_elem?}
use Rattle.calculus.specs.declared.Side.{Side}
use Rattle.calculus.specs.declared.Side.TheVariants.{Left, Right}
use Rattle.calculus.specs.Syntax.{AND, OR, IMPLIES, EQUIV, Connective, NOT, two, Compound, whole, Formula, Seq, Sequent, on_side}

pub data Part : Type 0 where
  F G : Part

-- a thing on its side
pub data Put (X : Type 0) : Type 0 where
  L R : X → Put X

-- by connective and side: the premises, and for each premise where the parts go
abbrev pub table : Connective → Side → List (List (Put Part))
table NOT Left = (R F ∷ []) ∷ []
table NOT Right = (L F ∷ []) ∷ []
table (two AND) Left = (L F ∷ L G ∷ []) ∷ []
table (two AND) Right = (R F ∷ []) ∷ (R G ∷ []) ∷ []
table (two OR) Left = (L F ∷ []) ∷ (L G ∷ []) ∷ []
table (two OR) Right = (R F ∷ R G ∷ []) ∷ []
table (two IMPLIES) Left = (L G ∷ []) ∷ (R F ∷ []) ∷ []
table (two IMPLIES) Right = (L F ∷ R G ∷ []) ∷ []
table (two EQUIV) Left = (L F ∷ L G ∷ []) ∷ (R F ∷ R G ∷ []) ∷ []
table (two EQUIV) Right = (L F ∷ R G ∷ []) ∷ (L G ∷ R F ∷ []) ∷ []

-- the parts, filled in
abbrev pub fill : {X : Type 0} → X → X → Put Part → Put X
fill x y (L F) = L x
fill x y (L G) = L y
fill x y (R F) = R x
fill x y (R G) = R y

-- the things that go to a side
abbrev pub on : {X : Type 0} → Side → List (Put X) → List X
on s [] = []
on Left (L x ∷ ps) = x ∷ on Left ps
on Left (R x ∷ ps) = on Left ps
on Right (L x ∷ ps) = on Right ps
on Right (R x ∷ ps) = x ∷ on Right ps

abbrev pub splice : {X : Type 0} → ℕ → List X → List X → List X
splice i new xs = take i xs ++ (new ++ drop (suc i) xs)

-- "a part that keeps its side takes the formula's place, F before G; a part that changes side goes to the end of that side"
abbrev pub premise : {X : Type 0} → Side → ℕ → Seq X → List (Put X) → Seq X
premise Left i S ps = record { on_left = splice i (on Left ps) S.on_left; on_right = S.on_right ++ on Right ps }
premise Right i S ps = record { on_left = S.on_left ++ on Left ps; on_right = splice i (on Right ps) S.on_right }

-- what a compound on a side is replaced by, for each premise
abbrev pub reduct : Side → Compound → List (List (Put Formula))
reduct s x = map (map (fill x.f x.g)) (table x.connective s)

-- S holds x on side s at place i
abbrev pub Holds : Sequent → Side → ℕ → Compound → Type 0
Holds S s i x = get_elem? (on_side s S) i ≡ some (whole x)

-- a reduction turns one running sequent into the next, or into two
abbrev pub premises : Side → ℕ → Compound → Sequent → List Sequent
premises s i x S = map (premise s i S) (reduct s x)
