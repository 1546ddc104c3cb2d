-- What a row of the constant table says.
use Rattle.std.specs.Prelude.{List, [], ◌∷◌, ◌++◌, map}
use Rattle.calculus.specs.declared.Side.{Side}
use Rattle.calculus.specs.declared.Side.TheVariants.{Left, Right}
use Rattle.calculus.specs.declared.Pair.{Pair}
use Rattle.calculus.specs.Syntax.{side_of, Connective, Seq}
use Rattle.calculus.specs.Table.{Part, F, G, Put, L, R, table, on}
use Rattle.sequent.specs.declared.Which.{Which}
use Rattle.sequent.specs.declared.Which.TheVariants.{Neither, First, Second, Both}

abbrev pub Placing : Type 0
Placing = Pair Which

-- which parts a list names: `Both` for a list of two, of which the table has but F and then G
abbrev pub which : List Part → Which
which [] = Neither
which (F ∷ []) = First
which (G ∷ []) = Second
which (x ∷ y ∷ ps) = Both

abbrev pub placing : List (Put Part) → Placing
placing ps = record { left = which (on Left ps); right = which (on Right ps) }

-- the rule of a connective on a side: which parts each premise of its row of the table puts on each side
abbrev pub rule_of : Connective → Side → List Placing
rule_of k s = map placing (table k s)

-- those of x and y that are named, x before y
abbrev pub pick : {X : Type 0} → Which → X → X → List X
pick Neither x y = []
pick First x y = x ∷ []
pick Second x y = y ∷ []
pick Both x y = x ∷ y ∷ []

-- the parts that a premise puts on a side
abbrev pub parts_on : {X : Type 0} → Side → Placing → X → X → List X
parts_on s p x y = pick (side_of p s) x y

abbrev pub premise_of : Placing → Seq Part
premise_of p = record { on_left = parts_on Left p F G; on_right = parts_on Right p F G }

abbrev pub premises_of : List Placing → List (Seq Part)
premises_of = map premise_of

-- a row of document 01's table, side by side
abbrev pub sided : {X : Type 0} → List (Put X) → Seq X
sided ps = record { on_left = on Left ps; on_right = on Right ps }

-- a premise's parts, each on its side
abbrev pub placed : {X : Type 0} → Placing → X → X → List (Put X)
placed p x y = map (λ z. L z) (parts_on Left p x y) ++ map (λ z. R z) (parts_on Right p x y)
