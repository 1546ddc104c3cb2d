-- The tests at a running sequent, the tree of a question, and what a budget makes of it.
use Rattle.std.specs.Prelude.{Bool, true, false, List, [], ◌∷◌, ◌++◌, ℕ, zero, suc, ◌+◌, ◌-◌, ◌*◌, ◌/◌, ◌%◌, min, eqb}
use Rattle.std.proofs.Math.Option.{Option, none, some}
use Rattle.calculus.specs.declared.Side.{Side}
use Rattle.calculus.specs.declared.Side.TheVariants.{Left, Right}
use Rattle.calculus.specs.declared.Kind.{Kind}
use Rattle.calculus.specs.declared.Kind.TheVariants.{Theorem, Refuted, Spent}
use Rattle.calculus.specs.declared.Outcome.{Outcome}
use Rattle.calculus.specs.declared.Verdict.{Verdict}
use Rattle.calculus.specs.Fold.{fold, ANY, SUM, choose}
use Rattle.calculus.specs.Syntax.{Connective, NOT, two, Compound, Formula, letter, neg, join, Sequent, c}
use Rattle.calculus.specs.Bytes.{same}
use Rattle.calculus.specs.Table.{premises}

-- ---- the tests

abbrev pub letters : List Formula → List ℕ
letters [] = []
letters (letter k ∷ xs) = k ∷ letters xs
letters (neg x ∷ xs) = letters xs
letters (join b x y ∷ xs) = letters xs

abbrev pub among : ℕ → List ℕ → Bool
among k = fold ANY (eqb k)

abbrev pub lower : Bool → ℕ → Option ℕ → Option ℕ
lower false k o = o
lower true k none = some k
lower true k (some m) = some (min k m)

-- the lowest number that stands in both lists
abbrev pub common : List ℕ → List ℕ → Option ℕ
common [] ms = none
common (k ∷ ks) ms = lower (among k ms) k (common ks ms)

-- a place counted from one further left
abbrev pub next : Option ℕ → Option ℕ
next none = none
next (some j) = some (suc j)

-- the first place of a formula equal to x
abbrev pub equal_to : Formula → List Formula → Option ℕ
equal_to x [] = none
equal_to x (y ∷ ys) = choose (same x y) (some 0) (next (equal_to x ys))

-- of x on the left, "a formula with connectives": "the lowest such right place"
abbrev pub partner : Formula → List Formula → Option ℕ
partner (letter k) ys = none
partner (neg x) ys = equal_to (neg x) ys
partner (join b x y) ys = equal_to (join b x y) ys

-- a left place and a right place with equal formulas, if there are such
pub data Twins : Type 0 where
  unlike : Twins
  alike : ℕ → ℕ → Twins

-- what the left formula at place 0 has on the right, else what those after it have
abbrev pub nearest : Option ℕ → Twins → Twins
nearest (some j) t = alike 0 j
nearest none unlike = unlike
nearest none (alike i j) = alike (suc i) j

-- "the lowest left place that has an equal on the right, with the lowest such right place"
abbrev pub twins : List Formula → List Formula → Twins
twins [] ys = unlike
twins (x ∷ xs) ys = nearest (partner x ys) (twins xs ys)

-- the two ways of closing: by a letter, or by equal formulas at a left and a right place
pub data Way : Type 0 where
  lettered : ℕ → Way
  paired : ℕ → ℕ → Way

-- "the letter test comes first"
abbrev pub either : Option ℕ → Twins → Option Way
either (some k) t = some (lettered k)
either none unlike = none
either none (alike i j) = some (paired i j)

-- "if one letter stands on both sides, it is closed": by the lowest such letter; "also if a formula with connectives stands on both sides"
abbrev pub closing : Sequent → Option Way
closing S = either (common (letters S.on_left) (letters S.on_right)) (twins S.on_left S.on_right)

-- by letters alone, as it was before equal formulas closed
abbrev pub closing_by_letter : Sequent → Option Way
closing_by_letter S = either (common (letters S.on_left) (letters S.on_right)) unlike

-- σ with bit k set
abbrev pub light : ℕ → ℕ → ℕ
light zero σ = σ / 2 * 2 + 1
light (suc k) σ = light k (σ / 2) * 2 + σ % 2

-- the state in which just these letters are true
abbrev pub state : List ℕ → ℕ
state [] = 0
state (k ∷ ks) = light k (state ks)

-- the first formula of a side with a connective, and its place
pub data First : Type 0 where
  missing : First
  here : ℕ → Compound → First

abbrev pub later : First → First
later missing = missing
later (here i x) = here (suc i) x

abbrev pub first : List Formula → First
first [] = missing
first (letter k ∷ xs) = later (first xs)
first (neg x ∷ xs) = here 0 (record { connective = NOT; f = x; g = x })
first (join b x y ∷ xs) = here 0 (record { connective = two b; f = x; g = y })

-- what the tests say of a sequent
pub data Step : Type 0 where
  closed : Way → Step
  opened : ℕ → Step
  reduced : Side → ℕ → Compound → Step

-- "in this order": closed; open if no connective is left; else the first formula with a connective, the left side before the right.
-- "Bit k is set exactly if letter k stands on the left of the open sequent."
abbrev pub tests : Sequent → Option Way → First → First → Step
tests S (some w) a b = closed w
tests S none (here i x) b = reduced Left i x
tests S none missing (here i x) = reduced Right i x
tests S none missing missing = opened (state (letters S.on_left))

-- by a closing test: the tests, and further down the tree
abbrev pub step_by : (Sequent → Option Way) → Sequent → Step
step_by t S = tests S (t S) (first S.on_left) (first S.on_right)

abbrev pub step : Sequent → Step
step = step_by closing

-- ---- the tree, in its order: what is done at each sequent, and how it ends

pub data Event : Type 0 where
  close : Way → Event
  reduce : Side → ℕ → Connective → Event

-- the tree's end is never Spent: that is the budget's
pub record Tree : Type 0 where
  pub events : List Event
  pub end : Kind

-- "an open one .. has nothing under it and nothing after it"
abbrev pub follow : List Event → Kind → Tree → Tree
follow es Theorem u = record { events = es ++ u.events; end = u.end }
follow es (Refuted σ) u = record { events = es; end = Refuted σ }
follow es Spent u = record { events = es; end = Spent }

-- "its first premise with all below that, then its second, if any, likewise"
abbrev pub chain : (Sequent → Tree) → List Sequent → Tree
chain r [] = record { events = []; end = Theorem }
chain r (P ∷ Ps) =
    let rest : Tree = chain r Ps in
    follow (r P).events (r P).end rest

-- "the tree's order is the reduced sequent, then these in turn"
abbrev pub under : Event → Tree → Tree
under e t = record { events = e ∷ t.events; end = t.end }

-- "a closed sequent has nothing under it"; "any other is reduced"
abbrev pub grow : (Sequent → Tree) → Sequent → Step → Tree
grow r S (closed w) = record { events = close w ∷ []; end = Theorem }
grow r S (opened σ) = record { events = []; end = Refuted σ }
grow r S (reduced s i x) = under (reduce s i x.connective) (chain r (premises s i x S))

-- where no connective is left: closed, or open
abbrev pub leaf : Sequent → Option Way → Tree
leaf S (some w) = record { events = close w ∷ []; end = Theorem }
leaf S none = record { events = []; end = Refuted (state (letters S.on_left)) }

-- by the number of connectives, of which each reduction takes one away
abbrev pub grow_by : (Sequent → Option Way) → ℕ → Sequent → Tree
grow_by t zero S = leaf S (t S)
grow_by t (suc n) S = grow (λ P. grow_by t n P) S (step_by t S)

-- "the question is its root"
abbrev pub tree_by : (Sequent → Option Way) → Sequent → Tree
tree_by t S = grow_by t (c S) S

abbrev pub tree : Sequent → Tree
tree = tree_by closing

abbrev pub is_reduce : Event → ℕ
is_reduce (close w) = 0
is_reduce (reduce s i k) = 1

abbrev pub is_close : Event → ℕ
is_close (close w) = 1
is_close (reduce s i k) = 0

-- 1 where a sequent is open
abbrev pub open_one : Kind → ℕ
open_one Theorem = 0
open_one (Refuted σ) = 1
open_one Spent = 0

-- those by equal formulas
abbrev pub is_pair : Event → ℕ
is_pair (close (lettered k)) = 0
is_pair (close (paired i j)) = 1
is_pair (reduce s i k) = 0

-- "its reductions are its reduced sequents, its closings its closed ones"
abbrev pub reductions : List Event → ℕ
reductions = fold SUM is_reduce

abbrev pub closings : List Event → ℕ
closings = fold SUM is_close

-- the closings by 42, which are among the closings
abbrev pub pairings : List Event → ℕ
pairings = fold SUM is_pair

-- ---- the budget

abbrev pub one_more : Way → Outcome → Outcome
one_more w o = record { kind = o.kind; unspent = o.unspent; closings = 1 + o.closings; pairings = is_pair (close w) + o.pairings }

-- what ends a run before it closes a sequent
abbrev pub ends : Kind → ℕ → Outcome
ends e b = record { kind = e; unspent = b; closings = 0; pairings = 0 }

-- the tree in its order, as far as the budget goes: "SPENT reports the closings before the tree's reduced sequent number budget + 1"
abbrev pub spend : ℕ → List Event → Kind → Outcome
spend b [] e = ends e b
spend b (close w ∷ es) e = one_more w (spend b es e)
spend zero (reduce s i k ∷ es) e = ends Spent 0
spend (suc b) (reduce s i k ∷ es) e = spend b es e

abbrev pub outcome : ℕ → Sequent → Outcome
outcome b S = spend b (tree S).events (tree S).end

-- the closings before the tree's reduced sequent number b + 1
abbrev pub closings_before : ℕ → List Event → ℕ
closings_before b [] = 0
closings_before b (close w ∷ es) = 1 + closings_before b es
closings_before zero (reduce s i k ∷ es) = 0
closings_before (suc b) (reduce s i k ∷ es) = closings_before b es

-- the verdict under a budget: the kind, "and beside it the two counts"
abbrev pub verdict_of : ℕ → Outcome → Verdict
verdict_of b o = record { kind = o.kind; reductions = b - o.unspent; closings = o.closings }

abbrev pub verdict : ℕ → Sequent → Verdict
verdict b S = verdict_of b (outcome b S)

-- ---- the run, step by step: reductions left go in and come out

-- the inner step: the tests in their order, with the budget's before the reduction
pub data Inner : Type 0 where
  is_closed : Way → Inner
  is_open : ℕ → Inner
  is_spent : Inner
  is_due : Side → ℕ → Compound → Inner

abbrev pub afford : ℕ → Step → Inner
afford b (closed w) = is_closed w
afford b (opened σ) = is_open σ
afford zero (reduced s i x) = is_spent
afford (suc b) (reduced s i x) = is_due s i x

abbrev pub inner : ℕ → Sequent → Inner
inner b S = afford b (step S)

-- "the first premise is finished, then the second is taken up": if it closed, with what it left
abbrev pub and_then : Kind → Outcome → (ℕ → Outcome) → Outcome
and_then Theorem o u =
    let v : Outcome = u o.unspent in
    record { kind = v.kind; unspent = v.unspent; closings = o.closings + v.closings; pairings = o.pairings + v.pairings }
and_then (Refuted σ) o u = o
and_then Spent o u = o

abbrev pub pass : (ℕ → Sequent → Outcome) → ℕ → List Sequent → Outcome
pass r b [] = ends Theorem b
pass r b (P ∷ Ps) = and_then (r b P).kind (r b P) (λ l. pass r l Ps)

abbrev pub act : (ℕ → Sequent → Outcome) → ℕ → Sequent → Inner → Outcome
act r b S (is_closed w) = one_more w (ends Theorem b)
act r b S (is_open σ) = ends (Refuted σ) b
act r b S is_spent = ends Spent b
act r b S (is_due s i x) = pass r (b - 1) (premises s i x S)

-- by the number of connectives; where none is left there is nothing to spend
abbrev pub run_by : ℕ → ℕ → Sequent → Outcome
run_by zero b S =
    let t : Tree = leaf S (closing S) in
    spend b t.events t.end
run_by (suc n) b S = act (λ l P. run_by n l P) b S (inner b S)

abbrev pub run : ℕ → Sequent → Outcome
run b S = run_by (c S) b S
