-- "The house rules as clauses" (document 02, f): the profile, the rounds, and what they decide. In the field's words these are Horn clauses
-- decided by unit propagation, and the state of a refuted question is the least model of its left side. A letter is lit in a state if it
-- is true there, and dark if it is false.
use Rattle.std.specs.Prelude.{◌≡◌, ◌≢◌, Bool, true, false, not, ◌&&◌, List, [], ◌∷◌, ◌++◌, ℕ, zero, suc, ◌+◌, ◌<◌, eqb, length}
use Rattle.std.proofs.Math.Option.{Option, none, some}
use Rattle.calculus.specs.declared.Side.TheVariants.{Left, Right}
use Rattle.calculus.specs.declared.Kind.{Kind}
use Rattle.calculus.specs.declared.Kind.TheVariants.{Theorem, Refuted, Spent}
use Rattle.calculus.specs.declared.Settled.{Settled}
use Rattle.calculus.specs.declared.ClauseVerdict.{ClauseVerdict}
use Rattle.calculus.specs.declared.ClauseVerdict.TheVariants.{Theorem as theorem, Refuted as refuted}
use Rattle.calculus.specs.Fold.{fold, ANY, ALL, choose}
use Rattle.calculus.specs.Limits.{RIGHT_FORMULA, NOT_CLAUSE, MANY_POSITIVE}
use Rattle.calculus.specs.Syntax.{Binary, AND, OR, IMPLIES, EQUIV, Formula, letter, neg, join, Sequent}
use Rattle.calculus.specs.Bytes.{bytes, side_start}
use Rattle.calculus.specs.Truth.{bit, truth, Valid}
use Rattle.calculus.specs.Tree.{light}

-- ---- the profile

-- a clause: its letters under NOT, and its letters without NOT, by occurrence
pub record Clause : Type 0 where
  pub negative : List ℕ
  pub positive : List ℕ

-- "OR of such formulas"
abbrev pub both : Option Clause → Option Clause → Option Clause
both none d = none
both (some a) none = none
both (some a) (some b) = some (record { negative = a.negative ++ b.negative; positive = a.positive ++ b.positive })

abbrev pub joined_by : Binary → Option Clause → Option Clause → Option Clause
joined_by AND c d = none
joined_by OR c d = both c d
joined_by IMPLIES c d = none
joined_by EQUIV c d = none

-- "NOT of a letter"
abbrev pub not_of : Formula → Option Clause
not_of (letter k) = some (record { negative = k ∷ []; positive = [] })
not_of (neg x) = none
not_of (join b x y) = none

-- the clause of a formula "built from letters, NOT of a letter and OR alone"
abbrev pub clause_of : Formula → Option Clause
clause_of (letter k) = some (record { negative = []; positive = k ∷ [] })
clause_of (neg x) = not_of x
clause_of (join b x y) = joined_by b (clause_of x) (clause_of y)

-- "two or more", "counted by occurrence"
abbrev pub several : List ℕ → Bool
several [] = false
several (k ∷ []) = false
several (k ∷ m ∷ ks) = true

-- "at most one letter that stands without NOT"
abbrev pub Single : Clause → Type 0
Single c = several c.positive ≡ false

-- a refusal's number and place, or the clauses
pub data Profile : Type 0 where
  outside : ℕ → ℕ → Profile
  clauses : List Clause → Profile

abbrev pub prepend : Clause → Profile → Profile
prepend c (outside n at) = outside n at
prepend c (clauses cs) = clauses (c ∷ cs)

-- "14 before 15"
abbrev pub admit : ℕ → Option Clause → Profile → Profile
admit at none later = outside NOT_CLAUSE at
admit at (some c) later = choose (several c.positive) (outside MANY_POSITIVE at) (prepend c later)

-- "formula by formula", "with the place of the formula's first byte"
abbrev pub profile_from : ℕ → List Formula → Profile
profile_from at [] = clauses []
profile_from at (x ∷ xs) = admit at (clause_of x) (profile_from (at + bytes x) xs)

-- "13, the right side has a formula, place of the first one's first byte"
abbrev pub profile_by : List Formula → Sequent → Profile
profile_by [] S = profile_from (side_start Left S) S.on_left
profile_by (y ∷ ys) S = outside RIGHT_FORMULA (side_start Right S)

abbrev pub profile : Sequent → Profile
profile S = profile_by S.on_right S

-- ---- rounds

-- the clause's letters under NOT are all lit
abbrev pub met : ℕ → Clause → Bool
met σ c = fold ALL (λ k. bit k σ) c.negative

-- the letters without NOT of the clauses that are met
abbrev pub fired : ℕ → List Clause → List ℕ
fired σ [] = []
fired σ (c ∷ cs) = choose (met σ c) (c.positive ++ fired σ cs) (fired σ cs)

-- a state with letters lit
abbrev pub light_all : List ℕ → ℕ → ℕ
light_all [] σ = σ
light_all (k ∷ ks) σ = light_all ks (light k σ)

-- "a round lights every dark lamp that is the letter without NOT of a clause whose lamps under NOT are all lit when the round starts"
abbrev pub round : List Clause → ℕ → ℕ
round cs σ = light_all (fired σ cs) σ

abbrev pub one_more : Settled → Settled
one_more s = record { state = s.state; rounds = suc s.rounds }

-- "rounds go on until one lights none": whether the round from σ to τ does, and what comes of those from τ on
abbrev pub until : Bool → ℕ → ℕ → (ℕ → Settled) → Settled
until true σ τ s = record { state = σ; rounds = 0 }
until false σ τ s = one_more (s τ)

-- at most n rounds
abbrev pub rounds_by : ℕ → List Clause → ℕ → Settled
rounds_by zero cs σ = record { state = σ; rounds = 0 }
rounds_by (suc n) cs σ = until (eqb (round cs σ) σ) σ (round cs σ) (λ τ. rounds_by n cs τ)

-- "all lamps start dark": the state in which the rounds end, and "the number of rounds that lit a lamp". A round that lights a letter takes
-- it from a clause that lit none before, so as many rounds as there are clauses suffice (the law `settled_ends`).
abbrev pub settled : List Clause → Settled
settled cs = rounds_by (length cs) cs 0

-- ---- what is decided

-- the clause is false
abbrev pub fails : ℕ → Clause → Bool
fails σ c = met σ c && not (fold ANY (λ k. bit k σ) c.positive)

-- a theorem, or refuted with the state
abbrev pub judge : Bool → Settled → ClauseVerdict
judge true s = theorem s.rounds
judge false s = refuted s.state s.rounds

-- "then the question is a theorem exactly if some clause is false"
abbrev pub judged : List Clause → Settled → ClauseVerdict
judged cs s = judge (fold ANY (fails s.state) cs) s

abbrev pub decided : List Clause → ClauseVerdict
decided cs = judged cs (settled cs)

-- ---- what the laws say of it

-- "each lamp lit in it is lit in" the other
abbrev pub Below : ℕ → ℕ → Type 0
Below σ ρ = (k : ℕ) → bit k σ ≡ true → bit k ρ ≡ true

-- "the least one": a refuting state below "every refuting state"
pub record Least (σ : ℕ) (S : Sequent) : Type 0 where
  pub refutes : truth σ S ≡ false
  pub below : (ρ : ℕ) → truth ρ S ≡ false → Below σ ρ

abbrev pub is_theorem : ClauseVerdict → Bool
is_theorem (theorem n) = true
is_theorem (refuted σ n) = false

abbrev pub rounds_of : ClauseVerdict → ℕ
rounds_of (theorem n) = n
rounds_of (refuted σ n) = n

-- a theorem is true in every state, and a state returned is the least one
abbrev pub Correct : Sequent → ClauseVerdict → Type 0
Correct S (theorem n) = Valid S
Correct S (refuted σ n) = Least σ S

-- "the verdict agrees with the prover's unless its run ends SPENT"; the state that the prover finds is above
abbrev pub Agrees : ClauseVerdict → Kind → Type 0
Agrees (theorem n) Theorem = Unit {0}
Agrees (theorem n) (Refuted ρ) = ⊥
Agrees (theorem n) Spent = Unit {0}
Agrees (refuted σ n) Theorem = ⊥
Agrees (refuted σ n) (Refuted ρ) = Below σ ρ
Agrees (refuted σ n) Spent = Unit {0}

-- the state after n rounds
abbrev pub after : ℕ → List Clause → ℕ → ℕ
after zero cs σ = σ
after (suc n) cs σ = after n cs (round cs σ)

-- what `settled` is, without a bound on the rounds: the first state from which a round lights none
pub record Ends (cs : List Clause) (s : Settled) : Type 0 where
  pub reached : s.state ≡ after s.rounds cs 0
  pub lights : (n : ℕ) → n < s.rounds → round cs (after n cs 0) ≢ after n cs 0
  pub still : round cs s.state ≡ s.state
