-- The truth of a sequent in a state of its letters.
use Rattle.std.specs.Prelude.{◌≡◌, Bool, true, false, not, ◌&&◌, ◌||◌, ℕ, zero, suc, ◌/◌, ◌%◌, eqb}
use Rattle.std.specs.Bool.{beq}
use Rattle.calculus.specs.declared.Side.{Side}
use Rattle.calculus.specs.declared.Side.TheVariants.{Left, Right}
use Rattle.calculus.specs.Fold.{ANY, Each}
use Rattle.calculus.specs.Syntax.{Binary, AND, OR, IMPLIES, EQUIV, Formula, letter, neg, join, Sequent, over}

-- bit k of a state: letter k is true ("the lamp is lit")
abbrev pub bit : ℕ → ℕ → Bool
bit zero σ = eqb (σ % 2) 1
bit (suc k) σ = bit k (σ / 2)

abbrev pub meaning : Binary → Bool → Bool → Bool
meaning AND p q = p && q
meaning OR p q = p || q
meaning IMPLIES p q = not p || q
meaning EQUIV p q = beq p q

abbrev pub value : ℕ → Formula → Bool
value σ (letter k) = bit k σ
value σ (neg x) = not (value σ x)
value σ (join b x y) = meaning b (value σ x) (value σ y)

-- what a formula does for the truth of its sequent
abbrev pub says : ℕ → Side → Formula → Bool
says σ Left x = not (value σ x)
says σ Right x = value σ x

-- "it is true in a state if some left formula is false or some right formula is true"
abbrev pub truth : ℕ → Sequent → Bool
truth σ = over ANY (says σ)

-- true in every state
abbrev pub Valid : Sequent → Type 0
Valid S = (σ : ℕ) → truth σ S ≡ true

-- "makes each left formula true and each right one false"
abbrev pub Refutes : ℕ → Sequent → Type 0
Refutes σ S = Each (λ x. value σ x ≡ true) S.on_left × Each (λ x. value σ x ≡ false) S.on_right
