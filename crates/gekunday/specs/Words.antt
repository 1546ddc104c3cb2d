-- The words that a call for C leaves: document 01's values, in the places of the header; words that are not named are 0.
use Rattle.std.specs.Prelude.{◌≡◌, List, [], ◌∷◌, ℕ, zero, suc, Result, Ok, Err}
use Rattle.calculus.specs.declared.Side.TheVariants.{Left, Right}
use Rattle.calculus.specs.declared.Kind.{Kind}
use Rattle.calculus.specs.declared.Kind.TheVariants.{Theorem, Refuted, Spent}
use Rattle.calculus.specs.declared.Part.{Part}
use Rattle.calculus.specs.declared.Verdict.{Verdict}
use Rattle.calculus.specs.Limits.{SPENT}
use Rattle.calculus.specs.Bytes.{question}
use Rattle.calculus.specs.Reading.{Reading, accepted, refused, reading}
use Rattle.calculus.specs.Tree.{verdict}
use Rattle.calculus.specs.Reply.{Reply, formula_part}
use Rattle.question.specs.declared.Refusal.{Refusal}
use Rattle.question.specs.Answers.{number_of, place_of}
use Rattle.gekunday.specs.declared.Words.{Words}

-- n words, the values first
abbrev pub filled : ℕ → List ℕ → List ℕ
filled zero vs = []
filled (suc n) [] = 0 ∷ filled n []
filled (suc n) (v ∷ vs) = v ∷ filled n vs

-- a reply's number and values
abbrev pub Holds : Reply → Words → Type 0
Holds r w = (w.number ≡ r.number) × (w.values ≡ filled 4 r.values)

-- ---- deciding: whether it is refuted, the state, reductions, closings

abbrev pub kind_number : Kind → ℕ
kind_number Theorem = 0
kind_number (Refuted σ) = 0
kind_number Spent = SPENT

abbrev pub refuted_word : Kind → ℕ
refuted_word Theorem = 0
refuted_word (Refuted σ) = 1
refuted_word Spent = 0

abbrev pub state_word : Kind → ℕ
state_word Theorem = 0
state_word (Refuted σ) = σ
state_word Spent = 0

abbrev pub verdict_words : Verdict → List ℕ
verdict_words v = refuted_word v.kind ∷ state_word v.kind ∷ v.reductions ∷ v.closings ∷ []

-- a verdict's number and words
abbrev pub Tells : Verdict → Words → Type 0
Tells v w = (w.number ≡ kind_number v.kind) × (w.values ≡ verdict_words v)

-- of what is decided, a verdict or a refusal
abbrev pub Decided : Result Verdict Refusal → Words → Type 0
Decided (Ok v) w = Tells v w
Decided (Err r) w = Holds (record { number = number_of r; values = place_of r ∷ [] }) w

abbrev pub read_words : Reading → Verdict → List ℕ
read_words accepted v = verdict_words v
read_words (refused n at) v = filled 4 (at ∷ [])

abbrev pub decide_words : List ℕ → ℕ → List ℕ
decide_words q b = read_words (reading q) (verdict b (question q))

-- ---- handing out a formula: 0 is left, 1 is right

abbrev pub part_words : Part → List ℕ
part_words p = p.start ∷ p.count ∷ []

abbrev pub formula_words : List ℕ → ℕ → ℕ → List ℕ
formula_words q zero i = part_words (formula_part q Left i)
formula_words q (suc zero) i = part_words (formula_part q Right i)
formula_words q (suc (suc n)) i = 0 ∷ 0 ∷ []
