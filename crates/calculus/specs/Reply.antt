-- "Numbers and places returned": what each call replies for each input, under any limits L and under those of document 01.
use Rattle.std.specs.Prelude.{◌≡◌, Bool, true, false, List, [], ◌∷◌, ◌++◌, ℕ, ◌^◌, ◌<◌, ltb, length, drop}
use Rattle.std.proofs.Math.Option.{Option, none, some}
use Rattle.std.proofs.Math.ListN.{get_elem?}
use Rattle.calculus.specs.declared.Side.{Side}
use Rattle.calculus.specs.declared.Kind.{Kind}
use Rattle.calculus.specs.declared.Kind.TheVariants.{Theorem, Refuted, Spent}
use Rattle.calculus.specs.declared.Part.{Part}
use Rattle.calculus.specs.declared.Verdict.{Verdict}
use Rattle.calculus.specs.declared.ClauseVerdict.{ClauseVerdict}
use Rattle.calculus.specs.declared.ClauseVerdict.TheVariants.{Theorem as theorem, Refuted as refuted}
use Rattle.calculus.specs.Fold.{Each, choose}
use Rattle.calculus.specs.Limits.{Limits, LIMITS, VARIED, SPENT, NOT_PROVED, NO_SPACE, MANY_LETTERS}
use Rattle.calculus.specs.Syntax.{Formula, Sequent, on_side, c}
use Rattle.calculus.specs.Bytes.{encode, bytes, question, start_of}
use Rattle.calculus.specs.Reading.{Reading, accepted, refused, reading_under}
use Rattle.calculus.specs.Tree.{verdict}
use Rattle.calculus.specs.Width.{W}
use Rattle.calculus.specs.Derivation.{derivation, Checked, passes, faulty, checking}
use Rattle.calculus.specs.States.{letters_under, refuting_over}
use Rattle.calculus.specs.Standard.{spelling}
use Rattle.calculus.specs.Clauses.{Profile, outside, clauses, profile, decided}

-- the table's number, 0 where there is none, and what is returned beside it
pub record Reply : Type 0 where
  pub number : ℕ
  pub values : List ℕ

-- "every call that takes a question gives 1 to 7 for a refused one"
abbrev pub if_read : Reading → Reply → Reply
if_read accepted r = r
if_read (refused n at) r = record { number = n; values = at ∷ [] }

-- ---- deciding: theorem with both counts, or refuted with the state and both counts

abbrev pub verdict_reply : Kind → ℕ → ℕ → Reply
verdict_reply Theorem r k = record { number = 0; values = r ∷ k ∷ [] }
verdict_reply (Refuted σ) r k = record { number = 0; values = σ ∷ r ∷ k ∷ [] }
verdict_reply Spent r k = record { number = SPENT; values = r ∷ k ∷ [] }

abbrev pub decide_under : Limits → List ℕ → ℕ → Reply
decide_under L q b =
    let v : Verdict = verdict b (question q) in
    if_read (reading_under L q) (verdict_reply v.kind v.reductions v.closings)

abbrev pub decide_reply : List ℕ → ℕ → Reply
decide_reply = decide_under LIMITS

-- ---- "the width call answers W and c"

abbrev pub width_under : Limits → List ℕ → Reply
width_under L q = if_read (reading_under L q) (record { number = 0; values = W (question q) ∷ c (question q) ∷ [] })

abbrev pub width_reply : List ℕ → Reply
width_reply = width_under LIMITS

-- ---- handing out a formula: a part of the question, empty "if the question is refused or has no such place"

abbrev pub part_of : Side → ℕ → Sequent → Option Formula → Part
part_of s i S none = record { start = 0; count = 0 }
part_of s i S (some x) = record { start = start_of s i S; count = bytes x }

abbrev pub part_if : Reading → Side → ℕ → Sequent → Part
part_if accepted s i S = part_of s i S (get_elem? (on_side s S) i)
part_if (refused n at) s i S = record { start = 0; count = 0 }

abbrev pub formula_under : Limits → List ℕ → Side → ℕ → Part
formula_under L q s i = part_if (reading_under L q) s i (question q)

abbrev pub formula_part : List ℕ → Side → ℕ → Part
formula_part = formula_under LIMITS

-- "that formula's own bytes"
abbrev pub own_bytes : Reading → Option Formula → List ℕ
own_bytes accepted none = []
own_bytes accepted (some x) = encode x
own_bytes (refused n at) o = []

abbrev pub formula_bytes : List ℕ → Side → ℕ → List ℕ
formula_bytes q s i = own_bytes (reading_under LIMITS q) (get_elem? (on_side s (question q)) i)

-- ---- a lent buffer

-- the reply, and the lent buffer after the call
pub record Written : Type 0 where
  pub reply : Reply
  pub buffer : List ℕ

-- a number and what is returned beside it; the buffer "keeps its old content"
abbrev pub unwritten : ℕ → List ℕ → List ℕ → Written
unwritten n vs old = record { reply = record { number = n; values = vs }; buffer = old }

-- xs in its first places if there is room, the rest as it was: the reply is how many they are, then vs; else 11 with how many are needed
abbrev pub fill_out : List ℕ → List ℕ → List ℕ → Written
fill_out xs vs old =
    choose (ltb (length old) (length xs)) (unwritten NO_SPACE (length xs ∷ []) old)
    (record { reply = record { number = 0; values = length xs ∷ vs }; buffer = xs ++ drop (length xs) old })

-- a refused question
abbrev pub if_read_out : Reading → List ℕ → Written → Written
if_read_out accepted old w = w
if_read_out (refused n at) old w = unwritten n (at ∷ []) old

-- ---- writing a derivation: "the writer's order is now 9, 10, 11"

abbrev pub write_out : Kind → ℕ → ℕ → List ℕ → List ℕ → Written
write_out Theorem r k ds old = fill_out ds (r ∷ k ∷ []) old
write_out (Refuted σ) r k ds old = unwritten NOT_PROVED (σ ∷ r ∷ k ∷ []) old
write_out Spent r k ds old = record { reply = verdict_reply Spent r k; buffer = old }

abbrev pub derive_under : Limits → List ℕ → ℕ → List ℕ → Written
derive_under L q b old =
    let v : Verdict = verdict b (question q) in
    if_read_out (reading_under L q) old (write_out v.kind v.reductions v.closings (derivation (question q)) old)

abbrev pub derive : List ℕ → ℕ → List ℕ → Written
derive = derive_under LIMITS

-- ---- checking: "reads the question first"; "answers only that the derivation passes"

abbrev pub checked_reply : Checked → Reply
checked_reply passes = record { number = 0; values = [] }
checked_reply (faulty n at) = record { number = n; values = at ∷ [] }

abbrev pub check_under : Limits → List ℕ → List ℕ → Reply
check_under L q ds = if_read (reading_under L q) (checked_reply (checking (question q) ds))

abbrev pub check_reply : List ℕ → List ℕ → Reply
check_reply = check_under LIMITS

-- ---- listing the refuting states: 12 with the number of different letters, 11 with that of the states "comes after 12"

-- ks are the letters of S
abbrev pub list_out : Bool → List ℕ → Sequent → List ℕ → Written
list_out true ks S old = unwritten MANY_LETTERS (length ks ∷ []) old
list_out false ks S old = fill_out (refuting_over ks S) [] old

abbrev pub list_under : Limits → List ℕ → List ℕ → Written
list_under L q old =
    let ks : List ℕ = letters_under L.letters (question q) in
    if_read_out (reading_under L q) old (list_out (ltb VARIED (length ks)) ks (question q) old)

abbrev pub list_states : List ℕ → List ℕ → Written
list_states = list_under LIMITS

-- ---- writing the standard spelling: "11 with the length needed if that buffer is too short, after the reading refusals"

abbrev pub spell_under : Limits → List ℕ → List ℕ → Written
spell_under L q old = if_read_out (reading_under L q) old (fill_out (spelling (question q)) [] old)

abbrev pub spell : List ℕ → List ℕ → Written
spell = spell_under LIMITS

-- ---- deciding by clauses: 0 for a theorem or 1 for a refuted question, the state, the rounds; "reading refusals come first, then 13, then
-- formula by formula 14 before 15"

abbrev pub decision_reply : ClauseVerdict → Reply
decision_reply (theorem n) = record { number = 0; values = 0 ∷ 0 ∷ n ∷ [] }
decision_reply (refuted σ n) = record { number = 0; values = 1 ∷ σ ∷ n ∷ [] }

abbrev pub profile_reply : Profile → Reply
profile_reply (outside n at) = record { number = n; values = at ∷ [] }
profile_reply (clauses cs) = decision_reply (decided cs)

abbrev pub clauses_under : Limits → List ℕ → Reply
clauses_under L q = if_read (reading_under L q) (profile_reply (profile (question q)))

abbrev pub clauses_reply : List ℕ → Reply
clauses_reply = clauses_under LIMITS

-- ---- wider limits

-- "questions that were accepted have the same verdict and counts" (document 02, d): what each call answers under M is what it
-- answered under L, for every budget, and each state is a number of as many bits as L has letters
pub record Kept (L M : Limits) (q : List ℕ) : Type 0 where
  pub reads : reading_under M q ≡ accepted
  pub decides : (b : ℕ) → decide_under M q b ≡ decide_under L q b
  pub widths : width_under M q ≡ width_under L q
  pub hands_out : (s : Side) (i : ℕ) → formula_under M q s i ≡ formula_under L q s i
  pub derives : (b : ℕ) (old : List ℕ) → derive_under M q b old ≡ derive_under L q b old
  pub checks : (ds : List ℕ) → check_under M q ds ≡ check_under L q ds
  pub lists : (old : List ℕ) → list_under M q old ≡ list_under L q old
  pub spells : (old : List ℕ) → spell_under M q old ≡ spell_under L q old
  pub settles : clauses_under M q ≡ clauses_under L q
  pub state : (b σ : ℕ) → (verdict b (question q)).kind ≡ Refuted σ → σ < 2 ^ L.letters
  pub states : Each (λ σ. σ < 2 ^ L.letters) (refuting_over (letters_under M.letters (question q)) (question q))
