-- What the checker answers: document 01's reply, and what it says of the question.
-- Assumes nothing.
use mathlib.Core.Path.{◌≡◌, refl, sym, ap, ◌∙◌, subst}
use Rattle.std.specs.Prelude.{Result, Ok, Err}
use mathlib.Core.Logic.{◌↔◌}
use mathlib.Core.List.{List, [], ◌∷◌}
use Prim.Native.Nat.{ℕ, ◌≤◌, ◌<◌}
use native.Mathlib.Omega.{arith}
use lib.ListN.{length, drop, drop_of_length-le, length-drop}
use Rattle.calculus.specs.Limits.{LIMITS, BYTES_AFTER}
use Rattle.calculus.specs.Syntax.{Sequent}
use Rattle.calculus.specs.Bytes.{question}
use Rattle.calculus.specs.Truth.{Valid}
use Rattle.calculus.specs.Reading.{Reading, accepted, refused, reading}
use Rattle.calculus.specs.Derivation.{Derivation, Checked, passes, faulty, check, checking}
use Rattle.calculus.specs.Reply.{Reply, if_read, checked_reply, check_reply}
use Rattle.calculus.proofs.Derivations.{passes_true, passes_exactly}
use Rattle.calculus.specs.Reached.{Reachable}
use Rattle.calculus.proofs.Room.{question_reachable}
use Rattle.question.specs.declared.Refusal.{Refusal}
use Rattle.question.specs.Answers.{number_of, place_of}
use Rattle.sequent.specs.declared.Running.{Running}
use Rattle.sequent.specs.View.{sequent_of, Good}
use Rattle.checker.specs.declared.Fault.{Fault}
use Rattle.checker.specs.declared.Fault.TheVariants.{BytesAfter}
use Rattle.checker.specs.declared.NotPassed.{NotPassed}
use Rattle.checker.specs.declared.NotPassed.TheVariants.{Refused, Faulty}
use Rattle.checker.specs.Answers.{fault_number, fault_place, check_of}
use Rattle.checker.specs.Walks.{Walks}

-- The running sequent of an accepted question, whose lists are lent, is reached from it.
pub root_reached : (q : List ℕ) {T U items xs : List ℕ} {s : Running} → reading q ≡ accepted → Good T items s × (sequent_of T items s ≡ question q) → (U ≡ T) × (xs ≡ items)
    → Good U xs s × Reachable (sequent_of U xs s)
root_reached q e root lent = rw (lent.0, lent.1) (root.0, question_reachable LIMITS q e root.1)

-- Where the reply is that the derivation passes, the question is accepted and the derivation passes.
pass_reply : (q d : List ℕ) → check_of (Ok tt) ≡ check_reply q d → (reading q ≡ accepted) × (checking (question q) d ≡ passes)
pass_reply q d e = go (reading q) refl (checking (question q) d) refl e
  where
    go : (r : Reading) → reading q ≡ r → (k : Checked) → checking (question q) d ≡ k → check_of (Ok tt) ≡ if_read r (checked_reply k)
        → (reading q ≡ accepted) × (checking (question q) d ≡ passes)
    go accepted h passes j i = (h, j)
    go accepted h (faulty n at) j i = absurd (omega (arith, ap (λ (a : Reply). length a.values) i))
    go (refused n at) h k j i = absurd (omega (arith, ap (λ (a : Reply). length a.values) i))

is_passes : (a : Result Unit NotPassed) → check_of a ≡ check_of (Ok tt) → a ≡ Ok tt
is_passes (Err (Refused r)) e = absurd (omega (arith, ap (λ (a : Reply). length a.values) e))
is_passes (Err (Faulty f)) e = absurd (omega (arith, ap (λ (a : Reply). length a.values) e))
is_passes (Ok u) e = refl

-- The answer is the reply; what passes is true in every state, whoever wrote it; and the derivations pass, and nothing else.
abbrev pub Answered : List ℕ → List ℕ → Result Unit NotPassed → Type 0
Answered q d a =
    (check_of a ≡ check_reply q d)
    × ((a ≡ Ok tt → (reading q ≡ accepted) × Valid (question q)) × ((a ≡ Ok tt) ↔ ((reading q ≡ accepted) × Derivation (question q) d)))

answered : (q d : List ℕ) (a : Result Unit NotPassed) → check_of a ≡ check_reply q d → Answered q d a
answered q d a e =
    let k = passes_exactly (question q) d in
    let f : a ≡ Ok tt → (reading q ≡ accepted) × (checking (question q) d ≡ passes) = λ p. pass_reply q d (ap check_of (sym p) ∙ e) in
    (e, (λ p. ((f p).0, passes_true (question q) d (f p).1), (λ p. ((f p).0, k.0 (f p).1), λ h. is_passes a (e ∙ rw (h.0, k.1 h.1)))))

pub answer_refused : (q d : List ℕ) (r : Refusal) → refused (number_of r) (place_of r) ≡ reading q → Answered q d (Err (Refused r))
answer_refused q d r e = answered q d (Err (Refused r)) (ap (λ (x : Reading). if_read x (checked_reply (checking (question q) d))) e)

-- The question is asked, and its running sequent and the lists lent stand for it.
module _ (d : List ℕ) {q asked T U items xs : List ℕ} {s : Running} (reads : accepted ≡ reading q) (bytes : asked ≡ q) (root : Good T items s × (sequent_of T items s ≡ question asked)) (lent : (U ≡ T) × (xs ≡ items)) where
  replied : (k : Checked) → checking (question q) d ≡ k → checked_reply k ≡ check_reply q d
  replied k j = sym (rw (sym reads, j))

  -- a walk from the sequent that they stand for is one from the question's
  from_question : (w : Result ℕ Fault) → Walks d (sequent_of U xs s ∷ []) 0 w → Walks d (question q ∷ []) 0 w
  from_question w = subst (λ (S : Sequent). Walks d (S ∷ []) 0 w) (rw (lent.0, lent.1) root.1 ∙ ap question bytes)

  pub answer_faulty : (f : Fault) → Walks d (sequent_of U xs s ∷ []) 0 (Err f) → Answered q d (Err (Faulty f))
  answer_faulty f w = answered q d (Err (Faulty f)) (replied (faulty (fault_number f) (fault_place f)) (from_question (Err f) w []))

  module _ (n : ℕ) (w : Walks d (sequent_of U xs s ∷ []) 0 (Ok n)) where
    ended : checking (question q) d ≡ check (drop n d) [] n
    ended = (from_question (Ok n) w).1 []

    pub answer_after : n < length d → Answered q d (Err (Faulty (BytesAfter n)))
    answer_after l = answered q d (Err (Faulty (BytesAfter n))) (replied (faulty BYTES_AFTER n) (ended ∙ go (drop n d) (omega (arith, length-drop n d))))
      where
        go : (bs : List ℕ) → 1 ≤ length bs → check bs [] n ≡ faulty BYTES_AFTER n
        go [] k = absurd (omega arith)
        go (b ∷ []) k = refl
        go (b ∷ i ∷ bs) k = refl

    pub answer_passes : length d ≤ n → Answered q d (Ok tt)
    answer_passes l = answered q d (Ok tt) (replied passes (ended ∙ ap (λ (bs : List ℕ). check bs [] n) (drop_of_length-le d {i = n} l)))
