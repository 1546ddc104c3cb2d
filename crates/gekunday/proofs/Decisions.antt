-- The words of what is decided are those of the reply's values. Assumes nothing.
use Rattle.std.proofs.Common.{◌≡◌, refl, sym, ap, ◌∙◌, ℕ, List, [], ◌∷◌, Result, Ok, Err}
use Rattle.calculus.specs.declared.Kind.TheVariants.{Theorem, Refuted, Spent}
use Rattle.calculus.specs.declared.Kind.{Kind}
use Rattle.calculus.specs.declared.Verdict.{Verdict}
use Rattle.calculus.specs.Bytes.{question}
use Rattle.calculus.specs.Reading.{Reading, accepted, refused, reading}
use Rattle.calculus.specs.Tree.{verdict}
use Rattle.calculus.specs.Reply.{Reply, if_read, verdict_reply, decide_reply}
use Rattle.question.specs.declared.Refusal.{Refusal}
use Rattle.prover.specs.Answers.{decision_of}
use Rattle.gekunday.specs.declared.Words.{Words}
use Rattle.gekunday.specs.Words.{filled, refuted_word, state_word, Decided, read_words, decide_words}

-- a place; both counts of a theorem or of a run that came to no verdict; a state and both counts
abbrev pub words_of : List ℕ → List ℕ
words_of [] = []
words_of (at ∷ []) = filled 4 (at ∷ [])
words_of (r ∷ k ∷ []) = 0 ∷ 0 ∷ r ∷ k ∷ []
words_of (σ ∷ r ∷ k ∷ vs) = 1 ∷ σ ∷ r ∷ k ∷ []

kind_words : (k : Kind) (r n : ℕ) → refuted_word k ∷ state_word k ∷ r ∷ n ∷ [] ≡ words_of (verdict_reply k r n).values
kind_words Theorem r n = refl
kind_words (Refuted σ) r n = refl
kind_words Spent r n = refl

answered : (a : Result Verdict Refusal) (w : Words) → Decided a w → w.values ≡ words_of (decision_of a).values
answered (Ok v) w h = h.1 ∙ kind_words v.kind v.reductions v.closings
answered (Err r) w h = h.1

due_words : (d : Reading) (v : Verdict) → read_words d v ≡ words_of (if_read d (verdict_reply v.kind v.reductions v.closings)).values
due_words accepted v = kind_words v.kind v.reductions v.closings
due_words (refused n at) v = refl

pub decided_words : (q : List ℕ) (b : ℕ) (a : Result Verdict Refusal) (w : Words) → Decided a w → decision_of a ≡ decide_reply q b → w.values ≡ decide_words q b
decided_words q b a w h e = answered a w h ∙ ap (λ (r : Reply). words_of r.values) e ∙ sym (due_words (reading q) (verdict b (question q)))
