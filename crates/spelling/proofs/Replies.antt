-- What the call answers, and what holds of the spelling.
-- Assumes nothing.
use mathlib.Core.Path.{◌≡◌, sym, ap, ◌∙◌, subst}
use mathlib.Core.Logic.{◌↔◌}
use mathlib.Core.List.{List, [], ◌∷◌, ◌++◌, map, append_assoc, append-nil}
use Prim.Native.Nat.{ℕ, ◌+◌, ◌-◌, ◌≤◌, ◌<◌}
use native.Mathlib.Omega.{arith}
use lib.ListN.{length, take, drop, length-append, length-drop, length-map}
use borrow.Rule.Slice.PartMut.{mid_of, put_mid, post_of}
use Rattle.std.proofs.Common.{Bor, drop-drop}
use Rattle.std.specs.Prelude.{sum_by, Result, Ok, Err, MatchResult, IsErrAnd, IfOk}
use Rattle.std.specs.List.{concat}
use Rattle.std.proofs.lemmas.List.{take_at, drop_at, take_all, drop_all}
use Rattle.calculus.specs.declared.Side.{Side}
use Rattle.calculus.specs.declared.Side.TheVariants.{Left, Right}
use Rattle.calculus.specs.Limits.{LIMITS, LONGEST, NO_SPACE}
use Rattle.calculus.specs.Syntax.{Formula, Sequent, on_side}
use Rattle.calculus.specs.Bytes.{encode, encode_side, bytes_all, question}
use Rattle.calculus.specs.Reading.{accepted, reading}
use Rattle.calculus.specs.Truth.{truth, Valid}
use Rattle.calculus.specs.Standard.{arranged, standard, spelling}
use Rattle.calculus.specs.Reply.{unwritten, fill_out, spell}
use Rattle.calculus.proofs.Readings.{exactly_under}
use Rattle.calculus.proofs.Buffers.{no_room, room}
use Rattle.calculus.proofs.Standard.{standard_ascends, standard_sets, standard_truth, standard_valid, spelling_question, spelling_itself, spelling_alike, spelling_accepted}
use Rattle.question.specs.declared.Question.{Question}
use Rattle.question.specs.declared.Formulas.{Formulas}
use Rattle.spelling.specs.Sides.{side_bytes}
use Rattle.spelling.specs.declared.NotSpelled.{NotSpelled}
use Rattle.spelling.specs.declared.NotSpelled.TheVariants.{NoSpace}
use Rattle.spelling.specs.Answers.{Spells, spelling_of}
use Rattle.spelling.proofs.Writes.{counted, spelled}

pub spells : (q : List ℕ) → reading q ≡ accepted → Spells q (spelling (question q))
spells q a =
    let S = question q in
    let e : standard S ≡ question (spelling S) = sym (spelling_question S) in
    record {
      reads = (spelling_accepted LIMITS q a).0;
      shorter = (spelling_accepted LIMITS q a).1;
      ascends = λ s. rw e at (standard_ascends S s);
      sets = rw e at (standard_sets S);
      truths = λ σ. subst (λ (T : Sequent). truth σ T ≡ truth σ S) e (standard_truth S σ);
      valid = subst (λ (T : Sequent). Valid T ↔ Valid S) e (standard_valid S);
      itself = spelling_itself S;
      alike = λ p b. spelling_alike (question p) S;
    }

-- ---- both sides as they are entered

-- a side's bytes, counted and written
pub side_length : (fs : List (Bor (List ℕ))) (xs : List Formula) → map (λ f. f.now) fs ≡ map encode xs → sum_by (λ f. length f.now) fs ≡ bytes_all xs
side_length fs xs h = counted fs ∙ (ap (λ (ls : List (List ℕ)). length (concat ls)) h ∙ ap length (spelled xs))

pub side_written : (s : Side) (fs : List (Bor (List ℕ))) (xs : List Formula) → map (λ f. f.now) fs ≡ map encode xs
    → side_bytes s fs ≡ encode_side s xs
side_written s fs xs h =
    let n : length fs ≡ length xs = sym (length-map fs (λ f. f.now)) ∙ (ap length h ∙ length-map xs encode) in
    rw (n, h, spelled xs)

-- B written behind A
pub behind : (A B old mid new : List ℕ) (at : ℕ) → length A + length B ≤ length old → at ≡ length A → mid ≡ A ++ drop (length A) old
    → new ≡ B ++ drop (length B) (mid_of at (length mid - at) mid)
    → put_mid at (length mid - at) mid new ≡ (A ++ B) ++ drop (length (A ++ B)) old
behind A B old mid new at r e f g =
    let first : take at mid ≡ A = rw f (take_at A (drop (length A) old) at (sym e)) in
    let part : drop at mid ≡ drop (length A) old = rw f (drop_at A (drop (length A) old) at (sym e)) in
    let whole : mid_of at (length mid - at) mid ≡ drop (length A) old = take_all (length mid - at) (drop at mid) (omega (arith, length-drop at mid)) ∙ part in
    let none : post_of at (length mid - at) mid ≡ [] = drop_all (length mid - at) (drop at mid) (omega (arith, length-drop at mid)) in
    let more : drop (length B) (drop (length A) old) ≡ drop (length (A ++ B)) old = drop-drop (length B) (length A) old ∙ ap (λ (n : ℕ). drop n old) (sym (length-append A B)) in
    let written : new ≡ B ++ drop (length (A ++ B)) old = g ∙ ap (λ (l : List ℕ). B ++ l) (ap (drop (length B)) whole ∙ more) in
    rw (first, none, append-nil new, written) (sym (append_assoc A B (drop (length (A ++ B)) old)))

-- the formulas of an accepted question's sides, arranged
pub record Entered (q : List ℕ) (ls rs : List (Bor (List ℕ))) : Type 0 where
  pub accept : reading q ≡ accepted
  pub lefts : map (λ f. f.now) ls ≡ map encode (arranged (question q).on_left)
  pub rights : map (λ f. f.now) rs ≡ map encode (arranged (question q).on_right)

pub entered : (b : Question) (q : List ℕ) → b.bytes.now ≡ q → (xs ys : Formulas) → (xs.q.bytes ≡ b.bytes) × (xs.side ≡ Left) → (ys.q.bytes ≡ b.bytes) × (ys.side ≡ Right)
    → (ls rs : List (Bor (List ℕ))) {l r : List (List ℕ)}
    → map (λ f. f.now) ls ≡ l → l ≡ map encode (arranged (on_side xs.side (question xs.q.bytes.now)))
    → map (λ f. f.now) rs ≡ r → r ≡ map encode (arranged (on_side ys.side (question ys.q.bytes.now)))
    → Entered q ls rs
entered b q e xs ys i j ls rs l m r n =
    record {
      accept = subst (λ (p : List ℕ). reading p ≡ accepted) e b.accepted;
      lefts = l ∙ (rw (i.0, i.1, e) at m);
      rights = r ∙ (rw (j.0, j.1, e) at n);
    }

-- both sides, counted
pub both_length : (ls rs : List (Bor (List ℕ))) → 4 + sum_by (λ f. length f.now) ls + sum_by (λ f. length f.now) rs ≡ length (side_bytes Left ls ++ side_bytes Right rs)
both_length ls rs = omega (arith, counted ls, counted rs, length-append (side_bytes Left ls) (side_bytes Right rs))

module _ (q : List ℕ) (ls rs : List (Bor (List ℕ))) (s : Entered q ls rs) where
  pub both_spelled : side_bytes Left ls ++ side_bytes Right rs ≡ spelling (question q)
  both_spelled =
      let l = side_written Left ls (arranged (question q).on_left) s.lefts in
      let r = side_written Right rs (arranged (question q).on_right) s.rights in
      ap (λ (bs : List ℕ). bs ++ side_bytes Right rs) l ∙ ap (λ (bs : List ℕ). encode_side Left (arranged (question q).on_left) ++ bs) r

  pub small : 4 + sum_by (λ f. length f.now) ls + sum_by (λ f. length f.now) rs ≤ LONGEST
  small = omega (arith, both_length ls rs, ap length both_spelled, (spelling_accepted LIMITS q s.accept).1, ((exactly_under LIMITS q).0 s.accept).0)

-- the answers, n bytes being both sides'
module _ (q old : List ℕ) (ls rs : List (Bor (List ℕ))) (s : Entered q ls rs) (n : ℕ) (count : n ≡ length (side_bytes Left ls ++ side_bytes Right rs)) where
  filled : spell q old ≡ fill_out (side_bytes Left ls ++ side_bytes Right rs) [] old
  filled =
      let read : spell q old ≡ fill_out (spelling (question q)) [] old = rw s.accept in
      read ∙ ap (λ (bs : List ℕ). fill_out bs [] old) (sym (both_spelled q ls rs s))

  short_answer : length old < n → unwritten NO_SPACE (n ∷ []) old ≡ spell q old
  short_answer l = rw count (sym (filled ∙ no_room (side_bytes Left ls ++ side_bytes Right rs) [] old (rw (← count) l)))

  spelled_answer : n ≤ length old
      → record { reply = record { number = 0; values = n ∷ [] }; buffer = (side_bytes Left ls ++ side_bytes Right rs) ++ drop n old } ≡ spell q old
  spelled_answer l = rw count (sym (filled ∙ room (side_bytes Left ls ++ side_bytes Right rs) [] old (rw (← count) l)))

  spelled_one : (new : List ℕ) → new ≡ (side_bytes Left ls ++ side_bytes Right rs) ++ drop n old → Spells q (take n new)
  spelled_one new e =
      let bs = side_bytes Left ls ++ side_bytes Right rs in
      let t : take n new ≡ spelling (question q) = rw e (take_at bs (drop n old) n (sym count)) ∙ both_spelled q ls rs s in
      rw t (spells q s.accept)

-- what the call answers, by what was written
pub call_answers : (q old new : List ℕ) (ls rs : List (Bor (List ℕ))) → Entered q ls rs → (w : Result ℕ ℕ) (r : Result ℕ NotSpelled)
    → MatchResult w (λ n. (n ≡ length (side_bytes Left ls ++ side_bytes Right rs)) × (n ≤ length old) × (new ≡ (side_bytes Left ls ++ side_bytes Right rs) ++ drop n old))
    (λ n. (n ≡ length (side_bytes Left ls ++ side_bytes Right rs)) × (length old < n) × (new ≡ old))
    → MatchResult w (λ n. r ≡ Ok n) (λ n. IsErrAnd r (λ e. e ≡ NoSpace n))
    → (spelling_of r ≡ (spell q old).reply) × (new ≡ (spell q old).buffer) × IfOk r (λ n. Spells q (take n new))
call_answers q old new ls rs s (Ok n) r h e =
    let a = spelled_answer q old ls rs s n h.0 h.1 in
    rw e (ap (λ v. v.reply) a, h.2 ∙ ap (λ v. v.buffer) a, spelled_one q old ls rs s n h.0 new h.2)
call_answers q old new ls rs s (Err n) (Ok m) h e = absurd e
call_answers q old new ls rs s (Err n) (Err d) h e =
    let a = short_answer q old ls rs s n h.0 h.1 in
    (rw e (ap (λ v. v.reply) a), h.2 ∙ ap (λ v. v.buffer) a, tt)
