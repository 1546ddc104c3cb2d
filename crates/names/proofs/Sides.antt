-- The formulas of a side of an accepted question, one after the other, and the whole of it.
-- Assumes nothing.
use mathlib.Core.Path.{◌≡◌, refl, sym, ap, ◌∙◌, subst}
use mathlib.Core.List.{List, [], ◌∷◌, ◌++◌, append_assoc}
use Prim.Native.Nat.{ℕ, zero, suc, ◌+◌, ◌*◌, ◌≤◌, ◌<◌}
use native.Mathlib.Numerals.{add-one}
use native.Mathlib.Omega.{arith}
use Rattle.std.proofs.Common.{add-zero}
use lib.ListN.{length, take, drop, length-append}
use lib.Seq.{slice, slice_empty, take-take, take-add, length-take-le}
use Rattle.calculus.specs.declared.Side.{Side}
use Rattle.calculus.specs.declared.Side.TheVariants.{Left, Right}
use Rattle.calculus.specs.Fold.{fold, SUM, Each}
use Rattle.calculus.specs.Limits.{FORMULAS, CONNECTIVES}
use Rattle.calculus.specs.Syntax.{Formula, Sequent, on_side, over, connectives, size}
use Rattle.calculus.specs.Bytes.{Lettered, Within, encode, encode_all, bytes, bytes_all, question, side_start, start_of}
use Rattle.calculus.specs.Reading.{accepted, reading}
use Rattle.calculus.proofs.Folds.{ones, fold_append}
use Rattle.calculus.proofs.Readings.{accepted_question}
use Rattle.question.specs.Positions.{first_of, formula_at, end_of}
use Rattle.question.proofs.Questions.{place_formulas, place_well}
use Rattle.sequent.specs.declared.Running.{Running}
use Rattle.sequent.specs.View.{view, set_of, sequent_of, letters_of, compounds_of, Masked, Good}
use Rattle.sequent.proofs.Premises.{take_drop}
use Rattle.sequent.proofs.Sets.{members}
use Rattle.question.specs.declared.Ended.{Ended}
use Rattle.sequent.specs.declared.Half.{Half}
use Rattle.names.specs.Loads.{NamesAll, none_yet, Loads, Enters, before}
use Rattle.names.proofs.Entering.{names_split, names_known, names_formulas}

-- ---- the next formula of a side

take_next : (xs : List Formula) (i : ℕ) → i < length xs → take (suc i) xs ≡ take i xs ++ (first_of (drop i xs) ∷ [])
take_next [] i h = absurd (omega arith)
take_next (x ∷ xs) zero h = refl
take_next (x ∷ xs) (suc i) h = ap (λ (l : List Formula). x ∷ l) (take_next xs i (omega arith))

each_next : (Q : Formula → Type 0) (xs : List Formula) (i : ℕ) → i < length xs → Each Q xs → Q (first_of (drop i xs))
each_next Q [] i h a = absurd (omega arith)
each_next Q (x ∷ xs) zero h a = a.0
each_next Q (x ∷ xs) (suc i) h a = each_next Q xs i (omega arith) a.1

sum_next : (f : Formula → ℕ) (xs : List Formula) (i : ℕ) → i < length xs → fold SUM f (take i xs) + f (first_of (drop i xs)) ≤ fold SUM f xs
sum_next f [] i h = absurd (omega arith)
sum_next f (x ∷ xs) zero h = omega arith
sum_next f (x ∷ xs) (suc i) h = omega (arith, sum_next f xs i (omega arith))

bytes_next : (xs : List Formula) (i : ℕ) → i < length xs → bytes_all (take (suc i) xs) ≡ bytes_all (take i xs) + bytes (first_of (drop i xs))
bytes_next [] i h = absurd (omega arith)
bytes_next (x ∷ xs) zero h = omega (arith, length-append (encode x) [])
bytes_next (x ∷ xs) (suc i) h =
    omega (arith, bytes_next xs i (omega arith), length-append (encode x) (encode_all (take (suc i) xs)), length-append (encode x) (encode_all (take i xs)))

-- the formulas before place i of a side
abbrev pub up_to : Side → ℕ → Sequent → List Formula
up_to u i S = before u S ++ take i (on_side u S)

module _ (S : Sequent) (u : Side) (i : ℕ) (h : i < length (on_side u S)) where
  next_sum : (f : Formula → ℕ) → fold SUM f (up_to u i S) + f (first_of (drop i (on_side u S))) ≤ over SUM (λ s. f) S
  next_sum f = go u h
    where
      go : (u : Side) → i < length (on_side u S) → fold SUM f (up_to u i S) + f (first_of (drop i (on_side u S))) ≤ over SUM (λ s. f) S
      go Left h = omega (arith, sum_next f S.on_left i h)
      go Right h = omega (arith, sum_next f S.on_right i h, fold_append SUM f S.on_left (take i S.on_right))

  next_lettered : Within S → Lettered (first_of (drop i (on_side u S)))
  next_lettered w = go u h
    where
      go : (u : Side) → i < length (on_side u S) → Lettered (first_of (drop i (on_side u S)))
      go Left h = each_next Lettered S.on_left i h w.letters_left
      go Right h = each_next Lettered S.on_right i h w.letters_right

whole_size : (S : Sequent) → Within S → size S ≤ 2 * FORMULAS
whole_size S w = omega (arith, ones S.on_left, ones S.on_right, w.lefts, w.rights)

-- ---- a side of an accepted question

-- it has n formulas, and none of them has come
pub record Starts (q T items : List ℕ) (first start n : ℕ) (u : Side) : Type 0 where
  pub read : reading q ≡ accepted
  pub count : n ≡ length (on_side u (question q))
  pub begins : start ≡ side_start u (question q)
  pub loads : Loads T items first (none_yet start) (before u (question q))

-- its first i formulas have come
pub record Filled (q old : List ℕ) (first : ℕ) (u : Side) (T items : List ℕ) (l : Ended Half) (i : ℕ) : Type 0 where
  pub ends : l.end ≡ start_of u i (question q)
  pub loads : Loads T items first l (up_to u i (question q))
  pub kept : take first items ≡ take first old

module _ (q T₀ old : List ℕ) (first start n : ℕ) (u : Side) (s : Starts q T₀ old first start n u) where
  module _ (T items : List ℕ) (l : Ended Half) (i : ℕ) (f : Filled q old first u T items l i) (h : i < n) where
    inside : i < length (on_side u (question q))
    inside = omega (arith, s.count)

    next : formula_at q l.end ≡ first_of (drop i (on_side u (question q)))
    next = rw f.ends (ap first_of (place_formulas q u i (omega (arith, inside))))

    pub filled_enters : Enters q l (up_to u i (question q))
    filled_enters =
        let S = question q in
        let w = (accepted_question q s.read).0 in
        record {
          well = rw f.ends (place_well q s.read u i inside);
          lettered = rw next (next_lettered S u i inside w);
          fits = rw next (omega (arith, next_sum S u i inside connectives, w.connectives));
          room = omega (arith, next_sum S u i inside (λ x. 1), whole_size S w, ones (up_to u i S));
        }

    pub filled_next : (R new : List ℕ) (r : Ended Half) → Loads R new first r (up_to u i (question q) ++ (formula_at q l.end ∷ []))
        → take (first + l.value.count) new ≡ take (first + l.value.count) items → r.end ≡ end_of q l.end → Filled q old first u R new r (i + 1)
    filled_next R new r k t e =
        let S = question q in
        let places = first + l.value.count in
        let m : first ≤ places = omega arith in
        let d : up_to u i S ++ (formula_at q l.end ∷ []) ≡ up_to u (i + 1) S
        = rw (next, add-one i, take_next (on_side u S) i inside) (append_assoc (before u S) (take i (on_side u S)) (first_of (drop i (on_side u S)) ∷ [])) in
        record {
          ends = e ∙ rw (next, f.ends, add-one i) (omega (arith, bytes_next (on_side u S) i inside));
          loads = subst (Loads R new first r) d k;
          kept = sym (take-take first places new m) ∙ ap (take first) t ∙ take-take first places items m ∙ f.kept;
        }

-- ---- both sides

-- once the left side's formulas have come, none of the right side's has
pub right_begins : (S : Sequent) (T items : List ℕ) (l : Ended Half) (start : ℕ) → Loads T items 0 l S.on_left → Loads T items l.value.count (none_yet start) S.on_left
right_begins S T items l start h =
    let n : l.value.count + 0 ≡ 0 + l.value.count = omega arith in
    let e : [] ≡ slice l.value.count (l.value.count + 0) items = rw (add-zero l.value.count) (sym (slice_empty l.value.count items)) in
    record { room = h.room; nodes = h.nodes; few = h.few; count = n ∙ h.count; names = rw n h.names; mask = ap letters_of e; set = ap compounds_of e }

abbrev running : Ended Half → Ended Half → Running
running l r = record { left = l.value; right = r.value }

module _ (S : Sequent) (w : Within S) (R old : List ℕ) (l : Ended Half) (a : Loads R old 0 l S.on_left)
    (T items : List ℕ) (r : Ended Half) (b : Loads T items l.value.count r (S.on_left ++ S.on_right)) (k : take l.value.count items ≡ take l.value.count old) where
  few : length T ≤ CONNECTIVES
  few = omega (arith, b.few, fold_append SUM connectives S.on_left S.on_right, w.connectives)

  none : 0 + l.value.count ≡ l.value.count
  none = omega arith

  room : l.value.count + r.value.count ≤ 2 * FORMULAS
  room = omega (arith, b.count, length-append S.on_left S.on_right, w.lefts, w.rights)

  -- the names of the two sides
  both : NamesAll T (take l.value.count items) S.on_left × NamesAll T (take r.value.count (drop l.value.count items)) S.on_right
  both =
      let lefts = take l.value.count items in
      let rights = take r.value.count (drop l.value.count items) in
      let n : length lefts ≡ length S.on_left = length-take-le l.value.count items (omega (arith, room, b.room)) ∙ omega (arith, a.count) in
      names_split T lefts rights S.on_left S.on_right n (subst (λ (ds : List ℕ). NamesAll T ds (S.on_left ++ S.on_right)) (take-add l.value.count r.value.count items) b.names)

  names : (t : Side) → NamesAll T (on_side t (view (running l r) items)) (on_side t S)
  names Left = both.0
  names Right = both.1

  right_part : slice l.value.count (l.value.count + r.value.count) items ≡ take r.value.count (drop l.value.count items)
  right_part = sym (take_drop l.value.count r.value.count items (omega (arith, room, b.room)))

  masks : Masked (running l r) items
  masks Left = rw none at a.mask ∙ ap letters_of (sym k)
  masks Right = b.mask ∙ ap letters_of right_part

  compounds : (t : Side) → set_of t (running l r) ≡ compounds_of (on_side t (view (running l r) items))
  compounds Left = rw none at a.set ∙ ap compounds_of (sym k)
  compounds Right = b.set ∙ ap compounds_of right_part

  pub all_loaded : Good T items (running l r) × (sequent_of T items (running l r) ≡ S)
  all_loaded =
      let N = view (running l r) items in (
        record {
          nodes = few;
          places = b.room;
          room = omega (arith, room);
          used = length T;
          few = omega arith;
          distinct = b.nodes.distinct;
          known = λ t. names_known T (on_side t N) (on_side t S) (names t);
          masks = masks;
          sets = λ t. rw (compounds t) (members (on_side t N));
        },
        (λ j. record {
          on_left = names_formulas T few N.on_left S.on_left (names Left) j;
          on_right = names_formulas T few N.on_right S.on_right (names Right) j;
        }),
      )
