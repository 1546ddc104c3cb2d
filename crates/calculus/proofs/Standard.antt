-- The standard spelling: a side arranged has the same formulas, each once, ascending by their bytes, and is the only such list. So two
-- questions spell alike exactly if each side has the same set of formulas; what is accepted, and true, stays so.
-- Assumes nothing.
use mathlib.Core.Path.{◌≡◌, refl, sym, ap, ◌∙◌, fun_ext}
use mathlib.Core.Logic.{◌↔◌}
use mathlib.Core.Bool.{Bool, true, false, not, ◌||◌, or_assoc, or_self, false≢true}
use mathlib.Core.List.{List, [], ◌∷◌, ◌++◌, map}
use Prim.Native.Nat.{ℕ, ◌+◌, ◌≤◌}
use native.Mathlib.Omega.{arith}
use lib.Dec.{ltb}
use lib.ListN.{length, length-append}
use Rattle.calculus.specs.declared.Side.{Side}
use Rattle.calculus.specs.declared.Side.TheVariants.{Left, Right}
use Rattle.std.specs.declared.cmp.Ordering.{Ordering}
use Rattle.std.specs.declared.cmp.Ordering.TheVariants.{Less, Equal, Greater}
use Rattle.std.specs.Ordering.{ordering_reverse}
use Rattle.std.specs.Cmp.{both_ways, tied_itself}
use Rattle.std.proofs.lemmas.Cmp.{nat_list_cmp_total}
use Rattle.std.proofs.lemmas.Map.Lookups.{exact_bytes}
use Rattle.calculus.specs.Fold.{fold, ANY, SUM, Each}
use Rattle.calculus.specs.Limits.{Limits, VARIED}
use Rattle.calculus.specs.Syntax.{Formula, Sequent, on_side, connectives}
use Rattle.calculus.specs.Bytes.{encode, encode_all, encode_side, encode_sequent, same, bytes, bytes_all, question, LetteredUnder, WithinUnder}
use Rattle.calculus.specs.Reading.{accepted, reading_under}
use Rattle.calculus.specs.Truth.{says, truth, Valid}
use Rattle.calculus.specs.States.{occurs, occurs_in, from, filter, letters_under, states_over, refuting_over}
use Rattle.calculus.specs.Standard.{compare, place, insert, arranged, standard, spelling, stands, SameSets, AscendsByBytes}
use Rattle.calculus.specs.Reply.{fill_out, list_out, list_under}
use Rattle.calculus.proofs.Folds.{left_comm, ones, or_elim, not_so, each}
use Rattle.calculus.proofs.Spelling.{same_eq, same_self, encode_injective, question_encode}
use Rattle.calculus.proofs.Readings.{question_under, exactly_under}

-- ---- bytes compared are ordered: the library's laws

pub compare_turned : (l m : List ℕ) → compare m l ≡ ordering_reverse (compare l m)
compare_turned l m = nat_list_cmp_total.antisymm m l

pub compare_self : (l : List ℕ) → compare l l ≡ Equal
compare_self = tied_itself nat_list_cmp_total

pub compare_equal : (l m : List ℕ) → compare l m ≡ Equal → l ≡ m
compare_equal = exact_bytes

pub compare_less : (l m n : List ℕ) → compare l m ≡ Less → compare m n ≡ Less → compare l n ≡ Less
compare_less = nat_list_cmp_total.trans

-- ---- a formula in its place

-- what stands before and what comes of it, for any elements with bytes
pub map_insert : {X Y : Type 0} (f : X → Y) (spelt : Y → List ℕ) (x : X) (ys : List X) → map f (insert (λ z. spelt (f z)) x ys) ≡ insert spelt (f x) (map f ys)
map_insert f spelt x [] = refl
map_insert {X} {Y} f spelt x (y ∷ ys) = go (compare (spelt (f x)) (spelt (f y))) (map_insert f spelt x ys)
  where
    go : (c : Ordering) → map f (insert (λ z. spelt (f z)) x ys) ≡ insert spelt (f x) (map f ys)
        → map f (place c x y ys (insert (λ z. spelt (f z)) x ys)) ≡ place c (f x) (f y) (map f ys) (insert spelt (f x) (map f ys))
    go Less ih = refl
    go Equal ih = refl
    go Greater ih = ap (λ (l : List Y). f y ∷ l) ih

pub each_insert : {X : Type 0} (Q : X → Type 0) (spelt : X → List ℕ) (x : X) (ys : List X) → Q x → Each Q ys → Each Q (insert spelt x ys)
each_insert Q spelt x [] q h = (q, tt)
each_insert Q spelt x (y ∷ ys) q h = go (compare (spelt x) (spelt y)) (each_insert Q spelt x ys q h.1)
  where
    go : (c : Ordering) → Each Q (insert spelt x ys) → Each Q (place c x y ys (insert spelt x ys))
    go Less ih = (q, h)
    go Equal ih = h
    go Greater ih = (h.0, ih)

-- whatever is asked of any of them
any_insert : (g : Formula → Bool) (x : Formula) (ys : List Formula) → fold ANY g (insert encode x ys) ≡ (g x || fold ANY g ys)
any_insert g x [] = refl
any_insert g x (y ∷ ys) = go (compare (encode x) (encode y)) refl (any_insert g x ys)
  where
    go : (c : Ordering) → compare (encode x) (encode y) ≡ c → fold ANY g (insert encode x ys) ≡ (g x || fold ANY g ys)
        → fold ANY g (place c x y ys (insert encode x ys)) ≡ (g x || (g y || fold ANY g ys))
    go Less e ih = refl
    go Equal e ih = rw (encode_injective x y (compare_equal (encode x) (encode y) e), ← or_assoc (g y) (g y) (fold ANY g ys), or_self (g y))
    go Greater e ih = rw ih (left_comm ANY (g y) (g x) (fold ANY g ys))

pub any_arranged : (g : Formula → Bool) (xs : List Formula) → fold ANY g (arranged xs) ≡ fold ANY g xs
any_arranged g [] = refl
any_arranged g (x ∷ xs) = any_insert g x (arranged xs) ∙ rw (any_arranged g xs)

-- whatever is added up over them
sum_insert : (f : Formula → ℕ) (x : Formula) (ys : List Formula) → fold SUM f (insert encode x ys) ≤ f x + fold SUM f ys
sum_insert f x [] = omega arith
sum_insert f x (y ∷ ys) = go (compare (encode x) (encode y)) (sum_insert f x ys)
  where
    go : (c : Ordering) → fold SUM f (insert encode x ys) ≤ f x + fold SUM f ys → fold SUM f (place c x y ys (insert encode x ys)) ≤ f x + (f y + fold SUM f ys)
    go Less ih = omega arith
    go Equal ih = omega arith
    go Greater ih = omega arith

pub sum_arranged : (f : Formula → ℕ) (xs : List Formula) → fold SUM f (arranged xs) ≤ fold SUM f xs
sum_arranged f [] = omega arith
sum_arranged f (x ∷ xs) = omega (arith, sum_insert f x (arranged xs), sum_arranged f xs)

each_arranged : (Q : Formula → Type 0) (xs : List Formula) → Each Q xs → Each Q (arranged xs)
each_arranged Q [] h = tt
each_arranged Q (x ∷ xs) h = each_insert Q encode x (arranged xs) h.0 (each_arranged Q xs h.1)

-- ---- ascending

ascends_insert : (x : Formula) (ys : List Formula) → AscendsByBytes ys → AscendsByBytes (insert encode x ys)
ascends_insert x [] h = (tt, tt)
ascends_insert x (y ∷ ys) h = go (compare (encode x) (encode y)) refl (ascends_insert x ys h.1)
  where
    go : (c : Ordering) → compare (encode x) (encode y) ≡ c → AscendsByBytes (insert encode x ys) → AscendsByBytes (place c x y ys (insert encode x ys))
    go Less e ih = ((e, each (λ z. compare (encode y) (encode z) ≡ Less) (λ z. compare (encode x) (encode z) ≡ Less) (λ z l. compare_less (encode x) (encode y) (encode z) e l) ys h.0), h)
    go Equal e ih = h
    go Greater e ih = (each_insert (λ z. compare (encode y) (encode z) ≡ Less) encode x ys (compare_turned (encode x) (encode y) ∙ rw e) h.0, ih)

pub ascends_arranged : (xs : List Formula) → AscendsByBytes (arranged xs)
ascends_arranged [] = tt
ascends_arranged (x ∷ xs) = ascends_insert x (arranged xs) (ascends_arranged xs)

-- ---- the only list that ascends and has these formulas

stands_each : (Q : Formula → Type 0) (xs : List Formula) (x : Formula) → Each Q xs → stands x xs ≡ true → Q x
stands_each Q [] x h e = absurd (false≢true e)
stands_each Q (y ∷ ys) x h e = or_elim (same x y) (stands x ys) e (λ a. rw (same_eq x y a) h.0) (λ a. stands_each Q ys x h.1 a)

not_behind : (x : Formula) (ys : List Formula) → Each (λ y. compare (encode x) (encode y) ≡ Less) ys → stands x ys ≡ false
not_behind x ys h = not_so (stands x ys) (λ e. let l = stands_each (λ y. compare (encode x) (encode y) ≡ Less) ys x h e in cc (l, compare_self (encode x)))

-- x, below all behind it, does not stand in a list of greater ones
not_there : (x y : Formula) (ys : List Formula) → compare (encode x) (encode y) ≡ Less → Each (λ z. compare (encode y) (encode z) ≡ Less) ys → stands x (y ∷ ys) ≡ false
not_there x y ys e h = not_behind x (y ∷ ys) (e, each (λ z. compare (encode y) (encode z) ≡ Less) (λ z. compare (encode x) (encode z) ≡ Less) (λ z l. compare_less (encode x) (encode y) (encode z) e l) ys h)

here : (x : Formula) (xs : List Formula) → stands x (x ∷ xs) ≡ true
here x xs = rw (same_self x)

behind : (x z : Formula) (xs ys : List Formula) → stands x xs ≡ false → stands x ys ≡ false → stands z (x ∷ xs) ≡ stands z (x ∷ ys) → stands z xs ≡ stands z ys
behind x z xs ys e f h = go (same z x) refl h
  where
    go : (b : Bool) → same z x ≡ b → (b || stands z xs) ≡ (b || stands z ys) → stands z xs ≡ stands z ys
    go true s h = let t = same_eq z x s in rw (t, e, f)
    go false s h = h

pub only : (xs ys : List Formula) → AscendsByBytes xs → AscendsByBytes ys → ((z : Formula) → stands z xs ≡ stands z ys) → xs ≡ ys
only [] [] a b h = refl
only [] (y ∷ ys) a b h = absurd (false≢true (h y ∙ here y ys))
only (x ∷ xs) [] a b h = absurd (false≢true (sym (h x) ∙ here x xs))
only (x ∷ xs) (y ∷ ys) a b h = go (compare (encode x) (encode y)) refl (only xs ys a.1 b.1)
  where
    go : (c : Ordering) → compare (encode x) (encode y) ≡ c → (((z : Formula) → stands z xs ≡ stands z ys) → xs ≡ ys) → x ∷ xs ≡ y ∷ ys
    go Less e ih = absurd (false≢true (sym (not_there x y ys e b.0) ∙ (sym (h x) ∙ here x xs)))
    go Greater e ih = absurd (false≢true (sym (not_there y x xs (compare_turned (encode x) (encode y) ∙ rw e) a.0) ∙ (h y ∙ here y ys)))
    go Equal e ih =
        let s : x ≡ y = encode_injective x y (compare_equal (encode x) (encode y) e) in
        let k : (z : Formula) → stands z (x ∷ xs) ≡ stands z (x ∷ ys) = λ z. h z ∙ ap (λ (w : Formula). stands z (w ∷ ys)) (sym s) in
        let t : xs ≡ ys = ih (λ z. behind x z xs ys (not_behind x xs a.0) (rw (← s) at (not_behind y ys b.0)) (k z)) in
        rw (s, t)

-- formulas read one by one
pub arranged_more : (xs : List Formula) (x : Formula) → arranged (xs ++ (x ∷ [])) ≡ insert encode x (arranged xs)
arranged_more xs x =
    only (arranged (xs ++ (x ∷ []))) (insert encode x (arranged xs)) (ascends_arranged (xs ++ (x ∷ []))) (ascends_insert x (arranged xs) (ascends_arranged xs))
    (λ z. any_arranged (same z) (xs ++ (x ∷ [])) ∙ (last z xs ∙ sym (any_insert (same z) x (arranged xs) ∙ rw (any_arranged (same z) xs))))
  where
    last : (z : Formula) (ys : List Formula) → stands z (ys ++ (x ∷ [])) ≡ (same z x || stands z ys)
    last z [] = refl
    last z (y ∷ ys) = rw (last z ys) (left_comm ANY (same z y) (same z x) (stands z ys))

-- ---- both sides

iff_equal : (a b : Bool) → (a ≡ true) ↔ (b ≡ true) → a ≡ b
iff_equal a b h = both_ways a b h.0 h.1

equal_iff : (a b : Bool) → a ≡ b → (a ≡ true) ↔ (b ≡ true)
equal_iff a b e = (λ h. sym e ∙ h, λ h. e ∙ h)

sides : (S T : Sequent) → ((s : Side) → on_side s S ≡ on_side s T) → S ≡ T
sides S T h = λ i. record { on_left = h Left i; on_right = h Right i }

arranged_side : (s : Side) (S : Sequent) → on_side s (standard S) ≡ arranged (on_side s S)
arranged_side Left S = refl
arranged_side Right S = refl

-- each side ascends, and has the same set of formulas
pub standard_ascends : (S : Sequent) (s : Side) → AscendsByBytes (on_side s (standard S))
standard_ascends S s = rw (arranged_side s S) (ascends_arranged (on_side s S))

pub standard_sets : (S : Sequent) → SameSets (standard S) S
standard_sets S s x = equal_iff _ _ (rw (arranged_side s S) (any_arranged (same x) (on_side s S)))

-- and it is the only question so arranged
pub standard_only : (S T : Sequent) → ((s : Side) → AscendsByBytes (on_side s T)) → SameSets T S → T ≡ standard S
standard_only S T a h =
    sides T (standard S) (λ s. only (on_side s T) (on_side s (standard S)) (a s) (standard_ascends S s)
    (λ z. iff_equal _ _ (h s z) ∙ sym (iff_equal _ _ (standard_sets S s z))))

-- "truth in every state is kept"
pub standard_truth : (S : Sequent) (σ : ℕ) → truth σ (standard S) ≡ truth σ S
standard_truth S σ = rw (any_arranged (says σ Left) S.on_left, any_arranged (says σ Right) S.on_right)

pub standard_valid : (S : Sequent) → Valid (standard S) ↔ Valid S
standard_valid S = (λ h σ. sym (standard_truth S σ) ∙ h σ, λ h σ. standard_truth S σ ∙ h σ)

-- so do the letters, and the refuting states over them
standard_occurs : (S : Sequent) (k : ℕ) → occurs_in k (standard S) ≡ occurs_in k S
standard_occurs S k = rw (any_arranged (occurs k) S.on_left, any_arranged (occurs k) S.on_right)

pub standard_letters : (S : Sequent) (n : ℕ) → letters_under n (standard S) ≡ letters_under n S
unfolding letters_under
standard_letters S n = ap (λ (t : ℕ → Bool). filter t (from 0 n)) (fun_ext (λ k. standard_occurs S k))

pub standard_refuting : (S : Sequent) (ks : List ℕ) → refuting_over ks (standard S) ≡ refuting_over ks S
standard_refuting S ks = ap (λ (t : ℕ → Bool). filter t (states_over ks)) (fun_ext (λ σ. ap not (standard_truth S σ)))

-- ---- the spelling

pub spelling_question : (S : Sequent) → question (spelling S) ≡ standard S
spelling_question S = question_encode (standard S)

-- "the spelling of a spelling is itself"
pub spelling_itself : (S : Sequent) → spelling (question (spelling S)) ≡ spelling S
spelling_itself S =
    ap encode_sequent (ap standard (spelling_question S) ∙ sym (standard_only (standard S) (standard S) (standard_ascends S) (λ s x. (λ h. h, λ h. h))))

-- "the same spelling exactly if each side has the same set of formulas"
pub spelling_alike : (S T : Sequent) → (spelling S ≡ spelling T) ↔ SameSets S T
spelling_alike S T = (there, back)
  where
    there : spelling S ≡ spelling T → SameSets S T
    there e s x =
        let k : standard S ≡ standard T = sym (spelling_question S) ∙ (ap question e ∙ spelling_question T) in
        let a = iff_equal _ _ (standard_sets S s x) in
        let b = iff_equal _ _ (standard_sets T s x) in
        equal_iff _ _ (sym a ∙ (ap (λ (U : Sequent). stands x (on_side s U)) k ∙ b))

    back : SameSets S T → spelling S ≡ spelling T
    back h =
        ap encode_sequent
        (standard_only T (standard S) (standard_ascends S) (λ s x. equal_iff _ _ (iff_equal _ _ (standard_sets S s x) ∙ iff_equal _ _ (h s x))))

-- ---- it is accepted, and never longer

bytes_all_sum : (xs : List Formula) → bytes_all xs ≡ fold SUM bytes xs
bytes_all_sum [] = refl
bytes_all_sum (x ∷ xs) = omega (arith, bytes_all_sum xs, length-append (encode x) (encode_all xs))

fewer : (xs : List Formula) → length (arranged xs) ≤ length xs
fewer xs = omega (arith, ones xs, ones (arranged xs), sum_arranged (λ x. 1) xs)

shorter : (xs : List Formula) → bytes_all (arranged xs) ≤ bytes_all xs
shorter xs = omega (arith, bytes_all_sum xs, bytes_all_sum (arranged xs), sum_arranged bytes xs)

pub spelling_shorter : (S : Sequent) → length (spelling S) ≤ length (encode_sequent S)
spelling_shorter S =
    omega (
      arith,
      shorter S.on_left,
      shorter S.on_right,
      length-append (encode_side Left S.on_left) (encode_side Right S.on_right),
      length-append (encode_side Left (arranged S.on_left)) (encode_side Right (arranged S.on_right)),
    )

module _ (L : Limits) where
  standard_within : (S : Sequent) → WithinUnder L S → WithinUnder L (standard S)
  standard_within S w =
      record {
        lefts = omega (arith, w.lefts, fewer S.on_left);
        rights = omega (arith, w.rights, fewer S.on_right);
        connectives = omega (arith, w.connectives, sum_arranged connectives S.on_left, sum_arranged connectives S.on_right);
        letters_left = each_arranged (LetteredUnder L.letters) S.on_left w.letters_left;
        letters_right = each_arranged (LetteredUnder L.letters) S.on_right w.letters_right;
      }

  pub spelling_accepted : (q : List ℕ) → reading_under L q ≡ accepted → (reading_under L (spelling (question q)) ≡ accepted) × (length (spelling (question q)) ≤ length q)
  spelling_accepted q e =
      let r = question_under L q e in
      let n : length (spelling (question q)) ≤ length q = omega (arith, spelling_shorter (question q), ap length r.1) in
      let m = ((exactly_under L q).0 e).0 in
      ((exactly_under L (spelling (question q))).1 (omega (arith, n, m), (standard (question q), standard_within (question q) r.0, refl)), n)

  -- "every studio state that breaks a rule": the list of a spelling is the question's
  pub spelling_lists : (q : List ℕ) → reading_under L q ≡ accepted → (old : List ℕ) → list_under L (spelling (question q)) old ≡ list_under L q old
  spelling_lists q e old =
      let S = question q in
      let k = standard_letters S L.letters in
      rw ((spelling_accepted q e).0, e, spelling_question S, k) (go (ltb VARIED (length (letters_under L.letters S))))
    where
      go : (b : Bool) → list_out b (letters_under L.letters (question q)) (standard (question q)) old ≡ list_out b (letters_under L.letters (question q)) (question q) old
      go true = refl
      go false = ap (λ (σs : List ℕ). fill_out σs [] old) (standard_refuting (question q) (letters_under L.letters (question q)))
