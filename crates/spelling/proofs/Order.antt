-- Bytes put in among others that ascend.
-- Assumes nothing.
use mathlib.Core.Path.{◌≡◌, refl, sym, ap, ◌∙◌}
use mathlib.Core.Bool.{true, false}
use mathlib.Core.List.{List, [], ◌∷◌, ◌++◌, map, map-append}
use Prim.Native.Nat.{ℕ, zero, suc, ◌+◌, ◌-◌, ◌≤◌, ◌<◌}
use native.Mathlib.Omega.{arith}
use lib.ListN.{length, take, drop, get_or, set}
use borrow.Rule.Slice.PartMut.{put_mid, post_of, same_len_mid}
use Rattle.std.proofs.Common.{Bor, append_assoc, append-nil}
use Rattle.std.specs.Prelude.{Some}
use Rattle.std.specs.declared.cmp.Ordering.{Ordering}
use Rattle.std.specs.declared.cmp.Ordering.TheVariants.{Less, Equal, Greater}
use Rattle.std.specs.Ordering.{nat_cmp, is_le, is_some_and, partial_le, MatchOrdering}
use Rattle.std.specs.Cmp.{nat_cmp_is}
use Rattle.std.specs.Cmp.Lexicographic.{slice_partial_cmp, lists_agrees}
use Rattle.std.proofs.lemmas.List.{take-map, drop-map, take_all, length-drop}
use Rattle.std.proofs.Math.ListN.{drop_of_length-le}
use Rattle.std.specs.List.{refill}
use Rattle.calculus.specs.Standard.{compare, place, insert}
use Rattle.calculus.proofs.Standard.{map_insert}

-- what `<=` answers at bytes
pub at_most : (l m : List ℕ) → partial_le (slice_partial_cmp (λ a b. Some (nat_cmp a b))) l m ≡ is_le (compare l m)
at_most l m = ap (is_some_and is_le) (lists_agrees (λ a b. refl) l m)

-- ---- bytes that are equal as far as both go

by_lengths : (m k n : ℕ) (a b : List ℕ) → m ≡ n + length a → k ≡ n + length b → (0 < length a → 0 < length b → ⊥) → MatchOrdering (compare a b) (m < k) (m ≡ k) (k < m)
by_lengths m k n [] [] e f h = omega arith
by_lengths m k n [] (b ∷ ys) e f h = omega arith
by_lengths m k n (a ∷ xs) [] e f h = omega arith
by_lengths m k n (a ∷ xs) (b ∷ ys) e f h = absurd (h (omega arith) (omega arith))

pub compare_ends : (x y : List ℕ) (n : ℕ) → n ≤ length x → n ≤ length y → (n < length x → n < length y → ⊥) → compare (drop n x) (drop n y) ≡ nat_cmp (length x) (length y)
compare_ends x y n h k e =
    let a : length (drop n x) ≡ length x - n = length-drop n x in
    let b : length (drop n y) ≡ length y - n = length-drop n y in
    nat_cmp_is (length x) (length y) _ (by_lengths (length x) (length y) n (drop n x) (drop n y) (omega arith) (omega arith) (λ p q. e (omega arith) (omega arith)))

pub exceeds : (c : Ordering) → is_le c ≡ false → c ≡ Greater
exceeds Less e = cc
exceeds Equal e = cc
exceeds Greater e = refl

pub less_of : (c : Ordering) → is_le c ≡ true → (c ≡ Equal → ⊥) → c ≡ Less
less_of Less e n = refl
less_of Equal e n = absurd (n refl)
less_of Greater e n = cc

pub length_insert : {X : Type 0} (spelt : X → List ℕ) (x : X) (ls : List X) → length (insert spelt x ls) ≤ length ls + 1
length_insert spelt x [] = omega arith
length_insert spelt x (y ∷ ls) = go (compare (spelt x) (spelt y)) (length_insert spelt x ls)
  where
    go : (c : Ordering) → length (insert spelt x ls) ≤ length ls + 1 → length (place c x y ls (insert spelt x ls)) ≤ length (y ∷ ls) + 1
    go Less h = omega arith
    go Equal h = omega arith
    go Greater h = omega arith

-- x exceeds those before place i
module _ {X : Type 0} (spelt : X → List ℕ) (x : X) where
  pub insert_there : (ls : List X) (i : ℕ) (d : X) → i < length ls → ((k : ℕ) → k < i → compare (spelt x) (spelt (get_or ls k d)) ≡ Greater)
      → compare (spelt x) (spelt (get_or ls i d)) ≡ Equal
      → insert spelt x ls ≡ ls
  insert_there [] i d n b e = absurd (omega arith)
  insert_there (l ∷ ls) zero d n b e = rw e
  insert_there (l ∷ ls) (suc i) d n b e = rw (b 0 (omega arith), insert_there ls i d (omega arith) (λ k h. b (suc k) (omega arith)) e)

  pub insert_before : (ls : List X) (i : ℕ) (d : X) → i ≤ length ls → ((k : ℕ) → k < i → compare (spelt x) (spelt (get_or ls k d)) ≡ Greater)
      → (i < length ls → compare (spelt x) (spelt (get_or ls i d)) ≡ Less)
      → insert spelt x ls ≡ take i ls ++ (x ∷ drop i ls)
  insert_before [] zero d n b l = refl
  insert_before [] (suc i) d n b l = absurd (omega arith)
  insert_before (y ∷ ls) zero d n b l = rw (l (omega arith))
  insert_before (y ∷ ls) (suc i) d n b l = rw (b 0 (omega arith), insert_before ls i d (omega arith) (λ k h. b (suc k) (omega arith)) (λ h. l (omega arith)))

pub cut : (ls : List (Bor (List ℕ))) (x : Bor (List ℕ)) (i : ℕ) → map (λ f. f.now) (take i ls ++ (x ∷ drop i ls)) ≡ take i (map (λ f. f.now) ls) ++ (x.now ∷ drop i (map (λ f. f.now) ls))
cut ls x i = map-append (λ f. f.now) (take i ls) (x ∷ drop i ls) ∙ rw (take-map (λ f. f.now) i ls, drop-map (λ f. f.now) i ls) refl

-- x exceeds the formulas before place i
module _ (ls : List (Bor (List ℕ))) (x : Bor (List ℕ)) (i : ℕ) (behind : (k : ℕ) (d : Bor (List ℕ)) → k < i → compare x.now (get_or ls k d).now ≡ Greater) (d : Bor (List ℕ)) where
  -- x is there
  pub spot_there : i < length ls → compare x.now (get_or ls i d).now ≡ Equal → insert (λ l. l) x.now (map (λ f. f.now) ls) ≡ map (λ f. f.now) ls
  spot_there h equal = sym (map_insert (λ f. f.now) (λ l. l) x ls) ∙ ap (map (λ f. f.now)) (insert_there (λ f. f.now) x ls i d h (λ k. behind k d) equal)

  -- x belongs there
  pub spot_before : i ≤ length ls → (i < length ls → compare x.now (get_or ls i d).now ≡ Less)
      → insert (λ l. l) x.now (map (λ f. f.now) ls) ≡ take i (map (λ f. f.now) ls) ++ (x.now ∷ drop i (map (λ f. f.now) ls))
  spot_before h less = sym (map_insert (λ f. f.now) (λ l. l) x ls) ∙ (ap (map (λ f. f.now)) (insert_before (λ f. f.now) x ls i d h (λ k. behind k d) less) ∙ cut ls x i)

-- ---- a formula put before others: each makes way for the one before it

module _ {A : Type 0} where
  refilled : (xs ws : List A) → length ws ≡ length xs → refill (length xs) xs ws ≡ ws
  refilled xs ws e =
      let none : drop (length ws) xs ≡ [] = drop_of_length-le xs (omega arith) in
      rw (none, append-nil ws) (take_all (length xs) ws (omega arith))

module _ {A B : Type 0} (f : A → B) (d v : A) where
  pub handed_on : (xs : List A) (k : ℕ) → k < length xs
      → take (suc k) (map f (set xs k v)) ++ (f (get_or xs k d) ∷ drop (suc k) (map f (set xs k v))) ≡ take k (map f xs) ++ (f v ∷ drop k (map f xs))
  handed_on [] k h = absurd (omega arith)
  handed_on (x ∷ xs) zero h = refl
  handed_on (x ∷ xs) (suc k) h = ap (λ l. f x ∷ l) (handed_on xs k (omega arith))

  -- what a list with an item put in at i stands for, where the items from i on were handed on
  pub put_before : (xs ys : List A) (i : ℕ) (y : B) → i ≤ length xs → length ys ≡ length (take (length xs - i) (drop i xs))
      → map f ys ++ (f v ∷ []) ≡ y ∷ map f (take (length xs - i) (drop i xs))
      → map f (refill (length xs) xs (put_mid i (length xs - i) xs ys) ++ (v ∷ [])) ≡ take i (map f xs) ++ (y ∷ drop i (map f xs))
  put_before xs ys i y h e t =
      let k = length xs - i in
      let n : length (drop i xs) ≤ length xs - i = omega (arith, length-drop i xs) in
      let rest : take (length xs - i) (drop i xs) ≡ drop i xs = take_all (length xs - i) (drop i xs) n in
      let none : post_of i (length xs - i) xs ≡ [] = drop_of_length-le (drop i xs) n in
      let new : refill (length xs) xs (put_mid i (length xs - i) xs ys) ≡ take i xs ++ (ys ++ []) =
      refilled xs (put_mid i k xs ys) (same_len_mid i k xs ys e) ∙ ap (λ l. take i xs ++ (ys ++ l)) none in
      let split : map f ((take i xs ++ (ys ++ [])) ++ (v ∷ [])) ≡ map f (take i xs) ++ (map f ys ++ (f v ∷ [])) =
      rw (append-nil ys, append_assoc (take i xs) ys (v ∷ []), map-append f (take i xs) (ys ++ (v ∷ [])), map-append f ys (v ∷ [])) refl in
      ap (λ l. map f (l ++ (v ∷ []))) new ∙ split ∙ rw (t, rest, take-map f i xs, drop-map f i xs) refl
