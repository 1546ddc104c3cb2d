-- Formulas counted and written, one after the other.
-- Assumes nothing.
use mathlib.Core.Path.{◌≡◌, refl, sym, ap, ◌∙◌}
use mathlib.Core.List.{List, [], ◌∷◌, ◌++◌, map, append_assoc, append-nil}
use Prim.Native.Nat.{ℕ, ◌+◌, ◌-◌, ◌≤◌, ◌<◌}
use native.Mathlib.Omega.{arith}
use lib.ListN.{length, take, drop, get_or, set, length-append, length-drop, length-map}
use Rattle.std.proofs.Common.{Bor, drop-drop}
use Rattle.std.specs.Prelude.{sum_by, flat_map}
use Rattle.std.specs.List.{concat}
use Rattle.std.proofs.lemmas.List.{take_at, drop_at, take_all, take-append-drop}
use Rattle.std.proofs.lemmas.List.{take-map, map_more}
use Rattle.std.proofs.lemmas.List.Concat.{flat_map-cons, length-flat_map}
use Rattle.std.proofs.lemmas.List.Folds.{concat-append}
use borrow.Rule.Slice.PartMut.{put_mid}
use Rattle.calculus.specs.Syntax.{Formula}
use Rattle.calculus.specs.Bytes.{encode, encode_all}

joined : (ls : List (Bor (List ℕ))) → flat_map (λ f. f.now) ls ≡ concat (map (λ f. f.now) ls)
joined [] = refl
joined (l ∷ ls) = flat_map-cons (λ f. f.now) l ls ∙ ap (λ (m : List ℕ). l.now ++ m) (joined ls)

pub counted : (ls : List (Bor (List ℕ))) → sum_by (λ f. length f.now) ls ≡ length (concat (map (λ f. f.now) ls))
counted ls = sym (length-flat_map (λ f. f.now) ls) ∙ ap length (joined ls)

pub spelled : (xs : List Formula) → concat (map encode xs) ≡ encode_all xs
spelled [] = refl
spelled (x ∷ xs) = ap (λ (l : List ℕ). encode x ++ l) (spelled xs)

-- behind `head` the first i of ls are written, up to `at`
pub record Writing (head : List ℕ) (ls : List (List ℕ)) (old out : List ℕ) (at i : ℕ) : Type 0 where
  pub upto : i ≤ length ls
  pub room : length head + length (concat ls) ≤ length old
  pub ends : at ≡ length (head ++ concat (take i ls))
  pub written : out ≡ (head ++ concat (take i ls)) ++ drop at old

-- bytes written behind others
pub written_more : (a bs old : List ℕ) (at k : ℕ) → at ≡ length a → k ≡ length bs → at + k ≤ length old → put_mid at k (a ++ drop at old) bs ≡ (a ++ bs) ++ drop (at + k) old
written_more a bs old at k e f r =
    let first : take at (a ++ drop at old) ≡ a = take_at a (drop at old) at (sym e) in
    let rest : drop at (a ++ drop at old) ≡ drop at old = drop_at a (drop at old) at (sym e) in
    rw (first, rest, drop-drop k at old) (sym (append_assoc a bs (drop (at + k) old)))

pub writing_first : (b n : ℕ) (ls : List (List ℕ)) (old : List ℕ) → 2 + length (concat ls) ≤ length old → Writing (b ∷ n ∷ []) ls old (set (set old 0 b) 1 n) 2 0
writing_first b n ls [] r = absurd (omega arith)
writing_first b n ls (x ∷ []) r = absurd (omega arith)
writing_first b n ls (x ∷ y ∷ old) r = record { upto = omega arith; room = r; ends = refl; written = refl }

module _ (head : List ℕ) (ls : List (Bor (List ℕ))) (old out : List ℕ) (at i : ℕ) (w : Writing head (map (λ f. f.now) ls) old out at i) where
  module _ (h : i < length ls) (d : Bor (List ℕ)) where
    one_more : concat (take (i + 1) (map (λ f. f.now) ls)) ≡ concat (take i (map (λ f. f.now) ls)) ++ (get_or ls i d).now
    one_more =
        ap concat (take-map (λ f. f.now) (i + 1) ls ∙ map_more (λ f. f.now) ls i d h)
        ∙ (concat-append (map (λ f. f.now) (take i ls)) ((get_or ls i d).now ∷ []) ∙ rw (append-nil (get_or ls i d).now, ← take-map (λ f. f.now) i ls) refl)

    rest : concat (map (λ f. f.now) ls) ≡ concat (take (i + 1) (map (λ f. f.now) ls)) ++ concat (drop (i + 1) (map (λ f. f.now) ls))
    rest = ap concat (sym (take-append-drop (i + 1) (map (λ f. f.now) ls))) ∙ concat-append (take (i + 1) (map (λ f. f.now) ls)) (drop (i + 1) (map (λ f. f.now) ls))

    more_ends : at + length (get_or ls i d).now ≡ length (head ++ concat (take (i + 1) (map (λ f. f.now) ls)))
    more_ends = rw one_more (omega (arith, w.ends, length-append head (concat (take i (map (λ f. f.now) ls))), length-append head (concat (take i (map (λ f. f.now) ls)) ++ (get_or ls i d).now), length-append (concat (take i (map (λ f. f.now) ls))) (get_or ls i d).now))

    more_room : at + length (get_or ls i d).now ≤ length old
    more_room = omega (arith, w.room, more_ends, length-append head (concat (take (i + 1) (map (λ f. f.now) ls))), ap length rest, length-append (concat (take (i + 1) (map (λ f. f.now) ls))) (concat (drop (i + 1) (map (λ f. f.now) ls))))

    pub writing_room : at + length (get_or ls i d).now ≤ length out
    writing_room = omega (arith, more_room, ap length w.written, length-append (head ++ concat (take i (map (λ f. f.now) ls))) (drop at old), length-drop at old, w.ends)

    pub writing_next : Writing head (map (λ f. f.now) ls) old (put_mid at (at + length (get_or ls i d).now - at) out (get_or ls i d).now) (at + length (get_or ls i d).now) (i + 1)
    writing_next =
        let bs = (get_or ls i d).now in
        let a = head ++ concat (take i (map (λ f. f.now) ls)) in
        let k : at + length bs - at ≡ length bs = omega arith in
        let e : a ++ bs ≡ head ++ concat (take (i + 1) (map (λ f. f.now) ls)) = append_assoc head (concat (take i (map (λ f. f.now) ls))) bs ∙ ap (λ (l : List ℕ). head ++ l) (sym one_more) in
        record {
          upto = simp length-map (omega arith);
          room = w.room;
          ends = more_ends;
          written = rw (k, w.written) (written_more a bs old at (length bs) w.ends refl more_room ∙ ap (λ (l : List ℕ). l ++ drop (at + length bs) old) e);
        }

  pub writing_last : length ls ≤ i → (at ≡ length (head ++ concat (map (λ f. f.now) ls))) × (out ≡ (head ++ concat (map (λ f. f.now) ls)) ++ drop (length (head ++ concat (map (λ f. f.now) ls))) old)
  writing_last h =
      let all : take i (map (λ f. f.now) ls) ≡ map (λ f. f.now) ls = take_all i (map (λ f. f.now) ls) (simp length-map h) in
      let e : at ≡ length (head ++ concat (map (λ f. f.now) ls)) = rw all at w.ends in
      (e, rw (← e) (rw all at w.written))
