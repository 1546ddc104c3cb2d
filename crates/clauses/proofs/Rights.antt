-- The right side is empty exactly if its command is the last byte but one: every formula ends with a letter's command and operand.
-- Assumes nothing.
use mathlib.Core.Path.{◌≡◌, refl, sym, ap, ◌∙◌}
use mathlib.Core.List.{List, [], ◌∷◌, ◌++◌, append-nil}
use Prim.Native.Nat.{ℕ, suc, ◌-◌, ◌≤◌, ◌<◌}
use native.Mathlib.Omega.{arith}
use lib.ListN.{length, get_or, length-append}
use Rattle.calculus.specs.declared.Side.TheVariants.{Left, Right}
use Rattle.calculus.specs.Syntax.{two, Formula, letter, neg, join}
use Rattle.calculus.specs.Bytes.{CONNECTIVE, code, encode, encode_all, encode_side, question}
use Rattle.calculus.specs.Reading.{accepted, reading}
use Rattle.calculus.proofs.Readings.{accepted_question}
use Rattle.question.proofs.Parts.{bytes_two}

abbrev last_but_one : List ℕ → ℕ
last_but_one l = get_or l (length l - 2) 0

behind : (bs l : List ℕ) → 2 ≤ length l → last_but_one (bs ++ l) ≡ last_but_one l
behind [] l h = refl
behind (b ∷ bs) l h =
    let e : suc (length (bs ++ l)) - 2 ≡ suc (length (bs ++ l) - 2) = omega (arith, length-append bs l) in
    ap (λ (k : ℕ). get_or (b ∷ (bs ++ l)) k 0) e ∙ behind bs l h

formula_ends : (x : Formula) → last_but_one (encode x) ≡ 1
formula_ends (letter k) = refl
formula_ends (neg x) = behind (2 ∷ []) (encode x) (bytes_two x) ∙ formula_ends x
formula_ends (join b x y) = behind (code (CONNECTIVE (two b)) ∷ encode x) (encode y) (bytes_two y) ∙ formula_ends y

formulas_end : (x : Formula) (xs : List Formula) → last_but_one (encode_all (x ∷ xs)) ≡ 1
formulas_end x [] = ap last_but_one (append-nil (encode x)) ∙ formula_ends x
formulas_end x (y ∷ xs) = behind (encode x) (encode_all (y ∷ xs)) (omega (arith, bytes_two y, length-append (encode y) (encode_all xs))) ∙ formulas_end y xs

side_ends : (y : Formula) (ys : List Formula) → last_but_one (encode_side Right (y ∷ ys)) ≡ 1
side_ends y ys = behind (0x20 ∷ length (y ∷ ys) ∷ []) (encode_all (y ∷ ys)) (omega (arith, bytes_two y, length-append (encode y) (encode_all ys))) ∙ formulas_end y ys

module _ (q : List ℕ) (a : reading q ≡ accepted) where
  pub two_at_least : 2 ≤ length q
  two_at_least = omega (arith, ap length (accepted_question q a).1, length-append (encode_side Left (question q).on_left) (encode_side Right (question q).on_right))

  ends : last_but_one q ≡ last_but_one (encode_side Right (question q).on_right)
  ends = ap last_but_one (sym (accepted_question q a).1) ∙ behind (encode_side Left (question q).on_left) (encode_side Right (question q).on_right) (omega arith)

  pub right_empty : get_or q (length q - 2) 0 ≡ 0x20 → (question q).on_right ≡ []
  right_empty e = go (question q).on_right (sym ends ∙ e)
    where
      go : (ys : List Formula) → last_but_one (encode_side Right ys) ≡ 0x20 → ys ≡ []
      go [] e = refl
      go (y ∷ ys) e = absurd (omega (arith, side_ends y ys, e))

  pub right_there : (get_or q (length q - 2) 0 ≡ 0x20 → ⊥) → 0 < length (question q).on_right
  right_there n = go (question q).on_right (λ e. n (ends ∙ e))
    where
      go : (ys : List Formula) → (last_but_one (encode_side Right ys) ≡ 0x20 → ⊥) → 0 < length ys
      go [] n = absurd (n refl)
      go (y ∷ ys) n = omega arith
