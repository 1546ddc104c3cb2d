-- The digits that std writes of a number or a byte are those of the definitions; a spaced list with one thing more; and how
-- long a text is at most. Assumes nothing.
use Rattle.std.proofs.Common.{◌≡◌, refl, sym, ap, ◌∙◌, ℕ, zero, suc, ◌+◌, ◌*◌, ◌/◌, ◌%◌, ◌^◌, ◌<◌, ◌≤◌, List, [], ◌∷◌, ◌++◌, length, take, get_or, false, codes, arith, append_assoc, append-nil}
use Rattle.std.specs.Fmt.{digit_glyph, decimal as shown}
use Rattle.std.proofs.lemmas.Fmt.{decimal_from_appends, length-decimal-le, length-decimal-le_succ}
use Rattle.std.proofs.lemmas.List.{length-append, take_more, flat_map_more}
use Rattle.std.proofs.lemmas.Bool.Decides.{nat_tests}
use Rattle.print.specs.Text.{blank, newline, spaced, leading, decimal_by, decimal, line, spelled, hexadecimal}

low_digit : (d : ℕ) → d < 10 → digit_glyph false d ≡ 48 + d
low_digit d h = grind (arith, nat_tests)

leading_some : (r : ℕ → List ℕ) (m : ℕ) → 0 < m → leading r m ≡ r m
leading_some r zero h = absurd (omega arith)
leading_some r (suc m) h = refl

one_digit : (k n : ℕ) → n < 10 → decimal_by (suc k) n ≡ (48 + n) ∷ []
one_digit k n h =
    let front : n / 10 ≡ 0 = omega arith in
    let last : n % 10 ≡ n = omega arith in
    rw (front, last) (ap (λ d. d ∷ []) (low_digit n h))

more_digits : (k n : ℕ) → 10 ≤ n → decimal_by (suc k) n ≡ decimal_by k (n / 10) ++ ((48 + n % 10) ∷ [])
more_digits k n h = rw (leading_some (decimal_by k) (n / 10) (omega arith), low_digit (n % 10) (omega arith)) refl

pub decimal_shown : (n : ℕ) → n < 2 ^ 64 → shown n ≡ decimal n
unfolding decimal
decimal_shown n h =
    sym (decimal_from_appends decimal_by (record { one = one_digit; more = more_digits }) (suc n) n h (omega (arith, length-decimal-le_succ n h)))

pub spaced_more : (f : ℕ → List ℕ) (done xs : List ℕ) (i : ℕ) → i < length xs
    → (done ++ spaced f (take i xs)) ++ (blank ++ f (get_or xs i 0)) ≡ done ++ spaced f (take (i + 1) xs)
spaced_more f done xs i h = flat_map_more (λ x. blank ++ f x) done (take i xs) (get_or xs i 0) ∙ ap (λ l. done ++ spaced f l) (sym (take_more xs i 0 h))

-- ---- what a format string writes of a line, and text behind it

abbrev pub AllFit : List ℕ → Type 0
AllFit [] = Unit {0}
AllFit (n ∷ ns) = (n < 2 ^ 64) × AllFit ns

-- numbers in a format string, a blank before each, and the rest
abbrev pub written : List ℕ → List ℕ → List ℕ
written [] rest = rest
written (n ∷ ns) rest = blank ++ (shown n ++ written ns rest)

spaced_written : (ns rest : List ℕ) → AllFit ns → written ns rest ≡ spaced decimal ns ++ rest
spaced_written [] rest h = refl
spaced_written (n ∷ ns) rest h =
    ap (λ l. blank ++ l) (rw (decimal_shown n h.0, spaced_written ns rest h.1) (sym (append_assoc (decimal n) (spaced decimal ns) rest)))

pub line_then : (w ns rest : List ℕ) → AllFit ns → w ++ written ns (newline ++ rest) ≡ line w ns ++ rest
line_then w ns rest h = rw (spaced_written ns (newline ++ rest) h) (simp append_assoc)

pub line_alone : (w ns : List ℕ) → AllFit ns → w ++ written ns newline ≡ line w ns
line_alone w ns h = line_then w ns [] h ∙ append-nil (line w ns)

-- ---- how long a text is at most: 21 bytes a number with its blank, 3 a byte, and 50 the line of a refusal

pub number_length : (n : ℕ) → n < 2 ^ 64 → length (blank ++ decimal n) ≤ 21
number_length n h = rw (← decimal_shown n h) (omega (arith, length-decimal-le 20 n (omega arith) (omega arith) h))

numbers_length : (ns : List ℕ) → AllFit ns → length (spaced decimal ns) ≤ 21 * length ns
numbers_length [] h = omega arith
numbers_length (n ∷ ns) h = omega (arith, number_length n h.0, numbers_length ns h.1, length-append (blank ++ decimal n) (spaced decimal ns))

pub line_length : (w ns : List ℕ) → AllFit ns → length (line w ns) ≤ length w + 21 * length ns + 1
line_length w ns h = omega (arith, numbers_length ns h, length-append (w ++ spaced decimal ns) newline, length-append w (spaced decimal ns))

bytes_length : (bs : List ℕ) → length (spaced spelled bs) ≤ 3 * length bs
bytes_length [] = omega arith
bytes_length (b ∷ bs) = omega (arith, bytes_length bs)

pub hexadecimal_length : (bs : List ℕ) → length (hexadecimal bs) ≤ 3 * length bs
hexadecimal_length [] = omega arith
hexadecimal_length (b ∷ bs) = omega (arith, bytes_length bs)

pub hexadecimal_line_length : (bs : List ℕ) → length (hexadecimal bs ++ newline) ≤ 3 * length bs + 1
hexadecimal_line_length bs = omega (arith, hexadecimal_length bs, length-append (hexadecimal bs) newline)

pub refused_length : (n p : ℕ) → n < 2 ^ 64 → p < 2 ^ 64 → length (line (codes "refused") (n ∷ p ∷ [])) ≤ 50
refused_length n p small near = line_length (codes "refused") (n ∷ p ∷ []) (small, (near, tt))
