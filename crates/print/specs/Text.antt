-- Text as bytes: words, numbers in decimal, bytes in hexadecimal, and a line of a word and numbers.
use Rattle.std.specs.Prelude.{List, [], ◌∷◌, ◌++◌, ℕ, zero, suc, ◌/◌, ◌%◌, false, codes}
use Rattle.std.specs.List.{flat_map}
use Rattle.std.specs.Fmt.{digit_glyph}

abbrev pub blank : List ℕ
blank = codes " "

abbrev pub newline : List ℕ
newline = codes "\n"

-- things written one after the other, a blank before each
abbrev pub spaced : (ℕ → List ℕ) → List ℕ → List ℕ
spaced f = flat_map (λ x. blank ++ f x)

-- ---- "all decimal"

-- the digits before the last: those of a tenth of the number, and none where that is 0
abbrev pub leading : (ℕ → List ℕ) → ℕ → List ℕ
leading r zero = []
leading r (suc m) = r (suc m)

abbrev pub decimal_by : ℕ → ℕ → List ℕ
decimal_by zero n = []
decimal_by (suc k) n = leading (λ m. decimal_by k m) (n / 10) ++ (digit_glyph false (n % 10) ∷ [])

-- a number's digits, the most significant first. It has at most n + 1, so the fuel does not run out. (std's `decimal` has
-- 64 digits at most; this one has all, and is the same below 2 to the 64: `Texts.decimal_shown`.)
unfoldable pub decimal : ℕ → List ℕ
decimal n = decimal_by (suc n) n

-- a word, and numbers behind it
abbrev pub line : List ℕ → List ℕ → List ℕ
line w ns = w ++ spaced decimal ns ++ newline

-- ---- "lower-case hexadecimal bytes parted by blanks"

-- a byte's two digits
abbrev pub spelled : ℕ → List ℕ
spelled b = digit_glyph false (b / 16) ∷ digit_glyph false (b % 16) ∷ []

abbrev pub hexadecimal : List ℕ → List ℕ
hexadecimal [] = []
hexadecimal (b ∷ bs) = spelled b ++ spaced spelled bs
