-- "ask": what is printed for a question.
use Rattle.std.specs.Prelude.{◌≡◌, refl, List, [], ◌∷◌, ◌++◌, ℕ, ◌+◌, ◌*◌, ltb, length, codes}
use Rattle.calculus.specs.declared.Kind.{Kind}
use Rattle.calculus.specs.declared.Kind.TheVariants.{Theorem, Refuted, Spent}
use Rattle.calculus.specs.declared.Verdict.{Verdict}
use Rattle.calculus.specs.Fold.{choose}
use Rattle.calculus.specs.Limits.{LONGEST}
use Rattle.calculus.specs.Syntax.{Sequent}
use Rattle.calculus.specs.Bytes.{question}
use Rattle.calculus.specs.Reading.{Reading, accepted, refused, reading}
use Rattle.calculus.specs.Tree.{verdict}
use Rattle.calculus.specs.Width.{W}
use Rattle.calculus.specs.Derivation.{derivation}
use Rattle.print.specs.Text.{newline, decimal, line, hexadecimal}

-- "reads one question from standard input (at most 213 bytes)"
abbrev pub INPUT : ℕ
INPUT = LONGEST + 1

-- "uses budget 1,000,000"
abbrev pub BUDGET : ℕ
BUDGET = 1000000

-- "and a derivation buffer of 4,096 bytes"
abbrev pub BUFFER : ℕ
BUFFER = 4096

-- "the derivation in lower-case hexadecimal bytes parted by blanks, or `no space`"
abbrev pub derivation_line : List ℕ → List ℕ
derivation_line ds = choose (ltb BUFFER (length ds)) (codes "no space") (hexadecimal ds) ++ newline

-- "`theorem r c W`, `refuted s r c W`, `spent r c W`"; "after `theorem` a second line"
abbrev pub verdict_text : Kind → ℕ → ℕ → ℕ → List ℕ → List ℕ
verdict_text Theorem r c w ds = line (codes "theorem") (r ∷ c ∷ w ∷ []) ++ derivation_line ds
verdict_text (Refuted s) r c w ds = line (codes "refuted") (s ∷ r ∷ c ∷ w ∷ [])
verdict_text Spent r c w ds = line (codes "spent") (r ∷ c ∷ w ∷ [])

-- "or `refused n p`"
abbrev pub read_text : Reading → Sequent → List ℕ
read_text accepted S =
    let v : Verdict = verdict BUDGET S in
    verdict_text v.kind v.reductions v.closings (W S) (derivation S)
read_text (refused n p) S = line (codes "refused") (n ∷ p ∷ [])

-- the whole output
abbrev pub ask_text : List ℕ → List ℕ
ask_text q = read_text (reading q) (question q)

-- "for case 4 the whole output is"
pub case_4 : ask_text (0x10 ∷ 1 ∷ 2 ∷ 4 ∷ 1 ∷ 0 ∷ 1 ∷ 1 ∷ 0x20 ∷ 1 ∷ 2 ∷ 1 ∷ 0 ∷ []) ≡ codes "theorem 3 1 1\n52 00 62 00 64 00 41 00\n"
unfolding decimal
case_4 = refl

-- room for the longest text: a line of a word and four numbers, and the derivation's
abbrev pub TEXT : ℕ
TEXT = 100 + 3 * BUFFER
