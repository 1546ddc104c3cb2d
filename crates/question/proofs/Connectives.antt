-- The code's connectives are those of document 01.
-- Assumes nothing.
use Rattle.std.proofs.Common.{◌≡◌, refl, sym, ap, ◌∙◌, ℕ, ◌≤◌, arith}
use Rattle.std.specs.Prelude.{Result, Ok, Err}
use Rattle.std.specs.Result.{IsOk}
use Rattle.calculus.specs.Syntax.{AND, OR, IMPLIES, EQUIV, Connective as Defined, NOT, two}
use Rattle.calculus.specs.Bytes.{CONNECTIVE, code}
use Rattle.calculus.proofs.Spelling.{command_byte, code_injective}
use Rattle.question.specs.declared.connective.Binary.{Binary}
use Rattle.question.specs.declared.connective.Binary.TheVariants.{And, Or, Implies, Equiv}
use Rattle.question.specs.declared.connective.Connective.{Connective}
use Rattle.question.specs.declared.connective.Connective.TheVariants.{Two}
use Rattle.question.specs.declared.connective.NoConnective.{NoConnective}
use Rattle.question.specs.Connectives.{connective_of, command_of, coded, Names}
use Rattle.question.proofs.Readers.{connects}

pub coded_is : (k : Defined) → connective_of (coded k) ≡ k
coded_is NOT = refl
coded_is (two AND) = refl
coded_is (two OR) = refl
coded_is (two IMPLIES) = refl
coded_is (two EQUIV) = refl

-- the command of a connective is read
pub reads : (b : ℕ) (r : Result Connective NoConnective) → Names b r → (k : Defined) → code (CONNECTIVE k) ≡ b → IsOk r
reads b (Ok j) n k e = refl
reads b (Err x) n k e = absurd (n (coded k) (sym e ∙ ap (λ (l : Defined). code (CONNECTIVE l)) (sym (coded_is k))))

-- so are the bytes 2 to 6
pub reads_low : (b : ℕ) (r : Result Connective NoConnective) → Names b r → 2 ≤ b → b ≤ 6 → IsOk r
reads_low b r n h k = let c = connects b h k in reads b r n c.connective (command_byte b (CONNECTIVE c.connective) c.named)

-- the commands of the binary ones begin at 3
pub binary_range : (o : Binary) → 3 ≤ command_of (Two o)
binary_range And = omega arith
binary_range Or = omega arith
binary_range Implies = omega arith
binary_range Equiv = omega arith

-- a command is that of one connective
pub one_command : (j : Connective) (k : Defined) → command_of j ≡ code (CONNECTIVE k) → connective_of j ≡ k
one_command j k e = cc (code_injective (CONNECTIVE (connective_of j)) (CONNECTIVE k) e)
