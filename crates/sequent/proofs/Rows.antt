-- The ten rows of the table, one by one.
-- Assumes nothing.
use Rattle.std.proofs.Common.{◌≡◌, refl, ap, ◌∙◌, List, map, ◌≤◌, arith, length}
use Rattle.calculus.specs.declared.Side.{Side}
use Rattle.calculus.specs.declared.Side.TheVariants.{Left, Right}
use Rattle.calculus.specs.Syntax.{AND, OR, IMPLIES, EQUIV, Connective, NOT, two}
use Rattle.calculus.specs.Table.{table}
use Rattle.sequent.specs.Rule.{Placing, rule_of, premises_of, sided}

-- The rule of a connective on a side says what its row says.
rule_row : (k : Connective) (s : Side) → premises_of (rule_of k s) ≡ map sided (table k s)
rule_row NOT Left = refl
rule_row NOT Right = refl
rule_row (two AND) Left = refl
rule_row (two AND) Right = refl
rule_row (two OR) Left = refl
rule_row (two OR) Right = refl
rule_row (two IMPLIES) Left = refl
rule_row (two IMPLIES) Right = refl
rule_row (two EQUIV) Left = refl
rule_row (two EQUIV) Right = refl

pub rows_of : (k : Connective) (s : Side) (r : List Placing) → r ≡ rule_of k s → premises_of r ≡ map sided (table k s)
rows_of k s r e = ap premises_of e ∙ rule_row k s

-- It has one premise or two.
pub few_rows : (k : Connective) (s : Side) → (1 ≤ length (rule_of k s)) × (length (rule_of k s) ≤ 2)
few_rows NOT Left = (omega arith, omega arith)
few_rows NOT Right = (omega arith, omega arith)
few_rows (two AND) Left = (omega arith, omega arith)
few_rows (two AND) Right = (omega arith, omega arith)
few_rows (two OR) Left = (omega arith, omega arith)
few_rows (two OR) Right = (omega arith, omega arith)
few_rows (two IMPLIES) Left = (omega arith, omega arith)
few_rows (two IMPLIES) Right = (omega arith, omega arith)
few_rows (two EQUIV) Left = (omega arith, omega arith)
few_rows (two EQUIV) Right = (omega arith, omega arith)
