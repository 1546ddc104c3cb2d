use Rattle.std.proofs.Common.{◌∙◌, ◌^◌, ◌<◌, arith}
use native.Mathlib.Nat.{one-mul, mod-eq_of_lt}
use lib.Bits.{or_comm}
use lib.Pow.{pow-lt}
use Rattle.calculus.proofs.Trees.{light_or}
use Rattle.question.proofs.Marking.{bit_marked}
use Rattle.question.proofs.marked.Goals as goal

pub returns-clause-lit : goal.returns-clause-lit
returns-clause-lit c =
    let a = c.args in
    let h : a.k < 64 = omega (arith, c.requires) in
    rw (one-mul (2 ^ a.k), mod-eq_of_lt (pow-lt {j = 64} h)) (or_comm a.set (2 ^ a.k) ∙ light_or a.k a.set)

pub returns-clause-bits : goal.returns-clause-bits
returns-clause-bits c m =
    let a = c.args in
    let h : a.k < 64 = omega (arith, c.requires) in
    rw (one-mul (2 ^ a.k), mod-eq_of_lt (pow-lt {j = 64} h)) (bit_marked a.set a.k m)
