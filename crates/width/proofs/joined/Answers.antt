-- What is required bounds each product and sum.
use Rattle.std.proofs.Common.{ℕ, ◌+◌, ◌*◌, ◌^◌, ◌≤◌, arith}
use Rattle.calculus.specs.declared.Side.TheVariants.{Left, Right}
use Rattle.calculus.specs.declared.Pair.{Pair}
use Rattle.calculus.specs.Limits.{CONNECTIVES}
use Rattle.calculus.specs.Syntax.{AND, OR, EQUIV}
use Rattle.width.specs.Walks.{Fit}
use Rattle.width.proofs.joined.Goals as goal

record Bounds (f g : Pair ℕ) : Type 0 where
  and_right : f.right + g.right ≤ 2 ^ CONNECTIVES
  or_left : f.left + g.left ≤ 2 ^ CONNECTIVES
  equiv_left : f.left * g.left + f.right * g.right ≤ 2 ^ CONNECTIVES
  equiv_right : f.left * g.right + g.left * f.right ≤ 2 ^ CONNECTIVES

bounds : (f g : Pair ℕ) → Fit f g → Bounds f g
bounds f g h = record { and_right = h AND Right; or_left = h OR Left; equiv_left = h EQUIV Left; equiv_right = h EQUIV Right }

pub overflow_mul-result : goal.overflow_mul-result
overflow_mul-result c = omega (arith, bounds c.args.f c.args.g c.requires)

pub overflow_add-result : goal.overflow_add-result
overflow_add-result c = omega (arith, bounds c.args.f c.args.g c.requires)

pub overflow_add-result-in-Or : goal.overflow_add-result-in-Or
overflow_add-result-in-Or c = omega (arith, bounds c.args.f c.args.g c.requires)

pub overflow_mul-result-in-Or : goal.overflow_mul-result-in-Or
overflow_mul-result-in-Or c = omega (arith, bounds c.args.f c.args.g c.requires)

pub overflow_add-result-in-Implies : goal.overflow_add-result-in-Implies
overflow_add-result-in-Implies c = omega (arith, bounds c.args.f c.args.g c.requires)

pub overflow_mul-result-in-Implies : goal.overflow_mul-result-in-Implies
overflow_mul-result-in-Implies c = omega (arith, bounds c.args.f c.args.g c.requires)

pub overflow_mul-result-in-Equiv : goal.overflow_mul-result-in-Equiv
overflow_mul-result-in-Equiv c = omega (arith, bounds c.args.f c.args.g c.requires)

pub overflow_mul-result-in-Equiv-2 : goal.overflow_mul-result-in-Equiv-2
overflow_mul-result-in-Equiv-2 c = omega (arith, bounds c.args.f c.args.g c.requires)

pub overflow_add-result-in-Equiv : goal.overflow_add-result-in-Equiv
overflow_add-result-in-Equiv c = omega (arith, bounds c.args.f c.args.g c.requires)

pub overflow_mul-result-in-Equiv-3 : goal.overflow_mul-result-in-Equiv-3
overflow_mul-result-in-Equiv-3 c = omega (arith, bounds c.args.f c.args.g c.requires)

pub overflow_mul-result-in-Equiv-4 : goal.overflow_mul-result-in-Equiv-4
overflow_mul-result-in-Equiv-4 c = omega (arith, bounds c.args.f c.args.g c.requires)

pub overflow_add-result-in-Equiv-2 : goal.overflow_add-result-in-Equiv-2
overflow_add-result-in-Equiv-2 c = omega (arith, bounds c.args.f c.args.g c.requires)
