-- Both sides' products give W and c, which are within their bounds.
use Rattle.std.proofs.Common.{arith}
use Rattle.width.proofs.Answers.{sized, sized_fits}
use Rattle.width.proofs.width.Goals as goal

pub overflow_mul-result : goal.overflow_mul-result
overflow_mul-result c =
    let q = c.in_ok-q.q in
    omega (arith, (sized_fits q.bytes.now q.accepted _ _ (sized q c.left.result c.right.result c.product-left.result c.product-right.result c.left.ensures c.right.ensures c.product-left.ensures c.product-right.ensures)).0)

pub overflow_add-result : goal.overflow_add-result
overflow_add-result c =
    let q = c.in_ok-q.q in
    omega (arith, (sized_fits q.bytes.now q.accepted _ _ (sized q c.left.result c.right.result c.product-left.result c.product-right.result c.left.ensures c.right.ensures c.product-left.ensures c.product-right.ensures)).1)

pub returns-clause-sized : goal.returns-clause-sized
returns-clause-sized c =
    rw c.in_ok-q.ensures.bytes at (sized c.in_ok-q.q c.left.result c.right.result c.product-left.result c.product-right.result c.left.ensures c.right.ensures c.product-left.ensures c.product-right.ensures)
