-- The loop's invariant: the product so far, with that of the formulas ahead, is the whole one, and it is at most 2 to the power of
-- the connectives so far.
use Rattle.std.proofs.Common.{◌-◌, take, drop}
use Rattle.calculus.specs.Bytes.{formulas}
use Rattle.width.specs.Walks.{product_of}
use Rattle.width.proofs.Products.{Ahead}
use Rattle.width.proofs.product.Given as goal

abbrev pub invariant-loop : goal.invariant-loop
invariant-loop l =
    let q = l.xs.q.bytes.now in
    Ahead q l.xs.side (product_of l.xs.side l.xs.start (take l.end (formulas (drop l.xs.start q)))) l.all.value l.all.connectives l.all.end (l.end - l.counter)
