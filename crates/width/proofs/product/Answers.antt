-- The formulas from the side's start, as many as its count says, are the side.
use Rattle.std.proofs.Common.{◌≡◌, ℕ, List, ◌+◌, ◌-◌, ◌≤◌, length, take, drop, ap, ◌∙◌, arith}
use Rattle.calculus.specs.declared.Side.{Side}
use Rattle.calculus.specs.declared.Pair.{Pair}
use Rattle.calculus.specs.Syntax.{side_of, on_side}
use Rattle.calculus.specs.Bytes.{formulas, question}
use Rattle.calculus.specs.Width.{width}
use Rattle.question.specs.declared.Formulas.{Formulas}
use Rattle.question.specs.Positions.{formula_at}
use Rattle.question.proofs.Questions.{SideRead, side_read}
use Rattle.width.specs.declared.Walked.{Walked}
use Rattle.width.specs.Walks.{walk_of, product_of}
use Rattle.width.proofs.Answers.{side_counted}
use Rattle.width.proofs.Walks.{side_width}
use Rattle.width.proofs.Products.{Ahead, Onward, ahead_first, ahead_last, ahead_next}
use Rattle.width.proofs.product.Goals as goal

-- the factor of the formula at e
factor : (q : List ℕ) (s : Side) (e w : ℕ) (v : Walked (Pair ℕ)) → v ≡ walk_of q e → w ≡ side_of v.value s → w ≡ width s (formula_at q e)
factor q s e w v h k = k ∙ rw h (side_width s (formula_at q e))

-- the whole product of a side that has so many formulas
module _ (xs : Formulas) (n : ℕ) (h : n ≡ length (on_side xs.side (question xs.q.bytes.now))) where
  abbrev q : List ℕ
  q = xs.q.bytes.now

  read : SideRead q xs.side xs.start n
  read = side_read q xs.q.accepted xs.side xs.start n xs.starts h

  abbrev whole : Walked ℕ
  whole = product_of xs.side xs.start (take n (formulas (drop xs.start q)))

  is_side : whole ≡ product_of xs.side xs.start (on_side xs.side (question q))
  is_side = ap (product_of xs.side xs.start) read.all

  next : (w k e d : ℕ) → Ahead q xs.side whole w k e d → 1 ≤ d → Onward q xs.side whole w k e d
  next w k e d a o = ahead_next q xs.side whole w k e d a o (rw read.all (side_counted q xs.q.accepted xs.side))

pub loop-init : goal.loop-init
loop-init c =
    let xs = c.args.xs in
    let n = c.count-end.result in
    let e : n - 0 ≡ n = omega arith in
    rw e (ahead_first xs.q.bytes.now xs.side xs.start n (read xs n c.count-end.ensures).enough)

pub widths-f-requires : goal.widths-f-requires
widths-f-requires c =
    let l = c.loop in
    let n = c.count-end.result in
    let o = next c.args.xs n c.count-end.ensures l.all.value l.all.connectives l.all.end (n - l.counter) l.invariant (omega arith) in
    (o.well, omega (arith, o.counted))

pub overflow_mul-all : goal.overflow_mul-all
overflow_mul-all c =
    let xs = c.args.xs in
    let l = c.loop in
    let n = c.count-end.result in
    let o = next xs n c.count-end.ensures l.all.value l.all.connectives l.all.end (n - l.counter) l.invariant (omega arith) in
    rw (factor xs.q.bytes.now xs.side l.all.end c.on.result c.widths-f.result c.widths-f.ensures c.on.ensures) (omega (arith, o.fits))

pub overflow_add-all : goal.overflow_add-all
overflow_add-all c =
    let l = c.loop in
    let n = c.count-end.result in
    let o = next c.args.xs n c.count-end.ensures l.all.value l.all.connectives l.all.end (n - l.counter) l.invariant (omega arith) in
    rw c.widths-f.ensures (omega (arith, o.counted))

pub loop-preserved : goal.loop-preserved
loop-preserved c =
    let xs = c.args.xs in
    let l = c.loop in
    let n = c.count-end.result in
    let o = next xs n c.count-end.ensures l.all.value l.all.connectives l.all.end (n - l.counter) l.invariant (omega arith) in
    rw (factor xs.q.bytes.now xs.side l.all.end c.on.result c.widths-f.result c.widths-f.ensures c.on.ensures, c.widths-f.ensures) (o.next (n - (l.counter + 1)) (omega arith))

pub returns : goal.returns
returns c =
    let xs = c.args.xs in
    let l = c.loop in
    let n = c.count-end.result in
    ahead_last xs.q.bytes.now xs.side (whole xs n c.count-end.ensures) l.all.value l.all.connectives l.all.end (n - l.counter) l.invariant (omega arith) ∙ is_side xs n c.count-end.ensures
