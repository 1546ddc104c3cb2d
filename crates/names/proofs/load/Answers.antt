use Rattle.calculus.specs.Bytes.{question}
use Rattle.names.proofs.Sides.{up_to, Starts, filled_enters, filled_next}
use Rattle.names.proofs.load.Goals as goal

pub enter-l-requires : goal.enter-l-requires
enter-l-requires c =
    let a = c.args in
    let q = a.xs.q in
    let old = a.lists.now in
    let n = c.count-n in
    let l = c.loop-i in
    let b : Starts q.bytes.now old.nodes.items old.items a.first a.xs.start n.result a.xs.side
    = record { read = q.accepted; count = n.ensures; begins = a.xs.starts; loads = c.requires } in
    let f = l.invariant a.xs.side b in (
      up_to a.xs.side l._i (question q.bytes.now),
      f.loads,
      filled_enters q.bytes.now old.nodes.items old.items a.first a.xs.start n.result a.xs.side b l.lists.nodes.items l.lists.items l.l l._i f c.loop-i-test.true,
    )

pub loop-i-preserved : goal.loop-i-preserved
loop-i-preserved c =
    let a = c.args in
    let q = a.xs.q.bytes.now in
    let old = a.lists.now in
    let n = c.count-n.result in
    let l = c.loop-i in
    let h = c.loop-i-test.true in
    let e = c.enter-l in
    λ u s.
    let f = l.invariant u s in
    let k = e.ensures.0 (up_to u l._i (question q)) f.loads (filled_enters q old.nodes.items old.items a.first a.xs.start n u s l.lists.nodes.items l.lists.items l.l l._i f h) in
    filled_next q old.nodes.items old.items a.first a.xs.start n u s l.lists.nodes.items l.lists.items l.l l._i f h e.new.lists.nodes.items e.new.lists.items e.result k e.ensures.1 e.ensures.2
