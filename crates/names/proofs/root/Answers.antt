use Rattle.calculus.specs.Bytes.{question}
use Rattle.calculus.proofs.Readings.{accepted_question}
use Rattle.names.proofs.Sides.{right_begins, all_loaded}
use Rattle.names.proofs.root.Goals as goal

pub load-r-requires : goal.load-r-requires
load-r-requires c =
    let S = question c.args.q.bytes.now in
    let l = c.load-l in
    let lefts = rw (c.left.ensures.0, c.left.ensures.1) at l.ensures.0 in
    rw (c.right.ensures.0, c.right.ensures.1) (right_begins S l.new.lists.nodes.items l.new.lists.items l.result c.right.result.start lefts)

pub returns : goal.returns
returns c =
    let q = c.args.q.bytes.now in
    let l = c.load-l in
    let r = c.load-r in
    let lefts = rw (c.left.ensures.0, c.left.ensures.1) at l.ensures in
    let both = rw (c.right.ensures.0, c.right.ensures.1) at r.ensures in
    all_loaded (question q) (accepted_question q c.args.q.accepted).0 l.new.lists.nodes.items l.new.lists.items l.result lefts.0 r.new.lists.nodes.items r.new.lists.items r.result both.0 both.1
