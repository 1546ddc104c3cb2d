use Rattle.std.proofs.Common.{ℕ, ◌+◌, arith}
use Rattle.question.proofs.Parts.{end_onward}
use Rattle.question.proofs.Walks.{well_inside}
use Rattle.names.proofs.Naming.{Parts, number_letter, first_enters, not_parts, second_enters, two_parts}
use Rattle.names.proofs.+number_number_parts.Goals as goal
use Rattle.names.proofs.+number_number_parts.Goals.{number_parts-After-node, number_parts-in-Not, number_parts-in-Two}

pub number-returns-in-Err : goal.number-returns-in-Err
number-returns-in-Err t c = number_letter c.args.q.now c.args.at c.args.nodes.now.items c.requires c.in-Err.ensures

pub number_parts-number-f-requires : goal.number_parts-number-f-requires
number_parts-number-f-requires t c =
    let a = c.args in
    let h = c.requires in
    (omega (arith, c.decreases, well_inside a.q.now a.at h.0.well), first_enters a.q.now a.at a.nodes.now.items h.0 a.k h.1)

pub number_parts-number-g-requires : goal.number_parts-number-g-requires
number_parts-number-g-requires t c =
    let a = c.args in
    let h = c.requires in
    let f = c.number-f in
    (omega (arith, c.decreases, well_inside a.q.now a.at h.0.well, f.ensures.end, end_onward a.q.now (a.at + 1)), second_enters a.q.now a.at a.nodes.now.items h.0 a.k h.1 f.result f.new.nodes.items f.ensures _ c.in-Two.is)

-- the parts are named
parts : (t : ℕ) (c : goal.number_parts-After-node t) → Parts c.args.q.now c.args.at c.args.nodes.now.items c.match-k.nodes.items c.node.result c.match-k.g.end
parts t c =
    let a = c.args in
    let h = c.requires in
    let f = c.number-f in
    elim c.match-k.branch [
      | number_parts-in-Not w ↦ rw (w.nodes-is, w.g-is) (not_parts a.q.now a.at a.nodes.now.items h.0 a.k h.1 f.result f.new.nodes.items f.ensures w.in-Not.is c.node.result (rw w.g-is at c.node.ensures))
      | number_parts-in-Two w ↦ let g = w.number-g in
          rw (w.nodes-is, w.g-is) (two_parts a.q.now a.at a.nodes.now.items h.0 a.k h.1 f.result f.new.nodes.items f.ensures _ w.in-Two.is g.result g.new.nodes.items g.ensures c.node.result (rw w.g-is at c.node.ensures))
    ]

pub number_parts-note-requires : goal.number_parts-note-requires
number_parts-note-requires t c = let p = parts t c in (p.room, p.nodes, p.first, p.second)

pub number_parts-returns : goal.number_parts-returns
number_parts-returns t c =
    let p = parts t (goal.at.number_parts-returns t c).After-node in
    p.named c.note.new.nodes.items c.note.result c.note.ensures
