use Rattle.std.proofs.Common.{◌≡◌, List, ℕ, ◌+◌, ◌≤◌, get_or, ap, arith}
use Rattle.calculus.specs.Limits.{CONNECTIVES}
use Rattle.calculus.specs.Syntax.{connectives}
use Rattle.question.specs.Positions.{Well, formula_at}
use Rattle.question.proofs.Walks.{well_inside}
use Rattle.question.proofs.Parts.{TwoAt, end_onward}
use Rattle.question.specs.declared.connective.Binary.{Binary}
use Rattle.question.specs.declared.connective.Connective.{Connective}
use Rattle.question.specs.declared.connective.Connective.TheVariants.{Two}
use Rattle.question.specs.Connectives.{binary_of, command_of}
use Rattle.width.proofs.Walks.{Room, fit, no_command, first_part, not_part, two_parts, first_less, walk_letter, walk_not, walk_two}
use Rattle.width.proofs.+part_widths_widths.Goals as goal

-- a binary connective's parts, and the room that they leave
module _ (q : List ℕ) (at : ℕ) (k : Connective) (w : Well q at × (connectives (formula_at q at) ≤ CONNECTIVES)) (h : get_or q at 0 ≡ command_of k) where
  two : (o : Binary) → k ≡ Two o → (a : TwoAt q at) × (a.o ≡ binary_of o)
  two o e = two_parts q at w.0 k o e h

  room : (o : Binary) → k ≡ Two o → Room q at
  room o e = omega (arith, ap connectives (two o e).0.stands, w.1)

pub part_widths-widths-f-requires : goal.part_widths-widths-f-requires
part_widths-widths-f-requires t c =
    let a = c.args in
    let r = c.requires in
    let f = first_part a.q.now a.at r.well.0 a.k r.command in
    (omega (arith, well_inside a.q.now a.at r.well.0, c.decreases), (f.well, omega (arith, first_less a.q.now a.at f, r.well.1)))

pub part_widths-overflow_add-result : goal.part_widths-overflow_add-result
part_widths-overflow_add-result t c =
    let a = c.args in
    let r = c.requires in
    rw c.widths-f.ensures (omega (arith, first_less a.q.now a.at (first_part a.q.now a.at r.well.0 a.k r.command), r.well.1))

pub part_widths-returns-in-Not : goal.part_widths-returns-in-Not
part_widths-returns-in-Not t c =
    let a = c.args in
    let r = c.requires in
    rw c.exchanged.ensures (walk_not a.q.now a.at (not_part a.q.now a.at r.well.0 a.k c.in-Not.is r.command) c.widths-f.result c.widths-f.ensures)

pub part_widths-widths-g-requires : goal.part_widths-widths-g-requires
part_widths-widths-g-requires t c =
    let a = c.args in
    let r = c.requires in
    let o = c.in-Two.o in
    rw c.widths-f.ensures (
      omega (arith, c.decreases, well_inside a.q.now a.at r.well.0, end_onward a.q.now (a.at + 1)),
      ((two a.q.now a.at a.k r.well r.command o c.in-Two.is).0.well, omega (arith, room a.q.now a.at a.k r.well r.command o c.in-Two.is)),
    )

pub part_widths-joined-requires : goal.part_widths-joined-requires
part_widths-joined-requires t c =
    let a = c.args in
    let r = c.requires in
    rw (c.widths-g.ensures, c.widths-f.ensures) (fit a.q.now a.at (room a.q.now a.at a.k r.well r.command c.in-Two.o c.in-Two.is))

pub part_widths-overflow_add-result-in-Two : goal.part_widths-overflow_add-result-in-Two
part_widths-overflow_add-result-in-Two t c =
    let a = c.args in
    let r = c.requires in
    rw (c.widths-g.ensures, c.widths-f.ensures) (omega (arith, room a.q.now a.at a.k r.well r.command c.in-Two.o c.in-Two.is))

pub part_widths-overflow_add-result-in-Two-2 : goal.part_widths-overflow_add-result-in-Two-2
part_widths-overflow_add-result-in-Two-2 t c =
    let a = c.args in
    let r = c.requires in
    rw (c.widths-g.ensures, c.widths-f.ensures) (omega (arith, room a.q.now a.at a.k r.well r.command c.in-Two.o c.in-Two.is))

pub part_widths-returns-in-Two : goal.part_widths-returns-in-Two
part_widths-returns-in-Two t c =
    let a = c.args in
    let r = c.requires in
    let s = two a.q.now a.at a.k r.well r.command c.in-Two.o c.in-Two.is in
    walk_two a.q.now a.at s.0 c.widths-f.result c.widths-g.result c.joined.result c.widths-f.ensures c.widths-g.ensures (rw s.1 c.joined.ensures)

pub widths-returns-in-Err : goal.widths-returns-in-Err
widths-returns-in-Err t c = walk_letter c.args.q.now c.args.at (no_command c.args.q.now c.args.at c.requires.0 c.in-Err.ensures)
