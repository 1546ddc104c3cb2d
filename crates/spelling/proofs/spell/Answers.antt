use Rattle.std.proofs.Common.{arith, ap, map}
use Rattle.spelling.proofs.Replies.{Entered, entered, small, call_answers}
use Rattle.spelling.proofs.spell.Goals as goal
use Rattle.spelling.proofs.spell.Goals.{After-as_slice-2}

sides : (c : After-as_slice-2) → Entered c.args.q.now c.as_slice.result.now c.as_slice-2.result.now
sides c =
    entered c.in_ok-q.q c.args.q.now c.in_ok-q.ensures.bytes c.left.result c.right.result c.left.ensures c.right.ensures _ _
    (ap (map (λ f. f.now)) c.as_slice.ensures.value) c.enter_side-end.ensures.0 (ap (map (λ f. f.now)) c.as_slice-2.ensures.value) c.enter_side.ensures.0

pub write_sides-requires : goal.write_sides-requires
write_sides-requires c =
    (c.as_slice.ensures.fits, c.as_slice-2.ensures.fits, omega (arith, small _ _ _ (sides (goal.at.write_sides-requires c).After-as_slice-2)))

pub returns : goal.returns
returns c =
    let s = sides (goal.at.returns c).After-as_slice-2 in
    let a = call_answers c.args.q.now c.args.out.now c.write_sides.new.out _ _ s c.write_sides.result c.map_err.result c.write_sides.ensures c.map_err.ensures.cases in
    record { reply = a.0; written = a.1; one = a.2 }
