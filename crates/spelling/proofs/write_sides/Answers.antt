use Rattle.std.proofs.Common.{arith, ◌≡◌, ◌+◌, ◌++◌, length, length-take, length-drop, length-append, drop, refl, sym, ap, ◌∙◌}
use Rattle.calculus.specs.declared.Side.TheVariants.{Left, Right}
use Rattle.spelling.specs.Sides.{side_bytes}
use Rattle.spelling.proofs.Writes.{counted}
use Rattle.spelling.proofs.Replies.{both_length, behind}
use Rattle.spelling.proofs.write_sides.Goals as goal

pub returns-then-out-n : goal.returns-then-out-n
returns-then-out-n c =
    (omega (arith, both_length c.args.lefts.now c.args.rights.now, c.bytes_of.ensures, c.bytes_of-2.ensures), c.if-out-n.true, refl)

pub write_side-requires : goal.write_side-requires
write_side-requires c = (
  c.requires.1,
  simp (length-take, length-drop) (omega (arith, c.if-out-n.false, c.write_side-at.ensures.0, c.write_side-at.auto.out, counted c.args.lefts.now, c.bytes_of.ensures, c.bytes_of-2.ensures)),
)

pub returns : goal.returns
returns c =
    let A = side_bytes Left c.args.lefts.now in
    let B = side_bytes Right c.args.rights.now in
    let old = c.args.out.now in
    let k : 4 + c.bytes_of.result + c.bytes_of-2.result ≡ length (A ++ B) = omega (arith, both_length c.args.lefts.now c.args.rights.now, c.bytes_of.ensures, c.bytes_of-2.ensures) in
    let w = c.write_side-at.ensures in (
      k,
      c.if-out-n.false,
      behind A B old c.write_side-at.new.out c.write_side.new.out c.write_side-at.result (omega (arith, k, c.if-out-n.false, length-append A B)) w.0 w.1 c.write_side.ensures.1
          ∙ ap (λ n. (A ++ B) ++ drop n old) (sym k),
    )
