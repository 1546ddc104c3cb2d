use Rattle.std.proofs.Common.{◌-◌, arith, rules, get_or, false, length, drop, take}
use Rattle.std.proofs.Output.{has_written_append, has_written_of_eq}
use Rattle.std.proofs.lemmas.Fmt.{hex_byte}
use Rattle.print.specs.Text.{spelled}
use Rattle.print.proofs.Texts.{spaced_more}
use Rattle.print.proofs.HexadecimalDisplay.fmt.Goals as goal

pub loop-b-init : goal.loop-b-init
loop-b-init g c =
    λ p.
    let digits = hex_byte false (get_or c.args.self.now.0.now 0 0) (omega arith) in
    rw (← digits) (search rules)

pub loop-b-preserved : goal.loop-b-preserved
loop-b-preserved g c =
    λ p.
    let bytes = c.args.self.now.0.now in
    let rest = take (length bytes - 1) (drop 1 bytes) in
    let digits = hex_byte false (get_or rest c.loop-b.b-index 0) (omega arith) in
    let next = spaced_more spelled (spelled (get_or bytes 0 0)) rest c.loop-b.b-index c.loop-b-test.true in
    has_written_of_eq _ _ _ _ _ next (rw (← digits) (has_written_append _ _ _ _ _ _ (c.loop-b.invariant p) (search rules)))
