use Rattle.std.proofs.Common.{◌≡◌, ◌+◌, ◌-◌, ◌≤◌, arith, ◌++◌, get_or, length, take, drop, append_assoc}
use Rattle.std.proofs.lemmas.List.{length-append}
use Rattle.print.specs.Text.{blank, spelled}
use Rattle.print.proofs.Texts.{spaced_more}
use Rattle.print.proofs.put_hexadecimal.Goals as goal

pub loop-b-preserved : goal.loop-b-preserved
loop-b-preserved g c =
    let bytes = c.args.bytes.now in
    let rest = take (length bytes - 1) (drop 1 bytes) in
    let before = c.loop-b.out.items in
    let digits = spelled (get_or rest c.loop-b.b-index 0) in
    let next = spaced_more spelled (c.args.out.now.items ++ spelled (get_or bytes 0 0)) rest c.loop-b.b-index c.loop-b-test.true in
    let put : c.put_byte-in-loop-b.new.out.items ≡ before ++ (blank ++ digits) =
    rw (c.put_byte-in-loop-b.ensures, c.put_word.ensures) (append_assoc before blank digits) in
    let long : length c.put_byte-in-loop-b.new.out.items ≤ length before + 3 =
    rw put (omega (arith, length-append before (blank ++ digits))) in
    (rw (put, c.loop-b.invariant.0) next, omega (arith, c.loop-b.invariant.1, long))
