use Rattle.std.proofs.Common.{◌≡◌, ◌++◌, arith, append_assoc}
use Rattle.std.proofs.lemmas.List.{length-append}
use Rattle.print.specs.Text.{blank, decimal}
use Rattle.print.proofs.Texts.{decimal_shown, number_length}
use Rattle.print.proofs.put_number.Goals as goal

pub returns : goal.returns
returns g c =
    let n = c.args.n in
    let before = c.args.out.now.items in
    let text : c.put_word-2.new.out.items ≡ before ++ (blank ++ decimal n) =
    rw (c.put_word-2.ensures, c.put_word.ensures, c.as_bytes.ensures.value, c.format.ensures.text, decimal_shown n (omega arith)) (append_assoc before blank (decimal n)) in
    record { short = rw text (omega (arith, number_length n (omega arith), length-append before (blank ++ decimal n))); text = text }
