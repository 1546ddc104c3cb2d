use Rattle.std.proofs.Common.{sym, ◌∙◌}
use Rattle.spelling.proofs.enter.Goals as goal

pub returns-in-Err : goal.returns-in-Err
returns-in-Err c =
    let e = rw c.as_slice.ensures.value at c.in-Err.ensures.1 in
    c.put.ensures ∙ sym e
