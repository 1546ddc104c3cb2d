use native.Mathlib.Nat.{le_refl}
use lib.Seq.{take-set-le}
use Rattle.std.proofs.Common.{◌+◌}
use Rattle.names.proofs.Entering.{entered}
use Rattle.names.proofs.enter.Goals as goal

pub returns : goal.returns
returns c =
    let a = c.args in
    let f = c.number-f in
    let place = a.first + a.l.value.count in (
      λ xs h e. entered a.q.now a.lists.now.nodes.items f.new.nodes.items a.lists.now.items a.first a.l xs h e f.result f.ensures c.with.result c.with.ensures,
      take-set-le place a.lists.now.items place f.result.value (le_refl place),
      f.ensures.end,
    )
