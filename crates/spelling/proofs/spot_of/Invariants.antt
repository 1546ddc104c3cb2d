-- The loop's invariant: the formula exceeds those before.
use Rattle.std.proofs.Common.{◌≡◌, ◌<◌, ℕ, List, Bor, get_or}
use Rattle.std.specs.declared.cmp.Ordering.TheVariants.{Greater}
use Rattle.calculus.specs.Standard.{compare}
use Rattle.spelling.proofs.spot_of.Given as goal

abbrev pub invariant-loop-i : goal.invariant-loop-i
invariant-loop-i l = (k : ℕ) (d : Bor (List ℕ)) → k < l.i → compare l.x (get_or l.items k d).now ≡ Greater
