use Rattle.std.proofs.Common.{◌≡◌, Bool, true, false, List, sym, ap, ◌∙◌}
use Rattle.calculus.specs.declared.Settled.{Settled}
use Rattle.calculus.specs.Fold.{fold, ANY}
use Rattle.calculus.specs.Clauses.{Clause, settled, fails, judge, decided}
use Rattle.clauses.proofs.decide.Goals as goal

-- where it is known whether some clause is false
judged_so : (cs : List Clause) (s : Settled) (b : Bool) → s ≡ settled cs → b ≡ fold ANY (fails s.state) cs → judge b s ≡ decided cs
judged_so cs s b e f = rw e (ap (λ t. judge t (settled cs)) (rw e at f))

pub returns-then-some_fails : goal.returns-then-some_fails
returns-then-some_fails c = λ cs h. judged_so cs c.settle-s.result true (c.settle-s.ensures cs h) (sym c.if-some_fails.true ∙ c.some_fails.ensures cs h)

pub returns : goal.returns
returns c = λ cs h. judged_so cs c.settle-s.result false (c.settle-s.ensures cs h) (sym c.if-some_fails.false ∙ c.some_fails.ensures cs h)
