use Rattle.std.proofs.Common.{ℕ, ◌+◌, drop, ap, ◌∙◌}
use Rattle.calculus.specs.Bytes.{formulas}
use Rattle.question.proofs.Walks.{first_bytes}
use Rattle.question.proofs.end_of.Goals as goal

pub returns : goal.returns
returns c = let a = c.args in c.skip.ensures ∙ ap (λ (n : ℕ). a.at + n) (first_bytes (formulas (drop a.at a.q.now)) c.requires)
