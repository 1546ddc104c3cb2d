use Rattle.std.proofs.Common.{◌∙◌, rules}
use Rattle.std.proofs.lemmas.Fn.{fold_over, slice_gives, fronts}
use Rattle.clauses.proofs.Rounds.{InRound, round_first, round_next}
use Rattle.clauses.proofs.round.Goals as goal

pub returns : goal.returns
returns c cs e =
    fold_over fronts (λ y. y.now) _ (InRound c.args.state) _ (λ ms a x b f i k. search (rules, round_next)) c.iter.result _ _ _ (slice_gives c.iter.result) (round_first c.args.state) c.fold.ensures.ran cs (c.iter.ensures.rest ∙ e)
