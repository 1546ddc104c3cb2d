use Rattle.std.proofs.Common.{rules}
use Rattle.gekunday.proofs.Decisions.{decided_words}
use Rattle.gekunday.proofs.gekunday_decide.Goals as goal

pub returns-clause-words : goal.returns-clause-words
returns-clause-words c =
    let words = decided_words c.args.q.now c.args.budget c.decide.result c.from.result c.from.ensures c.decide.ensures.reply in
    rw (← words) (search rules)
