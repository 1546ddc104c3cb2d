use Rattle.std.proofs.Common.{arith, rules}
use Rattle.clauses.proofs.Walks.{due_small, letter_below, letter_step, negated_below, negated_step, negated_other, joined_step, binary_other}
use Rattle.clauses.proofs.Gathered.step.Goals as goal

pub marked-requires : goal.marked-requires
marked-requires c = let r = c.requires in letter_below c.args.q.now c.args.self r.0 r.1 (search rules)

pub returns-in-1 : goal.returns-in-1
returns-in-1 c = let r = c.requires in letter_step c.args.q.now c.args.self r.0 r.1 (search rules) c.marked.result c.marked.ensures.lit

pub marked-requires-in-2 : goal.marked-requires-in-2
marked-requires-in-2 c = let r = c.requires in negated_below c.args.q.now c.args.self r.0 r.1 (search rules) (search rules)

pub returns-in-2 : goal.returns-in-2
returns-in-2 c =
    let r = c.requires in
    let m = c.marked-in-2 in
    negated_step c.args.q.now c.args.self r.0 r.1 (search rules) (search rules) m.result m.ensures.lit

pub returns-in_default : goal.returns-in_default
returns-in_default c =
    let r = c.requires in
    (negated_other c.args.q.now c.args.self r.0 r.1 (search rules) (λ e. search rules), tt)

pub overflow_add-result-in-4-2 : goal.overflow_add-result-in-4-2
overflow_add-result-in-4-2 c = let r = c.requires in omega (arith, due_small c.args.q.now c.args.self r.0 r.1)

pub returns-in-4 : goal.returns-in-4
returns-in-4 c = let r = c.requires in joined_step c.args.q.now c.args.self r.0 r.1 (search rules)

pub returns-in_default-2 : goal.returns-in_default-2
returns-in_default-2 c =
    let r = c.requires in
    (binary_other c.args.q.now c.args.self r.0 r.1 (λ e. search rules) (λ e. search rules) (λ e. search rules), tt)
