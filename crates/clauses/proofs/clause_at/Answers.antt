use Rattle.std.proofs.Common.{◌≡◌, Err, arith, rules, sym, ◌∙◌}
use Rattle.clauses.specs.declared.NotClauses.TheVariants.{NotClause}
use Rattle.clauses.specs.Masks.{clause_at}
use Rattle.clauses.proofs.Profiles.{start_within, clause_none, clause_many, clause_single}
use Rattle.clauses.proofs.clause_at.Goals as goal

pub all-requires : goal.all-requires
all-requires c = let r = c.requires in rw c.start.ensures (start_within c.args.q.now c.args.at r.0 r.1)

pub returns-in_err-g : goal.returns-in_err-g
returns-in_err-g c =
    let a = rw c.start.ensures at c.all.ensures in
    let h : Err (NotClause c.args.at) ≡ clause_at c.args.q.now c.args.at = clause_none c.args.q.now c.args.at c.requires.0 (sym c.in_err-g.ensures.ok_part ∙ a) in
    search rules

pub returns-then-g-gt1 : goal.returns-then-g-gt1
returns-then-g-gt1 c =
    let g = c.in_ok-g in
    let a = rw c.start.ensures at c.all.ensures in
    clause_many c.args.q.now c.args.at c.requires.0 g.g (sym g.ensures.ok_part ∙ a) (omega arith)

pub returns : goal.returns
returns c =
    let g = c.in_ok-g in
    let a = rw c.start.ensures at c.all.ensures in
    clause_single c.args.q.now c.args.at c.requires.0 g.g (sym g.ensures.ok_part ∙ a) (omega arith)
