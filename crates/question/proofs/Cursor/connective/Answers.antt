use Rattle.std.proofs.Common.{rules, sym}
use Rattle.question.proofs.Readers.{connective_two}
use Rattle.question.proofs.Cursor.connective.Goals as goal

pub returns-else-b-eq2 : goal.returns-else-b-eq2
returns-else-b-eq2 c =
    let a = c.args in
    let p = c.requires in
    λ q w h e. (sym (connective_two q a.self p.1 p.3 h a.b e c.if-self-ge-MOST_CONNECTIVES.false p.4 p.5 c.if-b-eq2.false), search rules)
