use Rattle.question.proofs.Questions.{side_read}
use Rattle.question.proofs.Formulas.letters.Goals as goal

pub letters-requires : goal.letters-requires
letters-requires c =
    let xs = c.args.self in
    let r = side_read xs.q.bytes.now xs.q.accepted xs.side xs.start c.count.result xs.starts c.count.ensures in
    (r.enough, r.lettered)

pub returns : goal.returns
returns c =
    let xs = c.args.self in
    let r = side_read xs.q.bytes.now xs.q.accepted xs.side xs.start c.count.result xs.starts c.count.ensures in
    rw r.all at c.letters.ensures
