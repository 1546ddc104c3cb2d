use Rattle.std.proofs.Common.{◌≡◌, ◌-◌, sym, arith, length}
use Rattle.calculus.specs.Syntax.{on_side}
use Rattle.calculus.specs.Bytes.{bytes, question, side_start, start_of}
use Rattle.question.specs.Positions.{formula_at}
use Rattle.question.proofs.Questions.{side_formulas, place_well, place_part}
use Rattle.question.proofs.Question.part.Goals as goal

pub end_of-requires : goal.end_of-requires
end_of-requires c =
    let a = c.args in
    let q = a.self.bytes.now in
    let own = c.formulas-formulas.ensures in
    let starts : c.formulas-formulas.result.start ≡ side_start a.side (question q) = rw (own.0, own.1) at c.formulas-formulas.result.starts in
    let counted : c.count.result ≡ length (on_side a.side (question q)) = rw (own.0, own.1) at c.count.ensures in
    let e : c.skip-at.result ≡ start_of a.side a.place (question q) = rw (side_formulas q a.side) at (rw starts at c.skip-at.ensures) in
    rw e (place_well q a.self.accepted a.side a.place (omega (arith, counted)))

pub returns : goal.returns
returns c =
    let a = c.args in
    let q = a.self.bytes.now in
    let own = c.formulas-formulas.ensures in
    let starts : c.formulas-formulas.result.start ≡ side_start a.side (question q) = rw (own.0, own.1) at c.formulas-formulas.result.starts in
    let counted : c.count.result ≡ length (on_side a.side (question q)) = rw (own.0, own.1) at c.count.ensures in
    let i = c.skip-at.result in
    let e : i ≡ start_of a.side a.place (question q) = rw (side_formulas q a.side) at (rw starts at c.skip-at.ensures) in
    let k : c.end_of.result - i ≡ bytes (formula_at q i) = omega (arith, c.end_of.ensures) in
    (omega (arith, counted), rw (k, e) (sym (place_part q a.self.accepted a.side a.place (omega (arith, counted)))))
