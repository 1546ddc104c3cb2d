use Rattle.std.proofs.Common.{◌≡◌, sym, ap, ◌∙◌, [], ◌∷◌}
use Rattle.calculus.specs.Syntax.{side_of}
use Rattle.sequent.specs.declared.Which.TheVariants.{Neither, Both}
use Rattle.sequent.specs.View.{joined}
use Rattle.sequent.proofs.Passes.{chain_kept, kept}
use Rattle.sequent.proofs.Letters.{joined_none, joined_both}
use Rattle.sequent.proofs.Growing.parts.Goals as goal

pub returns-in-Neither : goal.returns-in-Neither
returns-in-Neither c =
    let a = c.args in
    let e : side_of a.x.p a.side ≡ Neither = sym c.on.ensures ∙ c.in-Neither.is in
    rw e (kept a.self.pass a.new.now, joined_none a.self.half)

pub returns-in-Both : goal.returns-in-Both
returns-in-Both c =
    let a = c.args in
    let first = c.part-in-Both.ensures in
    let second = c.part-in-Both-2.ensures in
    let e : side_of a.x.p a.side ≡ Both = sym c.on.ensures ∙ c.in-Both.is in
    rw e (chain_kept first.0 second.0, second.1 ∙ ap (joined (a.x.g ∷ [])) first.1 ∙ joined_both (a.x.f ∷ []) (a.x.g ∷ []) a.self.half)
