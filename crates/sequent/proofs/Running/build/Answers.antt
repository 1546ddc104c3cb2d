use Rattle.std.proofs.Common.{◌∙◌, ℕ, ◌+◌, ◌-◌, ◌++◌, arith}
use Rattle.std.proofs.Math.Seq.{slice}
use Rattle.calculus.specs.declared.Side.TheVariants.{Left, Right}
use Rattle.sequent.specs.Rule.{parts_on}
use Rattle.sequent.proofs.Passes.{chain_at}
use Rattle.sequent.proofs.Premises.{splice_length, end_length, premise_made}
use Rattle.sequent.proofs.Running.build.Goals as goal

pub returns-in-Left : goal.returns-in-Left
returns-in-Left c =
    let a = c.args in
    let h = c.requires in
    let told = c.in-Left.is in
    let inside = rw told at h.0 in
    let l = c.replace-l in
    let r = c.append-r in
    let replaced = rw told at l.ensures.0 in
    rw (told, c.both.ensures) (premise_made a.self a.old.now c.told-old h.1 a.x.p a.x.f a.x.g a.p.at Left inside
    (chain_at (λ (v : ℕ). slice v (a.self.left.count + a.self.right.count) a.old.now ++ parts_on Right a.x.p a.x.f a.x.g) replaced r.ensures.0)
    (l.result.pass.to + (a.self.left.count - l.result.pass.from))
    (omega (arith, h, inside, replaced.from, replaced.to, end_length 0 a.p.at (parts_on Left a.x.p a.x.f a.x.g) a.old.now (omega arith) (omega (arith, h, inside)), splice_length 0 a.p.at a.self.left.count (parts_on Left a.x.p a.x.f a.x.g) a.old.now (omega arith) inside (omega (arith, h))))
    l.result.half r.result.half (rw told at l.ensures.1) r.ensures.1 c.told-new)

pub returns-in-Right : goal.returns-in-Right
returns-in-Right c =
    let a = c.args in
    let h = c.requires in
    let told = c.in-Right.is in
    let inside = rw told at h.0 in
    let l = c.append-l in
    let r = c.replace in
    let e = c.copy-r in
    rw (told, c.both-in-Right.ensures) (premise_made a.self a.old.now c.told-old h.1 a.x.p a.x.f a.x.g a.p.at Right inside
    (chain_at (λ (v : ℕ). slice v (a.self.left.count + a.self.right.count) a.old.now)
    (chain_at (λ (v : ℕ). slice v (a.self.left.count + a.p.at) a.old.now ++ parts_on Right a.x.p a.x.f a.x.g) l.ensures.0 (rw told at r.ensures.0)) e.ensures.0)
    l.result.pass.to
    (omega (arith, l.ensures.0.to))
    l.result.half e.result.half l.ensures.1 (e.ensures.1 ∙ (rw told at r.ensures.1)) c.told-new)
