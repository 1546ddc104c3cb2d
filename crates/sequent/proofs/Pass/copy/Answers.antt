use Rattle.std.proofs.Common.{◌≡◌, ap, ◌∙◌, ℕ, ◌+◌, ◌-◌, arith}
use Rattle.std.proofs.Math.Seq.{slice, length-slice}
use Rattle.sequent.proofs.Passes.{copied}
use Rattle.sequent.proofs.Premises.{take_drop}
use Rattle.sequent.proofs.Pass.copy.Goals as goal

pub returns : goal.returns
returns c =
    let a = c.args in
    let h = c.requires in
    let n : a.self.from + (a.end - a.self.from) ≡ a.end = omega (arith, h.0) in
    let e = take_drop a.self.from (a.end - a.self.from) a.old.now (omega (arith, h, c.told-old)) ∙ ap (λ (j : ℕ). slice a.self.from j a.old.now) n in
    let w = length-slice a.self.from a.end a.old.now (omega (arith, h, c.told-old)) in
    rw e (copied a.self a.end (slice a.self.from a.end a.old.now) c.copy_from_slice.new.self a.new.now
    _ (c.copy_from_slice.ensures.after ∙ e) (omega arith) (omega (arith, w, h, h.2.room, h.2.size)))
