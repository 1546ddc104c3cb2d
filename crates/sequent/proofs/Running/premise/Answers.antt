use Rattle.sequent.proofs.Premises.{premise_fits}
use Rattle.sequent.proofs.Running.premise.Goals as goal

pub build-requires : goal.build-requires
build-requires c =
    let a = c.args in
    let h = c.requires in
    (h.0, h.1, rw c.to_le_bytes.ensures (premise_fits a.self a.old.now c.told-old h.1 a.p _ _ a.r.place.at a.r.place.side h.0 h.2))
