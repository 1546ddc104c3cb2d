use Rattle.std.proofs.Common.{◌≡◌, ◌≤◌, ◌∙◌, [], arith, sym, map, length, Bor, List, ℕ}
use lib.ListN.{length-map}
use Rattle.spelling.proofs.Order.{spot_there, spot_before}
use Rattle.spelling.proofs.spot_of.Goals as goal

abbrev no_bytes : Bor (List ℕ)
no_bytes = record { ref_ptr = (0, 0); now = [] }

pub returns-in-Less : goal.returns-in-Less
returns-in-Less c =
    let ls = c.args.items.now in
    let within : c.loop-i.i ≤ length (map (λ f. f.now) ls) = simp length-map (omega (arith, c.loop-i-test.true)) in
    (within, spot_before ls c.args.x c.loop-i.i c.loop-i.invariant no_bytes (omega (arith, c.loop-i-test.true)) (λ h. sym c.compare.ensures ∙ c.in-Less.is))

pub returns-in-Equal : goal.returns-in-Equal
returns-in-Equal c =
    spot_there c.args.items.now c.args.x c.loop-i.i c.loop-i.invariant no_bytes c.loop-i-test.true (sym c.compare.ensures ∙ c.in-Equal.is)

pub returns : goal.returns
returns c =
    let ls = c.args.items.now in
    let end : length ls ≡ length (map (λ f. f.now) ls) = simp length-map in
    let i : c.loop-i.i ≡ length ls = omega (arith, c.loop-i.auto.i-end, c.loop-i-test.false) in
    (omega (arith, end), rw i at (spot_before ls c.args.x c.loop-i.i c.loop-i.invariant no_bytes c.loop-i.auto.i-end (λ h. absurd (omega (arith, c.loop-i-test.false)))))
