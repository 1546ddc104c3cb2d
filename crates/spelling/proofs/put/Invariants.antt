-- The loop's invariant: the formulas that are moved so far, the one in hand and those still to be moved are the new one and the old ones.
use Rattle.std.proofs.Common.{◌≡◌, ◌∷◌, ◌++◌, map, length, take, drop}
use Rattle.spelling.proofs.put.Given as goal

abbrev pub invariant-loop-place : goal.invariant-loop-place
invariant-loop-place l =
    let now = map (λ f. f.now) l.place-items in
    (take l.place-index now ++ l.next ∷ drop l.place-index now ≡ l.x ∷ map (λ f. f.now) l.initial.place-items)
    × (length l.place-items ≡ length l.initial.place-items)
