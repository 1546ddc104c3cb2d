use Rattle.std.proofs.Common.{◌≡◌, ◌≤◌, [], ◌∙◌, arith, add-one, map, length, take, drop, List, Bor, ℕ}
use lib.ListN.{length-map}
use Rattle.std.proofs.lemmas.List.{length-set, take_all}
use Rattle.std.proofs.Math.ListN.{drop_of_length-le}
use Rattle.spelling.proofs.Order.{handed_on, put_before}
use Rattle.spelling.proofs.put.Goals as goal

abbrev no_bytes : Bor (List ℕ)
no_bytes = record { ref_ptr = (0, 0); now = [] }

pub loop-place-preserved : goal.loop-place-preserved
loop-place-preserved c =
    let l = c.loop-place in
    let next = handed_on (λ f. f.now) no_bytes c.replace-next.new.dest l.place-items l.place-index (omega (arith, l.auto.place-items, c.loop-place-test.true)) in
    (rw (add-one l.place-index, c.replace-next.ensures.value) (next ∙ rw c.replace-next.ensures.after l.invariant.0), length-set l.place-items l.place-index c.replace-next.new.dest ∙ l.invariant.1)

pub returns : goal.returns
returns c =
    let l = c.loop-place in
    let old = c.args.formulas.now.items in
    let lent = c.as_mut_slice.ensures.value in
    let moved = map (λ f. f.now) l.place-items in
    let all : length moved ≤ l.place-index = simp length-map (omega (arith, l.auto.place-items, c.loop-place-test.false)) in
    let front : take l.place-index moved ≡ moved = take_all l.place-index moved all in
    let behind : drop l.place-index moved ≡ [] = drop_of_length-le moved all in
    let t = rw (front, behind, lent) at l.invariant.0 in
    rw (c.push.ensures.items, lent) (put_before (λ f. f.now) no_bytes l.next old l.place-items c.args.i c.args.x.now (omega arith) (rw lent at l.invariant.1) t)
