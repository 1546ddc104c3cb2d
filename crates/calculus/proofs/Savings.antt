-- Closing on equal formulas saves: the tree has at most the reductions and closings of the tree that closes by letters alone.
-- Assumes nothing.
use mathlib.Core.Path.{◌≡◌, refl, sym, ap, ◌∙◌}
use mathlib.Core.Option.{Option, none, some}
use mathlib.Core.List.{List, [], ◌∷◌, ◌++◌}
use Prim.Native.Nat.{ℕ, ◌+◌, ◌≤◌}
use native.Mathlib.Nat.{le_refl}
use native.Mathlib.Omega.{arith}
use lib.ListN.{length, length-append}
use Rattle.calculus.specs.declared.Kind.{Kind}
use Rattle.calculus.specs.declared.Kind.TheVariants.{Theorem, Refuted, Spent}
use Rattle.calculus.specs.Fold.{fold, SUM, Each}
use Rattle.calculus.specs.Syntax.{Sequent}
use Rattle.calculus.specs.Truth.{Valid}
use Rattle.calculus.specs.Table.{premises}
use Rattle.calculus.specs.Tree.{letters, common, Twins, unlike, alike, twins, Way, paired, closing, closing_by_letter, First, missing, here, first, Step, closed, opened, reduced, tests, step_by, Event, Tree, follow, chain, grow, tree_by, tree, is_reduce, is_close, reductions, closings}
use Rattle.calculus.specs.Width.{W}
use Rattle.calculus.specs.Derivation.{written_all}
use Rattle.calculus.proofs.Folds.{fold_append, each}
use Rattle.calculus.proofs.Sequents.{width_premises, Smaller, smaller}
use Rattle.calculus.proofs.Trees.{closed_true, closing_sound, letter_sound, Right_step, right_step_by, tree_by_grows, tree_grows, sequent_ind, tree_by_ind}
use Rattle.calculus.proofs.Bounds.{W_pos, claimed_theorem, tree_by_fine}
use Rattle.calculus.proofs.Derivations.{written_all_append, written_length}

-- the tree that closes by letters alone
abbrev pub letter_tree : Sequent → Tree
letter_tree = tree_by closing_by_letter

-- ---- a theorem's tree closes at least once

abbrev Closes_once : Sequent → Tree → Type 0
Closes_once S t = t.end ≡ Theorem → 1 ≤ closings t.events

follow_once : (es : List Event) (e : Kind) (u : Tree) → (e ≡ Theorem → 1 ≤ closings es) → (follow es e u).end ≡ Theorem → 1 ≤ closings (follow es e u).events
follow_once es Theorem u h q = omega (arith, h refl, fold_append SUM is_close es u.events)
follow_once es (Refuted σ) u h q = h q
follow_once es Spent u h q = h q

grow_once : (S : Sequent) (u : Step) → Right_step S u → ((P : Sequent) → Smaller S P → Closes_once P (letter_tree P)) → Closes_once S (grow letter_tree S u)
grow_once S (closed w) p h q = le_refl 1
grow_once S (opened σ) p h q = absurd cc
grow_once S (reduced s i x) p h q = go (premises s i x S) (omega (arith, W_pos S, width_premises s i x S p)) (smaller s i x S p) q
  where
    go : (Ps : List Sequent) → 1 ≤ fold SUM W Ps → Each (Smaller S) Ps → (chain letter_tree Ps).end ≡ Theorem → 1 ≤ 0 + closings (chain letter_tree Ps).events
    go [] w l q = absurd (omega arith)
    go (P ∷ Ps) w l q = omega (arith, follow_once (letter_tree P).events (letter_tree P).end (chain letter_tree Ps) (h P l.0) q)

-- ---- the comparison

-- the same end, and no more reductions, closings and bytes written
pub record Less (t u : Tree) : Type 0 where
  pub ends : t.end ≡ u.end
  pub reduced_less : reductions t.events ≤ reductions u.events
  pub closed_less : closings t.events ≤ closings u.events
  pub written_less : length (written_all t.events) ≤ length (written_all u.events)

equal_less : (t : Tree) → Less t t
equal_less t = record { ends = refl; reduced_less = le_refl _; closed_less = le_refl _; written_less = le_refl _ }

follow_saves : (es fs : List Event) (e d : Kind) (t u : Tree) → Less (record { events = es; end = e }) (record { events = fs; end = d }) → Less t u
    → Less (follow es e t) (follow fs d u)
follow_saves es fs e Theorem t u p q =
    rw p.ends (record {
      ends = q.ends;
      reduced_less = omega (arith, p.reduced_less, q.reduced_less, fold_append SUM is_reduce es t.events, fold_append SUM is_reduce fs u.events);
      closed_less = omega (arith, p.closed_less, q.closed_less, fold_append SUM is_close es t.events, fold_append SUM is_close fs u.events);
      written_less = omega (arith, p.written_less, q.written_less, both es t.events, both fs u.events);
    })
  where
    both : (gs hs : List Event) → length (written_all (gs ++ hs)) ≡ length (written_all gs) + length (written_all hs)
    both gs hs = ap length (written_all_append gs hs) ∙ length-append (written_all gs) (written_all hs)
follow_saves es fs e (Refuted σ) t u p q = rw p.ends (record { ends = refl; reduced_less = p.reduced_less; closed_less = p.closed_less; written_less = p.written_less })
follow_saves es fs e Spent t u p q = rw p.ends (record { ends = refl; reduced_less = p.reduced_less; closed_less = p.closed_less; written_less = p.written_less })

chain_saves : (Ps : List Sequent) → Each (λ P. Less (tree P) (letter_tree P)) Ps → Less (chain tree Ps) (chain letter_tree Ps)
chain_saves [] h = equal_less _
chain_saves (P ∷ Ps) h =
    follow_saves (tree P).events (letter_tree P).events (tree P).end (letter_tree P).end (chain tree Ps) (chain letter_tree Ps) h.0 (chain_saves Ps h.1)

grow_saves : (S : Sequent) (u : Step) → Right_step S u → ((P : Sequent) → Smaller S P → Less (tree P) (letter_tree P)) → Less (grow tree S u) (grow letter_tree S u)
grow_saves S (closed w) p h = equal_less _
grow_saves S (opened σ) p h = equal_less _
grow_saves S (reduced s i x) p h =
    let q = chain_saves (premises s i x S) (each (Smaller S) (λ P. Less (tree P) (letter_tree P)) h (premises s i x S) (smaller s i x S p)) in
    record { ends = q.ends; reduced_less = omega (arith, q.reduced_less); closed_less = omega (arith, q.closed_less); written_less = omega (arith, q.written_less) }

-- a sequent that is true in every state is a theorem of either tree
valid_theorem : (S : Sequent) → Valid S → (letter_tree S).end ≡ Theorem
valid_theorem S v = claimed_theorem S v (letter_tree S).end (tree_by_fine closing_by_letter letter_sound S).verdict

-- where no letter closes, a theorem is reduced
once_reduced : (S : Sequent) → closing_by_letter S ≡ none → (letter_tree S).end ≡ Theorem → 1 ≤ reductions (letter_tree S).events
once_reduced S e q =
    let g = tree_by_grows closing_by_letter letter_sound S ∙ ap (λ (o : Option Way). grow letter_tree S (tests S o (first S.on_left) (first S.on_right))) e in
    rw g (go (first S.on_left) (first S.on_right) (rw g at q))
  where
    Reduced : Step → Type 0
    Reduced u = (grow letter_tree S u).end ≡ Theorem → 1 ≤ reductions (grow letter_tree S u).events

    go : (a b : First) → Reduced (tests S none a b)
    go (here i x) b d = omega arith
    go missing (here i x) d = omega arith
    go missing missing d = absurd cc

along : (t t' u u' : Tree) → t ≡ t' → u ≡ u' → Less t' u' → Less t u
along t t' u u' p q h = rw (p, q) h

step_saves : (S : Sequent) → ((P : Sequent) → Smaller S P → Less (tree P) (letter_tree P)) → Less (tree S) (letter_tree S)
step_saves S h = go (common (letters S.on_left) (letters S.on_right)) (twins S.on_left S.on_right) refl refl
  where
    to : Option Way → Tree
    to o = grow tree S (tests S o (first S.on_left) (first S.on_right))

    -- no equal formulas decide here: the same step in both
    alone : closing S ≡ closing_by_letter S → Less (tree S) (letter_tree S)
    alone e =
        along (tree S) (to (closing_by_letter S)) (letter_tree S) (grow letter_tree S (step_by closing_by_letter S))
        (tree_grows S ∙ ap to e) (tree_by_grows closing_by_letter letter_sound S)
        (grow_saves S (step_by closing_by_letter S) (right_step_by closing_by_letter letter_sound S) h)

    -- they do: the sequent is true, and without them its tree has a closing at least
    shortly : (i j : ℕ) → closing S ≡ some (paired i j) → closing_by_letter S ≡ none → Less (tree S) (letter_tree S)
    shortly i j e none-shared =
        along (tree S) (to (some (paired i j))) (letter_tree S) (letter_tree S) (tree_grows S ∙ ap to e) refl
        (let q = valid_theorem S (closed_true S (paired i j) (rw e at (closing_sound S))) in
        let k = tree_by_ind closing_by_letter letter_sound Closes_once grow_once S q in
        let r = once_reduced S none-shared q in
        record { ends = sym q; reduced_less = omega arith; closed_less = omega (arith, k); written_less = omega (arith, k, r, written_length (letter_tree S).events) })

    go : (o : Option ℕ) (t : Twins) → common (letters S.on_left) (letters S.on_right) ≡ o → twins S.on_left S.on_right ≡ t
        → Less (tree S) (letter_tree S)
    go (some k) t e d = alone (rw e)
    go none unlike e d = alone (rw (e, d))
    go none (alike i j) e d = shortly i j (rw (e, d)) (rw e)

-- the same end, and at most its reductions, its closings and its bytes
pub saves : (S : Sequent) → Less (tree S) (letter_tree S)
saves = sequent_ind (λ S. Less (tree S) (letter_tree S)) step_saves
