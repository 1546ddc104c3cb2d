-- The bytes of a derivation, stored one after the other.
-- Assumes nothing.
use mathlib.Core.Path.{◌≡◌, refl, sym, ap, ◌∙◌, subst}
use mathlib.Core.List.{List, [], ◌∷◌, ◌++◌, map, append-nil}
use Prim.Native.Nat.{ℕ, ◌+◌, ◌-◌, ◌*◌, ◌^◌, ◌≤◌, ◌<◌}
use native.Mathlib.Nat.{zero-add}
use native.Mathlib.Omega.{arith}
use lib.ListN.{length, take, drop, get_or, length-append, length-drop}
use lib.Seq.{sets, sets-eq, length-sets}
use Rattle.calculus.specs.declared.Side.{Side}
use Rattle.calculus.specs.declared.Kind.{Kind}
use Rattle.calculus.specs.declared.Kind.TheVariants.{Theorem, Refuted, Spent}
use Rattle.calculus.specs.Fold.{fold, SUM, Each}
use Rattle.calculus.specs.Limits.{LETTERS, ROOM}
use Rattle.calculus.specs.Syntax.{Compound, Sequent, size}
use Rattle.calculus.specs.Table.{premises}
use Rattle.calculus.specs.Tree.{letters, state, Way, lettered, Step, closed, opened, reduced, step, Event, reduce, Tree, follow, chain, under, grow, tree, Inner, is_closed, is_open, is_spent, is_due, afford, inner}
use Rattle.calculus.specs.Derivation.{REDUCE, order_code, written_all, derivation}
use Rattle.calculus.proofs.Buffers.{sets_append, sets_start}
use Rattle.calculus.proofs.Derivations.{written_all_append}
use Rattle.calculus.proofs.Trees.{tree_grows, right_step, bit_state}
use Rattle.prover.proofs.Closings.{bit_below}
use Rattle.sequent.specs.Rule.{Placing}
use Rattle.sequent.specs.declared.Running.{Running}
use Rattle.sequent.specs.View.{view, sequent_of}
use Rattle.sequent.specs.Compounds.{FoundAt, compound_at, rule_for, premises_at, premise_by, Makes}
use Rattle.sequent.proofs.Lists.{each_unmap}
use Rattle.sequent.proofs.Placings.{nowhere, next, next_ends, Summed, sum_starts, sum_goes, sum_ends}
use Rattle.sequent.proofs.Goods.{premises_made, few, makes_next, made_small}
use Rattle.calculus.proofs.Folds.{each_at}
use Rattle.std.proofs.lemmas.List.{append_assoc, take_rest, drop-drop, drop_all}
use Rattle.sequent.specs.declared.Reduction.{Reduction}
use Rattle.prover.specs.declared.Finding.{Finding}
use Rattle.prover.specs.declared.Finding.TheVariants.{Closed, Paired, Open, Spent as SpentFound, Reduce}
use Rattle.prover.specs.Inner.{inner_of, Stepped, First}
use Rattle.calculus.specs.declared.Pair.{Pair}
use Rattle.sequent.specs.declared.Counted.{Counted}
use Rattle.writer.specs.Emits.{Provable, derivations, Emits}

-- ---- storing bytes

-- the part from a place on
pub part_long : (l : List ℕ) (i n : ℕ) → i + n ≤ length l → n ≤ length (take (length l - i) (drop i l))
part_long l i n h = rw (take_rest l i) (omega (arith, length-drop i l))

-- what is stored at its start is stored from that place on
pub part_sets : (l new : List ℕ) (i : ℕ) (xs : List ℕ) → i + length xs ≤ length l → new ≡ sets (take (length l - i) (drop i l)) 0 xs
    → take i l ++ (new ++ drop (length l - i) (drop i l)) ≡ sets l i xs
part_sets l new i xs h e =
    let part = take_rest l i in
    let end : drop (length l - i) (drop i l) ≡ [] = drop_all (length l - i) (drop i l) (omega (arith, length-drop i l)) in
    let k : length xs ≤ length (drop i l) = omega (arith, length-drop i l) in
    let v : new ≡ xs ++ drop (i + length xs) l = e ∙ ap (λ (ys : List ℕ). sets ys 0 xs) part ∙ sets_start (drop i l) xs k ∙ ap (λ (ys : List ℕ). xs ++ ys) (drop-drop (length xs) i l) in
    let w : take i l ++ (new ++ drop (length l - i) (drop i l)) ≡ take i l ++ (xs ++ drop (i + length xs) l) = rw (end, append-nil, v) in
    w ∙ sym (sets-eq xs l i h ∙ append_assoc (take i l) xs (drop (i + length xs) l))

-- ---- the tree of a theorem, by what the inner step says

closed_step : (t : Step) (w : Way) → afford 1 t ≡ is_closed w → t ≡ closed w
closed_step (closed v) w e = cc
closed_step (opened σ) w e = cc
closed_step (reduced s i x) w e = cc

due_step : (t : Step) (s : Side) (i : ℕ) (x : Compound) → afford 1 t ≡ is_due s i x → t ≡ reduced s i x
due_step (closed j) s i x e = cc
due_step (opened σ) s i x e = cc
due_step (reduced u j y) s i x e = cc

-- The letter that closes a sequent is within the limit.
pub closed_small : (S : Sequent) (k : ℕ) → is_closed (lettered k) ≡ inner 1 S → state (letters S.on_left) < 2 ^ LETTERS → k < LETTERS
closed_small S k e h =
    let r = rw (closed_step (step S) (lettered k) (sym e)) at (right_step S) in
    bit_below LETTERS k (state (letters S.on_left)) h (bit_state k (letters S.on_left) ∙ r.0)

-- An open sequent is no theorem.
abbrev pub Goes : Inner → Type 0
Goes (is_closed w) = Unit {0}
Goes (is_open σ) = ⊥
Goes is_spent = ⊥
Goes (is_due s i x) = Unit {0}

pub theorem_goes : (S : Sequent) → (tree S).end ≡ Theorem → Goes (inner 1 S)
theorem_goes S h = go (step S) (ap (λ (t : Tree). t.end) (sym (tree_grows S)) ∙ h)
  where
    go : (t : Step) → (grow tree S t).end ≡ Theorem → Goes (afford 1 t)
    go (closed w) e = tt
    go (opened σ) e = let z : ◌≡◌ {A = ℕ} 0 1 = cc in omega arith
    go (reduced s i x) e = tt

-- A theorem's step is closed or reduced.
pub no_other : {T items : List ℕ} {s : Running} {f : Finding} → Stepped T items s 1 f → Provable (sequent_of T items s)
    → ((k : ℕ) → f ≡ Closed k → ⊥) → ((p : Pair ℕ) → f ≡ Paired p → ⊥) → ((r : Reduction) → f ≡ Reduce r → ⊥) → ⊥
no_other {T} {items} {s} {f} w h = go f (subst Goes (sym w.inner) (theorem_goes (sequent_of T items s) h))
  where
    go : (f : Finding) → Goes (inner_of T (view s items) f) → ((k : ℕ) → f ≡ Closed k → ⊥) → ((p : Pair ℕ) → f ≡ Paired p → ⊥) → ((r : Reduction) → f ≡ Reduce r → ⊥) → ⊥
    go (Closed k) g p q u = p k refl
    go (Paired x) g p q u = q x refl
    go (Open σ) g p q u = g
    go SpentFound g p q u = g
    go (Reduce r) g p q u = u r refl

reduced_tree : (S : Sequent) (s : Side) (i : ℕ) (x : Compound) → is_due s i x ≡ inner 1 S → tree S ≡ under (reduce s i x.connective) (chain tree (premises s i x S))
reduced_tree S s i x e = tree_grows S ∙ ap (grow tree S) (due_step (step S) s i x (sym e))

follow_theorem : (es : List Event) (e : Kind) (u : Tree) → (follow es e u).end ≡ Theorem → (e ≡ Theorem) × (u.end ≡ Theorem) × ((follow es e u).events ≡ es ++ u.events)
follow_theorem es Theorem u h = (refl, h, refl)
follow_theorem es (Refuted σ) u h = let z : ◌≡◌ {A = ℕ} 0 1 = cc in absurd (omega arith)
follow_theorem es Spent u h = let z : ◌≡◌ {A = ℕ} 0 1 = cc in absurd (omega arith)

-- where the premises come to a theorem, each is one, and what is written is their derivations
chain_theorem : (Ps : List Sequent) → (chain tree Ps).end ≡ Theorem → Each Provable Ps × (written_all (chain tree Ps).events ≡ derivations Ps)
chain_theorem [] h = (tt, refl)
chain_theorem (P ∷ Ps) h =
    let f = follow_theorem (tree P).events (tree P).end (chain tree Ps) h in
    let r = chain_theorem Ps f.1 in
    ((f.0, r.0), ap written_all f.2 ∙ written_all_append (tree P).events (chain tree Ps).events ∙ ap (λ (bs : List ℕ). derivation P ++ bs) r.1)

-- A theorem that is reduced has theorems for premises, and its derivation is the command and theirs.
module _ {T items : List ℕ} {s : Running} {r : Reduction} (w : Stepped T items s 1 (Reduce r)) (h : Provable (sequent_of T items s)) where
  abbrev x : Compound
  x = compound_at T r.place.side r.place.at (view s items)

  grown : tree (sequent_of T items s) ≡ under (reduce r.place.side r.place.at x.connective) (chain tree (premises_at T items s r))
  grown = reduced_tree (sequent_of T items s) r.place.side r.place.at x w.inner

  chained : Each Provable (premises_at T items s r) × (written_all (chain tree (premises_at T items s r)).events ≡ derivations (premises_at T items s r))
  chained = chain_theorem (premises_at T items s r) (ap (λ (t : Tree). t.end) (sym grown) ∙ h)

  pub due_provable : Each Provable (premises_at T items s r)
  due_provable = chained.0

  pub due_derivation : derivation (sequent_of T items s) ≡ order_code (REDUCE r.place.side x.connective) ∷ r.place.at ∷ derivations (premises_at T items s r)
  due_derivation = ap (λ (t : Tree). written_all t.events) grown ∙ ap (λ (bs : List ℕ). order_code (REDUCE r.place.side x.connective) ∷ r.place.at ∷ bs) chained.1

  pub due_long : length (derivation (sequent_of T items s)) ≡ 2 + length (derivations (premises_at T items s r))
  due_long = omega (arith, ap length due_derivation)

  -- the command is stored, and the premises' derivations behind it
  pub due_written : (out : List ℕ) → length (derivation (sequent_of T items s)) ≤ length out → (b : ℕ) → b ≡ order_code (REDUCE r.place.side x.connective)
      → (n : ℕ) → n ≡ 2 → (put : List ℕ) → put ≡ sets out 0 (b ∷ r.place.at ∷ []) → {count : ℕ} {last : List ℕ} {e : Counted ℕ}
      → Emits (derivations (premises_at T items s r)) count (take (length put - n) (drop n put)) last e
      → (n + e.value ≡ length (derivation (sequent_of T items s))) × (take n put ++ (last ++ drop (length put - n) (drop n put)) ≡ sets out 0 (derivation (sequent_of T items s)))
  due_written out room b command n two put stored {count} {last} {e} u =
      let ds = derivations (premises_at T items s r) in
      let fits : n + length ds ≤ length put = omega (arith, due_long, ap length stored, length-sets out 0 (b ∷ r.place.at ∷ [])) in (
        omega (arith, u.long, due_long),
        part_sets put last n ds fits u.written ∙ ap (λ (i : ℕ). sets put i ds) two ∙ ap (λ (l : List ℕ). sets l 2 ds) stored ∙ sets_append out 0 (b ∷ r.place.at ∷ []) ds
            ∙ ap (λ (k : ℕ). sets out 0 (k ∷ r.place.at ∷ ds)) command ∙ ap (sets out 0) (sym due_derivation),
      )

-- ---- the premises of a rule, one after the other

-- j premises of a reduction's rule are written, in so many bytes and with n stores
pub record Ahead (T items : List ℕ) (s : Running) (r : Reduction) (rule : List Placing) (old : List ℕ) (j bytes n : ℕ) (new : List ℕ) : Type 0 where
  pub reduction : First T items s r
  pub rows : rule ≡ rule_for r
  pub provable : Each Provable (premises_at T items s r)
  pub room : length (derivations (map (premise_by T items s r) rule)) ≤ length old
  pub sum : Summed (premise_by T items s r) rule j n
  pub place : bytes + length (derivations (map (premise_by T items s r) (drop j rule))) ≡ length (derivations (map (premise_by T items s r) rule))
  pub stored : sets new bytes (derivations (map (premise_by T items s r) (drop j rule))) ≡ sets old 0 (derivations (map (premise_by T items s r) rule))
  pub long : length new ≡ length old

pub ahead_starts : {T items : List ℕ} {s : Running} {r : Reduction} → First T items s r → {rule : List Placing} → rule ≡ rule_for r → (old : List ℕ)
    → Each Provable (premises_at T items s r) → length (derivations (premises_at T items s r)) ≤ length old → Ahead T items s r rule old 0 0 0 old
ahead_starts {T} {items} {s} {r} f {rule} e old p k =
    record {
      reduction = f;
      rows = e;
      provable = p;
      room = rw (premises_made T items s f.good r f.can rule e) k;
      sum = sum_starts (premise_by T items s r) rule;
      place = zero-add _;
      stored = refl;
      long = refl;
    }

module _ {T items : List ℕ} {s : Running} {r : Reduction} {rule : List Placing} {old : List ℕ} {j bytes n : ℕ} {new : List ℕ} (a : Ahead T items s r rule old j bytes n new) where
  abbrev next_premise : Sequent
  next_premise = premise_by T items s r (get_or rule j nowhere)

  premises_are : map (premise_by T items s r) rule ≡ premises_at T items s r
  premises_are = premises_made T items s a.reduction.good r a.reduction.can rule a.rows

  module _ (h : j < length rule) where
    abbrev rest : List ℕ
    rest = derivations (map (premise_by T items s r) (drop (j + 1) rule))

    ahead_bytes : derivations (map (premise_by T items s r) (drop j rule)) ≡ derivation next_premise ++ rest
    ahead_bytes = ap (λ (ps : List Placing). derivations (map (premise_by T items s r) ps)) (next rule j h)

    pub ahead_within : bytes + length (derivation next_premise) ≤ length new
    ahead_within = omega (arith, a.place, a.long, a.room, ap length ahead_bytes, length-append (derivation next_premise) rest)

    -- the next premise can be made, it is a theorem, and there is room for its derivation
    pub ahead_next : Makes T items s r (get_or rule j nowhere) × FoundAt (view s items) r.place.side r.place.at × Provable next_premise × (length (derivation next_premise) ≤ length (take (length new - bytes) (drop bytes new)))
    ahead_next = (
      makes_next T items s a.reduction.good r a.reduction.can rule a.rows a.reduction.reached j h,
      a.reduction.found,
      each_at (λ p. Provable (premise_by T items s r p)) rule j nowhere (each_unmap (premise_by T items s r) Provable rule (subst (Each Provable) (sym premises_are) a.provable)) h,
      part_long new bytes (length (derivation next_premise)) ahead_within,
    )

    next_small : size next_premise ≤ ROOM
    next_small = made_small T items s r (get_or rule j nowhere) ahead_next.0

    module _ {e : Counted ℕ} {last : List ℕ} (w : Emits (derivation next_premise) (size next_premise) (take (length new - bytes) (drop bytes new)) last e) where
      -- what is counted fits
      pub ahead_fits : (bytes + e.value ≤ length old) × (n + e.stores ≤ ROOM * 2)
      ahead_fits =
          let k = few T items s a.reduction.good r a.reduction.can rule a.rows in
          (omega (arith, ahead_within, w.long, a.long), omega (arith, w.stores, next_small, a.sum.small))

      pub ahead_goes : Ahead T items s r rule old (j + 1) (bytes + e.value) (n + e.stores) (take bytes new ++ (last ++ drop (length new - bytes) (drop bytes new)))
      ahead_goes =
          let d = derivation next_premise in
          let v = part_sets new last bytes d ahead_within w.written in
          record {
            reduction = a.reduction;
            rows = a.rows;
            provable = a.provable;
            room = a.room;
            sum = sum_goes (premise_by T items s r) rule j n a.sum h e.stores w.stores next_small;
            place = omega (arith, a.place, w.long, ap length ahead_bytes, length-append d rest);
            stored = ap (λ (i : ℕ). sets (take bytes new ++ (last ++ drop (length new - bytes) (drop bytes new))) (bytes + i) rest) w.long ∙ ap (λ (l : List ℕ). sets l (bytes + length d) rest) v ∙ sets_append new bytes d rest
                ∙ ap (sets new bytes) (sym ahead_bytes) ∙ a.stored;
            long = ap length v ∙ length-sets new bytes d ∙ a.long;
          }

  pub ahead_ends : length rule ≤ j → Emits (derivations (premises_at T items s r)) (fold SUM size (premises_at T items s r)) old new (record { value = bytes; stores = n })
  ahead_ends h =
      let e = next_ends rule j h in
      rw (← premises_are)
      (record {
        long = omega (arith, a.place, ap (λ (ps : List Placing). length (derivations (map (premise_by T items s r) ps))) e);
        written = sym (ap (λ (ps : List Placing). sets new bytes (derivations (map (premise_by T items s r) ps))) e) ∙ a.stored;
        stores = sum_ends (premise_by T items s r) rule j n a.sum h;
      })
