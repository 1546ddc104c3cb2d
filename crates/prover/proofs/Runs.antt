-- The run of a rule's premises, one after the other.
-- Assumes nothing.
use mathlib.Core.Path.{◌≡◌, refl, sym, ap, ◌∙◌, subst}
use mathlib.Core.List.{List, [], ◌∷◌, map}
use Prim.Native.Nat.{ℕ, zero, suc, ◌+◌, ◌*◌, ◌^◌, ◌≤◌, ◌<◌}
use native.Mathlib.Nat.{zero-add, add-zero, add_assoc}
use native.Mathlib.Omega.{arith}
use lib.ListN.{length, drop, get_or}
use lib.Pow.{pow_mono}
use Rattle.calculus.specs.declared.Kind.{Kind}
use Rattle.calculus.specs.declared.Kind.TheVariants.{Theorem, Refuted, Spent}
use Rattle.calculus.specs.declared.Outcome.{Outcome}
use Rattle.calculus.specs.Fold.{fold, SUM}
use Rattle.calculus.specs.Limits.{LIMITS, ROOM, CONNECTIVES}
use Rattle.calculus.specs.Syntax.{Sequent, c, size}
use Rattle.calculus.specs.Tree.{lettered, paired, Event, close, reduce, closings, closings_before, tree, spend, outcome, and_then, pass, act}
use Rattle.calculus.proofs.Bounds.{closings_bound, W_bound}
use Rattle.calculus.proofs.Budgets.{spend_closings, outcome_step}
use Rattle.calculus.proofs.Room.{reachable_few}
use Rattle.sequent.specs.Rule.{Placing}
use Rattle.sequent.proofs.Placings.{nowhere, next, next_ends}
use Rattle.sequent.proofs.Goods.{premises_made, few, makes_next, made_small}
use Rattle.sequent.specs.declared.Reduction.{Reduction}
use Rattle.sequent.specs.Compounds.{rule_for, premises_at, premise_by, Makes}
use Rattle.sequent.specs.declared.Running.{Running}
use Rattle.sequent.specs.View.{view, sequent_of}
use Rattle.prover.specs.declared.Finding.{Finding}
use Rattle.sequent.specs.declared.Counted.{Counted}
use Rattle.prover.specs.Inner.{inner_of, Stepped, First}
use Rattle.prover.specs.Runs.{after, made, ended, Ran, Comes}

-- what the step answers, the run does
pub answered : {T items : List ℕ} {s : Running} {b : ℕ} {f : Finding} → Stepped T items s b f → act outcome b (sequent_of T items s) (inner_of T (view s items) f) ≡ outcome b (sequent_of T items s)
answered {T} {items} {s} {b} e = ap (act outcome b (sequent_of T items s)) e.inner ∙ sym (outcome_step b (sequent_of T items s))

-- ---- closings fit

closings_before_lem : (b : ℕ) (es : List Event) → closings_before b es ≤ closings es
closings_before_lem b [] = omega arith
closings_before_lem b (close k ∷ es) = omega (arith, closings_before_lem b es)
closings_before_lem zero (reduce s i k ∷ es) = omega arith
closings_before_lem (suc b) (reduce s i k ∷ es) = omega (arith, closings_before_lem b es)

pub closings_small : (b : ℕ) (S : Sequent) → c S ≤ CONNECTIVES → (outcome b S).closings ≤ 2 ^ CONNECTIVES
closings_small b S h =
    omega (arith, spend_closings b (tree S).events (tree S).end, closings_before_lem b (tree S).events, closings_bound S, W_bound S, pow_mono {j = CONNECTIVES} h)

-- each closing by equal formulas is one of them
pairings_less : (b : ℕ) (es : List Event) (e : Kind) → (spend b es e).pairings ≤ (spend b es e).closings
pairings_less b [] e = omega arith
pairings_less b (close (lettered k) ∷ es) e = omega (arith, pairings_less b es e)
pairings_less b (close (paired i j) ∷ es) e = omega (arith, pairings_less b es e)
pairings_less zero (reduce s i k ∷ es) e = omega arith
pairings_less (suc b) (reduce s i k ∷ es) e = pairings_less b es e

pub pairings_small : (b : ℕ) (S : Sequent) → (outcome b S).pairings ≤ (outcome b S).closings
pairings_small b S = pairings_less b (tree S).events (tree S).end

-- ---- the premises ahead

stops : (k : Kind) → (k ≡ Theorem → ⊥) → (o : Outcome) (u : ℕ → Outcome) (Ps : List Sequent) → (and_then k o u ≡ o) × (after k Ps ≡ [])
stops Theorem n o u Ps = absurd (n refl)
stops (Refuted σ) n o u Ps = (refl, refl)
stops Spent n o u Ps = (refl, refl)

-- an outcome so far, and that of the premise after it
abbrev pub and_so : Outcome → Outcome → Outcome
and_so o v = record { kind = v.kind; unspent = v.unspent; closings = o.closings + v.closings; pairings = o.pairings + v.pairings }

-- j premises of a reduction's rule are run and closed, and come to o so far, with n places stored
pub record Ahead (T items : List ℕ) (s : Running) (r : Reduction) (rule : List Placing) (b j : ℕ) (o : Outcome) (n : ℕ) : Type 0 where
  pub reduction : First T items s r
  pub rows : rule ≡ rule_for r
  pub closed : o.kind ≡ Theorem
  pub outcome : pass outcome b (map (premise_by T items s r) rule) ≡ and_so o (pass outcome o.unspent (map (premise_by T items s r) (drop j rule)))
  pub stores : n + fold SUM size (made o.unspent (map (premise_by T items s r) (drop j rule))) ≡ fold SUM size (made b (map (premise_by T items s r) rule))
  pub few : o.closings ≤ 2 ^ CONNECTIVES * j
  pub among : o.pairings ≤ o.closings
  pub small : n ≤ ROOM * j

pub ahead_starts : {T items : List ℕ} {s : Running} {r : Reduction} → First T items s r → {rule : List Placing} → rule ≡ rule_for r → (b : ℕ)
    → Ahead T items s r rule b 0 (ended Theorem b 0 0) 0
ahead_starts {T} {items} {s} {r} f {rule} e b =
    let v = pass outcome b (map (premise_by T items s r) rule) in
    record {
      reduction = f;
      rows = e;
      closed = refl;
      outcome = λ i. record { kind = v.kind; unspent = v.unspent; closings = sym (zero-add v.closings) i; pairings = sym (zero-add v.pairings) i };
      stores = zero-add _;
      few = omega arith;
      among = omega arith;
      small = omega arith;
    }

module _ {T items : List ℕ} {s : Running} {r : Reduction} {rule : List Placing} {b j : ℕ} {o : Outcome} {n : ℕ} (a : Ahead T items s r rule b j o n) where
  abbrev premise_at : ℕ → Sequent
  premise_at i = premise_by T items s r (get_or rule i nowhere)

  ended_premises : map (premise_by T items s r) rule ≡ premises_at T items s r
  ended_premises = premises_made T items s a.reduction.good r a.reduction.can rule a.rows

  module _ (h : j < length rule) where
    -- the next premise can be made
    pub ahead_makes : Makes T items s r (get_or rule j nowhere)
    ahead_makes = makes_next T items s a.reduction.good r a.reduction.can rule a.rows a.reduction.reached j h

    ahead_small : size (premise_at j) ≤ ROOM
    ahead_small = made_small T items s r (get_or rule j nowhere) ahead_makes

    abbrev rest : List Sequent
    rest = map (premise_by T items s r) (drop (j + 1) rule)

    module _ {u : Counted Outcome} (e : Ran o.unspent (premise_by T items s r (get_or rule j nowhere)) u) where
      opened : pass outcome o.unspent (map (premise_by T items s r) (drop j rule)) ≡ and_then u.value.kind u.value (λ l. pass outcome l rest)
      opened = ap (λ (ps : List Placing). pass outcome o.unspent (map (premise_by T items s r) ps)) (next rule j h) ∙ ap (λ (v : Outcome). and_then v.kind v (λ l. pass outcome l rest)) (sym e.outcome)

      made_opened : made o.unspent (map (premise_by T items s r) (drop j rule)) ≡ premise_at j ∷ after u.value.kind (made u.value.unspent rest)
      made_opened =
          ap (λ (ps : List Placing). made o.unspent (map (premise_by T items s r) ps)) (next rule j h)
          ∙ ap (λ (v : Outcome). premise_at j ∷ after v.kind (made v.unspent rest)) (sym e.outcome)

      closings_fit : u.value.closings ≤ 2 ^ CONNECTIVES
      closings_fit = omega (arith, ap (λ (v : Outcome). v.closings) e.outcome, closings_small o.unspent (premise_at j) (reachable_few LIMITS (premise_at j) ahead_makes.reached))

      pairings_fit : u.value.pairings ≤ u.value.closings
      pairings_fit = subst (λ (v : Outcome). v.pairings ≤ v.closings) (sym e.outcome) (pairings_small o.unspent (premise_at j))

      -- what is counted fits
      pub ahead_fits : (o.closings + u.value.closings ≤ 2 ^ CONNECTIVES * 2) × (o.pairings + u.value.pairings ≤ 2 ^ CONNECTIVES * 2) × (n + u.stores ≤ ROOM * 2)
      ahead_fits =
          let two = few T items s a.reduction.good r a.reduction.can rule a.rows in
          let k = closings_fit in
          let m = pairings_fit in
          (omega (arith, a.few), omega (arith, a.few, a.among), omega (arith, a.small, e.stores, ahead_small))

      pub ahead_goes : u.value.kind ≡ Theorem → Ahead T items s r rule b (j + 1) (and_so o u.value) (n + u.stores)
      ahead_goes t =
          let v = pass outcome u.value.unspent rest in
          let w : made o.unspent (map (premise_by T items s r) (drop j rule)) ≡ premise_at j ∷ made u.value.unspent rest = rw t at made_opened in
          let k = closings_fit in
          let m = pairings_fit in
          record {
            reduction = a.reduction;
            rows = a.rows;
            closed = t;
            outcome = a.outcome ∙ ap (and_so o) (rw t at opened) ∙ (λ i. record { kind = v.kind; unspent = v.unspent; closings = sym (add_assoc o.closings u.value.closings v.closings) i; pairings = sym (add_assoc o.pairings u.value.pairings v.pairings) i });
            stores = omega (arith, a.stores, ap (fold SUM size) w, e.stores);
            few = omega (arith, a.few);
            among = omega (arith, a.among);
            small = omega (arith, a.small, e.stores, ahead_small);
          }

      pub ahead_stops : (u.value.kind ≡ Theorem → ⊥) → Comes b (premises_at T items s r) (record { value = and_so o u.value; stores = n + u.stores })
      ahead_stops t =
          let k = stops u.value.kind t u.value (λ l. pass outcome l rest) (made u.value.unspent rest) in
          let w : made o.unspent (map (premise_by T items s r) (drop j rule)) ≡ premise_at j ∷ [] = made_opened ∙ ap (λ (Ps : List Sequent). premise_at j ∷ Ps) k.1 in
          rw (← ended_premises)
          (record {
            outcome = sym (a.outcome ∙ ap (and_so o) (opened ∙ k.0));
            stores = omega (arith, a.stores, ap (fold SUM size) w, e.stores);
          })

  pub ahead_ends : length rule ≤ j → Comes b (premises_at T items s r) (record { value = o; stores = n })
  ahead_ends h =
      let e = next_ends rule j h in
      rw (← ended_premises)
      (record {
        outcome = sym (a.outcome ∙ ap (λ (ps : List Placing). and_so o (pass outcome o.unspent (map (premise_by T items s r) ps))) e ∙ (λ i. record { kind = sym a.closed i; unspent = o.unspent; closings = add-zero o.closings i; pairings = add-zero o.pairings i }));
        stores = omega (arith, a.stores, ap (λ (ps : List Placing). fold SUM size (made o.unspent (map (premise_by T items s r) ps))) e);
      })

-- ---- the premises made are all of the rule's, unless the run ended in the first

after_none : (k : Kind) → after k [] ≡ []
after_none Theorem = refl
after_none (Refuted σ) = refl
after_none Spent = refl

pub made_one : (b : ℕ) (P : Sequent) → made b (P ∷ []) ≡ P ∷ []
made_one b P = ap (λ (Ps : List Sequent). P ∷ Ps) (after_none (outcome b P).kind)

pub made_two : (b : ℕ) (P Q : Sequent) → (outcome b P).kind ≡ Theorem → made b (P ∷ Q ∷ []) ≡ P ∷ Q ∷ []
made_two b P Q h = ap (λ (k : Kind). P ∷ after k (made (outcome b P).unspent (Q ∷ []))) h ∙ ap (λ (Ps : List Sequent). P ∷ Ps) (made_one (outcome b P).unspent Q)

pub made_first : (b : ℕ) (P : Sequent) (Ps : List Sequent) → ((outcome b P).kind ≡ Theorem → ⊥) → made b (P ∷ Ps) ≡ P ∷ []
made_first b P Ps h = ap (λ (Qs : List Sequent). P ∷ Qs) (stops (outcome b P).kind h (outcome b P) (λ l. outcome l P) (made (outcome b P).unspent Ps)).1
