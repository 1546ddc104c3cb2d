-- The walk over a formula gives its clause, and those over the left formulas the profile.
-- Assumes nothing.
use mathlib.Core.Path.{◌≡◌, refl, sym, ap, ap₂, ◌∙◌}
use mathlib.Core.Bool.{Bool, true, false}
use mathlib.Core.Option as Math
use mathlib.Core.Option.{none, some}
use mathlib.Core.List.{List, [], ◌∷◌, ◌++◌, map, map-append, append-nil}
use Prim.Native.Nat.{ℕ, ◌+◌, ◌-◌, ◌≤◌, ◌<◌}
use native.Mathlib.Omega.{arith}
use lib.ListN.{length, take, drop, length-append}
use Rattle.std.specs.Prelude.{None, Some, Result, Ok, Err}
use Rattle.calculus.specs.Fold.{Each, choose}
use Rattle.calculus.specs.declared.Side.TheVariants.{Left}
use Rattle.calculus.specs.declared.ClauseVerdict.{ClauseVerdict}
use Rattle.calculus.specs.Limits.{FORMULAS, NOT_CLAUSE, MANY_POSITIVE}
use Rattle.calculus.specs.Syntax.{Formula, Sequent}
use Rattle.calculus.specs.Bytes.{question, side_start, encode, formulas, bytes, bytes_all, Lettered}
use Rattle.calculus.specs.Reading.{accepted, reading}
use Rattle.calculus.specs.Clauses.{Clause, both, clause_of, several, Profile, outside, clauses, prepend, admit, profile_from, light_all, decided}
use Rattle.calculus.specs.Reply.{decision_reply, profile_reply}
use Rattle.calculus.proofs.Rounds.{light_all_state}
use Rattle.question.specs.declared.Ended.{Ended}
use Rattle.question.specs.Positions.{Well, formula_at, end_of}
use Rattle.calculus.proofs.Readings.{accepted_question}
use Rattle.question.proofs.Questions.{side_read}
use Rattle.question.proofs.Parts.{NextDue, next_due}
use Rattle.clauses.specs.declared.Masks.{Masks}
use Rattle.clauses.specs.declared.Gathered.{Gathered}
use Rattle.clauses.specs.declared.NotClauses.{NotClauses}
use Rattle.clauses.specs.declared.NotClauses.TheVariants.{NotClause, ManyPositive}
use Rattle.clauses.specs.Answers.{reply_of}
use Rattle.clauses.specs.Walks.{start_at, clause_all, with_clause, total, Within}
use Rattle.clauses.specs.Masks.{masks_of, clause_by, clause_at}

-- ---- one formula

first_taken : (q : List ℕ) (at : ℕ) → Well q at → take 1 (formulas (drop at q)) ≡ formula_at q at ∷ []
first_taken q at h = (next_due q at 1 (omega arith) h).split

pub start_within : (q : List ℕ) (at : ℕ) → Well q at → Lettered (formula_at q at) → Within q (start_at at)
start_within q at h l = record { enough = h; lettered = rw (first_taken q at h) (l, tt); counted = omega arith }

both_empty : (o : Math.Option Clause) → both o (some (record { negative = []; positive = [] })) ≡ o
both_empty none = refl
both_empty (some c) = ap some (λ i. record { negative = append-nil c.negative i; positive = append-nil c.positive i })

start_total : (q : List ℕ) (at : ℕ) → Well q at → total q (start_at at) ≡ with_clause (start_at at) (clause_of (formula_at q at)) (bytes (formula_at q at))
start_total q at h =
    let x = formula_at q at in
    ap (λ (xs : List Formula). with_clause (start_at at) (clause_all xs) (bytes_all xs)) (first_taken q at h)
    ∙ ap₂ (λ (o : Math.Option Clause) (b : ℕ). with_clause (start_at at) o b) (both_empty (clause_of x)) (ap length (append-nil (encode x)))

several_long : (ks : List ℕ) → 1 < length ks → several ks ≡ true
several_long [] h = absurd (omega arith)
several_long (k ∷ []) h = absurd (omega arith)
several_long (k ∷ m ∷ ks) h = refl

several_short : (ks : List ℕ) → length ks ≤ 1 → several ks ≡ false
several_short [] h = refl
several_short (k ∷ []) h = refl
several_short (k ∷ m ∷ ks) h = absurd (omega arith)

record Reads (at b : ℕ) (o : Math.Option Clause) (g : Gathered) : Type 0 where
  clause : Clause
  is : o ≡ some clause
  masks : g.masks ≡ masks_of clause
  count : g.count ≡ length clause.positive
  end : g.at ≡ at + b

reads : (at b : ℕ) (o : Math.Option Clause) (g : Gathered) → Some g ≡ with_clause (start_at at) o b → Reads at b o g
reads at b none g e = absurd (cc)
reads at b (some c) g e =
    let f : g ≡ record { masks = record { negative = light_all c.negative 0; positive = light_all c.positive 0 }; count = 0 + length c.positive; at = at + b; due = 0 } = cc in
    record {
      clause = c;
      is = refl;
      masks = ap (λ (h : Gathered). h.masks) f ∙ (λ i. record { negative = light_all_state c.negative i; positive = light_all_state c.positive i });
      count = omega (arith, ap (λ (h : Gathered). h.count) f);
      end = ap (λ (h : Gathered). h.at) f;
    }

module _ (q : List ℕ) (at : ℕ) (h : Well q at) where
  pub clause_none : None ≡ total q (start_at at) → Err (NotClause at) ≡ clause_at q at
  clause_none e = go (clause_of (formula_at q at)) (e ∙ start_total q at h)
    where
      go : (o : Math.Option Clause) → None ≡ with_clause (start_at at) o (bytes (formula_at q at)) → Err (NotClause at) ≡ clause_by o at (end_of q at)
      go none e = refl
      go (some c) e = absurd (cc)

  module _ (g : Gathered) (e : Some g ≡ total q (start_at at)) where
    r : Reads at (bytes (formula_at q at)) (clause_of (formula_at q at)) g
    r = reads at (bytes (formula_at q at)) (clause_of (formula_at q at)) g (e ∙ start_total q at h)

    told : (b : Bool) → several r.clause.positive ≡ b → choose b (Err (ManyPositive at)) (Ok (record { value = masks_of r.clause; end = end_of q at })) ≡ clause_at q at
    told b f = ap (λ (b : Bool). choose {A = Result (Ended Masks) NotClauses} b (Err (ManyPositive at)) (Ok (record { value = masks_of r.clause; end = end_of q at }))) (sym f) ∙ sym (ap (λ (o : Math.Option Clause). clause_by o at (end_of q at)) r.is)

    pub clause_many : 1 < g.count → Err (ManyPositive at) ≡ clause_at q at
    clause_many l = told true (several_long r.clause.positive (omega (arith, r.count)))

    pub clause_single : g.count ≤ 1 → Ok (record { value = g.masks; end = g.at }) ≡ clause_at q at
    clause_single l = ap₂ (λ (m : Masks) (n : ℕ). Ok (record { value = m; end = n })) r.masks r.end ∙ told false (several_short r.clause.positive (omega (arith, r.count)))

-- the answers, by the clause of the formula
data Found (q : List ℕ) (at : ℕ) : Result (Ended Masks) NotClauses → Type 0 where
  is_none : clause_of (formula_at q at) ≡ none → Found q at (Err (NotClause at))
  is_many : (c : Clause) → clause_of (formula_at q at) ≡ some c → several c.positive ≡ true → Found q at (Err (ManyPositive at))
  is_single : (c : Clause) → clause_of (formula_at q at) ≡ some c → several c.positive ≡ false → Found q at (Ok (record { value = masks_of c; end = end_of q at }))

found : (q : List ℕ) (at : ℕ) → Found q at (clause_at q at)
found q at = go (clause_of (formula_at q at)) refl
  where
    by : (c : Clause) → clause_of (formula_at q at) ≡ some c → (b : Bool) → several c.positive ≡ b → Found q at (choose b (Err (ManyPositive at)) (Ok (record { value = masks_of c; end = end_of q at })))
    by c f true h = is_many c f h
    by c f false h = is_single c f h

    go : (o : Math.Option Clause) → clause_of (formula_at q at) ≡ o → Found q at (clause_by o at (end_of q at))
    go none f = is_none f
    go (some c) f = by c f (several c.positive) refl

-- ---- formula by formula

abbrev prepends : List Clause → Profile → Profile
prepends [] p = p
prepends (c ∷ cs) p = prepend c (prepends cs p)

prepends_snoc : (cs : List Clause) (c : Clause) (p : Profile) → prepends (cs ++ (c ∷ [])) p ≡ prepends cs (prepend c p)
prepends_snoc [] c p = refl
prepends_snoc (d ∷ cs) c p = ap (prepend d) (prepends_snoc cs c p)

prepends_outside : (cs : List Clause) (n at : ℕ) → prepends cs (outside n at) ≡ outside n at
prepends_outside [] n at = refl
prepends_outside (c ∷ cs) n at = ap (prepend c) (prepends_outside cs n at)

prepends_all : (cs : List Clause) → prepends cs (clauses []) ≡ clauses cs
prepends_all [] = refl
prepends_all (c ∷ cs) = ap (prepend c) (prepends_all cs)

-- i of n formulas are stored; these clauses and the formulas from e on come to the whole profile
pub record Storing (q : List ℕ) (all : Profile) (n : ℕ) (ms : List Masks) (e i : ℕ) : Type 0 where
  pub upto : i ≤ n
  pub room : length ms ≡ i
  pub done : List Clause
  pub stored : ms ≡ map masks_of done
  pub enough : n - i ≤ length (formulas (drop e q))
  pub lettered : Each Lettered (take (n - i) (formulas (drop e q)))
  pub same : prepends done (profile_from e (take (n - i) (formulas (drop e q)))) ≡ all

-- the profile of a left side
abbrev pub left_of : Sequent → Profile
left_of S = profile_from (side_start Left S) S.on_left

pub left_few : (q : List ℕ) → reading q ≡ accepted → (n : ℕ) → n ≡ length (question q).on_left → n ≤ FORMULAS
left_few q a n f = omega (arith, f, (accepted_question q a).0.lefts)

pub storing_first : (q : List ℕ) → reading q ≡ accepted → (at n : ℕ) → at ≡ side_start Left (question q) → n ≡ length (question q).on_left → Storing q (left_of (question q)) n [] at 0
storing_first q a at n e f =
    let r = side_read q a Left at n e f in
    let d : n - 0 ≡ n = omega arith in
    record {
      upto = omega arith;
      room = refl;
      done = [];
      stored = refl;
      enough = omega (arith, r.enough);
      lettered = rw d r.lettered;
      same = rw d (ap₂ (λ (p : ℕ) (xs : List Formula). profile_from p xs) e r.all);
    }

module _ {q : List ℕ} {all : Profile} {n : ℕ} {ms : List Masks} {e i : ℕ} (s : Storing q all n ms e i) (h : i < n) where
  now : NextDue q e (n - i)
  now = next_due q e (n - i) (omega arith) s.enough

  abbrev later : Profile
  later = profile_from (end_of q e) (take (n - i - 1) (formulas (drop (end_of q e) q)))

  now_same : prepends s.done (admit e (clause_of (formula_at q e)) (profile_from (end_of q e) (take (n - i - 1) (formulas (drop (end_of q e) q))))) ≡ all
  now_same = sym (ap (λ (xs : List Formula). prepends s.done (profile_from e xs)) now.split) ∙ s.same

  now_lettered : Each Lettered (formula_at q e ∷ take (n - i - 1) (formulas (drop (end_of q e) q)))
  now_lettered = rw now.split at s.lettered

  pub storing_well : Well q e × Lettered (formula_at q e)
  storing_well = (now.well, now_lettered.0)

  refused : (k : ℕ) → admit e (clause_of (formula_at q e)) later ≡ outside k e → all ≡ outside k e
  refused k f = sym now_same ∙ ap (prepends s.done) f ∙ prepends_outside s.done k e

  admitted : (c : Clause) (b : Bool) → clause_of (formula_at q e) ≡ some c → several c.positive ≡ b
      → admit e (clause_of (formula_at q e)) later ≡ choose b (outside MANY_POSITIVE e) (prepend c later)
  admitted c b f g = ap (λ (o : Math.Option Clause). admit e o later) f ∙ ap (λ (d : Bool). choose d (outside MANY_POSITIVE e) (prepend c later)) g

  -- a formula that clauses do not decide
  pub storing_stop : (r : NotClauses) → Err r ≡ clause_at q e → profile_reply (all) ≡ reply_of (Err r)
  storing_stop r f = go (clause_at q e) (found q e) f
    where
      go : (w : Result (Ended Masks) NotClauses) → Found q e w → Err r ≡ w → profile_reply (all) ≡ reply_of (Err r)
      go w (is_none m) f = let j : r ≡ NotClause e = cc in rw j (ap profile_reply (refused NOT_CLAUSE (ap (λ (o : Math.Option Clause). admit e o later) m)))
      go w (is_many c m g) f = let j : r ≡ ManyPositive e = cc in rw j (ap profile_reply (refused MANY_POSITIVE (admitted c true m g)))
      go w (is_single c m g) f = absurd (cc)

  pub storing_next : (x : Ended Masks) → Ok x ≡ clause_at q e → Storing q all n (ms ++ x.value ∷ []) x.end (i + 1)
  storing_next x f = go (clause_at q e) (found q e) f
    where
      go : (w : Result (Ended Masks) NotClauses) → Found q e w → Ok x ≡ w → Storing q all n (ms ++ x.value ∷ []) x.end (i + 1)
      go w (is_none k) f = absurd (cc)
      go w (is_many c k g) f = absurd (cc)
      go w (is_single c k g) f =
          let p : x ≡ record { value = masks_of c; end = end_of q e } = cc in
          let j : x.value ≡ masks_of c = ap (λ (y : Ended Masks). y.value) p in
          let l : x.end ≡ end_of q e = ap (λ (y : Ended Masks). y.end) p in
          let t : n - (i + 1) ≡ n - i - 1 = omega arith in
          rw l (record {
            upto = omega arith;
            room = length-append ms (x.value ∷ []) ∙ ap (λ (k : ℕ). k + 1) s.room;
            done = s.done ++ (c ∷ []);
            stored = ap₂ (λ (k : List Masks) (w : Masks). k ++ (w ∷ [])) s.stored j ∙ sym (map-append masks_of s.done (c ∷ []));
            enough = rw t now.due;
            lettered = rw t now_lettered.1;
            same =
                rw t (prepends_snoc s.done c (profile_from (end_of q e) (take (n - i - 1) (formulas (drop (end_of q e) q))))
                ∙ ap (prepends s.done) (sym (admitted c false k g)) ∙ now_same);
          })

-- all are stored
pub storing_last : {q : List ℕ} {all : Profile} {n : ℕ} {ms : List Masks} {e i : ℕ} → Storing q all n ms e i → n ≤ i → (v : ClauseVerdict)
    → ((cs : List Clause) → ms ≡ map masks_of cs → v ≡ decided cs) → reply_of (Ok v) ≡ profile_reply all
storing_last {n = n} {ms = ms} {i = i} s h v f =
    let z : n - i ≡ 0 = omega arith in
    ap decision_reply (f s.done s.stored) ∙ ap profile_reply (sym (prepends_all s.done) ∙ rw z at s.same)
