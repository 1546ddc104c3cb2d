-- What a theorem's derivation needs, and the answers of the call that writes it.
-- Assumes nothing.
use mathlib.Core.Path.{◌≡◌, refl, sym, ap, ◌∙◌, subst}
use mathlib.Core.List.{List, [], ◌∷◌, ◌++◌}
use Prim.Native.Nat.{ℕ, ◌+◌, ◌*◌, ◌^◌, ◌≤◌, ◌<◌}
use lib.Pow.{pow_mono}
use native.Mathlib.Nat.{mul-le-mul}
use native.Mathlib.Omega.{arith}
use lib.ListN.{length, take, drop}
use lib.Seq.{sets, take_at}
use Rattle.std.specs.Prelude.{Result, Ok, Err, IfOk}
use Rattle.std.proofs.lemmas.Result.{IfOk-weaker}
use Rattle.calculus.specs.declared.Kind.{Kind}
use Rattle.calculus.specs.declared.Kind.TheVariants.{Theorem}
use Rattle.calculus.specs.declared.Outcome.{Outcome}
use Rattle.calculus.specs.declared.Verdict.{Verdict}
use Rattle.calculus.specs.Limits.{CONNECTIVES}
use Rattle.calculus.specs.Syntax.{Sequent, c}
use Rattle.calculus.specs.Bytes.{question}
use Rattle.calculus.specs.Reading.{accepted, reading}
use Rattle.calculus.specs.Tree.{tree, reductions, closings, outcome, verdict_of}
use Rattle.calculus.specs.Width.{W}
use Rattle.calculus.specs.Derivation.{derivation, checking}
use Rattle.calculus.specs.Reply.{Written as Wrote}
use Rattle.calculus.proofs.Bounds.{W_bound, theorem_true}
use Rattle.calculus.proofs.Buffers.{sets_start, no_room, room}
use Rattle.calculus.proofs.Budgets.{whole_verdict, theorem_whole, spend_whole}
use Rattle.calculus.proofs.Derivations.{derivation_length, derivation_bound, derivation_passes}
use Rattle.writer.specs.declared.Written.{Written}
use Rattle.writer.specs.declared.NotWritten.{NotWritten}
use Rattle.writer.specs.declared.NotWritten.TheVariants.{NoSpace}
use Rattle.writer.specs.Answers.{IsTheorem, WrittenOut, Evidence}

-- ---- the length needed

module _ (S : Sequent) (v : Verdict) (n : ℕ) (t : IsTheorem S v n) where
  pub needed : 2 * (v.reductions + v.closings) + n ≡ length (derivation S)
  needed = omega (arith, derivation_length S, t.pairs, ap (λ (u : Verdict). u.reductions) t.counts, ap (λ (u : Verdict). u.closings) t.counts)

  pub needed_small : c S ≤ CONNECTIVES → 2 * (v.reductions + v.closings) + n ≤ 2 * ((1 + CONNECTIVES) * 2 ^ CONNECTIVES)
  needed_small h =
      let p : 2 ^ c S ≤ 2 ^ CONNECTIVES = pow_mono {j = CONNECTIVES} h in
      let w : W S ≤ 2 ^ CONNECTIVES = omega (arith, W_bound S) in
      let i : 1 + c S ≤ 1 + CONNECTIVES = omega arith in
      let m : (1 + c S) * W S ≤ (1 + CONNECTIVES) * 2 ^ CONNECTIVES = mul-le-mul i w in
      omega (arith, needed, derivation_bound S)

  -- ---- the two answers of a theorem

  pub no_space_lem : (old : List ℕ) (m : ℕ) → m ≡ 2 * (v.reductions + v.closings) + n → length old < m → WrittenOut S v old old (Err (NoSpace m))
  no_space_lem old m e h =
      let w = no_room (derivation S) (v.reductions ∷ v.closings ∷ []) old (omega (arith, needed)) in
      record {
        reply = ap (λ (k : ℕ). record { number = 11; values = k ∷ [] }) (e ∙ needed) ∙ ap (λ (x : Wrote). x.reply) (sym w);
        buffer = ap (λ (x : Wrote). x.buffer) (sym w);
        taken = tt;
      }

  pub space : (old new : List ℕ) (m : ℕ) → m ≡ 2 * (v.reductions + v.closings) + n → m ≤ length old → new ≡ sets old 0 (derivation S)
      → WrittenOut S v old new (Ok (record { length = m; verdict = v }))
  space old new m e h o =
      let fits : length (derivation S) ≤ length old = omega (arith, needed) in
      let l : new ≡ derivation S ++ drop (length (derivation S)) old = o ∙ sets_start old (derivation S) fits in
      let w = room (derivation S) (v.reductions ∷ v.closings ∷ []) old fits in
      record {
        reply = ap (λ (k : ℕ). record { number = 0; values = k ∷ v.reductions ∷ v.closings ∷ [] }) (e ∙ needed) ∙ ap (λ (x : Wrote). x.reply) (sym w);
        buffer = l ∙ ap (λ (x : Wrote). x.buffer) (sym w);
        taken = (refl, ap (take m) l ∙ take_at (derivation S) (drop (length (derivation S)) old) m (omega (arith, needed)));
      }

-- ---- the answers of the call

is_theorem_lem : (b : ℕ) (S : Sequent) (o : Outcome) → o ≡ outcome b S → o.kind ≡ Theorem → IsTheorem S (verdict_of b o) o.pairings
is_theorem_lem b S o e h =
    let n : reductions (tree S).events ≤ b = theorem_whole b S (ap (λ (u : Outcome). u.kind) (sym e) ∙ h) in
    let w = e ∙ spend_whole b (tree S).events (tree S).end n in
    let p : (tree S).end ≡ Theorem = ap (λ (u : Outcome). u.kind) (sym w) ∙ h in
    record {
      proved = p;
      pairs = ap (λ (u : Outcome). u.pairings) w;
      counts = ap (verdict_of b) e ∙ whole_verdict b S n ∙ ap (λ (x : Kind). record { kind = x; reductions = reductions (tree S).events; closings = closings (tree S).events }) p;
    }

module _ (q : List ℕ) (b : ℕ) (a : reading q ≡ accepted) (o : Outcome) (e : o ≡ outcome b (question q)) (v : Verdict) (d : v ≡ verdict_of b o) where
  pub theorem_is : v.kind ≡ Theorem → IsTheorem (question q) v o.pairings
  theorem_is k = subst (λ (u : Verdict). IsTheorem (question q) u o.pairings) (sym d) (is_theorem_lem b (question q) o e (ap (λ (u : Verdict). u.kind) (sym d) ∙ k))

  pub theorem_evidence : v.kind ≡ Theorem → {old new : List ℕ} {r : Result Written NotWritten} → WrittenOut (question q) v old new r
      → IfOk r (λ u. (u.verdict.kind ≡ Theorem) × Evidence q (take u.length new))
  theorem_evidence k {old} {new} {r} w =
      let p = (theorem_is k).proved in
      IfOk-weaker r (λ u. (u.verdict ≡ v) × (take u.length new ≡ derivation (question q))) (λ u. (u.verdict.kind ≡ Theorem) × Evidence q (take u.length new))
      (λ u t. (
        ap (λ (x : Verdict). x.kind) t.0 ∙ k,
        record { read = a; valid = theorem_true (question q) p; checks = ap (checking (question q)) t.1 ∙ derivation_passes (question q) p },
      )) w.taken
