-- What a pass stores: one name, runs of names one after the other.
-- Assumes nothing.
use Rattle.std.proofs.Common.{◌≡◌, refl, sym, ap, subst, ◌∙◌, List, [], ◌∷◌, ◌++◌, append_assoc, append-nil, ℕ, ◌+◌, ◌≤◌, ◌<◌, add-one, arith, length, take, drop, length-append, length-drop, length-take-le, drop-drop}
use lib.ListN.{set, length-set}
use lib.Seq.{take-suc-set, drop-set-lt}
use Rattle.std.proofs.lemmas.Slice.{take-put_mid, drop-put_mid}
use borrow.Rule.Slice.PartMut.{put_mid, same_len_mid}
use Rattle.sequent.specs.declared.Pass.{Pass}
use Rattle.sequent.specs.Passes.{Stored}

abbrev pub pass : ℕ → ℕ → ℕ → Pass
pass i j n = record { from = i; to = j; stores = n }

pub one : (f i j n x : ℕ) (l : List ℕ) → j < length l → Stored (pass i j n) (pass f (j + 1) (n + 1)) f (x ∷ []) l (set l j x)
one f i j n x l h =
    record {
      held = rw (add-one j) (take-suc-set l j x h);
      behind = drop-set-lt (j + 1) l j x (omega arith);
      size = length-set l j x;
      to = omega arith;
      stores = omega arith;
      from = refl;
    }

pub chain : {a b c : Pass} {f g : ℕ} {xs ys l m n : List ℕ} → Stored a b f xs l m → Stored b c g ys m n → Stored a c g (xs ++ ys) l n
chain {a} {b} {c} {f} {g} {xs} {ys} {l} {m} {n} h k =
    record {
      held = k.held ∙ ap (λ (v : List ℕ). v ++ ys) h.held ∙ append_assoc (take a.to l) xs ys;
      behind = k.behind ∙ rw k.to (sym (drop-drop (length ys) b.to m) ∙ ap (drop (length ys)) h.behind ∙ drop-drop (length ys) b.to l);
      size = k.size ∙ h.size;
      to = omega (arith, h.to, k.to, length-append xs ys);
      stores = omega (arith, h.stores, k.stores, length-append xs ys);
      from = k.from;
    }

-- where the second stores no old name
pub chain_kept : {a b c : Pass} {f : ℕ} {xs ys l m n : List ℕ} → Stored a b f xs l m → Stored b c b.from ys m n → Stored a c f (xs ++ ys) l n
chain_kept {a} {b} {c} {f} {xs} {ys} {l} {m} {n} h k = let e : b.from ≡ f = h.from in rw e at (chain h k)

-- where the second stores old names from where the first came to
pub chain_at : {a b c : Pass} {f g : ℕ} {xs l m n : List ℕ} (F : ℕ → List ℕ) → Stored a b f xs l m → Stored b c g (F b.from) m n → Stored a c g (xs ++ F f) l n
chain_at {a} {b} {c} {f} {g} {xs} {l} {m} {n} F h k = chain h (subst (λ (v : ℕ). Stored b c g (F v) m n) h.from k)

-- an old name is passed over
pub skipped : {a b c : Pass} {f : ℕ} {xs l m : List ℕ} → Stored a b f xs l m → (c.from ≡ b.from + 1) × (c.to ≡ b.to) × (c.stores ≡ b.stores) → Stored a c (f + 1) xs l m
skipped h s =
    record {
      held = rw s.1 h.held;
      behind = rw s.1 h.behind;
      size = h.size;
      to = s.1 ∙ h.to;
      stores = s.2 ∙ h.stores;
      from = omega (arith, s.0, h.from);
    }

-- a run of old names
pub copied : (a : Pass) (e : ℕ) (xs ys l : List ℕ) (n : ℕ) → ys ≡ xs → n ≡ length xs → a.to + length xs ≤ length l
    → Stored a (record { from = e; to = a.to + length xs; stores = a.stores + length xs }) e xs l (put_mid a.to n l ys)
copied a e xs ys l n s k h =
    rw s (record {
      held = take-put_mid a.to n l xs (a.to + length xs) refl (omega arith);
      behind = drop-put_mid a.to n l xs (a.to + length xs) (omega arith) (omega arith) (sym k);
      size = same_len_mid a.to n l xs (sym k ∙ sym (length-take-le n (drop a.to l) (omega (arith, length-drop a.to l))));
      to = refl;
      stores = refl;
      from = refl;
    })

-- nothing
pub kept : (a : Pass) (l : List ℕ) → Stored a a a.from [] l l
kept a l = record { held = sym (append-nil (take a.to l)); behind = refl; size = refl; to = omega arith; stores = omega arith; from = refl }
