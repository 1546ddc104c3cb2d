-- Names and the formulas that they stand for, and a formula more.
-- Assumes nothing.
use mathlib.Core.Path.{◌≡◌, refl, sym, ap, ◌∙◌, subst}
use mathlib.Core.List.{List, [], ◌∷◌, ◌++◌, map}
use Prim.Native.Nat.{ℕ, suc, ◌+◌, ◌≤◌, ◌<◌}
use native.Mathlib.Omega.{arith}
use lib.Bits.{bit_or, or_zero_r}
use lib.ListN.{length, take, drop, set, length-append, length-set}
use lib.Seq.{slice, take-suc-set, drop-append-le, length-take-le}
use Rattle.calculus.specs.Fold.{SUM, Each}
use Rattle.calculus.specs.Limits.{CONNECTIVES}
use Rattle.calculus.specs.Syntax.{Formula, connectives}
use Rattle.calculus.proofs.Folds.{fold_append}
use Rattle.question.specs.declared.Ended.{Ended}
use Rattle.question.specs.Positions.{formula_at}
use Rattle.sequent.specs.declared.Half.{Half}
use Rattle.sequent.specs.Names.{formula_in, Known}
use Rattle.sequent.specs.View.{bits_by, bit_of, compound_bit, grown}
use Rattle.sequent.proofs.Namings.{told_formula}
use Rattle.sequent.proofs.Letters.{bits_append}
use Rattle.names.specs.Loads.{Kept, Numbered, NamesAll, Loads, Enters}
use Rattle.names.proofs.Naming.{tells_kept}

-- ---- names of formulas

module _ (T : List ℕ) where
  names_append : (ds es : List ℕ) (xs ys : List Formula) → NamesAll T ds xs → NamesAll T es ys → NamesAll T (ds ++ es) (xs ++ ys)
  names_append [] es [] ys h k = k
  names_append [] es (x ∷ xs) ys h k = absurd h
  names_append (d ∷ ds) es [] ys h k = absurd h
  names_append (d ∷ ds) es (x ∷ xs) ys h k = (h.0, h.1, names_append ds es xs ys h.2 k)

  pub names_split : (ds es : List ℕ) (xs ys : List Formula) → length ds ≡ length xs → NamesAll T (ds ++ es) (xs ++ ys) → NamesAll T ds xs × NamesAll T es ys
  names_split [] es [] ys e h = (tt, h)
  names_split [] es (x ∷ xs) ys e h = absurd (omega arith)
  names_split (d ∷ ds) es [] ys e h = absurd (omega arith)
  names_split (d ∷ ds) es (x ∷ xs) ys e h = let k = names_split ds es xs ys (omega arith) h.2 in ((h.0, h.1, k.0), k.1)

  pub names_known : (ds : List ℕ) (xs : List Formula) → NamesAll T ds xs → Each (Known T (length T)) ds
  names_known [] [] h = tt
  names_known [] (x ∷ xs) h = absurd h
  names_known (d ∷ ds) [] h = absurd h
  names_known (d ∷ ds) (x ∷ xs) h = (record { formula = x; tells = h.0; below = h.1 }, names_known ds xs h.2)

  pub names_formulas : length T ≤ CONNECTIVES → (ds : List ℕ) (xs : List Formula) → NamesAll T ds xs → map (formula_in T) ds ≡ xs
  names_formulas f [] [] h = refl
  names_formulas f [] (x ∷ xs) h = absurd h
  names_formulas f (d ∷ ds) [] h = absurd h
  names_formulas f (d ∷ ds) (x ∷ xs) h =
      let p = told_formula T f d x h.0 h.1 in
      λ j. p j ∷ names_formulas f ds xs h.2 j

-- nodes that stay tell the same
names_kept : (T R : List ℕ) → length T ≤ length R → Kept T R → (ds : List ℕ) (xs : List Formula) → NamesAll T ds xs → NamesAll R ds xs
names_kept T R l k [] [] h = tt
names_kept T R l k [] (x ∷ xs) h = absurd h
names_kept T R l k (d ∷ ds) [] h = absurd h
names_kept T R l k (d ∷ ds) (x ∷ xs) h = (tells_kept T R k x d h.1 h.0, omega (arith, h.1), names_kept T R l k ds xs h.2)

-- ---- a formula more

more_bits : (β : ℕ → ℕ) (d m : ℕ) (ds es : List ℕ) → m ≡ bits_by β ds → es ≡ ds ++ (d ∷ []) → bit_or m (β d) ≡ bits_by β es
more_bits β d m ds es h e = rw (h, e, bits_append β ds (d ∷ []), or_zero_r (β d))

module _ (q T R items : List ℕ) (first : ℕ) (l : Ended Half) (xs : List Formula) (h : Loads T items first l xs) (e : Enters q l xs) (f : Ended ℕ) (t : Numbered q l.end T R f) where
  abbrev place : ℕ
  place = first + l.value.count

  abbrev filled : List ℕ
  filled = set items place f.value

  inside : place < length items
  inside = omega (arith, h.count, h.room, e.room)

  next : first + (l.value.count + 1) ≡ suc place
  next = omega arith

  take_more : take (first + (l.value.count + 1)) filled ≡ take place items ++ (f.value ∷ [])
  take_more = rw next (take-suc-set items place f.value inside)

  slice_more : slice first (first + (l.value.count + 1)) filled ≡ slice first place items ++ (f.value ∷ [])
  slice_more = ap (drop first) take_more ∙ drop-append-le first (take place items) (f.value ∷ []) (omega (arith, length-take-le place items (omega (arith, inside))))

  pub entered : (r : Half) → r ≡ grown f.value l.value
      → Loads R (set items (first + l.value.count) f.value) first (record { value = record { count = l.value.count + 1; mask = r.mask; set = r.set }; end = f.end }) (xs ++ (formula_at q l.end ∷ []))
  entered r i =
      let x = formula_at q l.end in
      let k = names_kept T R t.more t.kept (take place items) xs h.names in
      let n = names_append R (take place items) (f.value ∷ []) xs (x ∷ []) k (t.tells, t.below, tt) in
      let slices = slice first (first + (l.value.count + 1)) filled in
      record {
        room = length-set items place f.value ∙ h.room;
        nodes = t.nodes;
        few = omega (arith, h.few, t.few, fold_append SUM connectives xs (x ∷ []));
        count = omega (arith, h.count, length-append xs (x ∷ []));
        names = subst (λ (ds : List ℕ). NamesAll R ds (xs ++ (x ∷ []))) (sym take_more) n;
        mask = ap (λ (r : Half). r.mask) i ∙ more_bits bit_of f.value l.value.mask (slice first place items) slices h.mask slice_more;
        set = ap (λ (r : Half). r.set) i ∙ more_bits compound_bit f.value l.value.set (slice first place items) slices h.set slice_more;
      }
