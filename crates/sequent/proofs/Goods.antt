-- What holds of a running sequent that a run or a check meets, and of the premises made of it.
-- Assumes nothing.
use Rattle.std.proofs.Common.{◌≡◌, refl, sym, ap, ◌∙◌, subst, Option as Optional, Some, None, List, [], ◌∷◌, map, ℕ, ◌+◌, ◌%◌, ◌≤◌, ◌<◌, arith, length, get_or, lt-ltb, le-ltb}
use Rattle.std.proofs.Math.Option.{Option, some}
use Rattle.std.proofs.Math.Decide.{dec_lt}
use Rattle.std.proofs.Math.ListN.{get_elem?}
use Rattle.calculus.specs.declared.Side.{Side}
use Rattle.calculus.specs.declared.Side.TheVariants.{Left, Right}
use Rattle.calculus.specs.Fold.{fold, Each}
use Rattle.calculus.specs.Limits.{LIMITS, ROOM, LETTERS, CONNECTIVES}
use Rattle.calculus.specs.Syntax.{Connective, NOT, two, Formula, letter, neg, join, Compound, compound, whole, Seq, Sequent, on_side, c, size}
use Rattle.calculus.specs.Bytes.{CONNECTIVE, code}
use Rattle.calculus.specs.Table.{Holds, premise, premises, table}
use Rattle.calculus.specs.Reached.{Reachable}
use Rattle.calculus.specs.Tree.{letters, twins, unlike, alike, state, missing, here, later, first}
use Rattle.calculus.specs.Derivation.{Pairs}
use Rattle.calculus.proofs.Folds.{each, each_and, each_at}
use Rattle.calculus.proofs.Sequents.{Smaller, smaller}
use Rattle.calculus.proofs.Room.{reachable_room, reachable_premises}
use Rattle.calculus.proofs.Trees.{alike_only}
use Rattle.sequent.specs.declared.Running.{Running}
use Rattle.sequent.specs.declared.Counted.{Counted}
use Rattle.sequent.specs.declared.Reduction.{Reduction}
use Rattle.calculus.specs.declared.Pair.{Pair}
use Rattle.sequent.specs.Names.{first_of, second_of, formula_in, Known}
use Rattle.sequent.specs.Rule.{Placing, rule_of, parts_on, placed, premises_of, sided}
use Rattle.sequent.specs.View.{view, count_of, mask_of, slot_of, start_of, name_at, named, sequent_of, bit_of, letters_of, Good}
use Rattle.sequent.specs.Passes.{Builds}
use Rattle.sequent.specs.Compounds.{first_in, Clear, FoundAt, Found, EqualAt, Paired, twins_of, compound_of, IsCompound, compound_at, rule_for, reduction_at, premises_at, premise_by, Reducible, Makes}
use Rattle.sequent.proofs.Lists.{element, element_is, each_parts, each_premise, each_unmap}
use Rattle.sequent.proofs.Rows.{rows_of, few_rows}
use Rattle.sequent.proofs.Masks.{letter_bit, state_fold, OR}
use Rattle.sequent.proofs.Letters.{masked_premise}
use Rattle.sequent.proofs.Sets.{covered_premise}
use Rattle.sequent.proofs.Twins.{held as names-held, slot_name as name-at-slot}
use Rattle.sequent.proofs.Namings.{letter_named, same_name, Compounded, compound_named, rule_connective}
use Rattle.sequent.proofs.Rules.{rule_premises, size_named}
use Rattle.sequent.proofs.Placings.{nowhere}
use Rattle.sequent.proofs.Restarts.{restarts}

-- ---- names that are known: their letters, and the first compound

module _ (T : List ℕ) (full : length T ≤ CONNECTIVES) (n : ℕ) (few : n ≤ length T) where
  name_bit : (d : ℕ) → Known T n d → bit_of d ≡ letter_bit (formula_in T d)
  name_bit d k = go (dec_lt d LETTERS)
    where
      none : (x : Formula) → x ≡ whole (compound_of x) → 0 ≡ letter_bit x
      none x e = rw e (by (compound_of x).connective)
        where
          by : (c : Connective) → 0 ≡ letter_bit (compound c (compound_of x).f (compound_of x).g)
          by NOT = refl
          by (two b) = refl

      go : Dec (d < LETTERS) → bit_of d ≡ letter_bit (formula_in T d)
      go (yes h) = rw (lt-ltb d LETTERS h, letter_named T full n few d k h)
      go (no h) = rw (le-ltb d LETTERS (omega arith)) (none (formula_in T d) (compound_named T full n few d k (omega arith)).stands)

  names_letters : (ns : List ℕ) → Each (Known T n) ns → letters_of ns ≡ state (letters (map (formula_in T) ns))
  names_letters ns h = go ns h ∙ sym (state_fold (map (formula_in T) ns))
    where
      go : (ns : List ℕ) → Each (Known T n) ns → letters_of ns ≡ fold OR letter_bit (map (formula_in T) ns)
      go [] h = refl
      go (d ∷ ns) h = rw (name_bit d h.0, go ns h.1)

  first_compound : (x : Formula) (xs : List Formula) → IsCompound x → first (x ∷ xs) ≡ here 0 (compound_of x)
  first_compound (letter k) xs e = let z : ◌≡◌ {A = ℕ} 0 1 = cc in absurd (omega arith)
  first_compound (neg x) xs e = refl
  first_compound (join b x y) xs e = refl

  first_found : (ns : List ℕ) → Each (Known T n) ns → first_in ns < length ns → first (map (formula_in T) ns) ≡ here (first_in ns) (compound_of (formula_in T (get_or ns (first_in ns) 0)))
  first_found [] k h = absurd (omega arith)
  first_found (d ∷ ns) k h = go (dec_lt d LETTERS) (first_found ns k.1)
    where
      go : Dec (d < LETTERS) → (first_in ns < length ns → first (map (formula_in T) ns) ≡ here (first_in ns) (compound_of (formula_in T (get_or ns (first_in ns) 0)))) → first (map (formula_in T) (d ∷ ns)) ≡ here (first_in (d ∷ ns)) (compound_of (formula_in T (get_or (d ∷ ns) (first_in (d ∷ ns)) 0)))
      go (yes l) ih =
          let e = lt-ltb d LETTERS l in
          let i : first_in ns < length ns = omega (arith, rw e at h) in
          rw (letter_named T full n few d k.0 l, e) (ap later (ih i))
      go (no l) ih =
          rw (le-ltb d LETTERS (omega arith)) (first_compound (formula_in T d) (map (formula_in T) ns) (compound_named T full n few d k.0 (omega arith)).stands)

  first_missing : (ns : List ℕ) → Each (Known T n) ns → first_in ns ≡ length ns → first (map (formula_in T) ns) ≡ missing
  first_missing [] k h = refl
  first_missing (d ∷ ns) k h = go (dec_lt d LETTERS) (first_missing ns k.1)
    where
      go : Dec (d < LETTERS) → (first_in ns ≡ length ns → first (map (formula_in T) ns) ≡ missing) → first (map (formula_in T) (d ∷ ns)) ≡ missing
      go (yes l) ih =
          let i : first_in ns ≡ length ns = omega (arith, rw (lt-ltb d LETTERS l) at h) in
          rw (letter_named T full n few d k.0 l) (ap later (ih i))
      go (no l) ih = absurd (omega (arith, rw (le-ltb d LETTERS (omega arith)) at h))

-- ---- a running sequent

module _ (T items : List ℕ) (s : Running) (good : Good T items s) where
  pub held : (t : Side) → length (on_side t (view s items)) ≡ count_of t s
  held = names-held s items good.places good.room

  pub masks_state : (t : Side) → mask_of t s ≡ state (letters (on_side t (sequent_of T items s)))
  masks_state Left = good.masks Left ∙ names_letters T good.nodes good.used good.few (view s items).on_left (good.known Left)
  masks_state Right = good.masks Right ∙ names_letters T good.nodes good.used good.few (view s items).on_right (good.known Right)

  -- "the first formula with a connective, the left side before the right"
  pub found_left : (i : ℕ) → FoundAt (view s items) Left i → first (sequent_of T items s).on_left ≡ here i (compound_at T Left i (view s items))
  found_left i h = rw h.0 (first_found T good.nodes good.used good.few (view s items).on_left (good.known Left) (rw h.0 at h.1))

  pub found_right : (i : ℕ) → FoundAt (view s items) Right i → (first (sequent_of T items s).on_left ≡ missing) × (first (sequent_of T items s).on_right ≡ here i (compound_at T Right i (view s items)))
  found_right i h = (first_missing T good.nodes good.used good.few (view s items).on_left (good.known Left) h.0, rw h.1 (first_found T good.nodes good.used good.few (view s items).on_right (good.known Right) (rw h.1 at h.2)))

  pub found_nowhere : Found (view s items) None → (first (sequent_of T items s).on_left ≡ missing) × (first (sequent_of T items s).on_right ≡ missing)
  found_nowhere h = (first_missing T good.nodes good.used good.few (view s items).on_left (good.known Left) h.0, first_missing T good.nodes good.used good.few (view s items).on_right (good.known Right) h.1)

  -- "the lowest left place that has an equal on the right, with the lowest such right place"
  pub equal_formulas : (i j : ℕ) → EqualAt (view s items) i j → Pairs i j (sequent_of T items s)
  equal_formulas i j e =
      let l = each_at (Known T good.used) (view s items).on_left i 0 (good.known Left) e.left in
      let n = name_at Left i (view s items) in
      let w = (compound_named T good.nodes good.used good.few n l e.compound).stands in
      record {
        x = compound_at T Left i (view s items);
        lefts = element (formula_in T) (view s items).on_left i 0 e.left ∙ ap {B = Option Formula} some w;
        rights = element (formula_in T) (view s items).on_right j 0 e.right ∙ ap (λ (d : ℕ). some (formula_in T d)) (sym e.equal) ∙ ap {B = Option Formula} some w;
      }

  equal_names : (i j : ℕ) → Pairs i j (sequent_of T items s) → EqualAt (view s items) i j
  equal_names i j e =
      let l = element_is (formula_in T) (view s items).on_left i 0 (whole e.x) e.lefts in
      let r = element_is (formula_in T) (view s items).on_right j 0 (whole e.x) e.rights in
      let k = each_at (Known T good.used) (view s items).on_left i 0 (good.known Left) l.0 in
      let m = each_at (Known T good.used) (view s items).on_right j 0 (good.known Right) r.0 in
      record {
        left = l.0;
        right = r.0;
        compound = above (name_at Left i (view s items)) k e.x l.1;
        equal = same_name T good.nodes good.used good.few good.distinct (name_at Left i (view s items)) (name_at Right j (view s items)) k m (l.1 ∙ sym r.1);
      }
    where
      none : (d : ℕ) (k : Connective) (f g : Formula) → letter d ≡ compound k f g → ⊥
      none d NOT f g e = let z : ◌≡◌ {A = ℕ} 0 1 = cc in omega arith
      none d (two b) f g e = let z : ◌≡◌ {A = ℕ} 0 1 = cc in omega arith

      above : (d : ℕ) → Known T good.used d → (x : Compound) → formula_in T d ≡ whole x → LETTERS ≤ d
      above d k x e = go (dec_lt d LETTERS)
        where
          go : Dec (d < LETTERS) → LETTERS ≤ d
          go (yes h) = absurd (none d x.connective x.f x.g (sym (letter_named T good.nodes good.used good.few d k h) ∙ e))
          go (no h) = omega arith

  pub twins_are : (r : Optional (Pair ℕ)) → Paired (view s items) r → twins (sequent_of T items s).on_left (sequent_of T items s).on_right ≡ twins_of r
  twins_are (Some p) h =
      alike_only (sequent_of T items s).on_left (sequent_of T items s).on_right (alike p.left p.right) (equal_formulas p.left p.right h.0, λ m n e. h.1 m n (equal_names m n e))
  twins_are None h = alike_only (sequent_of T items s).on_left (sequent_of T items s).on_right unlike (λ m n e. h m n (equal_names m n e))

  -- ---- a place of a side

  module _ (t : Side) (i : ℕ) (h : i < count_of t s) where
    pub inside : i < length (on_side t (view s items))
    inside = omega (arith, held t)

    pub slot_name : get_or items (slot_of t i s) 0 ≡ name_at t i (view s items)
    slot_name = name-at-slot s items good.places good.room t i h

    pub known_at : Known T good.used (name_at t i (view s items))
    known_at = each_at (Known T good.used) (on_side t (view s items)) i 0 (good.known t) inside

    pub formula_at_lem : get_elem? (on_side t (sequent_of T items s)) i ≡ some (formula_in T (name_at t i (view s items)))
    formula_at_lem = go t inside
      where
        go : (u : Side) → i < length (on_side u (view s items)) → get_elem? (on_side u (sequent_of T items s)) i ≡ some (formula_in T (name_at u i (view s items)))
        go Left k = element (formula_in T) (view s items).on_left i 0 k
        go Right k = element (formula_in T) (view s items).on_right i 0 k

    module _ (c : LETTERS ≤ name_at t i (view s items)) where
      pub compounded : Compounded T good.nodes good.used good.few (name_at t i (view s items))
      compounded = compound_named T good.nodes good.used good.few (name_at t i (view s items)) known_at c

      -- the compound stands there
      pub stands : Holds (sequent_of T items s) t i (compound_at T t i (view s items))
      stands = formula_at_lem ∙ ap {B = Option Formula} some compounded.stands

      module _ (r : Reduction) (e : r ≡ reduction_at T t i (view s items)) where
        abbrev x : Compound
        x = compound_at T t i (view s items)

        rule_is : rule_for r ≡ rule_of x.connective t
        rule_is = ap rule_for e ∙ ap (λ (k : Connective). rule_of k t) (rule_connective T good.nodes good.used good.few (name_at t i (view s items)) compounded)

        rows : premises_of (rule_for r) ≡ map sided (table x.connective t)
        rows = rows_of x.connective t (rule_for r) rule_is

        first_part : formula_in T (first_of r.node) ≡ x.f
        first_part = ap (λ (u : Reduction). formula_in T (first_of u.node)) e ∙ compounded.first

        second_part : formula_in T (second_of r.node) ≡ x.g
        second_part = ap (λ (u : Reduction). formula_in T (second_of u.node)) e ∙ compounded.second

        -- the sequent of a premise, by where its parts go
        abbrev pub premise_of : Placing → Sequent
        premise_of p = named (formula_in T) (premise t i (view s items) (placed p (first_of r.node) (second_of r.node)))

        pub premises_are : map premise_of (rule_for r) ≡ premises t i x (sequent_of T items s)
        premises_are = rule_premises (formula_in T) (view s items) t i (first_of r.node) (second_of r.node) x first_part second_part (rule_for r) rows

        -- ---- a premise made

        module _ (p : Placing) (before new : List ℕ) (b : Counted Running) (builds : Builds t i p (first_of r.node) (second_of r.node) s items before new b) (small : size (premise_of p) ≤ ROOM) where
          known_parts : (u : Side) → Each (Known T good.used) (parts_on u p (first_of r.node) (second_of r.node))
          known_parts u =
              each_parts (Known T good.used) u p (first_of r.node) (second_of r.node)
              (subst (Known T good.used) (sym (ap (λ (v : Reduction). first_of v.node) e)) compounded.first_known)
              (subst (Known T good.used) (sym (ap (λ (v : Reduction). second_of v.node) e)) compounded.second_known)

          pub premise_good : Good T new b.value
          premise_good =
              record {
                nodes = good.nodes;
                places = builds.full;
                room = omega (arith, builds.counted, builds.stores, small, size_named (formula_in T) (premise t i (view s items) (placed p (first_of r.node) (second_of r.node))));
                used = good.used;
                few = good.few;
                distinct = good.distinct;
                known = λ u. subst (λ (N : Seq ℕ). Each (Known T good.used) (on_side u N)) (sym builds.held) (each_premise (Known T good.used) t u i (view s items) p (first_of r.node) (second_of r.node) (known_parts u) (good.known u));
                masks = masked_premise s b.value items new t i p (first_of r.node) (second_of r.node) good.masks inside c builds.held builds.masks;
                sets = covered_premise s b.value items new t i p (first_of r.node) (second_of r.node) good.sets builds.held builds.sets;
              }

  -- ---- a reduction that can be made

  module _ (r : Reduction) (can : Reducible T items s r) where
    there : Holds (sequent_of T items s) r.place.side r.place.at (compound_at T r.place.side r.place.at (view s items))
    there = stands r.place.side r.place.at can.inside can.compound

    fewer : Each (λ P. 1 + c P ≤ c (sequent_of T items s)) (premises_at T items s r)
    fewer = go (premises_at T items s r) (smaller r.place.side r.place.at (compound_at T r.place.side r.place.at (view s items)) (sequent_of T items s) there)
      where
        go : (Ps : List Sequent) → Each (Smaller (sequent_of T items s)) Ps → Each (λ P. 1 + c P ≤ c (sequent_of T items s)) Ps
        go [] h = tt
        go (P ∷ Ps) h = (h.0.0, go Ps h.1)

    -- its command, and its place in a byte
    pub command_made : r.node % 256 ≡ code (CONNECTIVE (compound_at T r.place.side r.place.at (view s items)).connective)
    command_made = ap (λ (u : Reduction). u.node % 256) can.exact ∙ (compounded r.place.side r.place.at can.inside can.compound).command

    pub place_small : r.place.at < ROOM
    place_small = go r.place.side can.inside
      where
        go : (t : Side) → r.place.at < count_of t s → r.place.at < ROOM
        go Left h = omega (arith, good.room)
        go Right h = omega (arith, good.room)

    -- ---- the premises of its rule

    module _ (rule : List Placing) (e : rule ≡ rule_for r) where
      pub premises_made : map (premise_by T items s r) rule ≡ premises_at T items s r
      premises_made = ap (map (premise_by T items s r)) e ∙ premises_are r.place.side r.place.at can.inside can.compound r can.exact

      pub few : length rule ≤ 2
      few = rw (e, rule_is r.place.side r.place.at can.inside can.compound r can.exact) (few_rows (compound_at T r.place.side r.place.at (view s items)).connective r.place.side).1

      each_made : (Q : Sequent → Type 0) → Each Q (premises_at T items s r) → Each (λ p. Q (premise_by T items s r p)) rule
      each_made Q h = each_unmap (premise_by T items s r) Q rule (subst (Each Q) (sym premises_made) h)

      module _ (reached : Reachable (sequent_of T items s)) where
        -- each can be made
        pub makes_each : Each (Makes T items s r) rule
        makes_each =
            each (λ p. Reachable (premise_by T items s r p) × (1 + c (premise_by T items s r p) ≤ c (sequent_of T items s))) (Makes T items s r)
            (λ p h. record { good = good; can = can; reached = h.0; fewer = h.1 }) rule
            (each_and (λ p. Reachable (premise_by T items s r p)) (λ p. 1 + c (premise_by T items s r p) ≤ c (sequent_of T items s)) rule
            (each_made Reachable (reachable_premises LIMITS r.place.side r.place.at (compound_at T r.place.side r.place.at (view s items)) (sequent_of T items s) there reached))
            (each_made (λ P. 1 + c P ≤ c (sequent_of T items s)) fewer))

        -- so can the next one of a loop over the rule
        pub makes_next : (j : ℕ) → j < length rule → Makes T items s r (get_or rule j nowhere)
        makes_next j h = each_at (Makes T items s r) rule j nowhere makes_each h

-- ---- a premise made

module _ (T items : List ℕ) (s : Running) (r : Reduction) (p : Placing) (m : Makes T items s r p) where
  pub made_small : size (premise_by T items s r p) ≤ ROOM
  made_small = reachable_room LIMITS (premise_by T items s r p) m.reached

  -- what `premise` asks
  pub premise_asks : (r.place.at < count_of r.place.side s) × (s.left.count + s.right.count ≤ ROOM) × (size (premise r.place.side r.place.at (view s items) (placed p (first_of r.node) (second_of r.node))) ≤ ROOM)
  premise_asks =
      (m.can.inside, m.good.room, omega (arith, made_small, size_named (formula_in T) (premise r.place.side r.place.at (view s items) (placed p (first_of r.node) (second_of r.node)))))

  module _ (before new : List ℕ) (b : Counted Running) (builds : Builds r.place.side r.place.at p (first_of r.node) (second_of r.node) s items before new b) where
    pub made_is : sequent_of T new b.value ≡ premise_by T items s r p
    made_is = ap (named (formula_in T)) builds.held

    pub made_good : Good T new b.value
    made_good = premise_good T items s m.good r.place.side r.place.at m.can.inside m.can.compound r m.can.exact p before new b builds made_small

    pub made_stores : b.stores ≡ size (premise_by T items s r p)
    made_stores = builds.stores ∙ sym (size_named (formula_in T) (premise r.place.side r.place.at (view s items) (placed p (first_of r.node) (second_of r.node))))

    -- letters alone stand before where it is searched from, if the first compound was reduced
    pub made_clear : FoundAt (view s items) r.place.side r.place.at → Clear (start_of r.place.side r.place.at s) new b.value
    made_clear found =
        let w = restarts s items m.good.places m.good.room r.place.side r.place.at found (placed p (first_of r.node) (second_of r.node)) b.value new builds.held in
        record { inside = omega (arith, w.0); letters = w.1 }
