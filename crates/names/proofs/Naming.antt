-- The name of a formula, and its node where it is a compound.
-- Assumes nothing.
use mathlib.Core.Path.{◌≡◌, refl, sym, ap, ◌∙◌}
use mathlib.Core.List.{List}
use Prim.Native.Nat.{ℕ, ◌+◌, ◌-◌, ◌≤◌, ◌<◌}
use native.Mathlib.Omega.{arith}
use lib.ListN.{length, get_or}
use Rattle.calculus.specs.Limits.{LETTERS, CONNECTIVES}
use Rattle.calculus.specs.Syntax.{Connective, NOT, two, Formula, letter, neg, join, compound, connectives}
use Rattle.calculus.specs.Bytes.{CONNECTIVE, code, Lettered}
use Rattle.question.specs.declared.Ended.{Ended}
use Rattle.question.specs.Positions.{formula_at, end_of}
use Rattle.question.specs.declared.connective.Binary.{Binary as Joins}
use Rattle.question.specs.declared.connective.Binary.TheVariants.{And, Or, Implies, Equiv}
use Rattle.question.specs.declared.connective.Connective.{Connective as Read}
use Rattle.question.specs.declared.connective.Connective.TheVariants.{Not, Two}
use Rattle.question.specs.Connectives.{connective_of, command_of}
use Rattle.question.proofs.Connectives.{binary_range}
use Rattle.question.proofs.Parts.{letter_at, first_at, not_at, TwoAt, two_at}
use Rattle.question.proofs.Readers.{connective_range}
use Rattle.sequent.specs.Names.{node, Node, node_of, Tells, first_of, second_of}
use Rattle.sequent.proofs.Namings.{node_read, command_small}
use Rattle.names.specs.Loads.{Nodes, Kept, Noted, Numbers, Numbered}

-- ---- nodes that stay

node_kept : (T R : List ℕ) → Kept T R → (d c f g : ℕ) → d < LETTERS + length T → Node T d c f g → Node R d c f g
node_kept T R k d c f g h t =
    record { above = t.above; held = k (d - LETTERS) (omega (arith, t.above)) ∙ t.held; first = t.first; second = t.second }

pub tells_kept : (T R : List ℕ) → Kept T R → (x : Formula) (d : ℕ) → d < LETTERS + length T → Tells T d x → Tells R d x
tells_kept T R k (letter j) d h t = t
tells_kept T R k (neg x) d h t =
    (t.0, node_kept T R k d (code (CONNECTIVE NOT)) t.0 t.0 h t.1, tells_kept T R k x t.0 (omega (arith, t.1.first)) t.2)
tells_kept T R k (join o x y) d h t = (
  t.0,
  t.1,
  node_kept T R k d (code (CONNECTIVE (two o))) t.0 t.1 h t.2,
  tells_kept T R k x t.0 (omega (arith, t.2.first)) t.3,
  tells_kept T R k y t.1 (omega (arith, t.2.second)) t.4,
)

-- ---- a compound's node

-- w: the node of a connective and of names that n nodes tell
module _ (k : Connective) (n : ℕ) (small : n ≤ CONNECTIVES) (f g : ℕ) (h : f < LETTERS + n) (i : g < LETTERS + n) (w : ℕ) (e : w ≡ node (code (CONNECTIVE k)) f g) where
  parts_lower : (first_of w < LETTERS + n) × (second_of w < LETTERS + n)
  parts_lower = let r = node_read (code (CONNECTIVE k)) f g w (command_small k) (omega arith) (omega arith) e in (omega (arith, r.first), omega (arith, r.second))

  noted_node : (T R : List ℕ) (name : ℕ) → Noted w T R name → Node R name (code (CONNECTIVE k)) f g
  noted_node T R name t =
      let p = node_read (code (CONNECTIVE k)) f g (node_of R name) (command_small k) (omega arith) (omega arith) (t.held ∙ e) in
      let l = t.nodes.lower (name - LETTERS) (omega (arith, t.above, t.below)) in
      record { above = t.above; held = t.held ∙ e; first = omega (arith, l.0, p.first, t.above); second = omega (arith, l.1, p.second, t.above) }

-- ---- a formula at a position

-- P: the nodes once the parts of a compound are named. w, the node of these names, can be noted, and its name is the compound's
pub record Parts (q : List ℕ) (at : ℕ) (T P : List ℕ) (w end : ℕ) : Type 0 where
  pub room : length P < CONNECTIVES
  pub nodes : Nodes P
  pub first : first_of w < LETTERS + length P
  pub second : second_of w < LETTERS + length P
  pub named : (R : List ℕ) (name : ℕ) → Noted w P R name → Numbered q at T R (record { value = name; end = end })

module _ (q : List ℕ) (at : ℕ) (T : List ℕ) (h : Numbers q at T) where
  pub number_letter : ((k : Read) → get_or q at 0 ≡ command_of k → ⊥) → Numbered q at T T (record { value = get_or q (at + 1) 0; end = at + 2 })
  number_letter other =
      let a = letter_at q at h.well (λ i. omega (arith, other Not, other (Two And), other (Two Or), other (Two Implies), other (Two Equiv))) in
      let l : get_or q (at + 1) 0 < LETTERS = rw a.stands at h.lettered in
      record {
        tells = rw a.stands (refl, l);
        below = omega arith;
        end = sym a.ends;
        more = omega arith;
        few = omega arith;
        nodes = h.nodes;
        kept = λ k i. refl;
      }

  module _ (k : Read) (command : get_or q at 0 ≡ command_of k) where
    byte : 2 ≤ get_or q at 0
    byte = omega (arith, command, connective_range (connective_of k))

    -- its first part
    less : connectives (formula_at q (at + 1)) + 1 ≤ connectives (formula_at q at)
    less = let a = first_at q at h.well byte in rw a.stands (go a.connective (formula_at q (at + 1)) a.second)
      where
        go : (k : Connective) (f g : Formula) → connectives f + 1 ≤ connectives (compound k f g)
        go NOT f g = omega arith
        go (two o) f g = omega arith

    pub first_enters : Numbers q (at + 1) T
    first_enters =
        let a = first_at q at h.well byte in
        record {
          well = a.well;
          lettered = go a.connective (formula_at q (at + 1)) a.second (rw a.stands at h.lettered);
          fits = omega (arith, less, h.fits);
          nodes = h.nodes;
        }
      where
        go : (k : Connective) (f g : Formula) → Lettered (compound k f g) → Lettered f
        go NOT f g l = l
        go (two o) f g l = l.0

    module _ (f : Ended ℕ) (P : List ℕ) (a : Numbered q (at + 1) T P f) where
      -- NOT
      not_room : length P < CONNECTIVES
      not_room = omega (arith, a.few, less, h.fits)

      pub not_parts : k ≡ Not → (w : ℕ) → w ≡ node (command_of k) f.value f.value → Parts q at T P w f.end
      not_parts is w d =
          let e : get_or q at 0 ≡ 2 = rw is at command in
          let held : w ≡ node (code (CONNECTIVE NOT)) f.value f.value = rw is at d in
          let lower = parts_lower NOT (length P) (omega (arith, not_room)) f.value f.value a.below a.below w held in
          let s = not_at q at h.well byte e in
          let x = formula_at q (at + 1) in
          record {
            room = not_room;
            nodes = a.nodes;
            first = lower.0;
            second = lower.1;
            named = λ R name t. record {
              tells = rw s.stands (
                f.value,
                noted_node NOT (length P) (omega (arith, not_room)) f.value f.value a.below a.below w held P R name t,
                tells_kept P R t.kept x f.value a.below a.tells,
              );
              below = t.below;
              end = a.end ∙ sym s.ends;
              more = omega (arith, a.more, t.more);
              few = omega (arith, a.few, t.few, less);
              nodes = t.nodes;
              kept = λ k i. t.kept k (omega (arith, a.more)) ∙ a.kept k i;
            };
          }

      -- a connective of two
      module _ (o : Joins) (is : k ≡ Two o) where
        second : TwoAt q at
        second = two_at q at h.well byte (λ e. omega (arith, binary_range o, rw is at command))

        count : connectives (formula_at q at) ≡ connectives (formula_at q (at + 1)) + connectives (formula_at q f.end) + 1
        count = rw (a.end, second.stands) (omega arith)

        pub second_enters : Numbers q f.end P
        second_enters =
            let l : Lettered (join second.o (formula_at q (at + 1)) (formula_at q (end_of q (at + 1)))) = rw second.stands at h.lettered in
            record { well = rw a.end second.well; lettered = rw a.end l.1; fits = omega (arith, a.few, count, h.fits); nodes = a.nodes }

        module _ (g : Ended ℕ) (Q : List ℕ) (b : Numbered q f.end P Q g) where
          two_room : length Q < CONNECTIVES
          two_room = omega (arith, a.few, b.few, count, h.fits)

          pub two_parts : (w : ℕ) → w ≡ node (command_of k) f.value g.value → Parts q at T Q w g.end
          two_parts w d =
              let held : w ≡ node (code (CONNECTIVE (two second.o))) f.value g.value
              = d ∙ ap (λ (b : ℕ). node b f.value g.value) (sym command ∙ second.byte) in
              let below : f.value < LETTERS + length Q = omega (arith, a.below, b.more) in
              let lower = parts_lower (two second.o) (length Q) (omega (arith, two_room)) f.value g.value below b.below w held in
              let x = formula_at q (at + 1) in
              let y = formula_at q (end_of q (at + 1)) in
              record {
                room = two_room;
                nodes = b.nodes;
                first = lower.0;
                second = lower.1;
                named = λ R name t. record {
                  tells = rw second.stands (
                    f.value,
                    g.value,
                    noted_node (two second.o) (length Q) (omega (arith, two_room)) f.value g.value below b.below w held Q R name t,
                    tells_kept P R (λ k i. t.kept k (omega (arith, b.more)) ∙ b.kept k i) x f.value a.below a.tells,
                    tells_kept Q R t.kept y g.value b.below (rw a.end at b.tells),
                  );
                  below = t.below;
                  end = b.end ∙ rw a.end (sym second.ends);
                  more = omega (arith, a.more, b.more, t.more);
                  few = omega (arith, a.few, b.few, t.few, count);
                  nodes = t.nodes;
                  kept = λ k i. t.kept k (omega (arith, a.more, b.more)) ∙ b.kept k (omega (arith, a.more)) ∙ a.kept k i;
                };
              }
