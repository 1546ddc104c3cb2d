-- What the nodes tell of a name: the formula that it stands for, and those of its parts.
-- Assumes nothing.
use Rattle.std.proofs.Common.{◌≡◌, refl, sym, ap, ◌∙◌, subst, List, ℕ, zero, suc, ◌+◌, ◌-◌, ◌%◌, ◌≤◌, ◌<◌, arith, length, lt-ltb, le-ltb}
use Rattle.calculus.specs.Limits.{LETTERS, CONNECTIVES}
use Rattle.calculus.specs.Syntax.{AND, OR, IMPLIES, EQUIV, Binary, Connective, NOT, two, Formula, letter, neg, join, whole}
use Rattle.calculus.specs.Bytes.{CONNECTIVE, code}
use Rattle.sequent.specs.Names.{node, Node, node_of, Tells, connective_of, first_of, second_of, formula_by, formula_in, Known, Distinct}
use Rattle.sequent.specs.Compounds.{compound_of}

-- ---- nodes

pub connective_code : (k : Connective) → connective_of (code (CONNECTIVE k)) ≡ k
connective_code NOT = refl
connective_code (two AND) = refl
connective_code (two OR) = refl
connective_code (two IMPLIES) = refl
connective_code (two EQUIV) = refl

pub command_small : (k : Connective) → code (CONNECTIVE k) < 256
command_small NOT = omega arith
command_small (two AND) = omega arith
command_small (two OR) = omega arith
command_small (two IMPLIES) = omega arith
command_small (two EQUIV) = omega arith

-- a node gives back what it was made of
pub record Read (b f g w : ℕ) : Type 0 where
  pub command : w % 256 ≡ b
  pub first : first_of w ≡ f
  pub second : second_of w ≡ g

pub node_read : (b f g w : ℕ) → b < 256 → f < 256 → g < 256 → w ≡ node b f g → Read b f g w
node_read b f g w h i j e = record { command = omega arith; first = omega arith; second = omega arith }

module _ (T : List ℕ) (full : length T ≤ CONNECTIVES) where
  node_known : (d : ℕ) (k : Connective) (f g : ℕ) → Node T d (code (CONNECTIVE k)) f g → d < LETTERS + length T → Read (code (CONNECTIVE k)) f g (node_of T d)
  node_known d k f g n h =
      node_read (code (CONNECTIVE k)) f g (node_of T d) (command_small k) (omega (arith, n.first)) (omega (arith, n.second)) n.held

  -- ---- the formula of a name

  told_by : (x : Formula) (d k : ℕ) → Tells T d x → d < LETTERS + length T → d < LETTERS + k → formula_by k T d ≡ x
  told_by (letter j) d zero t h e = ap letter t.0
  told_by (letter j) d (suc k) t h e = rw (lt-ltb d LETTERS (omega (arith, t.0, t.1))) (ap letter t.0)
  told_by (neg x) d zero t h e = absurd (omega (arith, t.1.above))
  told_by (neg x) d (suc k) t h e =
      let r = node_known d NOT t.0 t.0 t.1 h in
      rw (le-ltb d LETTERS t.1.above, r.command, r.first, told_by x t.0 k t.2 (omega (arith, t.1.first)) (omega (arith, t.1.first)))
  told_by (join b x y) d zero t h e = absurd (omega (arith, t.2.above))
  told_by (join b x y) d (suc k) t h e =
      let n = t.2 in
      let r = node_known d (two b) t.0 t.1 n h in
      rw (le-ltb d LETTERS n.above, r.command, r.first, r.second, connective_code (two b), told_by x t.0 k t.3 (omega (arith, n.first)) (omega (arith, n.first)), told_by y t.1 k t.4 (omega (arith, n.second)) (omega (arith, n.second)))

  pub told_formula : (d : ℕ) (x : Formula) → Tells T d x → d < LETTERS + length T → formula_in T d ≡ x
  told_formula d x t h = told_by x d (length T) t h (omega arith)

  module _ (n : ℕ) (few : n ≤ length T) where
    pub known_formula : (d : ℕ) (k : Known T n d) → formula_in T d ≡ k.formula
    known_formula d k = told_formula d k.formula k.tells (omega (arith, k.below))

    pub letter_named : (d : ℕ) → Known T n d → d < LETTERS → formula_in T d ≡ letter d
    letter_named d k h = known_formula d k ∙ go k.formula k.tells
      where
        go : (x : Formula) → Tells T d x → x ≡ letter d
        go (letter j) t = ap letter (sym t.0)
        go (neg x) t = absurd (omega (arith, t.1.above))
        go (join b x y) t = absurd (omega (arith, t.2.above))

    -- a compound's name: its node, and what its parts are
    pub record Compounded (d : ℕ) : Type 0 where
      pub inside : d - LETTERS < length T
      pub stands : formula_in T d ≡ whole (compound_of (formula_in T d))
      pub command : node_of T d % 256 ≡ code (CONNECTIVE (compound_of (formula_in T d)).connective)
      pub first : formula_in T (first_of (node_of T d)) ≡ (compound_of (formula_in T d)).f
      pub first_known : Known T n (first_of (node_of T d))
      pub second : formula_in T (second_of (node_of T d)) ≡ (compound_of (formula_in T d)).g
      pub second_known : Known T n (second_of (node_of T d))

    compound_not : (d : ℕ) (x : Formula) → Tells T d (neg x) → d < LETTERS + n → Compounded d
    compound_not d x t h =
        let i : d < LETTERS + length T = omega arith in
        let r = node_known d NOT t.0 t.0 t.1 i in
        let e : formula_in T d ≡ neg x = told_formula d (neg x) t i in
        let f : formula_in T t.0 ≡ x = told_formula t.0 x t.2 (omega (arith, t.1.first)) in
        let k : Known T n t.0 = record { formula = x; tells = t.2; below = omega (arith, t.1.first) } in
        record {
          inside = omega (arith, t.1.above);
          stands = rw e refl;
          command = rw e r.command;
          first = rw (r.first, e) f;
          first_known = rw r.first k;
          second = rw (r.second, e) f;
          second_known = rw r.second k;
        }

    compound_two : (d : ℕ) (b : Binary) (x y : Formula) → Tells T d (join b x y) → d < LETTERS + n → Compounded d
    compound_two d b x y t h =
        let i : d < LETTERS + length T = omega arith in
        let m = t.2 in
        let r = node_known d (two b) t.0 t.1 m i in
        let e : formula_in T d ≡ join b x y = told_formula d (join b x y) t i in
        record {
          inside = omega (arith, m.above);
          stands = rw e refl;
          command = rw e r.command;
          first = rw (r.first, e) (told_formula t.0 x t.3 (omega (arith, m.first)));
          first_known = rw r.first (record { formula = x; tells = t.3; below = omega (arith, m.first) });
          second = rw (r.second, e) (told_formula t.1 y t.4 (omega (arith, m.second)));
          second_known = rw r.second (record { formula = y; tells = t.4; below = omega (arith, m.second) });
        }

    pub compound_named : (d : ℕ) → Known T n d → LETTERS ≤ d → Compounded d
    compound_named d k h = go k.formula k.tells
      where
        go : (x : Formula) → Tells T d x → Compounded d
        go (letter j) t = absurd (omega (arith, t.0, t.1))
        go (neg x) t = compound_not d x t k.below
        go (join b x y) t = compound_two d b x y t k.below

    -- the rule's connective is the formula's
    pub rule_connective : (d : ℕ) → Compounded d → connective_of (node_of T d % 256) ≡ (compound_of (formula_in T d)).connective
    rule_connective d c = ap connective_of c.command ∙ connective_code (compound_of (formula_in T d)).connective

    -- ---- equal formulas have one name

    module _ (distinct : Distinct T n) where
      one_node : (d e b f g : ℕ) → d < LETTERS + n → e < LETTERS + n → Node T d b f g → Node T e b f g → d ≡ e
      one_node d e b f g h k p q =
          let i = distinct (d - LETTERS) (e - LETTERS) (omega (arith, p.above)) (omega (arith, q.above)) (p.held ∙ sym q.held) in
          omega (arith, i, p.above, q.above)

      pub one_name : (x : Formula) (d e : ℕ) → d < LETTERS + n → e < LETTERS + n → Tells T d x → Tells T e x → d ≡ e
      one_name (letter j) d e h k t u = t.0 ∙ sym u.0
      one_name (neg x) d e h k t u =
          let i = one_name x t.0 u.0 (omega (arith, t.1.first)) (omega (arith, u.1.first)) t.2 u.2 in
          one_node d e (code (CONNECTIVE NOT)) t.0 t.0 h k t.1 (subst (λ (m : ℕ). Node T e (code (CONNECTIVE NOT)) m m) (sym i) u.1)
      one_name (join b x y) d e h k t u =
          let i = one_name x t.0 u.0 (omega (arith, t.2.first)) (omega (arith, u.2.first)) t.3 u.3 in
          let j = one_name y t.1 u.1 (omega (arith, t.2.second)) (omega (arith, u.2.second)) t.4 u.4 in
          one_node d e (code (CONNECTIVE (two b))) t.0 t.1 h k t.2 (rw (i, j) u.2)

      pub same_name : (d e : ℕ) → Known T n d → Known T n e → formula_in T d ≡ formula_in T e → d ≡ e
      same_name d e k l q =
          one_name k.formula d e k.below l.below k.tells (subst (Tells T e) (sym (known_formula e l) ∙ sym q ∙ known_formula d k) l.tells)
