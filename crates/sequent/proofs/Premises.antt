-- The premise that one pass makes, and its stores.
-- Assumes nothing.
use Rattle.std.proofs.Common.{◌≡◌, refl, sym, ap, ◌∙◌, List, ◌++◌, append_assoc, ℕ, suc, ◌+◌, ◌-◌, ◌≤◌, ◌<◌, arith, bit_or, length, take, drop, length-append, length-take, take-append-drop, take-add, take_at, take-take, drop_at, drop-drop, length-take-le}
use Rattle.std.proofs.Math.Seq.{slice, length-slice, drop-append-le}
use Rattle.calculus.specs.declared.Side.{Side}
use Rattle.calculus.specs.declared.Side.TheVariants.{Left, Right}
use Rattle.calculus.specs.Limits.{ROOM}
use Rattle.calculus.specs.Syntax.{size}
use Rattle.calculus.specs.Table.{on, splice, premise}
use Rattle.sequent.specs.Rule.{Placing, parts_on, placed}
use Rattle.calculus.proofs.Folds.{ones}
use Rattle.sequent.proofs.Lists.{on_left, on_right}
use Rattle.sequent.specs.declared.Pass.{Pass}
use Rattle.sequent.specs.declared.Half.{Half}
use Rattle.sequent.specs.declared.Running.{Running}
use Rattle.sequent.specs.View.{view, count_of, mask_of, set_of, letters_of, compounds_of, joined}
use Rattle.sequent.specs.Passes.{Stored, listed, Builds}
use Rattle.sequent.proofs.Passes.{pass}

-- ---- parts of a list

pub take_drop : (a n : ℕ) (l : List ℕ) → a ≤ length l → take n (drop a l) ≡ slice a (a + n) l
take_drop a n l h = sym (ap (drop a) (take-add a n l) ∙ drop_at (take a l) (take n (drop a l)) a (length-take-le a l h))

pub slice_join : (a b c : ℕ) (l : List ℕ) → a ≤ b → b ≤ c → b ≤ length l → slice a b l ++ slice b c l ≡ slice a c l
slice_join a b c l h k r =
    sym (ap (drop a) (sym (take-append-drop b (take c l)) ∙ ap (λ (v : List ℕ). v ++ slice b c l) (take-take b c l k))
    ∙ drop-append-le a (take b l) (slice b c l) (omega (arith, length-take-le b l r)))

-- a place of a part makes way
splice_slice : (a i j e : ℕ) (ps l : List ℕ) → j ≡ a + i → j < e → e ≤ length l
    → splice i ps (slice a e l) ≡ slice a j l ++ (ps ++ slice (j + 1) e l)
splice_slice a i j e ps l q h k =
    let b : take i (slice a e l) ≡ slice a j l
    = take_drop a i (take e l) (omega (arith, length-take-le e l k)) ∙ ap (drop a) (take-take (a + i) e l (omega arith)) ∙ ap (λ (n : ℕ). slice a n l) (sym q) in
    let n : a + suc i ≡ j + 1 = omega arith in
    let d : drop (suc i) (slice a e l) ≡ slice (j + 1) e l = drop-drop (suc i) a (take e l) ∙ ap (λ (m : ℕ). drop m (take e l)) n in
    ap (λ (v : List ℕ). v ++ (ps ++ drop (suc i) (slice a e l))) b ∙ ap (λ (v : List ℕ). slice a j l ++ (ps ++ v)) d

pub splice_length : (a j e : ℕ) (ps l : List ℕ) → a ≤ j → j < e → e ≤ length l → length (slice a j l ++ (ps ++ slice (j + 1) e l)) + a + 1 ≡ e + length ps
splice_length a j e ps l h k r =
    omega (arith, length-append (slice a j l) (ps ++ slice (j + 1) e l), length-append ps (slice (j + 1) e l), length-slice a j l (omega arith), length-slice (j + 1) e l r)

pub end_length : (a e : ℕ) (ps l : List ℕ) → a ≤ e → e ≤ length l → length (slice a e l ++ ps) + a ≡ e + length ps
end_length a e ps l h k = omega (arith, length-append (slice a e l) ps, length-slice a e l k)

-- ---- what is stored from the first place on is the two sides

sides_size : (xs ys : List ℕ) → size (record { on_left = xs; on_right = ys }) ≡ length xs + length ys
sides_size xs ys = omega (arith, ones xs, ones ys)

module _ {c : Pass} {f : ℕ} {zs l n : List ℕ} (h : Stored (pass 0 0 0) c f zs l n) (xs ys : List ℕ) (e : zs ≡ xs ++ ys) (k : ℕ) (d : k ≡ length xs) where
  both : take c.to n ≡ xs ++ ys
  both = h.held ∙ e

  count : c.to ≡ length xs + length ys
  count = omega (arith, h.to, ap length e, length-append xs ys)

  within : c.to ≤ length n
  within = omega (arith, count, ap length both, length-append xs ys, length-take c.to n)

  left_side : take k n ≡ xs
  left_side = sym (take-take k c.to n (omega (arith, count))) ∙ ap (take k) both ∙ take_at xs ys k (sym d)

  right_side : take (c.to - k) (drop k n) ≡ ys
  right_side =
      let i : k + (c.to - k) ≡ c.to = omega (arith, count) in
      take_drop k (c.to - k) n (omega (arith, within, count)) ∙ ap (λ (j : ℕ). slice k j n) i ∙ ap (drop k) both ∙ drop_at xs ys k (sym d)

  two_sides : (r : Running) → r.left.count ≡ k → r.right.count ≡ c.to - k → view r n ≡ record { on_left = xs; on_right = ys }
  two_sides r u v = λ i. record {
    on_left = (ap (λ (m : ℕ). take m n) u ∙ left_side) i;
    on_right = (ap (λ (m : ℕ). take r.right.count (drop m n)) u ∙ ap (λ (m : ℕ). take m (drop k n)) v ∙ right_side) i;
  }

  two_stores : c.stores ≡ size (record { on_left = xs; on_right = ys })
  two_stores = omega (arith, sides_size xs ys, h.stores, ap length e, length-append xs ys)

  two_listed : take c.stores n ≡ xs ++ ys
  two_listed = let z : c.stores ≡ c.to = omega (arith, h.to, h.stores) in rw z both

  two_behind : drop c.stores n ≡ drop c.stores l
  two_behind = let z : c.stores ≡ c.to = omega (arith, h.to, h.stores) in rw z h.behind

  two_counts : k + (c.to - k) ≡ c.stores
  two_counts = omega (arith, count, h.to, h.stores)

-- ---- the premise

module _ (s : Running) (old : List ℕ) (full : length old ≡ ROOM) (room : s.left.count + s.right.count ≤ ROOM) (p : Placing) (f g : ℕ) (at : ℕ) where
  -- the names of each side of the premise
  abbrev pub left_run : Side → List ℕ
  left_run Left = slice 0 at old ++ (parts_on Left p f g ++ slice (at + 1) s.left.count old)
  left_run Right = slice 0 s.left.count old ++ parts_on Left p f g

  abbrev pub right_run : Side → List ℕ
  right_run Left = slice s.left.count (s.left.count + s.right.count) old ++ parts_on Right p f g
  right_run Right = slice s.left.count (s.left.count + at) old ++ (parts_on Right p f g ++ slice (s.left.count + at + 1) (s.left.count + s.right.count) old)

  -- as the pass stores them
  abbrev pub run : Side → List ℕ
  run Left = (slice 0 at old ++ parts_on Left p f g) ++ (slice (at + 1) (s.left.count + s.right.count) old ++ parts_on Right p f g)
  run Right = ((slice 0 s.left.count old ++ parts_on Left p f g) ++ (slice s.left.count (s.left.count + at) old ++ parts_on Right p f g)) ++ slice (s.left.count + at + 1) (s.left.count + s.right.count) old

  run_sides : (t : Side) → at < count_of t s → run t ≡ left_run t ++ right_run t
  run_sides Left h = rw (sym (slice_join (at + 1) s.left.count (s.left.count + s.right.count) old (omega arith) (omega arith) (omega arith))) (simp append_assoc)
  run_sides Right h = simp append_assoc

  right_view : take s.right.count (drop s.left.count old) ≡ slice s.left.count (s.left.count + s.right.count) old
  right_view = take_drop s.left.count s.right.count old (omega arith)

  to_left : on Left (placed p f g) ≡ parts_on Left p f g
  to_left = on_left (parts_on Left p f g) (parts_on Right p f g)

  to_right : on Right (placed p f g) ≡ parts_on Right p f g
  to_right = on_right (parts_on Left p f g) (parts_on Right p f g)

  pub premise_runs : (t : Side) → at < count_of t s → premise t at (view s old) (placed p f g) ≡ record { on_left = left_run t; on_right = right_run t }
  premise_runs Left h = λ i. record {
    on_left = (ap (λ (ps : List ℕ). splice at ps (take s.left.count old)) to_left ∙ splice_slice 0 at at s.left.count (parts_on Left p f g) old (omega arith) h (omega arith)) i;
    on_right = (ap (λ (v : List ℕ). v ++ on Right (placed p f g)) right_view ∙ ap (λ (ps : List ℕ). slice s.left.count (s.left.count + s.right.count) old ++ ps) to_right) i;
  }
  premise_runs Right h = λ i. record {
    on_left = ap (λ (ps : List ℕ). take s.left.count old ++ ps) to_left i;
    on_right = (ap (λ (v : List ℕ). splice at (on Right (placed p f g)) v) right_view ∙ ap (λ (ps : List ℕ). splice at ps (slice s.left.count (s.left.count + s.right.count) old)) to_right
        ∙ splice_slice s.left.count at (s.left.count + at) (s.left.count + s.right.count) (parts_on Right p f g) old refl (omega arith) (omega arith)) i;
  }

  -- the names of both sides, less the one that makes way
  premise_size : (t : Side) → at < count_of t s
      → size (premise t at (view s old) (placed p f g)) + 1 ≡ s.left.count + s.right.count + length (parts_on Left p f g) + length (parts_on Right p f g)
  premise_size Left h =
      omega (arith, ap size (premise_runs Left h), sides_size (left_run Left) (right_run Left), splice_length 0 at s.left.count (parts_on Left p f g) old (omega arith) h (omega arith), end_length s.left.count (s.left.count + s.right.count) (parts_on Right p f g) old (omega arith) (omega arith))
  premise_size Right h =
      omega (arith, ap size (premise_runs Right h), sides_size (left_run Right) (right_run Right), end_length 0 s.left.count (parts_on Left p f g) old (omega arith) (omega arith), splice_length s.left.count (s.left.count + at) (s.left.count + s.right.count) (parts_on Right p f g) old (omega arith) (omega arith) (omega arith))

  -- so they fit, if the premise does
  pub premise_fits : (t : Side) → at < count_of t s → size (premise t at (view s old) (placed p f g)) ≤ ROOM
      → s.left.count + s.right.count + length (parts_on Left p f g) + length (parts_on Right p f g) ≤ ROOM + 1
  premise_fits t h k = omega (arith, premise_size t h)

  module _ (t : Side) (h : at < count_of t s) {c : Pass} {l n : List ℕ} (stored : Stored (pass 0 0 0) c (s.left.count + s.right.count) (run t) l n)
      (k : ℕ) (e : k ≡ length (left_run t)) where
    module _ (lh rh : Half) (lefts : lh ≡ joined (parts_on Left p f g) s.left) (rights : rh ≡ joined (parts_on Right p f g) s.right) where
      abbrev made : Running
      made = record { left = record lh { count = k }; right = record rh { count = c.to - k } }

      masks : (u : Side) → mask_of u made ≡ bit_or (mask_of u s) (letters_of (parts_on u p f g))
      masks Left = ap (λ (h : Half). h.mask) lefts
      masks Right = ap (λ (h : Half). h.mask) rights

      sets : (u : Side) → set_of u made ≡ bit_or (set_of u s) (compounds_of (parts_on u p f g))
      sets Left = ap (λ (h : Half). h.set) lefts
      sets Right = ap (λ (h : Half). h.set) rights

      pub premise_made : length l ≡ ROOM → Builds t at p f g s old l n (record { value = made; stores = c.stores })
      premise_made z =
          record {
            held = two_sides stored (left_run t) (right_run t) (run_sides t h) k e made refl refl ∙ sym (premise_runs t h);
            stored = two_listed stored (left_run t) (right_run t) (run_sides t h) k e ∙ ap listed (sym (premise_runs t h));
            behind = two_behind stored (left_run t) (right_run t) (run_sides t h) k e;
            stores = two_stores stored (left_run t) (right_run t) (run_sides t h) k e ∙ ap size (sym (premise_runs t h));
            counted = two_counts stored (left_run t) (right_run t) (run_sides t h) k e;
            full = stored.size ∙ z;
            masks = masks;
            sets = sets;
          }
