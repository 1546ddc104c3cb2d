-- Reading: bytes are accepted exactly if they are the encoding of a sequent within the limits, and each refusal is the earliest.
-- Assumes nothing.
use mathlib.Core.Path.{◌≡◌, refl, sym, ap, ◌∙◌, subst}
use mathlib.Core.Logic.{◌↔◌, ◌⊎◌, inl, inr, ⊎_elim}
use mathlib.Core.Bool.{Bool, true, false}
use mathlib.Core.Option.{Option, none, some}
use mathlib.Core.List.{List, [], ◌∷◌, ◌++◌, append_assoc, append-nil}
use Prim.Native.Nat.{ℕ, zero, suc, ◌+◌, ◌≤◌, ◌<◌}
use native.Mathlib.Nat.{add-zero}
use native.Mathlib.Omega.{arith}
use lib.Dec.{eqb, ltb, leb}
use lib.ListN.{length, length-append}
use borrow.Author.Tests.{lt-ltb, le-leb, le-ltb, ltb-true, ltb-false, leb-true, eqb-true, eq-eqb}
use Rattle.calculus.specs.declared.Side.{Side}
use Rattle.calculus.specs.declared.Side.TheVariants.{Left, Right}
use Rattle.calculus.specs.declared.Expected.{Expected}
use Rattle.calculus.specs.declared.Expected.TheVariants.{Head, Count, Formula as Due, Operand, End}
use Rattle.calculus.specs.Fold.{fold, SUM, Each, choose}
use Rattle.calculus.specs.Limits.{Limits, LIMITS, TOO_LONG, CUT, WRONG_COMMAND, MANY_FORMULAS, NO_SUCH_LETTER, MANY_CONNECTIVES}
use Rattle.calculus.specs.Syntax.{Binary, NOT, two, Formula, letter, neg, join, Sequent, connectives}
use Rattle.calculus.specs.Bytes.{Command, SIDE, LETTER, CONNECTIVE, code, command, encode, encode_all, encode_side, encode_sequent, bytes, bytes_all, question, LetteredUnder, WithinUnder, Within}
use Rattle.calculus.specs.Reading.{Onward, refuse, onward, after, begin_under, advance, advance_under, accepted, refused, ended, go_on, read, read_under, reading, reading_under}
use Rattle.calculus.proofs.Spelling.{command_code, command_byte, question_encode, longest}

-- ---- what is within the limits is accepted

abbrev pub connectives_all : List Formula → ℕ
connectives_all = fold SUM connectives

module _ (L : Limits) where
  read_formula : (x : Formula) (l : List ℕ) (s : Side) (n d at : ℕ) → LetteredUnder L.letters x → d + connectives x ≤ L.connectives
      → read_under L (encode x ++ l) (Due s n) d at ≡ read_under L l (after s n) (d + connectives x) (at + bytes x)
  read_formula (letter k) l s n d at h m =
      let p : suc (suc at) ≡ at + 2 = omega arith in
      rw (lt-ltb k L.letters h, add-zero, p)
  read_formula (neg x) l s n d at h m =
      let p : suc at + bytes x ≡ at + suc (bytes x) = omega arith in
      let q : suc d + connectives x ≡ d + suc (connectives x) = omega arith in
      rw (lt-ltb d L.connectives (omega arith)) (read_formula x l s n (suc d) (suc at) h (omega arith) ∙ rw (p, q))
  read_formula (join b x y) l s n d at h m =
      let p : suc at + bytes x + bytes y ≡ at + suc (length (encode x ++ encode y)) = omega (arith, length-append (encode x) (encode y)) in
      let q : suc d + connectives x + connectives y ≡ d + suc (connectives x + connectives y) = omega arith in
      rw (command_code (CONNECTIVE (two b)), lt-ltb d L.connectives (omega arith), append_assoc (encode x) (encode y) l) (read_formula x (encode y ++ l) s (suc n) (suc d) (suc at) h.0 (omega arith) ∙ read_formula y l s n (suc d + connectives x) (suc at + bytes x) h.1 (omega arith) ∙ rw (p, q))

  read_formulas : (xs : List Formula) (l : List ℕ) (s : Side) (d at : ℕ) → Each (LetteredUnder L.letters) xs → d + connectives_all xs ≤ L.connectives
      → read_under L (encode_all xs ++ l) (after s (length xs)) d at ≡ read_under L l (after s 0) (d + connectives_all xs) (at + bytes_all xs)
  read_formulas [] l s d at h m = rw (add-zero d, add-zero at)
  read_formulas (x ∷ xs) l s d at h m =
      let p : at + bytes x + bytes_all xs ≡ at + length (encode x ++ encode_all xs) = omega (arith, length-append (encode x) (encode_all xs)) in
      let q : d + connectives x + connectives_all xs ≡ d + (connectives x + connectives_all xs) = omega arith in
      rw (append_assoc (encode x) (encode_all xs) l) (read_formula x (encode_all xs ++ l) s (length xs) d at h.0 (omega arith) ∙ read_formulas xs l s (d + connectives x) (at + bytes x) h.1 (omega arith) ∙ rw (p, q))

  read_side : (s : Side) (xs : List Formula) (l : List ℕ) (d at : ℕ) → length xs ≤ L.formulas → Each (LetteredUnder L.letters) xs → d + connectives_all xs ≤ L.connectives
      → read_under L (encode_side s xs ++ l) (Head s) d at ≡ read_under L l (after s 0) (d + connectives_all xs) (suc (suc at) + bytes_all xs)
  read_side s xs l d at f h m =
      rw (eq-eqb (code (SIDE s)) (code (SIDE s)) refl, le-leb (length xs) L.formulas f) (read_formulas xs l s d (suc (suc at)) h m)

  encoded_accepted : (S : Sequent) → WithinUnder L S → length (encode_sequent S) ≤ L.longest → reading_under L (encode_sequent S) ≡ accepted
  encoded_accepted S w n =
      rw (le-ltb L.longest (length (encode_sequent S)) n)
      (read_side Left S.on_left (encode_side Right S.on_right) 0 0 w.lefts w.letters_left (omega (arith, w.connectives))
      ∙ ap (λ (l : List ℕ). read_under L l (Head Right) (0 + connectives_all S.on_left) (2 + bytes_all S.on_left)) (sym (append-nil (encode_side Right S.on_right)))
      ∙ read_side Right S.on_right [] (0 + connectives_all S.on_left) (2 + bytes_all S.on_left) w.rights w.letters_right (omega (arith, w.connectives)))

  -- ---- what is accepted is an encoding within the limits

  -- n formulas are read off bs, with d connectives before them, and what is done at the end
  record Some (D : ℕ → List ℕ → Type 0) (n d : ℕ) (bs : List ℕ) : Type 0 where
    xs : List Formula
    rest : List ℕ
    sum : ℕ
    count : length xs ≡ n
    spelt : bs ≡ encode_all xs ++ rest
    lettered : Each (LetteredUnder L.letters) xs
    adds : sum ≡ d + connectives_all xs
    few : sum ≤ L.connectives
    done : D sum rest

  -- a count of formulas, and these
  record CountedList (D : ℕ → List ℕ → Type 0) (d : ℕ) (bs : List ℕ) : Type 0 where
    n : ℕ
    rest : List ℕ
    spelt : bs ≡ n ∷ rest
    few : n ≤ L.formulas
    read_off : Some D n d rest

  -- a side
  record Sided (s : Side) (D : ℕ → List ℕ → Type 0) (d : ℕ) (bs : List ℕ) : Type 0 where
    rest : List ℕ
    spelt : bs ≡ code (SIDE s) ∷ rest
    counted : CountedList D d rest

  -- the operand of a letter, and n formulas
  record Lettered_first (D : ℕ → List ℕ → Type 0) (n d : ℕ) (bs : List ℕ) : Type 0 where
    k : ℕ
    rest : List ℕ
    spelt : bs ≡ k ∷ rest
    small : k < L.letters
    read_off : Some D n d rest

  abbrev Done : Side → ℕ → List ℕ → Type 0
  Done Right d bs = bs ≡ []
  Done Left d bs = Sided Right (λ e l. l ≡ []) d bs

  abbrev Rest : Expected → ℕ → List ℕ → Type 0
  Rest (Head s) = Sided s (Done s)
  Rest (Count s) = CountedList (Done s)
  Rest (Due s n) = Some (Done s) (suc n)
  Rest (Operand s n) = Lettered_first (Done s) n
  Rest End = λ d bs. bs ≡ []

  no_formulas : (D : ℕ → List ℕ → Type 0) (d : ℕ) (bs : List ℕ) → d ≤ L.connectives → D d bs → Some D 0 d bs
  no_formulas D d bs m h =
      record { xs = []; rest = bs; sum = d; count = refl; spelt = refl; lettered = tt; adds = sym (add-zero d); few = m; done = h }

  due_formulas : (s : Side) (n d : ℕ) (bs : List ℕ) → d ≤ L.connectives → Rest (after s n) d bs → Some (Done s) n d bs
  due_formulas s (suc n) d bs m h = h
  due_formulas Left zero d bs m h = no_formulas (Done Left) d bs m h
  due_formulas Right zero d bs m h = no_formulas (Done Right) d bs m h

  with_letter : (D : ℕ → List ℕ → Type 0) (n d b : ℕ) (bs : List ℕ) → code LETTER ≡ b → Lettered_first D n d bs → Some D (suc n) d (b ∷ bs)
  with_letter D n d b bs e h =
      let r = h.read_off in
      record {
        xs = letter h.k ∷ r.xs;
        rest = r.rest;
        sum = r.sum;
        count = ap suc r.count;
        spelt = cc (e, h.spelt, r.spelt);
        lettered = (h.small, r.lettered);
        adds = omega (arith, r.adds);
        few = r.few;
        done = r.done;
      }

  with_not : (D : ℕ → List ℕ → Type 0) (n d b : ℕ) (bs : List ℕ) → code (CONNECTIVE NOT) ≡ b → Some D (suc n) (suc d) bs → Some D (suc n) d (b ∷ bs)
  with_not D n d b bs e h = go h.xs h.count h.spelt h.lettered h.adds
    where
      go : (xs : List Formula) → length xs ≡ suc n → bs ≡ encode_all xs ++ h.rest → Each (LetteredUnder L.letters) xs → h.sum ≡ suc d + connectives_all xs
          → Some D (suc n) d (b ∷ bs)
      go [] p q l a = absurd (omega arith)
      go (x ∷ xs) p q l a =
          record {
            xs = neg x ∷ xs;
            rest = h.rest;
            sum = h.sum;
            count = p;
            spelt = cc;
            lettered = l;
            adds = omega arith;
            few = h.few;
            done = h.done;
          }

  with_two : (D : ℕ → List ℕ → Type 0) (o : Binary) (n d b : ℕ) (bs : List ℕ) → code (CONNECTIVE (two o)) ≡ b → Some D (suc (suc n)) (suc d) bs
      → Some D (suc n) d (b ∷ bs)
  with_two D o n d b bs e h = go h.xs h.count h.spelt h.lettered h.adds
    where
      go : (xs : List Formula) → length xs ≡ suc (suc n) → bs ≡ encode_all xs ++ h.rest → Each (LetteredUnder L.letters) xs → h.sum ≡ suc d + connectives_all xs
          → Some D (suc n) d (b ∷ bs)
      go [] p q l a = absurd (omega arith)
      go (x ∷ []) p q l a = absurd (omega arith)
      go (x ∷ y ∷ xs) p q l a =
          record {
            xs = join o x y ∷ xs;
            rest = h.rest;
            sum = h.sum;
            count = omega arith;
            spelt = ap (λ (n : ℕ). n ∷ bs) (sym e) ∙ ap (λ (l : List ℕ). code (CONNECTIVE (two o)) ∷ l) (q ∙ simp append_assoc);
            lettered = ((l.0, l.1.0), l.1.1);
            adds = omega arith;
            few = h.few;
            done = h.done;
          }

  not_refused : {Q : Type 0} (n at : ℕ) → refused n at ≡ accepted → Q
  not_refused n at e = absurd cc

  -- one byte, given what holds of the bytes after it
  module _ (b : ℕ) (bs : List ℕ) (at : ℕ) (ih : (e : Expected) (d : ℕ) → d ≤ L.connectives → read_under L bs e d (suc at) ≡ accepted → Rest e d bs) where
    passed : {Q : Type 0} (n : ℕ) (t : Bool) (e : Expected) (d : ℕ) → (t ≡ true → d ≤ L.connectives)
        → go_on (choose t (onward e d) (refuse n)) at (λ e' c'. read_under L bs e' c' (suc at)) ≡ accepted → (t ≡ true → Rest e d bs → Q) → Q
    passed n true e d m h f = f refl (ih e d (m refl) h)
    passed n false e d m h f = not_refused _ _ h

    begun : (o : Option Command) → command b ≡ o → (s : Side) (n d : ℕ) → d ≤ L.connectives
        → go_on (begin_under L o s n d) at (λ e' c'. read_under L bs e' c' (suc at)) ≡ accepted → Some (Done s) (suc n) d (b ∷ bs)
    begun none e s n d m h = not_refused _ _ h
    begun (some (SIDE t)) e s n d m h = not_refused _ _ h
    begun (some LETTER) e s n d m h = with_letter (Done s) n d b bs (command_byte b LETTER e) (ih (Operand s n) d m h)
    begun (some (CONNECTIVE NOT)) e s n d m h =
        passed MANY_CONNECTIVES (ltb d L.connectives) (Due s n) (suc d) (ltb-true d L.connectives) h (λ t r. with_not (Done s) n d b bs (command_byte b (CONNECTIVE NOT) e) r)
    begun (some (CONNECTIVE (two o))) e s n d m h =
        passed MANY_CONNECTIVES (ltb d L.connectives) (Due s (suc n)) (suc d) (ltb-true d L.connectives) h (λ t r. with_two (Done s) o n d b bs (command_byte b (CONNECTIVE (two o)) e) r)

    advanced : (e : Expected) (d : ℕ) → d ≤ L.connectives → go_on (advance_under L e d b) at (λ e' c'. read_under L bs e' c' (suc at)) ≡ accepted → Rest e d (b ∷ bs)
    advanced (Head s) d m h =
        passed WRONG_COMMAND (eqb b (code (SIDE s))) (Count s) d (λ t. m) h
        (λ t r. record { rest = bs; spelt = ap (λ (n : ℕ). n ∷ bs) (eqb-true b (code (SIDE s)) t); counted = r })
    advanced (Count s) d m h =
        passed MANY_FORMULAS (leb b L.formulas) (after s b) d (λ t. m) h
        (λ t r. record { n = b; rest = bs; spelt = refl; few = leb-true b L.formulas t; read_off = due_formulas s b d bs m r })
    advanced (Due s n) d m h = begun (command b) refl s n d m h
    advanced (Operand s n) d m h =
        passed NO_SUCH_LETTER (ltb b L.letters) (after s n) d (λ t. m) h
        (λ t r. record { k = b; rest = bs; spelt = refl; small = ltb-true b L.letters t; read_off = due_formulas s n d bs m r })
    advanced End d m h = not_refused _ _ h

  read_rest : (bs : List ℕ) (e : Expected) (d at : ℕ) → d ≤ L.connectives → read_under L bs e d at ≡ accepted → Rest e d bs
  read_rest [] (Head s) d at m h = not_refused _ _ h
  read_rest [] (Count s) d at m h = not_refused _ _ h
  read_rest [] (Due s n) d at m h = not_refused _ _ h
  read_rest [] (Operand s n) d at m h = not_refused _ _ h
  read_rest [] End d at m h = refl
  read_rest (b ∷ bs) e d at m h = advanced b bs at (λ e' d' m' h'. read_rest bs e' d' (suc at) m' h') e d m h

  -- 1 comes before all
  not_too_long : (q : List ℕ) → reading_under L q ≡ accepted → (length q ≤ L.longest) × (read_under L q (Head Left) 0 0 ≡ accepted)
  not_too_long q e = go (ltb L.longest (length q)) refl e
    where
      go : (b : Bool) → ltb L.longest (length q) ≡ b → choose b (refused TOO_LONG L.longest) (read_under L q (Head Left) 0 0) ≡ accepted
          → (length q ≤ L.longest) × (read_under L q (Head Left) 0 0 ≡ accepted)
      go true t e = not_refused _ _ e
      go false t e = (ltb-false L.longest (length q) t, e)

  accepted_encoding : (q : List ℕ) → reading_under L q ≡ accepted → (S : Sequent) × WithinUnder L S × (encode_sequent S ≡ q)
  accepted_encoding q e =
      let h = read_rest q (Head Left) 0 0 (omega arith) (not_too_long q e).1 in
      let a = h.counted in
      let l = a.read_off in
      let k = l.done in
      let b = k.counted in
      let r = b.read_off in (
        record { on_left = l.xs; on_right = r.xs },
        record {
          lefts = omega (arith, l.count, a.few);
          rights = omega (arith, r.count, b.few);
          connectives = omega (arith, l.adds, r.adds, r.few);
          letters_left = l.lettered;
          letters_right = r.lettered;
        },
        cc (h.spelt, a.spelt, l.spelt, l.count, k.spelt, b.spelt, r.spelt, r.count, r.done, append-nil (encode_all r.xs)),
      )

  -- the question read is the one that the bytes encode
  pub question_under : (q : List ℕ) → reading_under L q ≡ accepted → WithinUnder L (question q) × (encode_sequent (question q) ≡ q)
  question_under q e =
      let r = accepted_encoding q e in
      let k : question q ≡ r.0 = ap question (sym r.2) ∙ question_encode r.0 in
      (subst (WithinUnder L) (sym k) r.1, ap encode_sequent k ∙ r.2)

  -- accepted exactly if they are not too long and encode a sequent within the limits
  pub exactly_under : (q : List ℕ) → (reading_under L q ≡ accepted) ↔ ((length q ≤ L.longest) × ((S : Sequent) × WithinUnder L S × (encode_sequent S ≡ q)))
  exactly_under q = (λ e. ((not_too_long q e).0, accepted_encoding q e), back)
    where
      back : (length q ≤ L.longest) × ((S : Sequent) × WithinUnder L S × (encode_sequent S ≡ q)) → reading_under L q ≡ accepted
      back (n, (S, w, e)) =
          let m : length (encode_sequent S) ≤ L.longest = omega (arith, ap length e) in
          ap (reading_under L) (sym e) ∙ encoded_accepted S w m

-- ---- as document 01 has it

pub accepted_question : (q : List ℕ) → reading q ≡ accepted → Within (question q) × (encode_sequent (question q) ≡ q)
accepted_question = question_under LIMITS

-- accepted exactly if they encode a sequent within the limits, which is never too long
pub accepted_exactly : (q : List ℕ) → (reading q ≡ accepted) ↔ ((S : Sequent) × Within S × (encode_sequent S ≡ q))
accepted_exactly q = (λ e. ((exactly_under LIMITS q).0 e).1, λ r. (exactly_under LIMITS q).1 (rw (← r.2) (longest r.0 r.1), r))

-- ---- refusals: CUT comes with the length; any other with the place of a byte, and holds whatever follows that byte

pub record Earliest (bs : List ℕ) (e : Expected) (d at n p : ℕ) : Type 0 where
  pub from : at ≤ p
  pub before : p < at + length bs
  pub whatever : (more : List ℕ) → read (bs ++ more) e d at ≡ refused n p

abbrev pub Refusal : List ℕ → Expected → ℕ → ℕ → ℕ → ℕ → Type 0
Refusal bs e d at n p = ((n ≡ CUT) × (p ≡ at + length bs)) ⊎ Earliest bs e d at n p

cut_here : (e : Expected) (d at n p : ℕ) → ended e at ≡ refused n p → Refusal [] e d at n p
cut_here e d at n p h = inl (go e h)
  where
    go : (e : Expected) → ended e at ≡ refused n p → (n ≡ CUT) × (p ≡ at + 0)
    go (Head s) h = (cc, cc (add-zero at))
    go (Count s) h = (cc, cc (add-zero at))
    go (Due s m) h = (cc, cc (add-zero at))
    go (Operand s m) h = (cc, cc (add-zero at))
    go End h = absurd cc

pub refused_place : (bs : List ℕ) (e : Expected) (d at n p : ℕ) → read bs e d at ≡ refused n p → Refusal bs e d at n p
refused_place [] e d at n p h = cut_here e d at n p h
refused_place (b ∷ bs) e d at n p h = go (advance e d b) refl (λ e' d' h'. refused_place bs e' d' (suc at) n p h') h
  where
    go : (o : Onward) → advance e d b ≡ o → ((e' : Expected) (d' : ℕ) → read bs e' d' (suc at) ≡ refused n p → Refusal bs e' d' (suc at) n p)
        → go_on o at (λ e' c'. read bs e' c' (suc at)) ≡ refused n p → Refusal (b ∷ bs) e d at n p
    go (refuse m) a ih h =
        let q : at ≡ p = cc in
        inr (record { from = omega arith; before = omega arith; whatever = λ more. rw a h })
    go (onward e' d') a ih h = ⊎_elim cut later (ih e' d' h)
      where
        cut : (n ≡ CUT) × (p ≡ suc at + length bs) → Refusal (b ∷ bs) e d at n p
        cut r = inl (r.0, omega (arith, r.1))

        later : Earliest bs e' d' (suc at) n p → Refusal (b ∷ bs) e d at n p
        later r = inr (record { from = omega (arith, r.from); before = omega (arith, r.before); whatever = λ more. rw a (r.whatever more) })
