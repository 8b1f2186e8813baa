-- The tokens of what is written for a canonical atom are those of a tree that means it.
use Rattle.std.proofs.Common.{◌≡◌, ℕ, ◌<◌, ◌≤◌, ◌^◌, Bool, true, false, List, [], ◌∷◌, ◌++◌, length, map, All}
use Rattle.std.proofs.Common.{IsTrue, refl, sym, ap, subst, ◌∙◌, arith, append_assoc, decimal, Some, cond, get_or, ◌*ℤ◌}
use Rattle.std.specs.Prelude.{◌&&◌, ◌==◌, bytes_eq, codes, unsigned_abs}
use Rattle.std.specs.Bool.{Decides}
use Rattle.std.proofs.lemmas.Bool.{false≢true}
use Rattle.std.proofs.lemmas.Slice.Eq.{bytes_eq-Decides}
use Rattle.std.proofs.lemmas.Fmt.{length-decimal-le}
use Rattle.std.proofs.lemmas.List.Elements.{All-cons, All-weaker, All-head, All-tail}
use Rattle.lin_model.specs.Names.{is_name_byte, is_digit, is_reserved}
use Rattle.lin_model.specs.KeyAtom.{PlainKeyAtom, IsCanonical}
use Rattle.lin_model.specs.declared.form.FormTerm.{FormTerm}
use Rattle.lin_model.specs.declared.op.Op.{Op}
use Rattle.lin_model.specs.declared.op.Op.TheVariants.{Le, Ge, Eq, Ne}
use Rattle.lin_text.specs.Pieces.{Piece, compare, line_end, is_claim_word}
use Rattle.lin_text.specs.Spelling.{is_negative, side_text, cmp_text, integer}
use Rattle.lin_text.specs.Grammar.{multiple, single, Side, side_pieces, integer_pieces, signed}
use Rattle.lin_text.specs.KeyAtoms.{key_name, side_term, cmp_of_op, key_atom_text}
use Rattle.lin_text.specs.KeyAtomTexts.{op_of, IsKeyName, AtomTree, IsOnKeyVar, IsFormTerm, AreFormTerms, Means}
use Rattle.lin_text.specs.KeyAtomTexts.{WritesAtom}
use Rattle.lin_text.proofs.ReadBackTokens.{Reads-feed, Reads-blank, Starts}
use Rattle.lin_text.proofs.ReadBackWords.{Stops-blank, IsOwnName}
use Rattle.lin_text.proofs.ReadBackSigns.{Starts-compare, plain_sign}
use Rattle.lin_text.proofs.ReadBackWords.{AreDigits-decimal}
use Rattle.lin_text.proofs.ReadBackSides.{first_item, later_item, shown_side, shown_size-is, Starts-side}
use Rattle.lin_text.proofs.ReadBackSides.{CanSpell, first_factor, later_factor}
use Rattle.lin_text.proofs.ReadBackLines.{shown_integer, shown_integer-is, Reads-integer}

-- `v` and digits make a name

differs : (text w : List ℕ) → (text ≡ w → ⊥) → bytes_eq text w ≡ false
differs text w other = by_test (bytes_eq text w) (bytes_eq-Decides text w)
  where
    by_test : (b : Bool) → Decides b (text ≡ w) → b ≡ false
    by_test true same = absurd (other (same.0 refl))
    by_test false same = refl

-- texts with other first bytes
begins_other : (b : ℕ) (bs w : List ℕ) → (b ≡ get_or w 0 0 → ⊥) → bytes_eq (b ∷ bs) w ≡ false
begins_other b bs w other = differs (b ∷ bs) w (λ e. other (ap (λ (xs : List ℕ). get_or xs 0 0) e))

no_word : (d : ℕ) (ds : List ℕ) → is_digit d ≡ true → is_reserved (118 ∷ d ∷ ds) ≡ false
no_word d ds digit =
    let t : List ℕ = 118 ∷ d ∷ ds in
    let e0 = begins_other 118 (d ∷ ds) (codes "green") (λ e. omega (arith, e)) in
    let e1 = begins_other 118 (d ∷ ds) (codes "executor") (λ e. omega (arith, e)) in
    let e2 = begins_other 118 (d ∷ ds) (codes "query") (λ e. omega (arith, e)) in
    let e3 = differs t (codes "var") (λ e.
    let same : d ≡ 97 = ap (λ (xs : List ℕ). get_or xs 1 0) e in
    false≢true (sym (ap is_digit same) ∙ digit)) in
    let e4 = begins_other 118 (d ∷ ds) (codes "end") (λ e. omega (arith, e)) in
    let e5 = begins_other 118 (d ∷ ds) (codes "import") (λ e. omega (arith, e)) in
    let e6 = begins_other 118 (d ∷ ds) (codes "push") (λ e. omega (arith, e)) in
    let e7 = begins_other 118 (d ∷ ds) (codes "pop") (λ e. omega (arith, e)) in
    let e8 = begins_other 118 (d ∷ ds) (codes "least") (λ e. omega (arith, e)) in
    let e9 = begins_other 118 (d ∷ ds) (codes "greatest") (λ e. omega (arith, e)) in
    let e10 = begins_other 118 (d ∷ ds) (codes "mod") (λ e. omega (arith, e)) in
    rw (e0, e1, e2, e3, e4, e5, e6, e7, e8, e9, e10) refl

no_claim_word : (p : Bool) (ds : List ℕ) → (p && is_claim_word (118 ∷ ds)) ≡ false
no_claim_word false ds = refl
no_claim_word true ds =
    let e0 = begins_other 118 ds (codes "answer") (λ e. omega (arith, e)) in
    let e1 = begins_other 118 ds (codes "core") (λ e. omega (arith, e)) in
    let e2 = begins_other 118 ds (codes "node") (λ e. omega (arith, e)) in
    rw (e0, e1, e2) refl

digit_byte : (b : ℕ) → is_digit b ≡ true → is_name_byte b ≡ true
digit_byte b e = grind (arith, e)

name_of_digits : (p : Bool) (ds : List ℕ) → 0 < length ds → length ds ≤ 20 → All (λ d. IsTrue (is_digit d)) ds
    → IsOwnName p (118 ∷ ds)
name_of_digits p [] some few digits = absurd (omega (arith, some))
name_of_digits p (d ∷ ds) some few digits = record {
  name = record {
    short = omega (arith, few);
    starts = refl;
    goes_on = All-cons (λ b. IsTrue (is_name_byte b)) 118 (d ∷ ds) refl
        (All-weaker (λ b. IsTrue (is_digit b)) (λ b. IsTrue (is_name_byte b)) digit_byte (d ∷ ds) digits);
    free = no_word d ds (All-head (λ b. IsTrue (is_digit b)) d ds digits);
  };
  free = no_claim_word p (d ∷ ds);
}

key_name-own : (p : Bool) (var : ℕ) → var < 64 → IsOwnName p (key_name var)
unfolding key_name
key_name-own p var lt =
    let are = AreDigits-decimal var (omega (arith, lt)) in
    name_of_digits p (decimal var) are.some (length-decimal-le 20 var (omega arith) (omega (arith, lt))
    (omega (arith, lt))) are.digits

key_name-is : (var : ℕ) → var < 64 → IsKeyName (key_name var) var
unfolding key_name
key_name-is var lt =
    let are = AreDigits-decimal var (omega (arith, lt)) in
    record {
      digits = decimal var;
      is = refl;
      form = record { some = omega (arith, are.some); digits = are.digits };
      value = sym are.value;
    }

-- the terms

CanSpell-term : (p : Bool) (t : FormTerm) → t.var < 64 → unsigned_abs t.coef < 2 ^ 40
    → CanSpell p key_name (side_term t)
CanSpell-term p t lt small = record { small = omega (arith, small); named = key_name-own p t.var lt }

CanSpell-terms : (p : Bool) (form : List FormTerm) → All (λ t. t.var < 64) form
    → All (λ t. unsigned_abs t.coef < 2 ^ 40) form → All (CanSpell p key_name) (map side_term form)
CanSpell-terms p [] vars small = λ k d lt. absurd (omega (arith, lt))
CanSpell-terms p (t ∷ form) vars small =
    All-cons (CanSpell p key_name) (side_term t) (map side_term form)
    (CanSpell-term p t (All-head (λ u. u.var < 64) t form vars)
    (All-head (λ u. unsigned_abs u.coef < 2 ^ 40) t form small))
    (CanSpell-terms p form (All-tail (λ u. u.var < 64) t form vars)
    (All-tail (λ u. unsigned_abs u.coef < 2 ^ 40) t form small))

on_var : (size var : ℕ) → var < 64 → (b : Bool) → IsOnKeyVar (cond b (single (key_name var))
    (multiple size (key_name var))) var
on_var size var lt true = key_name-is var lt
on_var size var lt false = key_name-is var lt

IsFormTerm-first : (t : FormTerm) → t.var < 64 → IsFormTerm false (first_item key_name (side_term t)) t
IsFormTerm-first t lt = record {
  coef = first_factor t.coef ∙ ap (λ (n : ℕ). signed false 1 *ℤ signed (is_negative t.coef) n)
      (sym (shown_size-is key_name (unsigned_abs t.coef) (Some t.var)));
  on = on_var (unsigned_abs t.coef) t.var lt (unsigned_abs t.coef == 1);
}

AreFormTerms-later : (form : List FormTerm) → All (λ t. t.var < 64) form
    → AreFormTerms (map (later_item key_name) (map side_term form)) form
AreFormTerms-later [] vars = refl
AreFormTerms-later (t ∷ form) vars = (
  record {
    coef = later_factor t.coef ∙ ap (λ (n : ℕ). signed (is_negative t.coef) 1 *ℤ signed false n)
        (sym (shown_size-is key_name (unsigned_abs t.coef) (Some t.var)));
    on = on_var (unsigned_abs t.coef) t.var (All-head (λ u. u.var < 64) t form vars) (unsigned_abs t.coef == 1);
  },
  AreFormTerms-later form (All-tail (λ u. u.var < 64) t form vars),
)

plain_op : (op : Op) → op_of (plain_sign (cmp_of_op op)) ≡ Some op
plain_op Le = refl
plain_op Ge = refl
plain_op Eq = refl
plain_op Ne = refl

regroup : (l s c i e : List ℕ) → l ++ (s ++ (c ++ (s ++ (i ++ e)))) ≡ ((((l ++ s) ++ c) ++ s) ++ i) ++ e
regroup l s c i e = simp append_assoc

-- an atom with a first term
module _ (p : Bool) (t : FormTerm) (form : List FormTerm) (a : PlainKeyAtom) (is : a.form ≡ t ∷ form)
    (canonical : IsCanonical a) (left : List ℕ) where
  vars : All (λ u. u.var < 64) (t ∷ form)
  vars = subst (λ (f : List FormTerm). All (λ u. u.var < 64) f) is canonical.form.variables.in_range

  small : All (λ u. unsigned_abs u.coef < 2 ^ 40) (t ∷ form)
  small = subst (λ (f : List FormTerm). All (λ u. unsigned_abs u.coef < 2 ^ 40) f) is
      canonical.form.coefficients.small

  abbrev pub side : Side
  side = shown_side key_name (side_term t) (map side_term form)

  abbrev pub tree : AtomTree
  tree = record { side = side; sign = plain_sign (cmp_of_op a.op); integer = shown_integer a.constant }

  means : Means tree a
  means = record {
    form = subst (λ (f : List FormTerm). AreFormTerms (record {
      subtracted = false;
      item = side.first;
    } ∷ side.later) f) (sym is) (
      IsFormTerm-first t (All-head (λ u. u.var < 64) t form vars),
      AreFormTerms-later form (All-tail (λ u. u.var < 64) t form vars),
    );
    op = plain_op a.op;
    value = shown_integer-is a.constant;
    canonical = canonical;
  }

  abbrev pub shown : List Piece
  shown = side_pieces side ++ compare tree.sign ∷ (integer_pieces tree.integer ++ line_end ∷ [])

  pub writes : (ps : List Piece) → ps ≡ shown → WritesAtom ps a (line_end ∷ [])
  writes ps e = record {
    tree = tree;
    written = e ∙ sym (append_assoc (side_pieces side) (compare tree.sign ∷ integer_pieces tree.integer)
        (line_end ∷ []));
    means = means;
  }

  pub starts : Starts p (key_atom_text a ++ 10 ∷ left) left shown
  unfolding key_atom_text
  starts =
      let number = Reads-integer p a.constant (10 ∷ left) left (line_end ∷ [])
      (omega (arith, canonical.constant)) refl (Reads-feed p left) in
      let sign = Starts-compare p (cmp_of_op a.op) (integer a.constant ++ 10 ∷ left) left
      (integer_pieces (shown_integer a.constant) ++ line_end ∷ []) (Reads-blank p _ left _ number) in
      let whole = Starts-side p key_name (side_term t) (map side_term form)
      (32 ∷ (cmp_text (cmp_of_op a.op) ++ (32 ∷ (integer a.constant ++ 10 ∷ left)))) left
      (compare (plain_sign (cmp_of_op a.op)) ∷ (integer_pieces (shown_integer a.constant) ++ line_end ∷ []))
      (CanSpell-terms p (t ∷ form) vars small)
      (Stops-blank (cmp_text (cmp_of_op a.op) ++ (32 ∷ (integer a.constant ++ 10 ∷ left))))
      (Reads-blank p _ left _ sign.reads) in
      subst (λ (text : List ℕ). Starts p text left (side_pieces side ++ compare (plain_sign (cmp_of_op a.op))
      ∷ (integer_pieces (shown_integer a.constant) ++ line_end ∷ [])))
      (ap (λ (f : List FormTerm). side_text key_name (map side_term f)
      ++ (codes " " ++ (cmp_text (cmp_of_op a.op) ++ (codes " " ++ (integer a.constant ++ 10 ∷ left))))) (sym is)
      ∙ regroup (side_text key_name (map side_term a.form)) (codes " ") (cmp_text (cmp_of_op a.op)) (integer a.constant)
      (10 ∷ left))
      whole

-- the text of a canonical atom begins a line, which has the tokens of the atom and ends with a line feed
pub record StartsAtom (p : Bool) (a : PlainKeyAtom) (left : List ℕ) : Type 0 where
  pub shown : List Piece
  pub starts : Starts p (key_atom_text a ++ 10 ∷ left) left shown
  pub writes : (ps : List Piece) → ps ≡ shown → WritesAtom ps a (line_end ∷ [])

pub atom_starts : (p : Bool) (a : PlainKeyAtom) (left : List ℕ) → IsCanonical a → StartsAtom p a left
atom_starts p a left canonical = by_form a.form refl
  where
    by_form : (f : List FormTerm) → a.form ≡ f → StartsAtom p a left
    by_form [] is = absurd (omega (arith, ap length is, canonical.form.has_terms))
    by_form (t ∷ form) is = record {
      shown = shown p t form a is canonical left;
      starts = starts p t form a is canonical left;
      writes = writes p t form a is canonical left;
    }
