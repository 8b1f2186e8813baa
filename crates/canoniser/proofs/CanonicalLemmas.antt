-- A canonical form that is an atom: it is canonical and narrow.
use Rattle.std.proofs.Common.{◌≡◌, ◌≢◌, ℕ, ◌<◌, ◌≤◌, Bool, true, false, List, [], ◌∷◌, length, ℤ, pos, negsuc, neg_ℤ}
use Rattle.std.proofs.Common.{unsigned_abs, refl, arith, ap, sym, subst}
use Rattle.std.specs.Prelude.{if◌then◌else◌}
use Rattle.std.specs.List.{All}
use Rattle.std.proofs.Math.Nat.{div-le_self}
use Rattle.std.proofs.lemmas.Int.{ints}
use Rattle.std.proofs.lemmas.List.Elements.{All-head, All-tail, All-map}
use Rattle.lin_model.specs.Form.{divisor, form_width}
use Rattle.lin_model.specs.Conditions.{AtomFits}
use Rattle.lin_model.specs.Test.{passes}
use Rattle.lin_model.specs.KeyAtom.{PlainKeyAtom, IsCanonical, IsCanonicalForm}
use Rattle.lin_model.specs.declared.atom.Atom.{Atom}
use Rattle.lin_model.specs.declared.form.FormTerm.{FormTerm}
use Rattle.lin_model.specs.declared.op.Op.{Op}
use Rattle.lin_model.specs.declared.op.Op.TheVariants.{Le, Ge, Eq, Ne}
use Rattle.lin_model.specs.Facts.{IsGcdOf-divisor}
use Rattle.lin_model.specs.Quotients.{floor_div, ceil_div}
use Rattle.canoniser.specs.declared.atom_form.AtomForm.{AtomForm}
use Rattle.canoniser.specs.declared.atom_form.AtomForm.TheVariants.{True, False, KeyAtom}
use Rattle.canoniser.specs.Forms.{gathered, oriented, divides, divided, reduced, alone, primitive, canonical_form}
use Rattle.canoniser.proofs.LimitsLemmas.{gcd-positive, narrow-oriented, IsGathered-gathered, IsOriented-oriented}
use Rattle.canoniser.proofs.LimitsLemmas.{IsCanonicalForm-divided}

-- ---- sizes of quotients

floor_div-small : (c : ℤ) (g : ℕ) → unsigned_abs (floor_div c g) ≤ unsigned_abs c
floor_div-small (pos a) g = div-le_self a g
floor_div-small (negsuc a) g = omega (arith, div-le_self a g)

ceil_div-small : (c : ℤ) (g : ℕ) → unsigned_abs (ceil_div c g) ≤ unsigned_abs c
ceil_div-small c g = omega (arith, ints, floor_div-small (neg_ℤ c) g)

-- ---- the parts of the atom

-- the atom of a division: the divided form, the op, and a constant that isn't larger
pub record IsQuotient (form : List FormTerm) (op : Op) (c : ℤ) (g : ℕ) (a : PlainKeyAtom) : Type 0 where
  pub form_is : a.form ≡ divided g form
  pub op_is : a.op ≡ op
  pub size : unsigned_abs a.constant ≤ unsigned_abs c

same-quotient : (form : List FormTerm) (op : Op) (c n : ℤ) (g : ℕ) (a : PlainKeyAtom) → unsigned_abs n ≤ unsigned_abs c
    → KeyAtom (record { form = divided g form; op = op; constant = n }) ≡ KeyAtom a → IsQuotient form op c g a
same-quotient form op c n g a small e =
    let same : a ≡ record { form = divided g form; op = op; constant = n } = cc in record {
      form_is = ap (λ (b : PlainKeyAtom). b.form) same;
      op_is = ap (λ (b : PlainKeyAtom). b.op) same;
      size = omega (arith, ap (λ (b : PlainKeyAtom). unsigned_abs b.constant) same);
    }

equal_by : (test : Bool) (form : List FormTerm) (op : Op) (c : ℤ) (g : ℕ) (a : PlainKeyAtom) (otherwise : AtomForm)
    → otherwise ≢ KeyAtom a
    → (if test then KeyAtom (record { form = divided g form; op = op; constant = floor_div c g }) else otherwise)
    ≡ KeyAtom a
    → IsQuotient form op c g a
equal_by true form op c g a otherwise other e = same-quotient form op c (floor_div c g) g a (floor_div-small c g) e
equal_by false form op c g a otherwise other e = absurd (other e)

IsQuotient-reduced : (form : List FormTerm) (op : Op) (c : ℤ) (g : ℕ) (a : PlainKeyAtom)
    → reduced g form op c ≡ KeyAtom a
    → IsQuotient form op c g a
IsQuotient-reduced form Le c g a e = same-quotient form Le c (floor_div c g) g a (floor_div-small c g) e
IsQuotient-reduced form Ge c g a e = same-quotient form Ge c (ceil_div c g) g a (ceil_div-small c g) e
IsQuotient-reduced form Eq c g a e = equal_by (divides g c) form Eq c g a False (λ e. cc) e
IsQuotient-reduced form Ne c g a e = equal_by (divides g c) form Ne c g a True (λ e. cc) e

-- a canonical form that is an atom has variables
pub record IsDivided (form : List FormTerm) (op : Op) (c : ℤ) (a : PlainKeyAtom) : Type 0 where
  pub some : 0 < length form
  pub quotient : IsQuotient form op c (divisor form) a

alone_by : (test : Bool) (a : PlainKeyAtom) → (if test then True else False) ≢ KeyAtom a
alone_by true a e = cc
alone_by false a e = cc

IsDivided-primitive : (form : List FormTerm) (op : Op) (c : ℤ) (a : PlainKeyAtom) → primitive form op c ≡ KeyAtom a
    → IsDivided form op c a
IsDivided-primitive [] op c a e = absurd (alone_by (passes op c (pos 0)) a e)
IsDivided-primitive (t ∷ ts) op c a e = record {
  some = omega arith;
  quotient = IsQuotient-reduced (t ∷ ts) op c (divisor (t ∷ ts)) a e;
}

pub IsDivided-canonical : (order : List ℕ) (atom : Atom) (a : PlainKeyAtom) → canonical_form order atom ≡ KeyAtom a
    → IsDivided (oriented (gathered order atom)).form (oriented (gathered order atom)).op
    (oriented (gathered order atom)).constant a
unfolding canonical_form
IsDivided-canonical order atom a is =
    let o = oriented (gathered order atom) in
    IsDivided-primitive o.form o.op o.constant a is

-- ---- how a form is reckoned

-- of an atom without variables
pub primitive_is_alone : (form : List FormTerm) (op : Op) (c : ℤ) → length form ≡ 0 → primitive form op c ≡ alone op c
primitive_is_alone [] op c none = refl
primitive_is_alone (t ∷ ts) op c none = absurd (omega arith)

-- of one with variables
pub primitive_is_reduced : (form : List FormTerm) (op : Op) (c : ℤ) → 0 < length form
    → primitive form op c ≡ reduced (divisor form) form op c
primitive_is_reduced [] op c some = absurd (omega arith)
primitive_is_reduced (t ∷ ts) op c some = refl

-- ---- a canonical form that is an atom

-- it is canonical
pub key_atom-canonical : (order : List ℕ) (atom : Atom) (a : PlainKeyAtom) → length order ≤ 64 → AtomFits atom
    → canonical_form order atom ≡ KeyAtom a → IsCanonical a
key_atom-canonical order atom a few fits is =
    let o = oriented (gathered order atom) in
    let limits = IsOriented-oriented (gathered order atom) (IsGathered-gathered order atom few fits) in
    let made = IsDivided-canonical order atom a is in
    let g = divisor o.form in
    let gcd = IsGcdOf-divisor o.form in
    let positive = gcd-positive o.form g made.some limits.gathered.coefficients.not_zero gcd in record {
      form =
          subst IsCanonicalForm (sym made.quotient.form_is) (IsCanonicalForm-divided o g made.some limits gcd positive);
      constant = omega (arith, made.quotient.size, limits.gathered.constant);
    }

-- its variables are below the length of the list
width-within : (form : List FormTerm) (n : ℕ) → All (λ t. t.var < n) form → form_width form ≤ n
width-within [] n all = omega arith
width-within (t ∷ ts) n all =
    omega (arith, All-head (λ u. u.var < n) t ts all, width-within ts n (All-tail (λ u. u.var < n) t ts all))

pub key_atom-narrow : (order : List ℕ) (atom : Atom) (a : PlainKeyAtom) → canonical_form order atom ≡ KeyAtom a
    → form_width a.form ≤ length order
key_atom-narrow order atom a is =
    let o = oriented (gathered order atom) in
    let made = IsDivided-canonical order atom a is in
    let g = divisor o.form in
    let narrow : All (λ t. t.var < length order) (divided g o.form) =
    All-map (λ t. t.var < length order) (λ t. record { var = t.var; coef = floor_div t.coef g }) o.form
    (narrow-oriented order atom) in
    omega (arith, ap form_width made.quotient.form_is, width-within (divided g o.form) (length order) narrow)
