-- What follows from the definitions of conditions, forms and keys: for the proofs of the crates above.
use Rattle.std.proofs.Common.{◌≡◌, ℤ, ℕ, zero, suc, ◌%◌, ◌<◌, ◌≤◌, max, List, [], ◌∷◌, get_or, Option, Some, None}
use Rattle.std.proofs.Common.{IfSome, unsigned_abs, refl, arith}
use Rattle.std.specs.Bool.{Decides}
use Rattle.std.specs.Int.{IsGcd, ◌∣◌}
use Rattle.std.specs.Ordering.{int_eq}
use Rattle.std.specs.List.{All}
use Rattle.std.proofs.lemmas.Nat.Gcd.{dvd_antisymm, dvd-zero, dvd_trans, IsGcd-from_zero, IsGcd-from_mod}
use Rattle.std.proofs.lemmas.Bool.Decides.{Decides-int_eq, Decides-not}
use Rattle.std.proofs.lemmas.List.Elements.{All-nil, All-cons, All-head, All-tail, All-weaker}
use Rattle.lin_model.specs.declared.atom.Atom.{Atom}
use Rattle.lin_model.specs.declared.form.FormTerm.{FormTerm}
use Rattle.lin_model.specs.declared.key_atom.TheConstants.{MAX_KEY_VARS}
use Rattle.lin_model.specs.declared.op.Op.{Op}
use Rattle.lin_model.specs.declared.op.Op.TheVariants.{Le, Ge, Eq, Ne}
use Rattle.lin_model.specs.Integers.{Decides-int_le}
use Rattle.lin_model.specs.Terms.{PlainTerm}
use Rattle.lin_model.specs.Test.{passes, Passes}
use Rattle.lin_model.specs.Conditions.{NamesBelow, AtomNamesBelow}
use Rattle.lin_model.specs.Form.{gcd_within, gcd, divisor, IsGcdOf, form_width}
use Rattle.lin_model.specs.KeyAtom.{PlainKeyAtom, IsCanonical}
use Rattle.lin_model.specs.Key.{IsKey, key_width}

-- ---- what names only variables below a number names only variables below a larger one

-- a variable, where there is one
IfSome-larger : (n m : ℕ) → n ≤ m → (o : Option ℕ) → IfSome o (λ v. v < n) → IfSome o (λ v. v < m)
IfSome-larger n m le None below = below
IfSome-larger n m le (Some v) below = omega arith

-- terms
NamesBelow-larger : (n m : ℕ) → n ≤ m → (terms : List PlainTerm) → NamesBelow n terms → NamesBelow m terms
NamesBelow-larger n m le terms below k d within = IfSome-larger n m le (get_or terms k d).var (below k d within)

-- atoms
pub AtomNamesBelow-larger : (n m : ℕ) → n ≤ m → (atom : Atom) → AtomNamesBelow n atom → AtomNamesBelow m atom
AtomNamesBelow-larger n m le atom below = record {
  left = NamesBelow-larger n m le atom.left below.left;
  right =
      NamesBelow-larger n m le atom.right below.right;
}

-- ---- the divisor of a form

-- of no term: every number divides all
pub IsGcdOf-none : IsGcdOf [] 0
IsGcdOf-none = record { divides = λ k d lt. absurd (omega arith); greatest = λ d _. dvd-zero d }

-- of one more term
IsGcdOf-cons : (t : FormTerm) (ts : List FormTerm) (g h : ℕ) → IsGcdOf ts g → IsGcd (unsigned_abs t.coef) g h
    → IsGcdOf (t ∷ ts) h
IsGcdOf-cons t ts g h rest two = record {
  divides =
      All-cons (λ u. h ∣ unsigned_abs u.coef) t ts two.0
      (All-weaker (λ u. g ∣ unsigned_abs u.coef) (λ u. h ∣ unsigned_abs u.coef)
      (λ u. dvd_trans h two.1) ts rest.divides);
  greatest = λ d all.
      two.2 d (All-head (λ u. d ∣ unsigned_abs u.coef) t ts all)
      (rest.greatest d (All-tail (λ u. d ∣ unsigned_abs u.coef) t ts all));
}

-- Euclid's walk with enough steps ends at the greatest common divisor of two numbers
IsGcd-gcd_within : (steps a b : ℕ) → b ≤ steps → IsGcd a b (gcd_within steps a b)
unfolding gcd_within
IsGcd-gcd_within steps a zero few = IsGcd-from_zero a zero refl
IsGcd-gcd_within zero a (suc b) few = absurd (omega arith)
IsGcd-gcd_within (suc steps) a (suc b) few =
    let less : a % suc b < suc b = omega arith in
    IsGcd-from_mod a (suc b) _ (IsGcd-gcd_within steps (suc b) (a % suc b) (omega arith))

-- of two numbers it is the greatest common divisor
pub IsGcd-gcd : (a b : ℕ) → IsGcd a b (gcd a b)
unfolding gcd
IsGcd-gcd a b = IsGcd-gcd_within b a b (omega arith)

-- the divisor of a form is the greatest common divisor of its coefficients
pub IsGcdOf-divisor : (form : List FormTerm) → IsGcdOf form (divisor form)
unfolding divisor
IsGcdOf-divisor [] = IsGcdOf-none
IsGcdOf-divisor (t ∷ ts) =
    IsGcdOf-cons t ts (divisor ts) _ (IsGcdOf-divisor ts) (IsGcd-gcd (unsigned_abs t.coef) (divisor ts))

-- and nothing else is
pub divisor_from_IsGcdOf : (form : List FormTerm) (g : ℕ) → IsGcdOf form g → g ≡ divisor form
divisor_from_IsGcdOf form g is =
    let own = IsGcdOf-divisor form in
    dvd_antisymm (own.greatest g is.divides) (is.greatest (divisor form) own.divides)

-- ---- the tests of canonical atoms

-- a test says what its op means
pub Decides-passes : (op : Op) (c n : ℤ) → Decides (passes op c n) (Passes op c n)
Decides-passes Le c n = Decides-int_le n c
Decides-passes Ge c n = Decides-int_le c n
Decides-passes Eq c n = Decides-int_eq n c
Decides-passes Ne c n = Decides-not (int_eq n c) (Decides-int_eq n c)

-- ---- the width of a key

-- no form is wider than the key
pub key_width-above : (atoms : List PlainKeyAtom) → All (λ a. form_width a.form ≤ key_width atoms) atoms
key_width-above [] = All-nil (λ a. form_width a.form ≤ 0)
key_width-above (a ∷ atoms) = All-cons (λ b. form_width b.form ≤ max (form_width a.form) (key_width atoms)) a atoms
    (omega arith) (All-weaker (λ b. form_width b.form ≤ key_width atoms)
    (λ b. form_width b.form ≤ max (form_width a.form) (key_width atoms)) (λ b h. omega arith) atoms
    (key_width-above atoms))

-- a form of variables of keys is no wider than a key may be
form-narrow : (form : List FormTerm) → All (λ t. t.var < MAX_KEY_VARS) form → form_width form ≤ MAX_KEY_VARS
form-narrow [] h = omega arith
form-narrow (t ∷ ts) h = omega (arith, h 0 t (omega arith), form-narrow ts (λ k d lt. h (suc k) d (omega arith)))

-- nor are canonical atoms
atoms-narrow : (atoms : List PlainKeyAtom) → All IsCanonical atoms → key_width atoms ≤ MAX_KEY_VARS
atoms-narrow [] h = omega arith
atoms-narrow (a ∷ atoms) h = omega (
  arith,
  form-narrow a.form (h 0 a (omega arith)).form.variables.in_range,
  atoms-narrow atoms (λ k d lt. h (suc k) d (omega arith)),
)

-- nor is a key
pub key-narrow : (key : List PlainKeyAtom) → IsKey key → key_width key ≤ MAX_KEY_VARS
key-narrow key h = atoms-narrow key h.canonical
