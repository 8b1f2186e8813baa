-- No integers satisfy an atom exactly where its canonical form is False.
use Rattle.std.proofs.Common.{◌≡◌, ◌≢◌, ◌↔◌, ℕ, List, [], ℤ, pos, ◌+ℤ◌, refl, arith, ap, sym, subst, ◌∙◌}
use Rattle.std.specs.Prelude.{Contains, AllPairs}
use Rattle.std.proofs.lemmas.Int.{ints}
use Rattle.lin_model.specs.Facts.{IsGcdOf-divisor}
use Rattle.lin_model.specs.Form.{form_value, divisor}
use Rattle.lin_model.specs.KeyAtom.{PlainKeyAtom}
use Rattle.lin_model.specs.declared.atom.Atom.{Atom}
use Rattle.lin_model.specs.declared.form.FormTerm.{FormTerm}
use Rattle.lin_model.specs.declared.op.Op.{Op}
use Rattle.lin_model.specs.declared.op.Op.TheVariants.{Le, Ge, Eq, Ne}
use Rattle.slicer.specs.Names.{atom_vars, Names}
use Rattle.lin_model.specs.Test.{Passes}
use Rattle.canoniser.specs.declared.atom_form.AtomForm.{AtomForm}
use Rattle.canoniser.specs.declared.atom_form.AtomForm.TheVariants.{True, False, KeyAtom}
use Rattle.canoniser.specs.Forms.{gathered, oriented, divided, canonical_form}
use Rattle.canoniser.specs.Numbering.{first_ones}
use Rattle.canoniser.specs.Solutions.{point_of, IsFalse}
use Rattle.canoniser.proofs.LimitsLemmas.{gcd-positive, nonzero-oriented}
use Rattle.canoniser.proofs.CanonicalLemmas.{IsDivided-canonical}
use Rattle.canoniser.proofs.MeaningLemmas.{HoldsAt, oriented-holds, canonical_form-means, divided-value, times_same}
use Rattle.canoniser.proofs.MeaningLemmas.{true-holds, false-is_false}
use Rattle.canoniser.proofs.NumberingLemmas.{first_ones-distinct, order_in-names}
use Rattle.canoniser.proofs.ReachLemmas.{reaches}

-- some number passes each test
passing : (op : Op) (c : ℤ) → (n : ℤ) × Passes op c n
passing Le c = (c, omega (arith, ints))
passing Ge c = (c, omega (arith, ints))
passing Eq c = (c, refl)
passing Ne c = (c +ℤ pos 1, λ e. absurd (omega (arith, ints, e)))

-- some integers satisfy an atom whose canonical form is a canonical atom
key_atom-satisfied : (order : List ℕ) (atom : Atom) (a : PlainKeyAtom) → AllPairs ◌≢◌ order
    → ((v : ℕ) → Names atom v → Contains order v) → canonical_form order atom ≡ KeyAtom a → ¬ IsFalse atom
key_atom-satisfied order atom a distinct named is false =
    let o = oriented (gathered order atom) in
    let made = IsDivided-canonical order atom a is in
    let g = divisor o.form in
    let gcd = IsGcdOf-divisor o.form in
    let target = passing a.op a.constant in
    let found = reaches order atom g target.0 distinct gcd in
    let point = point_of order found.values in
    let positive = gcd-positive o.form g made.some (nonzero-oriented order atom) gcd in
    let divided_is : form_value (divided g o.form) point ≡ target.0 =
    times_same g (form_value (divided g o.form) point) target.0 positive
    (sym (divided-value g o.form point positive gcd.divides) ∙ found.value) in
    let value : form_value a.form point ≡ target.0 =
    ap (λ (f : List FormTerm). form_value f point) made.quotient.form_is ∙ divided_is in
    let holds : HoldsAt a point = subst (Passes a.op a.constant) (sym value) target.1 in
    false found.values
    ((oriented-holds order atom found.values distinct named).1
    ((canonical_form-means order atom (KeyAtom a) is point).1 holds))

-- no integers satisfy an atom exactly where its canonical form is False
pub is_false-tells : (order : List ℕ) (atom : Atom) → AllPairs ◌≢◌ order
    → ((v : ℕ) → Names atom v → Contains order v) → IsFalse atom ↔ (canonical_form order atom ≡ False)
is_false-tells order atom distinct named =
    (λ false. by_form (canonical_form order atom) refl false, false-is_false order atom distinct named)
  where
    by_form : (form : AtomForm) → canonical_form order atom ≡ form → IsFalse atom → canonical_form order atom ≡ False
    by_form True is false = absurd (false [] (true-holds order atom distinct named is []))
    by_form False is false = is
    by_form (KeyAtom a) is false = absurd (key_atom-satisfied order atom a distinct named is false)

-- the same over the variables of the atom alone, by a form that was made
pub is_false-made : (order : List ℕ) (atom : Atom) (form : AtomForm) → order ≡ first_ones (atom_vars atom)
    → form ≡ canonical_form order atom → IsFalse atom ↔ (form ≡ False)
is_false-made order atom form numbered made =
    let of_atom : (o : List ℕ) → o ≡ first_ones (atom_vars atom) → IsFalse atom ↔ (canonical_form o atom ≡ False) =
    λ o is. is_false-tells o atom (subst (AllPairs ◌≢◌) (sym is) (first_ones-distinct (atom_vars atom)))
    (λ v names. subst (λ (xs : List ℕ). Contains xs v) (sym is) (order_in-names atom v names)) in
    let tells = of_atom order numbered in
    (λ false. made ∙ tells.0 false, λ is. tells.1 (sym made ∙ is))
