-- Keys and points may stand in a body.
use Rattle.std.proofs.Common.{◌≡◌, ℕ, zero, suc, ◌-◌, ◌+◌, ◌^◌, ◌<◌, ◌≤◌, ℤ, List, length, take, get_or, slice_get}
use Rattle.std.proofs.Common.{Option, Some, refl, sym, ap, subst, ◌∙◌, arith}
use Rattle.std.specs.Prelude.{unsigned_abs, MatchOption, FitsSigned}
use Rattle.std.specs.Int.{w64}
use Rattle.std.specs.List.{All}
use Rattle.std.specs.declared.cmp.Ordering.TheVariants.{Less}
use Rattle.std.proofs.lemmas.Int.{fits_signed_from_abs}
use Rattle.std.proofs.lemmas.List.{get_or-take, length-take}
use Rattle.std.proofs.lemmas.List.Elements.{All-get_or}
use Rattle.std.proofs.lemmas.Option.{slice_get-get_or}
use Rattle.lin_model.specs.declared.form.FormTerm.{FormTerm}
use Rattle.lin_model.specs.declared.point.TheConstants.{MAX_VALUE}
use Rattle.lin_model.specs.AtomOrder.{compare_atoms}
use Rattle.lin_model.specs.Key.{Ascends, IsKey}
use Rattle.lin_model.specs.KeyAtom.{PlainKeyAtom, IsCanonicalForm, IsCanonical}
use Rattle.entry_codec.specs.Grammar.{Grammar, MayFollow, counted}
use Rattle.entry_codec.specs.Numbers.{small, short, integer}
use Rattle.entry_codec.specs.Fields.{op, atom_count, term_count, term_var, coefficient, constant, value_count, value}
use Rattle.entry_codec.specs.Atoms.{last_of, ComesBehind, term, form_and_constant, atom_parts, atom, key, point}

-- a number of a size below 2^63 fits eight bytes
pub fits_eight : (n : ℤ) → unsigned_abs n < 2 ^ 63 → FitsSigned w64 n
fits_eight n lt = fits_signed_from_abs w64 n lt

-- items that may stand anywhere follow one another
pub MayFollow-alike : {A : Type 0} (part : Grammar A) (values : List A) → All part.may values
    → MayFollow (λ before. part) values
MayFollow-alike {A} part values all k d lt = All-get_or part.may values k d lt all

-- ---- atoms

term_may : (form : List FormTerm) → IsCanonicalForm form → All term.may form
unfolding term term_var coefficient small integer
term_may form h k d lt =
    let var = h.variables.in_range k d lt in
    let coef = h.coefficients.small k d lt in
    (omega (arith, var), fits_eight (get_or form k d).coef (omega (arith, coef)))

terms_may : (form : List FormTerm) → IsCanonicalForm form → (counted term_count (λ before. term)).may form
unfolding term_count small
terms_may form h =
    ((omega (arith, h.few_terms), (h.has_terms, h.few_terms)), (refl, MayFollow-alike term form (term_may form h)))

atom_parts_may : (a : PlainKeyAtom) → IsCanonical a → atom_parts.may a
unfolding atom_parts form_and_constant op constant integer
atom_parts_may a h = (tt, (terms_may a.form h.form, fits_eight a.constant (omega (arith, h.constant))))

-- each atom of a key comes behind those before it
comes_behind : (atoms : List PlainKeyAtom) (k : ℕ) (d : PlainKeyAtom) → Ascends atoms → k < length atoms
    → ComesBehind (take k atoms) (get_or atoms k d)
comes_behind atoms zero d ascends lt = tt
comes_behind atoms (suc j) d ascends lt =
    let before : List PlainKeyAtom = take (suc j) atoms in
    let len : length before ≡ suc j = omega (arith, length-take (suc j) atoms) in
    let at : length before - 1 ≡ j = omega (arith, len) in
    let here : get_or before j d ≡ get_or atoms j d = get_or-take (suc j) atoms j d (omega arith) in
    let last : last_of before ≡ Some (get_or atoms j d) =
    ap (λ (i : ℕ). slice_get before i) at ∙ slice_get-get_or before j d (omega (arith, len)) ∙ ap Some here in
    let next : j + 1 ≡ suc j = omega arith in
    let less : compare_atoms (get_or atoms j d) (get_or atoms (suc j) d) ≡ Less =
    subst (λ (i : ℕ). compare_atoms (get_or atoms j d) (get_or atoms i d) ≡ Less) next
    (ascends j d (omega arith)) in
    subst
    (λ (o : Option PlainKeyAtom). MatchOption o (Unit {0})
    (λ (b : PlainKeyAtom). compare_atoms b (get_or atoms (suc j) d) ≡ Less))
    (sym last) less

-- ---- keys

pub key_may : (atoms : List PlainKeyAtom) → IsKey atoms → key.may atoms
unfolding key atom_count short atom
key_may atoms h = (
  (omega (arith, h.fits.few), h.fits.few),
  (
    refl,
    λ k d lt.
        let canonical = All-get_or IsCanonical atoms k d lt h.canonical in (
          atom_parts_may (get_or atoms k d) canonical,
          record { canonical = canonical; ascends = comes_behind atoms k d h.fits.ascends lt },
        ),
  ),
)

-- ---- points

value_may : (n : ℤ) → unsigned_abs n ≤ MAX_VALUE → value.may n
unfolding value integer
value_may n le = (fits_eight n (omega (arith, le)), le)

pub point_may : (width : ℕ) (values : List ℤ) → width ≤ 64 → length values ≡ width
    → All (λ n. unsigned_abs n ≤ MAX_VALUE) values → (point width).may values
unfolding point value_count small
point_may width values narrow each small_values = (
  (omega (arith, each), each),
  (refl, MayFollow-alike value values (λ k d lt. value_may (get_or values k d) (small_values k d lt))),
)
