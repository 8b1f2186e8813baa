-- The tests of whole atoms say what they should.
use Rattle.std.proofs.Common.{◌≡◌, ◌≢◌, ℕ, zero, suc, ◌+◌, ◌<◌, pos, Bool, true, false, List, [], ◌∷◌, length, get_or}
use Rattle.std.proofs.Common.{Option, Some, None, Ordering, refl, sym, subst, arith}
use Rattle.std.specs.Prelude.{◌↔◌, IsSome, IfSome, ◌==◌, ◌&&◌, not, nat_lt, nat_le, int_lt, unsigned_abs, MatchOption}
use Rattle.std.specs.declared.cmp.Ordering.TheVariants.{Less, Equal, Greater}
use Rattle.std.specs.Bool.{Decides}
use Rattle.std.specs.List.{All, AllAdjacentBelow, list_all}
use Rattle.std.specs.Option.{option_map_or}
use Rattle.std.specs.Ordering.{int_eq, is_lt}
use Rattle.std.proofs.lemmas.Bool.Decides.{Decides-and, Decides-by_and, Decides-eqb, Decides-int_eq, Decides-like}
use Rattle.std.proofs.lemmas.Bool.Decides.{Decides-ltb, Decides-not}
use Rattle.lin_model.specs.declared.form.FormTerm.{FormTerm}
use Rattle.lin_model.specs.declared.key_atom.TheConstants.{MAX_KEY_VARS, COEF_LIMIT, CONSTANT_LIMIT}
use Rattle.lin_model.specs.AtomOrder.{compare_atoms}
use Rattle.lin_model.specs.Form.{divisor}
use Rattle.lin_model.specs.Integers.{Decides-int_lt}
use Rattle.lin_model.specs.KeyAtom.{PlainKeyAtom, AscendsBelow64, HasSmallCoefficients, BeginsPositive, IsCanonicalForm}
use Rattle.lin_model.specs.KeyAtom.{IsCanonical}
use Rattle.entry_codec.specs.Canonical.{vars_ascend, begins_positive, ascends_below_64, has_small_coefficients}
use Rattle.entry_codec.specs.Canonical.{is_canonical_form, is_canonical}
use Rattle.entry_codec.specs.Atoms.{last_of, ComesBehind, FitsBehind}
use Rattle.entry_codec.specs.AtomReading.{comes_behind, fits_behind}
use Rattle.entry_codec.proofs.FieldLaws.{Decides-at_most}

-- ---- variables

-- the variables ascend strictly
abbrev Ascending : List FormTerm → Type 0
Ascending form = AllAdjacentBelow (λ t u. t.var < u.var) form (length form)

ascending_two : (t u : FormTerm) (ts : List FormTerm) → (t.var < u.var) × Ascending (u ∷ ts) → Ascending (t ∷ u ∷ ts)
ascending_two t u ts h zero d lt = h.0
ascending_two t u ts h (suc k) d lt =
    let next : suc (k + 1) ≡ suc k + 1 = omega arith in
    subst (λ (j : ℕ). (get_or (u ∷ ts) k d).var < (get_or (t ∷ u ∷ ts) j d).var) next (h.1 k d (omega arith))

two_ascend : (t u : FormTerm) (ts : List FormTerm) → Ascending (t ∷ u ∷ ts) → (t.var < u.var) × Ascending (u ∷ ts)
two_ascend t u ts h = (
  h 0 t (omega arith),
  λ k d lt.
      let next : suc k + 1 ≡ suc (k + 1) = omega arith in
      subst (λ (j : ℕ). (get_or (u ∷ ts) k d).var < (get_or (t ∷ u ∷ ts) j d).var) next (h (suc k) d (omega arith)),
)

Decides-vars_ascend : (form : List FormTerm) → Decides (vars_ascend form) (Ascending form)
Decides-vars_ascend [] = (λ so k d lt. absurd (omega arith), λ h. refl)
Decides-vars_ascend (t ∷ []) = (λ so k d lt. absurd (omega arith), λ h. refl)
Decides-vars_ascend (t ∷ u ∷ ts) =
    Decides-like (nat_lt t.var u.var && vars_ascend (u ∷ ts)) (ascending_two t u ts) (two_ascend t u ts)
    (Decides-and (nat_lt t.var u.var) (vars_ascend (u ∷ ts)) (Decides-ltb t.var u.var) (Decides-vars_ascend (u ∷ ts)))

-- a test that each term passes
Decides-list_all : (p : FormTerm → Bool) (P : FormTerm → Type 0) → ((t : FormTerm) → Decides (p t) (P t))
    → (form : List FormTerm) → Decides (list_all p form) (All P form)
Decides-list_all p P each form = Decides-by_and p P (list_all p) each refl (λ t ts. refl) form

Decides-ascends_below_64 : (form : List FormTerm) → Decides (ascends_below_64 form) (AscendsBelow64 form)
Decides-ascends_below_64 form =
    Decides-like (ascends_below_64 form) (λ h. record { ascend = h.0; in_range = h.1 }) (λ h. (h.ascend, h.in_range))
    (Decides-and (vars_ascend form) (list_all (λ t. nat_lt t.var MAX_KEY_VARS) form) (Decides-vars_ascend form)
    (Decides-list_all (λ t. nat_lt t.var MAX_KEY_VARS) (λ t. t.var < MAX_KEY_VARS)
    (λ t. Decides-ltb t.var MAX_KEY_VARS) form))

-- ---- coefficients

Decides-has_small_coefficients : (form : List FormTerm)
    → Decides (has_small_coefficients form) (HasSmallCoefficients form)
Decides-has_small_coefficients form =
    Decides-like (has_small_coefficients form) (λ h. record { not_zero = h.0; small = h.1 }) (λ h. (h.not_zero, h.small))
    (Decides-and (list_all (λ t. not (int_eq t.coef (pos 0))) form)
    (list_all (λ t. nat_lt (unsigned_abs t.coef) COEF_LIMIT) form)
    (Decides-list_all (λ t. not (int_eq t.coef (pos 0))) (λ t. t.coef ≢ pos 0)
    (λ t. Decides-not (int_eq t.coef (pos 0)) (Decides-int_eq t.coef (pos 0))) form)
    (Decides-list_all (λ t. nat_lt (unsigned_abs t.coef) COEF_LIMIT) (λ t. unsigned_abs t.coef < COEF_LIMIT)
    (λ t. Decides-ltb (unsigned_abs t.coef) COEF_LIMIT) form))

Decides-begins_positive : (form : List FormTerm) → Decides (begins_positive form) (BeginsPositive form)
Decides-begins_positive [] = (λ so d lt. absurd (omega arith), λ h. refl)
Decides-begins_positive (t ∷ ts) =
    Decides-like (int_lt (pos 0) t.coef) (λ h d lt. h) (λ h. h t (omega arith)) (Decides-int_lt (pos 0) t.coef)

-- ---- atoms

Decides-is_canonical_form : (form : List FormTerm) → Decides (is_canonical_form form) (IsCanonicalForm form)
unfolding is_canonical_form
Decides-is_canonical_form form =
    Decides-like (is_canonical_form form)
    (λ h. record {
      has_terms = h.0;
      few_terms = h.1.0;
      variables = h.1.1.0;
      coefficients = h.1.1.1.0;
      begins_positive = h.1.1.1.1.0;
      gcd_is_one = h.1.1.1.1.1;
    })
    (λ h. (h.has_terms, (h.few_terms, (h.variables, (h.coefficients, (h.begins_positive, h.gcd_is_one))))))
    (Decides-and (nat_lt 0 (length form)) _ (Decides-ltb 0 (length form))
    (Decides-and (nat_le (length form) MAX_KEY_VARS) _ (Decides-at_most MAX_KEY_VARS (length form))
    (Decides-and (ascends_below_64 form) _ (Decides-ascends_below_64 form)
    (Decides-and (has_small_coefficients form) _ (Decides-has_small_coefficients form)
    (Decides-and (begins_positive form) (divisor form == 1) (Decides-begins_positive form)
    (Decides-eqb (divisor form) 1))))))

pub Decides-is_canonical : (a : PlainKeyAtom) → Decides (is_canonical a) (IsCanonical a)
unfolding is_canonical
Decides-is_canonical a =
    Decides-like (is_canonical a) (λ h. record { form = h.0; constant = h.1 }) (λ h. (h.form, h.constant))
    (Decides-and (is_canonical_form a.form) (nat_lt (unsigned_abs a.constant) CONSTANT_LIMIT)
    (Decides-is_canonical_form a.form) (Decides-ltb (unsigned_abs a.constant) CONSTANT_LIMIT))

-- what the code finds out of an atom, as the test says it
pub canonical_cases : (found : Option PlainKeyAtom) (a : PlainKeyAtom) → (IsSome found ↔ IsCanonical a)
    → IfSome found (λ x. x ≡ a)
    → MatchOption found (is_canonical a ≡ false) (λ x. (x ≡ a) × (is_canonical x ≡ true))
canonical_cases None a some is = by_test (is_canonical a) refl
  where
    by_test : (b : Bool) → is_canonical a ≡ b → is_canonical a ≡ false
    by_test false e = e
    by_test true e = absurd (let none = some.1 ((Decides-is_canonical a).0 e) in cc)
canonical_cases (Some x) a some is =
    (is, (Decides-is_canonical x).1 (subst IsCanonical (sym is) (some.0 (refl))))

-- an order that is below
is_less : (o : Ordering) → Decides (is_lt o) (o ≡ Less)
is_less Less = (λ so. refl, λ h. refl)
is_less Equal = (λ so. absurd (cc), λ h. absurd (cc))
is_less Greater = (λ so. absurd (cc), λ h. absurd (cc))

-- behind the last, where there is one
behind_last : (last : Option PlainKeyAtom) (a : PlainKeyAtom)
    → Decides (option_map_or (λ b. is_lt (compare_atoms b a)) last true)
    (MatchOption last (Unit {0}) (λ b. compare_atoms b a ≡ Less))
behind_last None a = (λ so. tt, λ h. refl)
behind_last (Some b) a = is_less (compare_atoms b a)

pub Decides-comes_behind : (before : List PlainKeyAtom) (a : PlainKeyAtom)
    → Decides (comes_behind before a) (ComesBehind before a)
Decides-comes_behind before a = behind_last (last_of before) a

pub Decides-fits_behind : (before : List PlainKeyAtom) (a : PlainKeyAtom)
    → Decides (fits_behind before a) (FitsBehind before a)
unfolding fits_behind
Decides-fits_behind before a =
    Decides-like (fits_behind before a) (λ h. record { canonical = h.0; ascends = h.1 }) (λ h. (h.canonical, h.ascends))
    (Decides-and (is_canonical a) (comes_behind before a) (Decides-is_canonical a) (Decides-comes_behind before a))
