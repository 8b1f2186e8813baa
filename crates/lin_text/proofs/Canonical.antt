-- Whether an atom is canonical can be told.
use Rattle.std.proofs.Common.{◌≡◌, ◌≢◌, ℕ, ◌+◌, ◌<◌, ◌^◌, suc, zero, Bool, true, false, List, [], ◌∷◌, length, get_or}
use Rattle.std.proofs.Common.{All, refl, sym, subst, arith, inl, inr, ◌⊎◌, pos, nat_lt}
use Rattle.std.specs.Prelude.{unsigned_abs}
use Rattle.std.specs.Bool.{Decides}
use Rattle.std.proofs.lemmas.Bool.{false≢true}
use Rattle.std.proofs.lemmas.Bool.Decides.{Decides-eqb, Decides-ltb, Decides-int_eq}
use Rattle.std.proofs.lemmas.List.Elements.{All-head, All-tail, All-cons, All-nil}
use Rattle.lin_model.specs.Form.{divisor}
use Rattle.lin_model.specs.Integers.{Decides-int_lt}
use Rattle.lin_model.specs.KeyAtom.{PlainKeyAtom, BeginsPositive, IsCanonicalForm, IsCanonical}
use Rattle.lin_model.specs.declared.form.FormTerm.{FormTerm}

-- it holds or it doesn't
abbrev pub Told : Type 0 → Type 0
Told A = A ⊎ (A → ⊥)

by_test : {A : Type 0} (b : Bool) → Decides b A → Told A
by_test true d = inl (d.0 refl)
by_test false d = inr (λ a. false≢true (d.1 a))

both : {A B : Type 0} → Told A → Told B → Told (A × B)
both (inl a) (inl b) = inl (a, b)
both (inl a) (inr none) = inr (λ h. none h.1)
both (inr none) b = inr (λ h. none h.0)

as_well : {A B : Type 0} → (A → B) → (B → A) → Told A → Told B
as_well to from (inl a) = inl (to a)
as_well to from (inr none) = inr (λ b. none (from b))

other : {A : Type 0} → Told A → Told (A → ⊥)
other (inl a) = inr (λ none. none a)
other (inr none) = inl none

all_told : {X : Type 0} (P : X → Type 0) → ((x : X) → Told (P x)) → (xs : List X) → Told (All P xs)
all_told P each [] = inl (All-nil P)
all_told P each (x ∷ xs) =
    as_well (λ h. All-cons P x xs h.0 h.1) (λ h. (All-head P x xs h, All-tail P x xs h))
    (both (each x) (all_told P each xs))

less : (m n : ℕ) → Told (m < n)
less m n = by_test (nat_lt m n) (Decides-ltb m n)

-- the variables ascend

abbrev Ascends : List FormTerm → Type 0
Ascends form = (k : ℕ) (d : FormTerm) → k + 1 < length form → (get_or form k d).var < (get_or form (k + 1) d).var

ascends-more : (t u : FormTerm) (form : List FormTerm) → t.var < u.var → Ascends (u ∷ form) → Ascends (t ∷ u ∷ form)
ascends-more t u form lt rest zero d less_k = lt
ascends-more t u form lt rest (suc k) d less_k =
    let next : suc k + 1 ≡ suc (k + 1) = omega arith in
    subst (λ (n : ℕ). (get_or (u ∷ form) k d).var < (get_or (t ∷ u ∷ form) n d).var) (sym next)
    (rest k d (omega (arith, less_k)))

ascends-rest : (t u : FormTerm) (form : List FormTerm) → Ascends (t ∷ u ∷ form) → Ascends (u ∷ form)
ascends-rest t u form all k d less_k =
    let next : suc k + 1 ≡ suc (k + 1) = omega arith in
    subst (λ (n : ℕ). (get_or (u ∷ form) k d).var < (get_or (t ∷ u ∷ form) n d).var) next
    (all (suc k) d (omega (arith, less_k)))

ascends_told : (form : List FormTerm) → Told (Ascends form)
ascends_told [] = inl (λ k d lt. absurd (omega (arith, lt)))
ascends_told (t ∷ []) = inl (λ k d lt. absurd (omega (arith, lt)))
ascends_told (t ∷ u ∷ form) =
    as_well (λ h. ascends-more t u form h.0 h.1) (λ h. (h 0 t (omega arith), ascends-rest t u form h))
    (both (less t.var u.var) (ascends_told (u ∷ form)))

positive_told : (form : List FormTerm) → Told (BeginsPositive form)
positive_told [] = inl (λ d lt. absurd (omega (arith, lt)))
positive_told (t ∷ form) =
    as_well (λ h d lt. h) (λ h. h t (omega arith)) (by_test _ (Decides-int_lt (pos 0) t.coef))

-- the conditions, one by one
form_told : (form : List FormTerm) → Told (IsCanonicalForm form)
form_told form =
    as_well
    (λ h. record {
      has_terms = h.0;
      few_terms = omega (arith, h.1.0);
      variables = record { ascend = h.1.1.0; in_range = h.1.1.1.0 };
      coefficients = record { not_zero = h.1.1.1.1.0; small = h.1.1.1.1.1.0 };
      begins_positive = h.1.1.1.1.1.1.0;
      gcd_is_one = h.1.1.1.1.1.1.1;
    })
    (λ f. (
      f.has_terms,
      (
        omega (arith, f.few_terms),
        (
          f.variables.ascend,
          (
            f.variables.in_range,
            (f.coefficients.not_zero, (f.coefficients.small, (f.begins_positive, f.gcd_is_one))),
          ),
        ),
      ),
    ))
    (both (less 0 (length form)) (both (less (length form) 65) (both (ascends_told form)
    (both (all_told (λ t. t.var < 64) (λ t. less t.var 64) form)
    (both (all_told (λ t. t.coef ≢ pos 0) (λ t. other (by_test _ (Decides-int_eq t.coef (pos 0)))) form)
    (both (all_told (λ t. unsigned_abs t.coef < 2 ^ 40) (λ t. less (unsigned_abs t.coef) (2 ^ 40)) form)
    (both (positive_told form) (by_test _ (Decides-eqb (divisor form) 1)))))))))

pub canonical_told : (a : PlainKeyAtom) → Told (IsCanonical a)
canonical_told a =
    as_well (λ h. record { form = h.0; constant = h.1 }) (λ c. (c.form, c.constant))
    (both (form_told a.form) (less (unsigned_abs a.constant) (2 ^ 50)))
