-- The bounds of variables as canonical atoms.
use Rattle.std.proofs.Common.{◌≡◌, ◌≢◌, ◌↔◌, ◌⊎◌, ℕ, ◌+◌, ◌^◌, ◌<◌, ◌≤◌, ℤ, pos, List, [], ◌∷◌, ◌++◌, Option, Some}
use Rattle.std.proofs.Common.{refl, sym, subst, inl, inr, arith, lit<}
use Rattle.std.specs.Prelude.{unsigned_abs, slice_index}
use Rattle.std.specs.List.{All, Contains, slice_get}
use Rattle.std.specs.Option.{IsSomeAnd}
use Rattle.std.proofs.lemmas.Int.{ints}
use Rattle.std.proofs.lemmas.Bool.Decides.{eqb_tells}
use Rattle.std.proofs.lemmas.List.Elements.{All-nil, All-cons, Contains-append_left, Contains-push, Contains-push_cases}
use borrow.Author.Count.{below_more}
use Rattle.lin_model.specs.declared.form.FormTerm.{FormTerm}
use Rattle.lin_model.specs.declared.op.Op.{Op}
use Rattle.lin_model.specs.Terms.{PlainVar, VarFits}
use Rattle.lin_model.specs.Conditions.{PlainCondition}
use Rattle.lin_model.specs.Form.{gcd_within, gcd, divisor}
use Rattle.lin_model.specs.KeyAtom.{PlainKeyAtom, IsCanonical, IsCanonicalForm}
use Rattle.lin_model.specs.Bounded.{variable}
use Rattle.canoniser.specs.Keys.{upper_atom, lower_atom, BoundsAt}

-- what holds of the one term holds of all
all_one : (P : FormTerm → Type 0) (v : ℕ) → P (record { var = v; coef = pos 1 }) → All P (variable v)
all_one P v here = All-cons P (record { var = v; coef = pos 1 }) [] here (All-nil P)

-- 1 is the divisor of the coefficient 1
divisor-variable : (v : ℕ) → divisor (variable v) ≡ 1
unfolding divisor gcd gcd_within
divisor-variable v = refl

IsCanonicalForm-variable : (v : ℕ) → v < 64 → IsCanonicalForm (variable v)
IsCanonicalForm-variable v below = record {
  has_terms = omega arith;
  few_terms = omega arith;
  variables = record { ascend = λ k d lt. absurd (omega arith); in_range = all_one (λ t. t.var < 64) v below };
  coefficients = record {
    not_zero = all_one (λ t. t.coef ≢ pos 0) v (λ e. absurd (cc));
    small =
        all_one (λ t. unsigned_abs t.coef < 2 ^ 40) v (lit< tt);
  };
  begins_positive = λ d lt. omega (arith, ints);
  gcd_is_one = divisor-variable v;
}

pub IsCanonical-variable : (v : ℕ) (op : Op) (constant : ℤ) → v < 64 → unsigned_abs constant ≤ 2 ^ 31
    → IsCanonical (record { form = variable v; op = op; constant = constant })
IsCanonical-variable v op constant below small = record {
  form = IsCanonicalForm-variable v below;
  constant =
      omega arith;
}

-- a bound of one of the first n variables of the list
abbrev pub IsBoundBelow : PlainCondition → List ℕ → ℕ → PlainKeyAtom → Type 0
IsBoundBelow c order n a = (v : ℕ) × (v < n) × BoundsAt c order a v

-- the atoms are just those
abbrev pub AreBounds : PlainCondition → List ℕ → ℕ → List PlainKeyAtom → Type 0
AreBounds c order n atoms = (a : PlainKeyAtom) → Contains atoms a ↔ IsBoundBelow c order n a

pub AreBounds-none : (c : PlainCondition) (order : List ℕ) → AreBounds c order 0 []
AreBounds-none c order a = (λ has. absurd (omega (arith, has.1)), λ bound. absurd (omega (arith, bound.1)))

-- what the bounds at a place are, where the variable there is this one
bounds_of_var : (c : PlainCondition) (order : List ℕ) (n : ℕ) (var : PlainVar) (a : PlainKeyAtom)
    → slice_get c.vars (slice_index order n) ≡ Some var
    → BoundsAt c order a n ↔ ((a ≡ upper_atom n var) ⊎ (a ≡ lower_atom n var))
bounds_of_var c order n var a is = (
  λ bound. subst (λ (o : Option PlainVar). IsSomeAnd o (λ w. (a ≡ upper_atom n w) ⊎ (a ≡ lower_atom n w))) is bound,
  λ one. subst (λ (o : Option PlainVar). IsSomeAnd o (λ w. (a ≡ upper_atom n w) ⊎ (a ≡ lower_atom n w))) (sym is) one,
)

-- the two bounds of the next variable
pub AreBounds-more : (c : PlainCondition) (order : List ℕ) (n : ℕ) (var : PlainVar) (atoms : List PlainKeyAtom)
    → slice_get c.vars (slice_index order n) ≡ Some var → AreBounds c order n atoms
    → AreBounds c order (n + 1) ((atoms ++ upper_atom n var ∷ []) ++ lower_atom n var ∷ [])
AreBounds-more c order n var atoms is so_far a =
    let here = bounds_of_var c order n var a is in
    let upper = upper_atom n var in
    let lower = lower_atom n var in (
      λ has. elim (Contains-push_cases (atoms ++ upper ∷ []) lower a has) [
        | inl earlier ↦ elim (Contains-push_cases atoms upper a earlier) [
          | inl before ↦ (let bound = (so_far a).0 before in (bound.0, (let lt = bound.1 in omega arith), bound.2))
          | inr is_upper ↦ (n, omega arith, here.1 (inl (sym is_upper)))
        ]
        | inr is_lower ↦ (n, omega arith, here.1 (inr (sym is_lower)))
      ],
      λ bound. elim (eqb_tells bound.0 n) [
        | inl same ↦ elim (here.0 (subst (BoundsAt c order a) same.1 bound.2)) [
          | inl is_upper ↦ Contains-append_left (atoms ++ upper ∷ []) (lower ∷ []) a
              (subst (Contains (atoms ++ upper ∷ [])) (sym is_upper) (Contains-push atoms upper))
          | inr is_lower ↦ subst (Contains ((atoms ++ upper ∷ []) ++ lower ∷ [])) (sym is_lower)
              (Contains-push (atoms ++ upper ∷ []) lower)
        ]
        | inr other ↦ (
            let ne = other.1 in
            let lt = bound.1 in
            Contains-append_left (atoms ++ upper ∷ []) (lower ∷ []) a
            (Contains-append_left atoms (upper ∷ []) a ((so_far a).1 (bound.0, omega arith, bound.2)))
            )
      ],
    )

-- the first n variables of the list are within their limits
abbrev pub FitBelow : PlainCondition → List ℕ → ℕ → Type 0
FitBelow c order n = (v : ℕ) → v < n → IsSomeAnd (slice_get c.vars (slice_index order v)) VarFits

pub FitBelow-more : (c : PlainCondition) (order : List ℕ) (n : ℕ) (var : PlainVar)
    → slice_get c.vars (slice_index order n) ≡ Some var → FitBelow c order n → VarFits var → FitBelow c order (n + 1)
FitBelow-more c order n var is so_far fits v lt =
    below_more (λ (k : ℕ). IsSomeAnd (slice_get c.vars (slice_index order k)) VarFits) n so_far
    (subst (λ (o : Option PlainVar). IsSomeAnd o VarFits) (sym is) fits) v lt
