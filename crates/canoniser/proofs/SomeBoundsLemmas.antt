-- The bounds of a slice's variables: there is a list of them, and each is canonical.
use Rattle.std.proofs.Common.{◌≡◌, ℕ, ◌*◌, ◌<◌, ◌≤◌, zero, suc, List, [], ◌∷◌, ◌++◌, length, get_or, ◌⊎◌, inl, inr}
use Rattle.std.proofs.Common.{refl, sym, subst, arith}
use Rattle.std.specs.List.{All, slice_get}
use Rattle.std.specs.Option.{IsSomeAnd}
use Rattle.std.proofs.lemmas.Int.{ints}
use Rattle.std.proofs.lemmas.List.{length_push}
use Rattle.std.proofs.lemmas.Option.{get_or_from_slice_get}
use Rattle.lin_model.specs.Terms.{VarFits}
use Rattle.lin_model.specs.Conditions.{PlainCondition, IsCondition}
use Rattle.lin_model.specs.declared.op.Op.TheVariants.{Le, Ge}
use Rattle.lin_model.specs.KeyAtom.{PlainKeyAtom, IsCanonical}
use Rattle.lin_model.specs.Lists.{Found-at, Found-from, IsSomeAnd-found}
use Rattle.canoniser.specs.Keys.{IsBound, upper_atom, lower_atom}
use Rattle.canoniser.specs.Strongest.{VarsFit}
use Rattle.canoniser.proofs.BoundLemmas.{AreBounds, AreBounds-none, AreBounds-more, IsCanonical-variable}

-- the bounds of the first n variables of the list
pub record BoundsBelow (c : PlainCondition) (order : List ℕ) (n : ℕ) : Type 0 where
  pub atoms : List PlainKeyAtom
  pub just : AreBounds c order n atoms
  pub two_each : length atoms ≡ 2 * n

pub bounds_below : (c : PlainCondition) (order : List ℕ) → All (λ v. v < length c.vars) order → (n : ℕ)
    → n ≤ length order → BoundsBelow c order n
bounds_below c order declared zero few = record { atoms = []; just = AreBounds-none c order; two_each = refl }
bounds_below c order declared (suc n) few =
    let so_far = bounds_below c order declared n (omega arith) in
    let found = Found-at c.vars (get_or order n 0) (declared n 0 (omega arith)) in
    let upper = upper_atom n found.value in
    let lower = lower_atom n found.value in
    record {
      atoms = (so_far.atoms ++ upper ∷ []) ++ lower ∷ [];
      just = subst (λ (m : ℕ). AreBounds c order m ((so_far.atoms ++ upper ∷ []) ++ lower ∷ [])) (omega arith)
          (AreBounds-more c order n found.value so_far.atoms found.is so_far.just);
      two_each =
          omega (
            arith,
            length_push (so_far.atoms ++ upper ∷ []) lower,
            length_push so_far.atoms upper,
            so_far.two_each,
          );
    }

pub vars_fit : (c : PlainCondition) (order : List ℕ) → IsCondition c → All (λ v. v < length c.vars) order
    → VarsFit c order
vars_fit c order fits declared v lt =
    let place = get_or order v 0 in
    let within = declared v 0 lt in
    let found = Found-at c.vars place within in
    IsSomeAnd-found (slice_get c.vars place) VarFits found.value found.is
    (subst VarFits (get_or_from_slice_get c.vars place found.value found.value found.is)
    (fits.vars place found.value within))

-- a bound is canonical
pub bound_fits : (c : PlainCondition) (order : List ℕ) (a : PlainKeyAtom) → length order ≤ 64 → VarsFit c order
    → IsBound c order a → IsCanonical a
bound_fits c order a few fit bound =
    let v = bound.0 in
    let below : v < 64 = (let lt = bound.1 in omega arith) in
    let place = get_or order v 0 in
    let found = Found-from (slice_get c.vars place) VarFits (fit v bound.1) in
    let var = found.value in
    let limits = found.holds in
    let one : (a ≡ upper_atom v var) ⊎ (a ≡ lower_atom v var) =
    subst (λ o. IsSomeAnd o (λ w. (a ≡ upper_atom v w) ⊎ (a ≡ lower_atom v w))) found.is bound.2 in
    elim one [
      | inl upper ↦ subst IsCanonical (sym upper)
          (IsCanonical-variable v Le var.hi below (omega (arith, ints, limits.low, limits.order, limits.high)))
      | inr lower ↦ subst IsCanonical (sym lower)
          (IsCanonical-variable v Ge var.lo below (omega (arith, ints, limits.low, limits.order, limits.high)))
    ]
