-- A slice keeps its key where both sides of its atoms are multiplied by positive numbers.
use Rattle.std.proofs.Common.{◌≡◌, ◌≢◌, ℕ, zero, suc, ◌<◌, ◌↔◌, ◌⊎◌, inl, inr, List, [], ◌∷◌, ◌++◌, length, get_or}
use Rattle.std.proofs.Common.{Option, Some, None, refl, arith, ap, sym, subst, ◌∙◌}
use Rattle.std.specs.Prelude.{All, Any, IsSomeAnd, slice_index}
use Rattle.std.specs.List.{AllZip, filter_map, flat_map, slice_get, cons_option}
use Rattle.std.proofs.lemmas.List.{get_or_default}
use Rattle.std.proofs.lemmas.List.Elements.{AllZip-get_or, length_all_zip}
use Rattle.lin_model.specs.Terms.{PlainVar}
use Rattle.lin_model.specs.Conditions.{PlainCondition}
use Rattle.lin_model.specs.KeyAtom.{PlainKeyAtom}
use Rattle.lin_model.specs.declared.atom.Atom.{Atom}
use Rattle.slicer.specs.Names.{atom_vars}
use Rattle.slicer.specs.Slices.{PlainSlice}
use Rattle.canoniser.specs.Numbering.{first_ones, atoms_of, order_of}
use Rattle.canoniser.specs.declared.atom_form.AtomForm.TheVariants.{False, KeyAtom}
use Rattle.canoniser.specs.Forms.{canonical_form}
use Rattle.canoniser.specs.Keys.{IsKeyOf, IsGiven, IsStrongest, upper_atom, lower_atom}
use Rattle.canoniser.specs.Factors.{IsMultiple, IsScaled}
use Rattle.canoniser.proofs.ScalingLemmas.{atom_vars-times}
use Rattle.canoniser.proofs.ScaledForms.{canonical_form-times}

-- ---- the atoms of a slice

-- both are there and related, or neither is
abbrev Both : Option Atom → Option Atom → Type 0
Both None None = Unit {0}
Both None (Some b) = ⊥
Both (Some a) None = ⊥
Both (Some a) (Some b) = IsMultiple a b

both_at : (xs ys : List Atom) → AllZip IsMultiple xs ys → (j : ℕ) → Both (slice_get xs j) (slice_get ys j)
both_at [] [] pairs j = tt
both_at [] (y ∷ ys) pairs j = absurd pairs
both_at (x ∷ xs) [] pairs j = absurd pairs
both_at (x ∷ xs) (y ∷ ys) pairs zero = pairs.0
both_at (x ∷ xs) (y ∷ ys) pairs (suc j) = both_at xs ys pairs.1 j

one_more : (o p : Option Atom) (xs ys : List Atom) → Both o p → AllZip IsMultiple xs ys
    → AllZip IsMultiple (cons_option o xs) (cons_option p ys)
one_more None None xs ys both pairs = pairs
one_more None (Some b) xs ys both pairs = absurd both
one_more (Some a) None xs ys both pairs = absurd both
one_more (Some a) (Some b) xs ys both pairs = (both, pairs)

picked : (xs ys : List Atom) → AllZip IsMultiple xs ys → (numbers : List ℕ)
    → AllZip IsMultiple (filter_map (λ j. slice_get xs j) numbers) (filter_map (λ j. slice_get ys j) numbers)
picked xs ys pairs [] = tt
picked xs ys pairs (j ∷ numbers) =
    one_more (slice_get xs j) (slice_get ys j) (filter_map (λ j. slice_get xs j) numbers)
    (filter_map (λ j. slice_get ys j) numbers) (both_at xs ys pairs j) (picked xs ys pairs numbers)

-- they name the same variables
same_vars : (xs ys : List Atom) → AllZip IsMultiple xs ys → flat_map atom_vars ys ≡ flat_map atom_vars xs
same_vars [] [] pairs = refl
same_vars [] (y ∷ ys) pairs = absurd pairs
same_vars (x ∷ xs) [] pairs = absurd pairs
same_vars (x ∷ xs) (y ∷ ys) pairs =
    let first : atom_vars y ≡ atom_vars x = ap atom_vars pairs.0.product ∙ atom_vars-times pairs.0.factor x in
    ap (λ (vs : List ℕ). vs ++ flat_map atom_vars ys) first
    ∙ ap (λ (vs : List ℕ). atom_vars x ++ vs) (same_vars xs ys pairs.1)

same_order : (c d : PlainCondition) (s : PlainSlice) → AllZip IsMultiple (atoms_of c s) (atoms_of d s)
    → order_of d s ≡ order_of c s
same_order c d s pairs = ap (λ (vs : List ℕ). first_ones (vs ++ s.vars)) (same_vars (atoms_of c s) (atoms_of d s) pairs)

-- and have the same canonical forms
same_form : (order : List ℕ) (a b : Atom) → IsMultiple a b → canonical_form order b ≡ canonical_form order a
same_form order a b is = ap (canonical_form order) is.product ∙ canonical_form-times order is.factor a is.positive

-- ---- what holds of some or of all

all_across : (P Q : Atom → Type 0) (xs ys : List Atom) → ((a b : Atom) → IsMultiple a b → P a ↔ Q b)
    → AllZip IsMultiple xs ys → All P xs ↔ All Q ys
all_across P Q xs ys across pairs =
    let same = length_all_zip IsMultiple xs ys pairs in (
      λ all k d within. let lt : k < length xs =
          omega arith in (across (get_or xs k d) (get_or ys k d) (AllZip-get_or IsMultiple xs ys k d d pairs lt)).0
          (all k d lt),
      λ all k d within. let lt : k < length ys =
          omega arith in (across (get_or xs k d) (get_or ys k d) (AllZip-get_or IsMultiple xs ys k d d pairs within)).1
          (all k d lt),
    )

any_across : (P Q : Atom → Type 0) (xs ys : List Atom) → ((a b : Atom) → IsMultiple a b → P a ↔ Q b)
    → AllZip IsMultiple xs ys → Any P xs ↔ Any Q ys
any_across P Q xs ys across pairs =
    let same = length_all_zip IsMultiple xs ys pairs in (
      λ (k, x, within, is, here).
          let lt : k < length ys = omega arith in
          let pair = AllZip-get_or IsMultiple xs ys k x x pairs within in (
            k,
            get_or ys k x,
            lt,
            sym (get_or_default ys k x (get_or ys k x) lt),
            (across (get_or xs k x) (get_or ys k x) pair).0 (subst P (sym is) here),
          ),
      λ (k, y, within, is, here).
          let lt : k < length xs = omega arith in
          let pair = AllZip-get_or IsMultiple xs ys k y y pairs lt in (
            k,
            get_or xs k y,
            lt,
            sym (get_or_default xs k y (get_or xs k y) lt),
            (across (get_or xs k y) (get_or ys k y) pair).1 (subst Q (sym is) here),
          ),
    )

-- ---- keys

-- what is given by atoms, in an order of variables with bounds
abbrev GivenBy : List PlainVar → List ℕ → List Atom → PlainKeyAtom → Type 0
GivenBy vars order atoms a =
    Any (λ atom. canonical_form order atom ≡ KeyAtom a) atoms
    ⊎ ((v : ℕ) × (v < length order) × IsSomeAnd (slice_get vars (slice_index order v))
    (λ var. (a ≡ upper_atom v var) ⊎ (a ≡ lower_atom v var)))

given_same : (c d : PlainCondition) (s : PlainSlice) (a : PlainKeyAtom) → IsScaled c d
    → AllZip IsMultiple (atoms_of c s) (atoms_of d s) → IsGiven c s a ↔ IsGiven d s a
given_same c d s a scaled pairs =
    let order = order_of c s in
    let same = same_order c d s pairs in
    let P : Atom → Type 0 = λ atom. canonical_form order atom ≡ KeyAtom a in
    let across : (x y : Atom) → IsMultiple x y → P x ↔ P y =
    λ x y multiple. (λ is. same_form order x y multiple ∙ is, λ is. sym (same_form order x y multiple) ∙ is) in
    let some = any_across P P (atoms_of c s) (atoms_of d s) across pairs in
    let there : GivenBy c.vars order (atoms_of c s) a → GivenBy c.vars order (atoms_of d s) a =
    λ given. elim given [ inl by_atom ↦ inl (some.0 by_atom) | inr bound ↦ inr bound ] in
    let back : GivenBy c.vars order (atoms_of d s) a → GivenBy c.vars order (atoms_of c s) a =
    λ given. elim given [ inl by_atom ↦ inl (some.1 by_atom) | inr bound ↦ inr bound ] in (
      λ given. subst (λ o. GivenBy d.vars o (atoms_of d s) a) (sym same)
          (subst (λ vars. GivenBy vars order (atoms_of d s) a) (sym scaled.vars) (there given)),
      λ given. back (subst (λ vars. GivenBy vars order (atoms_of d s) a) scaled.vars
          (subst (λ o. GivenBy d.vars o (atoms_of d s) a) same given)),
    )

strongest_same : (G H : PlainKeyAtom → Type 0) (a : PlainKeyAtom) → ((b : PlainKeyAtom) → G b ↔ H b)
    → IsStrongest G a ↔ IsStrongest H a
strongest_same G H a same = (
  λ is. record { one = (same a).0 is.one; alone = λ b given implies. is.alone b ((same b).1 given) implies },
  λ is. record { one = (same a).1 is.one; alone = λ b given implies. is.alone b ((same b).0 given) implies },
)

pub IsKeyOf-scaled : (c d : PlainCondition) (s : PlainSlice) (key : List PlainKeyAtom) → IsScaled c d
    → IsKeyOf c s key ↔ IsKeyOf d s key
IsKeyOf-scaled c d s key scaled =
    let pairs = picked c.atoms d.atoms scaled.atoms s.atoms in
    let order = order_of c s in
    let same = same_order c d s pairs in
    let P : Atom → Type 0 = λ atom. canonical_form order atom ≢ False in
    let across : (x y : Atom) → IsMultiple x y → P x ↔ P y =
    λ x y multiple. (
      λ not is. not (sym (same_form order x y multiple) ∙ is),
      λ not is. not (same_form order x y multiple ∙ is),
    ) in
    let none = all_across P P (atoms_of c s) (atoms_of d s) across pairs in
    let strongest : (a : PlainKeyAtom) → IsStrongest (IsGiven c s) a ↔ IsStrongest (IsGiven d s) a =
    λ a. strongest_same (IsGiven c s) (IsGiven d s) a (λ b. given_same c d s b scaled pairs) in (
      λ is. record {
        none_false =
            subst (λ o. All (λ atom. canonical_form o atom ≢ False) (atoms_of d s)) (sym same) (none.0 is.none_false);
        ascends = is.ascends;
        just = λ a. (λ has. (strongest a).0 ((is.just a).0 has), λ strong. (is.just a).1 ((strongest a).1 strong));
      },
      λ is. record {
        none_false =
            none.1 (subst (λ o. All (λ atom. canonical_form o atom ≢ False) (atoms_of d s)) same is.none_false);
        ascends = is.ascends;
        just = λ a. (λ has. (strongest a).1 ((is.just a).0 has), λ strong. (is.just a).1 ((strongest a).0 strong));
      },
    )
