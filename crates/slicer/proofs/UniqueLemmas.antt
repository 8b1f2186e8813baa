-- A condition has one list of slices alone.
use Rattle.std.proofs.Common.{◌≡◌, ℕ, ◌<◌, List, [], ◌∷◌, ◌++◌, refl, arith, sym, subst, ap, ◌∙◌}
use Rattle.std.specs.Prelude.{Contains}
use Rattle.std.proofs.lemmas.List.Elements.{Contains-get_or}
use Rattle.lin_model.specs.Conditions.{PlainCondition}
use Rattle.lin_model.specs.Ordered.{same_from_in_order}
use Rattle.slicer.specs.Linked.{Linked}
use Rattle.slicer.specs.Names.{Names, NamesNothingAt}
use Rattle.slicer.specs.Slices.{PlainSlice, Lists, IsSliceOf, AreClasses, IsFront, least}
use Rattle.slicer.specs.Laws.{SlicesAreUnique}
use Rattle.slicer.proofs.ChainLemmas.{Chain-turned}
use Rattle.slicer.proofs.ClassLemmas.{first_of_ascending}

pub Lists-unique : (P : ℕ → Type 0) (xs ys : List ℕ) → Lists P xs → Lists P ys → xs ≡ ys
Lists-unique P xs ys a b =
    same_from_in_order ◌<◌ (λ n m up down. omega arith) xs ys a.ascending b.ascending
    (λ n has. (b.just n).1 ((a.just n).0 has)) (λ n has. (a.just n).1 ((b.just n).0 has))

slice_is : (s t : PlainSlice) → s.vars ≡ t.vars → s.atoms ≡ t.atoms → s ≡ t
slice_is s t vars atoms =
    ap (λ (vs : List ℕ). let x : PlainSlice =
    record { vars = vs; atoms = s.atoms } in x) vars
    ∙ ap (λ (js : List ℕ). let x : PlainSlice = record { vars = t.vars; atoms = js } in x) atoms

IsFront-unique : (P : ℕ → Type 0) (one other : List PlainSlice) → IsFront P one → IsFront P other → one ≡ other
IsFront-unique P [] [] a b = refl
IsFront-unique P [] (t ∷ []) a b = absurd (a _ ((b.atoms.just _).0 (Contains-get_or t.atoms 0 0 b.some)))
IsFront-unique P [] (t ∷ u ∷ us) a b = absurd b
IsFront-unique P (s ∷ []) [] a b = absurd (b _ ((a.atoms.just _).0 (Contains-get_or s.atoms 0 0 a.some)))
IsFront-unique P (s ∷ []) (t ∷ []) a b =
    ap (λ (x : PlainSlice). x ∷ [])
    (slice_is s t (a.vars ∙ sym b.vars) (Lists-unique P s.atoms t.atoms a.atoms b.atoms))
IsFront-unique P (s ∷ []) (t ∷ u ∷ us) a b = absurd b
IsFront-unique P (s ∷ u ∷ us) other a b = absurd a

-- two slices of one class are equal
IsSliceOf-unique : (c : PlainCondition) (v w : ℕ) (s t : PlainSlice) → v ≡ w → IsSliceOf c v s → IsSliceOf c w t → s ≡ t
IsSliceOf-unique c v w s t same a b =
    let its : IsSliceOf c v t = subst (λ (x : ℕ). IsSliceOf c x t) (sym same) b in
    slice_is s t (Lists-unique _ s.vars t.vars a.vars its.vars) (Lists-unique _ s.atoms t.atoms a.atoms its.atoms)

-- slices that are joined have one least variable
pub least_is_same : (c : PlainCondition) (s t : PlainSlice) → IsSliceOf c (least s) s → IsSliceOf c (least t) t
    → Linked c (least s) (least t) → least s ≡ least t
least_is_same c s t a b linked =
    let there =
    (first_of_ascending s.vars (least t) a.vars.ascending ((a.vars.just (least t)).1 (b.declared, linked))).1 in
    let back =
    (first_of_ascending t.vars (least s) b.vars.ascending
    ((b.vars.just (least s)).1 (a.declared, Chain-turned Names c.atoms linked))).1 in
    omega arith

-- each class of one list is in the other
AreClasses-has : (c : PlainCondition) (one other : List PlainSlice) → AreClasses c one → AreClasses c other
    → (s : PlainSlice) → Contains one s → Contains other s
AreClasses-has c one other a b s has =
    let its : IsSliceOf c (least s) s =
    subst (λ (x : PlainSlice). IsSliceOf c (least x) x) has.2 (a.each has.0 s has.1) in
    let there = b.every (least s) its.declared in
    let t = there.1 in
    let other_is : IsSliceOf c (least t) t =
    subst (λ (x : PlainSlice). IsSliceOf c (least x) x) there.3 (b.each there.0 t there.2) in
    let linked = ((other_is.vars.just (least s)).0 there.4).1 in
    let same : t ≡ s =
    IsSliceOf-unique c (least t) (least s) t s (least_is_same c t s other_is its linked) other_is its in
    subst (λ (x : PlainSlice). Contains other x) same (there.0, there.2, there.3)

pub AreSlices-unique : SlicesAreUnique
AreSlices-unique c one other a b =
    let front = IsFront-unique (NamesNothingAt c.atoms) a.front b.front a.variable_free b.variable_free in
    let classes = same_from_in_order (λ s t. least s < least t)
    (λ s t up down. omega arith) a.classes b.classes a.linked.by_least b.linked.by_least
    (AreClasses-has c a.classes b.classes a.linked b.linked)
    (AreClasses-has c b.classes a.classes b.linked a.linked) in
    a.joined ∙ ap (λ (xs : List PlainSlice). xs ++ a.classes) front
    ∙ ap (λ (xs : List PlainSlice). b.front ++ xs) classes ∙ sym b.joined
