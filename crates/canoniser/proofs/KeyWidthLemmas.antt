-- How wide the key of canonical atoms and bounds is, and that it bounds each of its variables.
use Rattle.std.proofs.Common.{◌≡◌, ◌⊎◌, ℕ, suc, ◌<◌, ◌≤◌, ℤ, List, [], ◌∷◌, length, max, get_or, true, refl, ap, ◌∙◌}
use Rattle.std.proofs.Common.{inl, inr, arith}
use Rattle.std.specs.Prelude.{slice_index, ◌≤ℤ◌}
use Rattle.std.specs.List.{All, slice_get}
use Rattle.std.proofs.lemmas.Int.{ints}
use Rattle.std.proofs.lemmas.List.Elements.{All-contains, All-tail, All-head, Contains-get_or}
use Rattle.lin_model.specs.declared.op.Op.{Op}
use Rattle.lin_model.specs.declared.op.Op.TheVariants.{Le, Ge, Eq, Ne}
use Rattle.lin_model.specs.Terms.{PlainVar, VarFits}
use Rattle.lin_model.specs.Conditions.{PlainCondition}
use Rattle.lin_model.specs.Form.{form_width}
use Rattle.lin_model.specs.KeyAtom.{PlainKeyAtom}
use Rattle.lin_model.specs.Key.{key_width}
use Rattle.lin_model.specs.Bounded.{variable, GivesLower, GivesUpper, IsBounded}
use Rattle.lin_model.specs.Facts.{key_width-above}
use Rattle.lin_model.specs.Lists.{Found-from}
use Rattle.atom_implies.specs.Implies.{Implies}
use Rattle.atom_implies.specs.Table.{table_says}
use Rattle.atom_implies.specs.Laws.{TableIsRight}
use Rattle.canoniser.specs.Keys.{upper_atom, lower_atom, IsBound}
use Rattle.canoniser.specs.Strongest.{IsKeyWithBounds}
use Rattle.canoniser.proofs.ImplicationLemmas.{IsCovered, covered_has}
use Rattle.canoniser.proofs.KeyLemmas.{BoundsCovered-found}

-- a key of forms that are no wider is no wider
key_width-least : (key : List PlainKeyAtom) (n : ℕ) → All (λ a. form_width a.form ≤ n) key → key_width key ≤ n
key_width-least [] n all = omega arith
key_width-least (a ∷ key) n all =
    let here = All-head (λ b. form_width b.form ≤ n) a key all in
    let rest = key_width-least key n (All-tail (λ b. form_width b.form ≤ n) a key all) in
    omega arith

-- an atom that implies a bound of a variable makes the key wider than its number
wide_from_covered : (key : List PlainKeyAtom) (a : PlainKeyAtom) (v : ℕ) → a.form ≡ variable v → IsCovered key a
    → v < key_width key
wide_from_covered key a v form covered =
    let b = covered.1 in
    let width =
    All-contains (λ x. form_width x.form ≤ key_width key) key b (key_width-above key) (covered_has key a covered) in
    let same : form_width b.form ≡ max (suc v) 0 = ap form_width (covered.4.same_form ∙ form) in
    omega arith

-- no atom of the key is wider than there are variables
bound_narrow : (c : PlainCondition) (order : List ℕ) (a : PlainKeyAtom) → IsBound c order a
    → form_width a.form ≤ length order
bound_narrow c order a bound =
    let v = bound.0 in
    let lt = bound.1 in
    let found =
    Found-from (slice_get c.vars (slice_index order v))
    (λ var. (a ≡ upper_atom v var) ⊎ (a ≡ lower_atom v var)) bound.2 in
    let same : form_width a.form ≡ max (suc v) 0 =
    elim found.holds [
      | inl upper ↦ ap (λ (b : PlainKeyAtom). form_width b.form) upper
      | inr lower ↦
          ap (λ (b : PlainKeyAtom). form_width b.form) lower
    ] in
    omega arith

All-narrow : (c : PlainCondition) (order : List ℕ) (canonical key : List PlainKeyAtom)
    → IsKeyWithBounds c order canonical key → All (λ a. form_width a.form ≤ length order) canonical
    → All (λ a. form_width a.form ≤ length order) key
All-narrow c order canonical key is narrow k d lt =
    let a = get_or key k d in
    let one = ((is.just a).0 (Contains-get_or key k d lt)).one in
    elim one [
      | inl said ↦ All-contains (λ b. form_width b.form ≤ length order) canonical a narrow said
      | inr bound ↦ bound_narrow c order a bound
    ]

-- each atom is as wide as there are variables at most, so the key is as wide as there are variables
pub key_width-order : (c : PlainCondition) (order : List ℕ) (canonical key : List PlainKeyAtom)
    → IsKeyWithBounds c order canonical key → All (λ a. form_width a.form ≤ length order) canonical
    → key_width key ≡ length order
key_width-order c [] canonical key is narrow =
    let least = key_width-least key 0 (All-narrow c [] canonical key is narrow) in
    omega arith
key_width-order c (w ∷ order) canonical key is narrow =
    let least = key_width-least key (length (w ∷ order)) (All-narrow c (w ∷ order) canonical key is narrow) in
    let v = length order in
    let found = BoundsCovered-found c (w ∷ order) canonical key is v (omega arith) in
    let wide = wide_from_covered key (upper_atom v found.value) v refl found.holds.upper in
    omega arith

-- what implies an upper bound is an upper bound of the variable, at a constant that is no greater
upper_from : (op : Op) (c d : ℤ) → table_says op c Le d ≡ true → ((op ≡ Le) ⊎ (op ≡ Eq)) × (c ≤ℤ d)
upper_from Le c d says = (inl refl, grind (arith, ints))
upper_from Ge c d says = absurd (cc)
upper_from Eq c d says = (inr refl, grind (arith, ints))
upper_from Ne c d says = absurd (cc)

lower_from : (op : Op) (c d : ℤ) → table_says op c Ge d ≡ true → ((op ≡ Ge) ⊎ (op ≡ Eq)) × (d ≤ℤ c)
lower_from Le c d says = absurd (cc)
lower_from Ge c d says = (inl refl, grind (arith, ints))
lower_from Eq c d says = (inr refl, grind (arith, ints))
lower_from Ne c d says = absurd (cc)

GivesUpper-implied : TableIsRight → (a : PlainKeyAtom) (v : ℕ) (var : PlainVar) → VarFits var
    → Implies a (upper_atom v var) → GivesUpper v a
GivesUpper-implied right a v var fits implied =
    let from = upper_from a.op a.constant var.hi ((right a.op a.constant Le var.hi).1 implied.tests) in
    let le = from.1 in
    let high = fits.high in
    record { form = implied.same_form; op = from.0; constant = omega (arith, ints) }

GivesLower-implied : TableIsRight → (a : PlainKeyAtom) (v : ℕ) (var : PlainVar) → VarFits var
    → Implies a (lower_atom v var) → GivesLower v a
GivesLower-implied right a v var fits implied =
    let from = lower_from a.op a.constant var.lo ((right a.op a.constant Ge var.lo).1 implied.tests) in
    let le = from.1 in
    let low = fits.low in
    record { form = implied.same_form; op = from.0; constant = omega (arith, ints) }

-- each of the key's variables is held from below and from above
pub IsBounded-covered : TableIsRight → (c : PlainCondition) (order : List ℕ) (canonical key : List PlainKeyAtom)
    → IsKeyWithBounds c order canonical key → key_width key ≡ length order → IsBounded key
IsBounded-covered right c order canonical key is width = record {
  lower = λ v lt.
      let found = BoundsCovered-found c order canonical key is v (omega arith) in
      let by = found.holds.lower in
      (by.0, by.1, by.2, by.3, GivesLower-implied right by.1 v found.value found.holds.fits by.4);
  upper = λ v lt.
      let found = BoundsCovered-found c order canonical key is v (omega arith) in
      let by = found.holds.upper in
      (by.0, by.1, by.2, by.3, GivesUpper-implied right by.1 v found.value found.holds.fits by.4);
}
