-- A slice comes to one thing alone.
use Rattle.std.proofs.Common.{◌≡◌, ◌≢◌, ℕ, List, inl, inr, sym, ◌∙◌, arith}
use Rattle.std.specs.List.{slice_get}
use Rattle.std.proofs.lemmas.Bool.Decides.{eqb_tells}
use Rattle.std.proofs.lemmas.Bool.{cases_lt}
use Rattle.std.proofs.lemmas.List.Elements.{All-contains}
use Rattle.lin_model.specs.Conditions.{PlainCondition}
use Rattle.lin_model.specs.KeyAtom.{PlainKeyAtom}
use Rattle.lin_model.specs.AtomOrder.{IsAtomOrder}
use Rattle.lin_model.specs.Lists.{Contains-filter_map, Found-from}
use Rattle.slicer.specs.Slices.{PlainSlice}
use Rattle.canoniser.specs.declared.canonical.Canonical.{Canonical}
use Rattle.canoniser.specs.declared.canonical.Canonical.TheVariants.{False as FalseAtom, Key}
use Rattle.canoniser.specs.declared.atom_form.AtomForm.TheVariants.{False}
use Rattle.canoniser.specs.Answers.{Canonises}
use Rattle.canoniser.specs.Forms.{canonical_form}
use Rattle.canoniser.specs.Keys.{IsKeyOf}
use Rattle.canoniser.specs.OneKey.{KeysAreUnique}
use Rattle.canoniser.specs.Numbering.{atoms_of, order_of}
use Rattle.canoniser.specs.Solutions.{IsFalse, IsFirstFalse}
use Rattle.canoniser.proofs.FalseLemmas.{is_false-tells}
use Rattle.canoniser.proofs.NumberingLemmas.{order_of-distinct, order_of-names}
use Rattle.canoniser.proofs.SortedLemmas.{same_from_Ascends}

one_key : IsAtomOrder → (c : PlainCondition) (s : PlainSlice) (one other : List PlainKeyAtom) → IsKeyOf c s one
    → IsKeyOf c s other → one ≡ other
one_key atom_order c s one other a b =
    same_from_Ascends atom_order one other a.ascends b.ascends
    (λ x. (λ has. (b.just x).1 ((a.just x).0 has), λ has. (a.just x).1 ((b.just x).0 has)))

one_first : (c : PlainCondition) (s : PlainSlice) (i j : ℕ) → IsFirstFalse c s i → IsFirstFalse c s j → i ≡ j
one_first c s i j a b = elim (eqb_tells i j) [
  | inl same ↦ same.1
  | inr other ↦ (
      let ne = other.1 in
      elim (cases_lt i j) [
        | inl before ↦ absurd (b.first i a.in_slice before a.is_false)
        | inr later ↦ absurd (a.first j b.in_slice (omega arith) b.is_false)
      ]
      )
]

not_both : (c : PlainCondition) (s : PlainSlice) (key : List PlainKeyAtom) (j : ℕ) → IsKeyOf c s key
    → ¬ IsFirstFalse c s j
not_both c s key j is first =
    let order = order_of c s in
    let found = Found-from (slice_get c.atoms j) IsFalse first.is_false in
    let atom = found.value in
    let has = Contains-filter_map (λ (n : ℕ). slice_get c.atoms n) s.atoms j atom first.in_slice found.is in
    let tells = is_false-tells order atom (order_of-distinct c s) (order_of-names c s atom has) in
    All-contains (λ x. canonical_form order x ≢ False) (atoms_of c s) atom is.none_false has (tells.0 found.holds)

one_canonical : IsAtomOrder → (c : PlainCondition) (s : PlainSlice) (one other : Canonical) → Canonises c s one
    → Canonises c s other → one ≡ other
one_canonical atom_order c s (FalseAtom i) (FalseAtom j) a b = λ k. FalseAtom (one_first c s i j a b k)
one_canonical atom_order c s (FalseAtom i) (Key key order) a b = absurd (not_both c s key i b.is_key a)
one_canonical atom_order c s (Key key order) (FalseAtom j) a b = absurd (not_both c s key j a.is_key b)
one_canonical atom_order c s (Key one order) (Key other more) a b =
    let key = one_key atom_order c s one other a.is_key b.is_key in
    let same = a.numbered ∙ sym b.numbered in
    λ k. Key (key k) (same k)

pub keys_are_unique : IsAtomOrder → KeysAreUnique
keys_are_unique atom_order c s = record {
  one = one_canonical atom_order c s;
  one_key =
      one_key atom_order c s;
  not_both = not_both c s;
}
