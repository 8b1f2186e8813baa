-- Every slice of a condition comes to something: to its first atom that no integers satisfy, or to its key.
use Rattle.std.proofs.Common.{ℕ, ◌^◌, ◌<◌, ◌≤◌, List, ◌++◌, length, get_or, inl, inr, refl, arith, length-append}
use Rattle.std.specs.List.{All}
use Rattle.std.proofs.lemmas.List.Elements.{All-contains, All-weaker, Contains-get_or}
use Rattle.lin_model.specs.Conditions.{PlainCondition, IsCondition}
use Rattle.lin_model.specs.KeyAtom.{PlainKeyAtom, IsCanonical}
use Rattle.lin_model.specs.AtomOrder.{IsAtomOrder}
use Rattle.slicer.specs.Laws.{HasNamed, SlicesPartition}
use Rattle.slicer.specs.Slices.{PlainSlice}
use Rattle.atom_implies.specs.Laws.{TableIsRight}
use Rattle.canoniser.specs.declared.canonical.Canonical.TheVariants.{False, Key}
use Rattle.canoniser.specs.Keys.{IsSliceIn}
use Rattle.canoniser.specs.Forms.{key_atoms}
use Rattle.canoniser.specs.Numbering.{atoms_of, order_of}
use Rattle.canoniser.specs.SliceForms.{AreKeyAtoms}
use Rattle.canoniser.specs.Solutions.{NoneIsFalseAmong}
use Rattle.canoniser.specs.OneKey.{HasCanonical, EachHasCanonical}
use Rattle.canoniser.specs.Strongest.{IsKeyWithBounds}
use Rattle.canoniser.proofs.AllAtomsLemmas.{none_or_first, key_atoms-canonical}
use Rattle.canoniser.proofs.KeyAtomsLemmas.{few_key_atoms}
use Rattle.canoniser.proofs.CanonisedLemmas.{IsCanonised-made}
use Rattle.canoniser.proofs.GivenLemmas.{strongest_exist}
use Rattle.canoniser.proofs.KeyLemmas.{IsKeyWithBounds-joined}
use Rattle.canoniser.proofs.SliceLemmas.{IsWithin-slice, HasNamed-slice, few_atoms}
use Rattle.canoniser.proofs.SomeBoundsLemmas.{bounds_below, vars_fit, bound_fits}
use Rattle.canoniser.proofs.TurnLemmas.{IsOrder-slice}

-- each atom of the key is canonical
key_fits : (c : PlainCondition) (order : List ℕ) (canonical key : List PlainKeyAtom) → length order ≤ 64
    → All IsCanonical canonical → IsKeyWithBounds c order canonical key → All IsCanonical key
key_fits c order canonical key few fit is k d lt =
    let a = get_or key k d in
    elim ((is.just a).0 (Contains-get_or key k d lt)).one [
      | inl has ↦ All-contains IsCanonical canonical a fit has
      | inr bound ↦ bound_fits c order a few is.vars_fit bound
    ]

canonical_of : IsAtomOrder → TableIsRight → (c : PlainCondition) (s : PlainSlice) → IsCondition c → HasNamed c s
    → IsSliceIn c s
    → NoneIsFalseAmong c s.atoms → HasCanonical c s
canonical_of atom_order right c s fits named one none =
    let order = order_of c s in
    let ordered = IsOrder-slice c s order fits.fits named one refl in
    let canonical = key_atoms order (atoms_of c s) in
    let are : AreKeyAtoms c s canonical = record { none_false = none; are = refl } in
    let bounds = bounds_below c order ordered.declared (length order) (omega arith) in
    let given = canonical ++ bounds.atoms in
    let strongest = strongest_exist atom_order right given in
    let fit = vars_fit c order fits ordered.declared in
    let is = IsKeyWithBounds-joined c order canonical bounds.atoms given strongest.atoms refl bounds.just fit
    strongest.ascends strongest.just strongest.covers in
    let canonised = IsCanonised-made right c s order canonical strongest.atoms named refl are is in
    record {
      canonical = Key strongest.atoms order;
      limits = record {
        key = record {
          fits = record {
            ascends = strongest.ascends;
            few = omega (
              arith,
              strongest.few,
              length-append canonical bounds.atoms,
              bounds.two_each,
              few_key_atoms c s order,
              few_atoms c s fits.fits one,
              ordered.few,
            );
          };
          canonical =
              key_fits c order canonical strongest.atoms ordered.few (key_atoms-canonical c s fits ordered.few) is;
        };
        width = omega (arith, canonised.width, ordered.few);
        distinct = ordered.distinct;
        few = ordered.few;
        numbers = All-weaker (λ v. v < 64) (λ v. v < 2 ^ 32) (λ v below. omega arith) order ordered.in_range;
      };
      canonises = canonised;
    }

pub keys_exist : IsAtomOrder → TableIsRight → SlicesPartition → EachHasCanonical
keys_exist atom_order right parts c s fits one =
    let named = HasNamed-slice parts c s fits.fits.in_range one in
    elim (none_or_first c s fits one) [
      | inl none ↦ canonical_of atom_order right c s fits named one none
      | inr some ↦ record {
        canonical = False some.number;
        limits = (
            let few = fits.fits.few_atoms in
            let within = (IsWithin-slice c s one).atoms some.number some.first.in_slice in
            omega arith
            );
        canonises = some.first;
      }
    ]
