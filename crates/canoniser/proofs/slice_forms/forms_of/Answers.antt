use Rattle.std.proofs.Common.{◌≡◌, ◌<◌, ℕ, List, length, get_or, Some, ap, sym, subst, arith, refl}
use Rattle.std.specs.List.{slice_get, Contains}
use Rattle.std.proofs.lemmas.Option.{slice_get_read}
use Rattle.std.proofs.lemmas.List.Elements.{Contains-get_or}
use Rattle.lin_model.specs.Conditions.{PlainCondition, Fits}
use Rattle.lin_model.specs.declared.atom.Atom.{Atom}
use Rattle.slicer.specs.Slices.{PlainSlice}
use Rattle.canoniser.specs.Numbering.{order_of}
use Rattle.canoniser.specs.declared.atom_form.AtomForm.TheVariants.{True, False, KeyAtom}
use Rattle.canoniser.specs.Forms.{canonical_form}
use Rattle.canoniser.specs.Keys.{IsSliceIn}
use Rattle.canoniser.proofs.SliceLemmas.{IsWithin-slice, HasNamed-slice}
use Rattle.canoniser.proofs.TurnLemmas.{IsTurn, IsOrder-slice, AtomNamesBelow-turn, AreKeyAtomsBefore-none}
use Rattle.canoniser.proofs.TurnLemmas.{AreKeyAtomsBefore-true, AreKeyAtomsBefore-key_atom, IsFirstFalse-turn}
use Rattle.canoniser.proofs.TurnLemmas.{AreKeyAtoms-all}
use Rattle.canoniser.proofs.slice_forms.forms_of.Goals as goal
use Rattle.canoniser.proofs.slice_forms.forms_of.Goals.{in-True, in-KeyAtom+in_ok-push-in-KeyAtom}

-- a number of the slice is that of an atom of the condition
declared_at : (c : PlainCondition) (s : PlainSlice) (numbers : List ℕ) (i : ℕ) → IsSliceIn c s → numbers ≡ s.atoms
    → i < length numbers → get_or numbers i 0 < length c.atoms
declared_at c s numbers i one same lt =
    (IsWithin-slice c s one).atoms (get_or numbers i 0)
    (subst (λ (xs : List ℕ). Contains xs (get_or numbers i 0)) same (Contains-get_or numbers i 0 lt))

turn_at : (c : PlainCondition) (s : PlainSlice) (order numbers : List ℕ) (atoms : List Atom) (i : ℕ) (atom : Atom)
    → Fits c.vars c.atoms → IsSliceIn c s → order ≡ order_of c s → numbers ≡ s.atoms → atoms ≡ c.atoms
    → i < length numbers → atom ≡ get_or atoms (get_or numbers i 0) atom → IsTurn c s order i atom
turn_at c s order numbers atoms i atom fits one numbered same all lt read = record {
  fits = fits;
  slice = one;
  numbered = numbered;
  place = subst (λ (xs : List ℕ). i < length xs) same lt;
  read =
      subst (λ (xs : List ℕ). slice_get c.atoms (get_or xs i 0) ≡ Some atom) same
      (slice_get_read c.atoms (length c.atoms) (get_or numbers i 0) atom refl (declared_at c s numbers i one same lt)
      (subst (λ (xs : List Atom). atom ≡ get_or xs (get_or numbers i 0) atom) all read));
}

pub bounds-all-j : goal.bounds-all-j
bounds-all-j c =
    let declared = declared_at c.args.c.now c.args.s.now c.atoms-j-items.result.now c.loop-j.j-index c.requires.slice
    c.atoms-j-items.ensures c.loop-j-test.true in
    rw c.atoms-all.ensures.atoms declared

pub canonical_form-requires : goal.canonical_form-requires
canonical_form-requires c =
    let q = c.args.c.now in
    let slice = c.args.s.now in
    let turn = turn_at q slice c.args.order.now c.atoms-j-items.result.now c.atoms-all.result.now c.loop-j.j-index
    c.index-all-j.result c.atoms-all.ensures.fits c.requires.slice c.requires.numbered c.atoms-j-items.ensures
    c.atoms-all.ensures.atoms c.loop-j-test.true c.index-all-j.is in
    let named = HasNamed-slice c.slices_are_a_partition.ensures q slice turn.fits.in_range turn.slice in
    let ordered = IsOrder-slice q slice c.args.order.now turn.fits named turn.slice turn.numbered in
    record {
      few = ordered.few;
      in_range = ordered.in_range;
      named =
          AtomNamesBelow-turn q slice c.args.order.now c.loop-j.j-index c.index-all-j.result turn;
    }

pub loop-j-init : goal.loop-j-init
loop-j-init c = rw c.new-canonical.ensures.items (AreKeyAtomsBefore-none c.args.c.now c.args.s.now c.args.order.now)

pub returns-in-False-clause-forms : goal.returns-in-False-clause-forms
returns-in-False-clause-forms c =
    let q = c.args.c.now in
    let slice = c.args.s.now in
    let turn = turn_at q slice c.args.order.now c.atoms-j-items.result.now c.atoms-all.result.now c.loop-j.j-index
    c.index-all-j.result c.atoms-all.ensures.fits c.requires.slice c.requires.numbered c.atoms-j-items.ensures
    c.atoms-all.ensures.atoms c.loop-j-test.true c.index-all-j.is in
    let is : canonical_form c.args.order.now c.index-all-j.result ≡ False =
    sym (rw c.in-False.is at c.in_ok-canonical_form.ensures) in
    rw c.atoms-j-items.ensures
    (IsFirstFalse-turn q slice c.args.order.now c.loop-j.j-index c.index-all-j.result turn
    c.loop-j.invariant.none_false is)

pub loop-j-preserved : goal.loop-j-preserved
loop-j-preserved c =
    let q = c.args.c.now in
    let slice = c.args.s.now in
    let order = c.args.order.now in
    let atom = c.index-all-j.result in
    let canonical = c.loop-j.canonical.items in
    let turn = turn_at q slice order c.atoms-j-items.result.now c.atoms-all.result.now c.loop-j.j-index atom
    c.atoms-all.ensures.fits c.requires.slice c.requires.numbered c.atoms-j-items.ensures c.atoms-all.ensures.atoms
    c.loop-j-test.true c.index-all-j.is in
    elim c.match-branch-2.branch [
      | in-True w ↦ (
          let is : canonical_form order atom ≡ True = sym (rw w.in-True.is at c.in_ok-canonical_form.ensures) in
          rw w.canonical-is
          (AreKeyAtomsBefore-true q slice order c.loop-j.j-index atom canonical turn c.loop-j.invariant is)
          )
      | in-KeyAtom+in_ok-push-in-KeyAtom w ↦ (
          let is : canonical_form order atom ≡ KeyAtom w.in-KeyAtom.atom =
          sym (rw w.in-KeyAtom.is at c.in_ok-canonical_form.ensures) in
          rw (w.canonical-is, w.in_ok-push-in-KeyAtom.ensures.items)
          (AreKeyAtomsBefore-key_atom q slice order c.loop-j.j-index atom canonical w.in-KeyAtom.atom turn
          c.loop-j.invariant is)
          )
    ]

pub returns-clause-forms : goal.returns-clause-forms
returns-clause-forms c =
    let end : c.loop-j.j-index ≡ length c.args.s.now.atoms = omega (arith, ap length c.atoms-j-items.ensures) in
    AreKeyAtoms-all c.args.c.now c.args.s.now c.args.order.now c.loop-j.j-index c.loop-j.canonical.items
    c.requires.numbered end c.loop-j.invariant
