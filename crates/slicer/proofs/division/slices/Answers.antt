use Rattle.std.proofs.Common.{refl}
use Rattle.slicer.specs.VarSets.{AreSetsOf}
use Rattle.slicer.proofs.NamedLemmas.{AtomsNameBelow-larger}
use Rattle.slicer.proofs.SetLemmas.{NamesNothingAt-sets}
use Rattle.slicer.proofs.FrontLemmas.{IsFront-same}
use Rattle.slicer.proofs.division.slices.Goals as goal

pub sets_of_atoms-requires : goal.sets_of_atoms-requires
sets_of_atoms-requires c =
    let fits = c.atoms.ensures.fits in
    rw c.atoms.ensures.atoms (AtomsNameBelow-larger _ 64 fits.few_vars _ fits.in_range)

pub returns : goal.returns
returns c =
    let sets = c.in_ok-sets.sets.items in
    let are : AreSetsOf c.args.c.now.atoms sets = rw c.atoms.ensures.atoms at c.in_ok-sets.ensures in
    rw c.in_ok-append.ensures.items record {
      front = c.in_ok-slices.slices.items;
      classes = c.in_ok-linked.linked.items;
      joined = refl;
      variable_free = IsFront-same _ _ (NamesNothingAt-sets c.args.c.now.atoms sets are) c.in_ok-slices.slices.items
          (rw c.deref.ensures.value at c.in_ok-slices.ensures);
      linked = c.in_ok-linked.ensures;
    }
