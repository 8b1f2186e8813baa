use Rattle.std.proofs.Common.{arith, subst, sym}
use Rattle.std.proofs.lemmas.List.{length_push}
use Rattle.lin_model.specs.Conditions.{AtomNamesBelow}
use Rattle.slicer.proofs.NamedLemmas.{sets_more}
use Rattle.slicer.proofs.named.sets_of_atoms.Goals as goal

pub set_of_atom-requires : goal.set_of_atom-requires
set_of_atom-requires c =
    subst (AtomNamesBelow 64) (sym c.atom-item.is)
    (c.requires c.loop-atom.atom-index c.atom-item.result c.loop-atom-test.true)

pub loop-atom-preserved : goal.loop-atom-preserved
loop-atom-preserved c =
    let so_far = c.loop-atom.invariant in
    rw c.in_ok-push.ensures.items record {
      one_each = omega (arith, length_push c.loop-atom.sets.items c.set_of_atom.result);
      same = sets_more c.args.atoms.now c.loop-atom.sets.items c.loop-atom.atom-index c.atom-item.result
          c.set_of_atom.result c.loop-atom-test.true c.atom-item.is so_far.one_each so_far.same c.set_of_atom.ensures;
    }

pub returns : goal.returns
returns c =
    let all = c.loop-atom.invariant in
    record {
      one_each = let one_each = all.one_each in omega arith;
      same = λ k atom set lt. let one_each = all.one_each in all.same k atom set (omega arith);
    }
