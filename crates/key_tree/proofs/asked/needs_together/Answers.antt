use Rattle.std.proofs.Common.{ℕ, ◌∙◌, ap, sym, subst, arith}
use Rattle.lin_model.specs.KeyAtom.{PlainKeyAtom}
use Rattle.key_tree.specs.MaskFacts.{within_both}
use Rattle.key_tree.specs.Prints.{needs_of, IsWithin}
use Rattle.key_tree.proofs.MaskLemmas.{needs_more}
use Rattle.key_tree.proofs.asked.needs_together.Goals as goal

pub loop-place-preserved : goal.loop-place-preserved
loop-place-preserved c = record {
  each =
      needs_more c.args.atoms.now c.loop-place.place c.loop-place.needs c.needs_of-needs.result
      c.index-atoms-place.result (omega arith) c.index-atoms-place.is c.needs_of-needs.ensures
      c.loop-place.invariant.each;
  least = λ mask all.
      within_both c.loop-place.needs c.needs_of-needs.result mask
      (c.loop-place.invariant.least mask (λ k d lt. all k d (omega (arith, lt))))
      (subst (λ (n : ℕ). IsWithin n mask)
      (sym (c.needs_of-needs.ensures ∙ ap (λ (a : PlainKeyAtom). needs_of a) c.index-atoms-place.is))
      (all c.loop-place.place _ (omega arith)));
}
