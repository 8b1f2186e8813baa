use Rattle.std.proofs.Common.{◌≡◌, ◌↔◌, ℕ, ◌<◌, length, arith, ap, subst}
use Rattle.slicer.specs.Linked.{Linked}
use Rattle.slicer.specs.Slices.{IsSliceOf}
use Rattle.slicer.specs.VarSets.{Has}
use Rattle.slicer.proofs.ClassLemmas.{AreClassesBelow, AreClassesBelow-seen, AreClassesBelow-more, grown_by_linked}
use Rattle.slicer.proofs.ClassLemmas.{AreClasses-all, reached_is_linked, IsSliceOf-gathered}
use Rattle.slicer.proofs.classes.classes.Goals as goal
use Rattle.slicer.proofs.classes.classes.Goals.{then-not-has+in_ok-slice_of+in_ok-push, else-not-has}

pub loop-var-preserved : goal.loop-var-preserved
loop-var-preserved c =
    let q = c.args.c.now in
    let var = c.loop-var.var in
    let slices = c.loop-var.slices.items in
    let seen = c.loop-var.seen in
    let so_far = c.loop-var.invariant in
    let counted : length c.vars.result.now ≡ length q.vars = ap length c.vars.ensures.vars in
    elim c.if-not-has.branch [
      | then-not-has+in_ok-slice_of+in_ok-push w ↦ (
          let linked = w.spread-linked.result in
          let exact : (v : ℕ) → Has linked v ↔ Linked q var v =
          reached_is_linked q c.args.sets.now var w.of.result linked c.requires w.of.ensures
          w.spread-linked.ensures in
          let slice = w.in_ok-slice_of.field-0 in
          let declared : var < length q.vars = omega (arith, c.loop-var-test.true) in
          let here : IsSliceOf q var slice =
          IsSliceOf-gathered q c.args.sets.now var linked slice c.requires declared exact
          (rw counted at w.in_ok-slice_of.ensures.vars) w.in_ok-slice_of.ensures.atoms in
          let unseen = λ (has : Has seen var). let yes = c.has.ensures.1 has in let no_more =
          w.if-not-has.true in let none : ⊥ = cc in none in
          rw (w.slices-is, w.in_ok-push.ensures.items, w.seen-is)
          (AreClassesBelow-more q var slices (Has seen) (Has w.union-seen.result) slice so_far unseen here
          (grown_by_linked q var slice seen linked w.union-seen.result here exact w.union-seen.ensures.either))
          )
      | else-not-has w ↦ rw (w.slices-is, w.seen-is)
          (AreClassesBelow-seen q var slices (Has seen) so_far (c.has.ensures.0 w.if-not-has.false))
    ]

pub returns : goal.returns
returns c =
    let end : c.loop-var.var ≡ length c.args.c.now.vars = omega (arith, ap length c.vars.ensures.vars) in
    AreClasses-all c.args.c.now c.loop-var.slices.items (Has c.loop-var.seen)
    (subst (λ (n : ℕ). AreClassesBelow c.args.c.now n c.loop-var.slices.items (Has c.loop-var.seen)) end
    c.loop-var.invariant)
