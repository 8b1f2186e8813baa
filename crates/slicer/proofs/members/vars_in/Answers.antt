use Rattle.std.proofs.Common.{◌≡◌, ℕ, arith, subst}
use Rattle.slicer.specs.Slices.{Lists}
use Rattle.slicer.specs.VarSets.{Has}
use Rattle.slicer.proofs.ListsLemmas.{Below, Lists-kept, Lists-skipped}
use Rattle.slicer.proofs.members.vars_in.Goals as goal
use Rattle.slicer.proofs.members.vars_in.Goals.{then-has+in_ok-push, else-has}

pub loop-var-preserved : goal.loop-var-preserved
loop-var-preserved c =
    let P : ℕ → Type 0 = Has c.args.set in
    let so_far = c.loop-var.invariant in
    elim c.if-has.branch [
      | then-has+in_ok-push w ↦ rw (w.vars-is, w.in_ok-push.ensures.items)
          (Lists-kept P c.loop-var.var c.loop-var.vars.items so_far (c.has.ensures.0 w.if-has.true))
      | else-has w ↦ rw w.vars-is
          (Lists-skipped P c.loop-var.var c.loop-var.vars.items so_far
          (λ here. let yes = c.has.ensures.1 here in let no_more = w.if-has.false in absurd (cc)))
    ]

pub returns : goal.returns
returns c =
    let end : c.loop-var.var ≡ c.args.count = omega arith in
    subst (λ (n : ℕ). Lists (Below (Has c.args.set) n) c.loop-var.vars.items) end c.loop-var.invariant
