use Rattle.std.proofs.Common.{◌+◌, Bool, sym, subst}
use Rattle.std.proofs.lemmas.Bool.{MatchBool-at_false, MatchBool-at_true}
use Rattle.unsat_core.specs.Steps.{AreTried, IsLeftOut, Stays}
use Rattle.unsat_core.proofs.TriedLemmas.{AreTried-stays, Shrinks-left_out}
use Rattle.unsat_core.proofs.least.leave_out_some.Goals as goal
use Rattle.unsat_core.proofs.least.leave_out_some.Goals.{then-branch, else-branch}

pub loop-atom-preserved : goal.loop-atom-preserved
loop-atom-preserved c =
    let r = c.args.refuted.now in
    let start = c.args.choice.now in
    let now = c.loop-atom.choice in
    let after = c.leave_out.new.choice in
    elim c.if-branch.branch [
      | then-branch w ↦
          subst (λ (b : Bool). AreTried r start (c.loop-atom.atom + 1) after b) (sym w.some-is)
          (Shrinks-left_out r start c.loop-atom.atom now c.loop-atom.some after c.loop-atom.invariant
          (MatchBool-at_true (IsLeftOut r now c.loop-atom.atom after) (Stays r now c.loop-atom.atom after)
          w.if-branch.true c.in_ok-leave_out.ensures))
      | else-branch w ↦
          subst (λ (b : Bool). AreTried r start (c.loop-atom.atom + 1) after b) (sym w.some-is)
          (AreTried-stays r start c.loop-atom.atom now c.loop-atom.some after c.loop-atom.invariant
          (MatchBool-at_false (IsLeftOut r now c.loop-atom.atom after) (Stays r now c.loop-atom.atom after)
          w.if-branch.false c.in_ok-leave_out.ensures))
    ]
