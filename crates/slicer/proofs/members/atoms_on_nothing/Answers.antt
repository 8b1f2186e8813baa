use Rattle.std.proofs.Common.{◌≡◌, ℕ, length, get_or, arith, subst}
use Rattle.std.specs.List.{HoldsAt}
use Rattle.std.proofs.lemmas.List.{get_or_default}
use Rattle.std.proofs.lemmas.List.Elements.{at_read}
use Rattle.slicer.specs.declared.var_set.VarSet.{VarSet}
use Rattle.slicer.specs.Slices.{Lists}
use Rattle.slicer.specs.VarSets.{IsVoid}
use Rattle.slicer.proofs.ListsLemmas.{Below, Lists-kept, Lists-skipped}
use Rattle.slicer.proofs.members.atoms_on_nothing.Goals as goal
use Rattle.slicer.proofs.members.atoms_on_nothing.Goals.{then-is_empty+in_ok-push, else-is_empty}

pub loop-j-preserved : goal.loop-j-preserved
loop-j-preserved c =
    let sets = c.args.sets.now in
    let j = c.loop-j.j in
    let empty : VarSet = record { bits = 0 } in
    let P : ℕ → Type 0 = HoldsAt IsVoid sets in
    let so_far = c.loop-j.invariant in
    elim c.if-is_empty.branch [
      | then-is_empty+in_ok-push w ↦ rw (w.atoms-is, w.in_ok-push.ensures.items)
          (Lists-kept P j c.loop-j.atoms.items so_far
          (at_read sets IsVoid j (get_or sets j empty) c.loop-j-test.true
          (get_or_default sets j empty (get_or sets j empty) c.loop-j-test.true)
          (c.is_empty.ensures.0 w.if-is_empty.true)))
      | else-is_empty w ↦ rw w.atoms-is
          (Lists-skipped P j c.loop-j.atoms.items so_far
          (λ here. let yes = c.is_empty.ensures.1 (here empty) in let no_more = w.if-is_empty.false in absurd (cc)))
    ]

pub returns : goal.returns
returns c =
    let end : c.loop-j.j ≡ length c.args.sets.now = omega arith in
    subst (λ (n : ℕ). Lists (Below (HoldsAt IsVoid c.args.sets.now) n) c.loop-j.atoms.items) end c.loop-j.invariant
