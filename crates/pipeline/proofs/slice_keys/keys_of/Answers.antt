use Rattle.std.proofs.Common.{List, subst, sym}
use Rattle.std.specs.List.{All, AllZip}
use Rattle.slicer.specs.Slices.{PlainSlice}
use Rattle.canoniser.specs.declared.canonical.Canonical.{Canonical}
use Rattle.canoniser.specs.Answers.{Canonises}
use Rattle.pipeline.specs.Keyed.{HasKey, KeepsKeyLimits, IsLeastFalseAmong, AreKeyed}
use Rattle.pipeline.proofs.SliceLemmas.{least_is_false, keys_are_keyed}
use Rattle.pipeline.proofs.slice_keys.keys_of.Goals as goal

pub returns-in-Some : goal.returns-in-Some
returns-in-Some c =
    let cs = c.in_ok-canonicals.canonicals.items in
    let zip : AllZip (Canonises c.args.query.now) c.in_ok-slices.slices.items cs =
    subst (λ (ss : List PlainSlice). AllZip (Canonises c.args.query.now) ss cs) c.deref.ensures.value
    (c.in_ok-canonicals.ensures {u = tt}) in
    let least : IsLeastFalseAmong cs c.in-Some.j =
    subst (λ (xs : List Canonical). IsLeastFalseAmong xs c.in-Some.j) c.deref-2.ensures.value
    (c.in-Some.ensures {u = tt}) in
    record {
      slices = c.in_ok-slices.slices.items;
      are = c.in_ok-slices.ensures {u = tt};
      least =
          least_is_false c.args.query.now c.in_ok-slices.slices.items cs c.in-Some.j c.slices_are_a_partition.ensures
          c.keeps_limits.ensures.fits (c.in_ok-slices.ensures {u = tt}) zip least;
    }

pub returns : goal.returns
returns c =
    let cs = c.in_ok-canonicals.canonicals.items in
    let zip : AllZip (Canonises c.args.query.now) c.in_ok-slices.slices.items cs =
    subst (λ (ss : List PlainSlice). AllZip (Canonises c.args.query.now) ss cs) c.deref.ensures.value
    (c.in_ok-canonicals.ensures {u = tt}) in
    let keys : All HasKey cs =
    subst (λ (xs : List Canonical). All HasKey xs) c.deref-2.ensures.value (c.in_default.ensures {u = tt}) in
    let made = c.in_ok-with_variables.ensures {u = tt} in
    subst (AreKeyed c.args.query.now) (sym made.keys)
    (keys_are_keyed c.args.query.now c.in_ok-slices.slices.items cs c.slices_are_a_partition.ensures
    c.keeps_limits.ensures.fits (c.in_ok-slices.ensures {u = tt}) zip keys
    (subst (All KeepsKeyLimits) made.keys made.limits))
