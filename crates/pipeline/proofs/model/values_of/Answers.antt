use Rattle.std.proofs.Common.{◌≡◌, ℤ, List, length, sym, subst, rules}
use Rattle.std.proofs.lemmas.List.{with_items_is}
use Rattle.lin_model.specs.Conditions.{Holds}
use Rattle.pipeline.proofs.ClassLemmas.{apart}
use Rattle.pipeline.proofs.PlacedLemmas.{all_within, points_wide, values_hold}
use Rattle.pipeline.proofs.model.values_of.Goals as goal

pub place_all-requires-clause-within : goal.place_all-requires-clause-within
place_all-requires-clause-within c =
    let made = c.in_ok-values.ensures {u = tt} in
    let long : length c.deref_mut.result.now ≡ length c.args.query.now.vars = search rules in
    all_within c.args.query.now c.args.slices.now (length c.deref_mut.result.now) c.requires.keyed long

pub place_all-requires-clause-apart : goal.place_all-requires-clause-apart
place_all-requires-clause-apart c =
    apart c.args.query.now c.args.slices.now c.requires.keyed c.slices_are_a_partition.ensures c.vars.ensures.fits

pub place_all-requires-clause-wide : goal.place_all-requires-clause-wide
place_all-requires-clause-wide c =
    points_wide c.args.query.now c.requires.keyed.are.classes c.args.slices.now c.args.replies.now
    c.requires.keyed.each c.requires.found

pub returns-clause-holds : goal.returns-clause-holds
returns-clause-holds c =
    let made = c.in_ok-values.ensures {u = tt} in
    let same : length c.place_all.new.values ≡ c.in_ok-values.values.len = search rules in
    let long : length c.place_all.new.values ≡ length c.args.query.now.vars = search rules in
    subst (λ (values : List ℤ). Holds c.args.query.now values)
    (sym (with_items_is c.in_ok-values.values c.place_all.new.values same))
    (values_hold c.args.query.now c.args.slices.now c.args.replies.now c.place_all.new.values c.requires.keyed
    c.slices_are_a_partition.ensures c.vars.ensures.fits c.requires.found c.place_all.ensures.placed long)
