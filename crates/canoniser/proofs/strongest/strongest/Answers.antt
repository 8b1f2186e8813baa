use Rattle.std.proofs.Common.{arith}
use Rattle.std.specs.List.{Contains}
use Rattle.std.proofs.lemmas.List.Sorted.{length_permutation}
use Rattle.lin_model.specs.KeyAtom.{PlainKeyAtom}
use Rattle.lin_model.specs.Key.{FitsKey}
use Rattle.atom_implies.specs.Implies.{Covers}
use Rattle.canoniser.proofs.PartLemmas.{Contains-part, length-part}
use Rattle.canoniser.proofs.ImplicationLemmas.{Covers-from_each, Covers-each}
use Rattle.canoniser.proofs.StrongestLemmas.{StandTogether-sorted, Ascends-part, IsStrongest-part, Contains-same}
use Rattle.canoniser.proofs.StrongestLemmas.{Contains-moved}
use Rattle.canoniser.proofs.strongest.strongest.Goals as goal

pub unimplied-requires-clause-together : goal.unimplied-requires-clause-together
unimplied-requires-clause-together c =
    StandTogether-sorted c.order_is_total.ensures c.sorted-sorted.result.items c.sorted-sorted.ensures.sorted

pub unreachable-requires : goal.unreachable-requires
unreachable-requires c =
    let kept = c.in_ok-kept.kept.items in
    let sorted = c.sorted-sorted.result.items in
    let same = length_permutation c.args.atoms.items sorted c.sorted-sorted.ensures.permutation in
    let fewer = length-part kept sorted c.in_ok-kept.ensures.part in
    let fits : FitsKey kept = record {
      ascends =
          Ascends-part c.order_is_total.ensures kept sorted c.in_ok-kept.ensures.part c.sorted-sorted.ensures.sorted
          c.in_ok-kept.ensures.apart;
      few = omega arith;
    } in
    let no_more = c.in-Err.ensures.fits.1 fits in
    cc

pub returns-clause-just : goal.returns-clause-just
returns-clause-just c =
    let kept = c.in_ok-kept.kept.items in
    let sorted = c.sorted-sorted.result.items in
    let given = c.args.atoms.items in
    let covers : Covers kept given = Covers-from_each kept given
    (λ b has. Covers-each kept sorted c.in_ok-kept.ensures.covers b
    (Contains-moved given sorted c.sorted-sorted.ensures.permutation b has)) in
    let part : (a : PlainKeyAtom) → Contains kept a → Contains given a =
    λ a has. Contains-same given sorted c.sorted-sorted.ensures.permutation a
    (Contains-part kept sorted a c.in_ok-kept.ensures.part has) in
    rw c.in-Ok.ensures.key
    (IsStrongest-part c.table_is_right.ensures kept given part covers c.in_ok-kept.ensures.apart
    c.in_ok-kept.ensures.apart_back)

pub returns-clause-covers : goal.returns-clause-covers
returns-clause-covers c =
    let kept = c.in_ok-kept.kept.items in
    let sorted = c.sorted-sorted.result.items in
    let given = c.args.atoms.items in
    rw c.in-Ok.ensures.key (Covers-from_each kept given
    (λ b has. Covers-each kept sorted c.in_ok-kept.ensures.covers b
    (Contains-moved given sorted c.sorted-sorted.ensures.permutation b has)))
