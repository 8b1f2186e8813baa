use Rattle.std.specs.Prelude.{reverse}
use Rattle.std.specs.List.{AllPairs}
use Rattle.atom_implies.specs.Implies.{Implies, Covers}
use Rattle.canoniser.specs.Parts.{IsPartOf}
use Rattle.canoniser.proofs.PartLemmas.{StandTogether-part, StandTogether-reverse, AllPairs-part, AllPairs-reverse}
use Rattle.canoniser.proofs.StrongestLemmas.{IsPartOf-twice, Covers-twice}
use Rattle.canoniser.proofs.strongest.unimplied.Goals as goal

pub without_implied-requires-2 : goal.without_implied-requires-2
without_implied-requires-2 g c =
    let kept = c.in_ok-kept.kept.items in
    rw c.reverse.ensures.items (StandTogether-reverse kept
    (StandTogether-part kept c.args.atoms.items c.in_ok-kept.ensures.part c.requires.together))

pub returns-clause-part : goal.returns-clause-part
returns-clause-part g c =
    let kept = c.in_ok-kept.kept.items in
    let strongest = c.in_ok-strongest.strongest.items in
    let second : IsPartOf strongest (reverse kept) = rw c.reverse.ensures.items at c.in_ok-strongest.ensures.part in
    rw c.reverse-2.ensures.items (IsPartOf-twice kept strongest c.args.atoms.items c.in_ok-kept.ensures.part second)

pub returns-clause-covers : goal.returns-clause-covers
returns-clause-covers g c =
    let kept = c.in_ok-kept.kept.items in
    let strongest = c.in_ok-strongest.strongest.items in
    let second : Covers strongest (reverse kept) = rw c.reverse.ensures.items at c.in_ok-strongest.ensures.covers in
    rw c.reverse-2.ensures.items (Covers-twice kept strongest c.args.atoms.items c.in_ok-kept.ensures.covers second)

pub returns-clause-apart : goal.returns-clause-apart
returns-clause-apart g c =
    let kept = c.in_ok-kept.kept.items in
    let strongest = c.in_ok-strongest.strongest.items in
    let second : IsPartOf strongest (reverse kept) = rw c.reverse.ensures.items at c.in_ok-strongest.ensures.part in
    let back : AllPairs (λ a b. ¬ Implies b a) (reverse kept) =
    AllPairs-reverse (λ a b. ¬ Implies b a) kept c.in_ok-kept.ensures.apart in
    let here : AllPairs (λ a b. ¬ Implies b a) strongest =
    AllPairs-part (λ a b. ¬ Implies b a) strongest (reverse kept) second back in
    rw c.reverse-2.ensures.items (AllPairs-reverse (λ a b. ¬ Implies a b) strongest here)
