use Rattle.std.proofs.Common.{◌≡◌, ◌+◌, ◌++◌, ◌∷◌, [], List, drop, ap, ◌∙◌, subst, sym, rules}
use Rattle.lin_model.specs.KeyAtom.{PlainKeyAtom}
use Rattle.key_tree.specs.Places.{PlainPlace}
use Rattle.key_tree.specs.Growth.{places_of_chain, place_before_chain}
use Rattle.key_tree.proofs.ChainLemmas.{slice_to_end, place_written, places_written}
use Rattle.key_tree.proofs.chain.chain_places.Goals as goal

pub loop-count-preserved : goal.loop-count-preserved
loop-count-preserved c =
    let whole : List PlainPlace = places_of_chain c.args.next c.args.atoms.now c.args.number in
    let written : c.push.new.self.items ≡ c.loop-count.places.items ++ c.in_ok-place.place ∷ [] = search rules in
    let is : c.in_ok-place.place ≡ place_before_chain (c.args.next + c.loop-count.count + 1)
    (drop (c.loop-count.count + 1) c.args.atoms.now) c.args.number =
    c.in_ok-place.ensures {u = tt}
    ∙ ap (λ (rest : List PlainKeyAtom). place_before_chain (c.args.next + c.loop-count.count + 1) rest c.args.number)
    (slice_to_end c.args.atoms.now (c.loop-count.count + 1)) in
    subst (λ (places : List PlainPlace). places
    ++ places_of_chain (c.args.next + (c.loop-count.count + 1)) (drop (c.loop-count.count + 1) c.args.atoms.now)
    c.args.number ≡ whole)
    (sym written)
    (place_written c.loop-count.places.items whole c.args.next c.loop-count.count c.args.number c.args.atoms.now
    c.in_ok-place.place c.loop-count-test.true is c.loop-count.invariant)

pub returns : goal.returns
returns c =
    places_written c.loop-count.places.items _ _ c.loop-count.count c.args.number c.args.atoms.now
    c.loop-count-test.false c.loop-count.invariant
