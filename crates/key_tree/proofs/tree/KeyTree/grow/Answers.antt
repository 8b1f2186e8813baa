use Rattle.std.proofs.Common.{◌≡◌, ◌+◌, ◌-◌, ◌<◌, ◌∷◌, [], ◌++◌, List, length, take, drop, rules, subst, sym, ap, ◌∙◌, arith}
use Rattle.std.specs.List.{All}
use Rattle.lin_model.specs.KeyAtom.{PlainKeyAtom}
use Rattle.key_tree.specs.declared.branch.Branch.{Branch}
use Rattle.key_tree.specs.Places.{PlainPlace}
use Rattle.key_tree.specs.Tree.{PlainTree, Pair, pairs_of, no_branch}
use Rattle.key_tree.specs.Growth.{IsFront, MayWiden, AreMasked}
use Rattle.key_tree.proofs.ChainLemmas.{slice_to_end}
use Rattle.key_tree.proofs.GrownWays.{pairs_new}
use Rattle.key_tree.proofs.GrowthLemmas.{grown_tree}
use Rattle.key_tree.proofs.JoinLemmas.{Joined, joined_may_widen, joined_grew}
use Rattle.key_tree.proofs.tree.KeyTree.grow.Goals as goal

pub join_chain-requires-clause-at : goal.join_chain-requires-clause-at
join_chain-requires-clause-at c =
    let tree : PlainTree = record {
      branches = c.self.inside.branches.items;
      places = c.self.inside.root ∷ c.self.inside.others.items;
      held = c.self.inside.held.items;
    } in
    let front : IsFront tree c.args.key.now c.args.front =
    subst (λ (t : PlainTree). IsFront t c.args.key.now c.args.front) (sym c.self.view_is) c.requires.front in
    (front.next (no_branch).atom c.requires.more).within

pub widen_to-requires : goal.widen_to-requires
widen_to-requires c =
    let tree : PlainTree = record {
      branches = c.self.inside.branches.items;
      places = c.self.inside.root ∷ c.self.inside.others.items;
      held = c.self.inside.held.items;
    } in
    let next : c.len.result + 1 ≡ length tree.places = search rules in
    let joins = c.in_ok-join_chain.ensures {u = tt} in
    let joined : Joined tree c.args.key.now
    (take (length c.atoms.result.now - c.args.front.len) (drop c.args.front.len c.atoms.result.now)) c.args.front
    (c.len.result + 1) c.args.number c.in_ok-chain.chain.branches.items c.in_ok-chain.chain.places.items
    c.in_ok-chain.chain.kid c.in_ok-chain.chain.gives c.in_ok-chain.chain.held c.join_chain.new.branches.items
    (c.join_chain.new.root ∷ c.join_chain.new.others.items) = record {
      keeps = c.self.invariant;
      is_front = subst (λ (t : PlainTree). IsFront t c.args.key.now c.args.front) (sym c.self.view_is) c.requires.front;
      short = c.requires.more;
      later = subst (λ (t : PlainTree). All (λ p. p.number < c.args.number) (pairs_of t)) (sym c.self.view_is)
          c.requires.later;
      small = omega arith;
      left_is = slice_to_end c.atoms.result.now c.args.front.len
          ∙ ap (λ (atoms : List PlainKeyAtom). drop c.args.front.len atoms) c.atoms.ensures.atoms;
      next_is = next;
      chain = c.in_ok-chain.ensures {u = tt};
      branches_are = joins.branches;
      places_are = joins.places;
    } in
    subst (λ (bs : List Branch). MayWiden bs (c.join_chain.new.root ∷ c.join_chain.new.others.items)
    c.in_ok-chain.chain.held.place) (sym c.deref.ensures.value)
    (joined_may_widen tree c.args.key.now _ c.args.front _ c.args.number _ _ _ _ c.in_ok-chain.chain.held _ _ joined)

pub invariant_of-self-2 : goal.invariant_of-self-2
invariant_of-self-2 c =
    let tree : PlainTree = record {
      branches = c.self.inside.branches.items;
      places = c.self.inside.root ∷ c.self.inside.others.items;
      held = c.self.inside.held.items;
    } in
    let next : c.len.result + 1 ≡ length tree.places = search rules in
    let joins = c.in_ok-join_chain.ensures {u = tt} in
    let joined : Joined tree c.args.key.now
    (take (length c.atoms.result.now - c.args.front.len) (drop c.args.front.len c.atoms.result.now)) c.args.front
    (c.len.result + 1) c.args.number c.in_ok-chain.chain.branches.items c.in_ok-chain.chain.places.items
    c.in_ok-chain.chain.kid c.in_ok-chain.chain.gives c.in_ok-chain.chain.held c.join_chain.new.branches.items
    (c.join_chain.new.root ∷ c.join_chain.new.others.items) = record {
      keeps = c.self.invariant;
      is_front = subst (λ (t : PlainTree). IsFront t c.args.key.now c.args.front) (sym c.self.view_is) c.requires.front;
      short = c.requires.more;
      later = subst (λ (t : PlainTree). All (λ p. p.number < c.args.number) (pairs_of t)) (sym c.self.view_is)
          c.requires.later;
      small = omega arith;
      left_is = slice_to_end c.atoms.result.now c.args.front.len
          ∙ ap (λ (atoms : List PlainKeyAtom). drop c.args.front.len atoms) c.atoms.ensures.atoms;
      next_is = next;
      chain = c.in_ok-chain.ensures {u = tt};
      branches_are = joins.branches;
      places_are = joins.places;
    } in
    let wide : List PlainPlace = c.widen_to.new.root ∷ c.widen_to.new.others.items in
    let masked : AreMasked c.join_chain.new.branches.items wide =
    subst (λ (bs : List Branch). AreMasked bs wide) c.deref.ensures.value c.widen_to.ensures.masked in
    let grew = joined_grew tree c.args.key.now _ c.args.front _ c.args.number _ _ _ _ c.in_ok-chain.chain.held _ _ joined
    wide c.join_chain.new.held.items c.widen_to.ensures.same masked joins.held in
    grown_tree grew

pub returns-clause-held : goal.returns-clause-held
returns-clause-held c =
    let tree : PlainTree = record {
      branches = c.self.inside.branches.items;
      places = c.self.inside.root ∷ c.self.inside.others.items;
      held = c.self.inside.held.items;
    } in
    let next : c.len.result + 1 ≡ length tree.places = search rules in
    let joins = c.in_ok-join_chain.ensures {u = tt} in
    let joined : Joined tree c.args.key.now
    (take (length c.atoms.result.now - c.args.front.len) (drop c.args.front.len c.atoms.result.now)) c.args.front
    (c.len.result + 1) c.args.number c.in_ok-chain.chain.branches.items c.in_ok-chain.chain.places.items
    c.in_ok-chain.chain.kid c.in_ok-chain.chain.gives c.in_ok-chain.chain.held c.join_chain.new.branches.items
    (c.join_chain.new.root ∷ c.join_chain.new.others.items) = record {
      keeps = c.self.invariant;
      is_front = subst (λ (t : PlainTree). IsFront t c.args.key.now c.args.front) (sym c.self.view_is) c.requires.front;
      short = c.requires.more;
      later = subst (λ (t : PlainTree). All (λ p. p.number < c.args.number) (pairs_of t)) (sym c.self.view_is)
          c.requires.later;
      small = omega arith;
      left_is = slice_to_end c.atoms.result.now c.args.front.len
          ∙ ap (λ (atoms : List PlainKeyAtom). drop c.args.front.len atoms) c.atoms.ensures.atoms;
      next_is = next;
      chain = c.in_ok-chain.ensures {u = tt};
      branches_are = joins.branches;
      places_are = joins.places;
    } in
    let wide : List PlainPlace = c.widen_to.new.root ∷ c.widen_to.new.others.items in
    let masked : AreMasked c.join_chain.new.branches.items wide =
    subst (λ (bs : List Branch). AreMasked bs wide) c.deref.ensures.value c.widen_to.ensures.masked in
    let grew = joined_grew tree c.args.key.now _ c.args.front _ c.args.number _ _ _ _ c.in_ok-chain.chain.held _ _ joined
    wide c.join_chain.new.held.items c.widen_to.ensures.same masked joins.held in
    let pair : Pair = record { key = c.args.key.now; number = c.args.number } in
    pairs_new grew
    ∙ ap (λ (t : PlainTree). pairs_of t ++ pair ∷ []) c.self.view_is
