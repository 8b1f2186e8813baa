use Rattle.std.proofs.Common.{◌<◌, ◌∷◌, length, rules, subst, sym, arith}
use Rattle.std.specs.List.{All}
use Rattle.key_tree.specs.Tree.{PlainTree, pairs_of}
use Rattle.key_tree.proofs.HoldLemmas.{holding_is_tree, holding_is}
use Rattle.key_tree.proofs.tree.KeyTree.hold.Goals as goal

pub invariant_of-self-2 : goal.invariant_of-self-2
invariant_of-self-2 c =
    let tree : PlainTree = record {
      branches = c.self.inside.branches.items;
      places = c.self.inside.root ∷ c.self.inside.others.items;
      held = c.self.inside.held.items;
    } in
    let within : c.args.place < length tree.places =
    subst (λ (t : PlainTree). c.args.place < length t.places) (sym c.self.view_is) c.requires.within in
    let later : All (λ p. p.number < c.args.number) (pairs_of tree) =
    subst (λ (t : PlainTree). All (λ p. p.number < c.args.number) (pairs_of t)) (sym c.self.view_is) c.requires.later in
    holding_is tree c.args.place c.args.number (c.number_place.new.root ∷ c.number_place.new.others.items)
    c.push.new.self.items c.number_place.ensures (search rules)
    (holding_is_tree tree c.args.place c.args.number c.self.invariant within (omega arith) later)
