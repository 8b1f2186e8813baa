use Rattle.std.proofs.Common.{◌≤◌, List, arith, length, subst}
use Rattle.lin_model.specs.KeyAtom.{PlainKeyAtom}
use Rattle.key_tree.specs.Held.{HavePrefixes}
use Rattle.store_rows.proofs.tries.first_of_two.Goals as goal

pub returns : goal.returns
returns g c =
    let nodes = subst (HavePrefixes c.args.trie.now) c.if-nodes-ne2.false c.nodes.ensures.prefixes in
    let cost = c.first.ensures.cost 2 nodes in
    let same = c.atoms.ensures.atoms in
    let few : length c.args.key.now ≤ 3 = subst (λ (atoms : List PlainKeyAtom). length atoms ≤ 3) same c.if-atoms-gt3.false in
    omega arith
