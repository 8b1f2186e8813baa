use Rattle.std.proofs.Common.{◌≡◌, length, rules, arith}
use Rattle.sat_trie.proofs.LeftLemmas.{without_place}
use Rattle.sat_trie.proofs.left.Left.remove.Goals as goal

pub returns : goal.returns
returns c =
    let six : length c.args.self.now.words ≡ 6 = search rules in
    without_place c.args.self.now c.args.place c.from.result c.place_bit.result _ six c.requires.within c.from.ensures
    c.place_bit.ensures c.requires.has (omega (arith, c.requires.some))
