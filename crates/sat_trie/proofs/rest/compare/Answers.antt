use Rattle.std.proofs.Common.{inl, refl}
use Rattle.sat_trie.proofs.LeftLemmas.{test_fails}
use Rattle.sat_trie.proofs.rest.compare.Goals as goal

pub returns-then-not-has-clause-compared : goal.returns-then-not-has-clause-compared
returns-then-not-has-clause-compared g c =
    inl (record {
      not_left = test_fails c.args.rest.now.left.words c.args.place c.has.result c.has.ensures.1 (cc);
      same = refl;
    })
