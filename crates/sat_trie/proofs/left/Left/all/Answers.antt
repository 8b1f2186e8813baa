use Rattle.std.proofs.Common.{◌/◌, ◌-◌, ◌^◌, refl, arith}
use Rattle.std.proofs.lemmas.List.{get_or-replicate}
use Rattle.sat_trie.proofs.LeftLemmas.{has_place-ones}
use Rattle.sat_trie.proofs.left.Left.all.Goals as goal

pub returns : goal.returns
returns c = record {
  places = λ place lt. has_place-ones _ place (get_or-replicate 6 (place / 64) (2 ^ 64 - 1) 0 (omega arith));
  count = refl;
  needs = refl;
}
