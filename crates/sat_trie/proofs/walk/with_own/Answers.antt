use Rattle.std.proofs.Common.{◌≡◌, [], true}
use Rattle.key_tree.specs.Found.{found_here, none_here}
use Rattle.key_tree.specs.Walks.{Meets, covering}
use Rattle.sat_trie.proofs.CoverLemmas.{Covers-empty, Covers-nothing}
use Rattle.sat_trie.proofs.walk.with_own.Goals as goal

pub returns-then-is_empty : goal.returns-then-is_empty
returns-then-is_empty c =
    found_here c.args.tree.now c.args.place (Meets (covering c.args.wanted.now)) c.args.best c.lesser.result c.number-number.result
    c.number-number.ensures.tree c.requires c.number-number.ensures.number
    (Covers-empty [] c.args.wanted.now (c.is_empty.ensures.0 (cc)))
    c.lesser.ensures.falls c.lesser.ensures.attained c.lesser.ensures.least

pub returns-else-is_empty : goal.returns-else-is_empty
returns-else-is_empty c =
    none_here c.args.tree.now c.args.place (Meets (covering c.args.wanted.now)) c.args.best
    (λ covers. let so : c.is_empty.result ≡ true = c.is_empty.ensures.1 (Covers-nothing c.args.wanted.now covers) in
    absurd (cc))
