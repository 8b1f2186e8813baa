use Rattle.std.proofs.Common.{◌≡◌, ℕ, true, sym, subst}
use Rattle.key_tree.specs.Prints.{IsWithin}
use Rattle.sat_trie.proofs.WalkLemmas.{needs_behind}
use Rattle.sat_trie.proofs.walk.may_cover.Goals as goal

pub returns : goal.returns
returns c = λ says number passes.
    let so : c.is_within.result ≡ true =
    c.is_within.ensures.1
    (subst (λ (mask : ℕ). IsWithin c.needs.result mask) (sym c.below.ensures.below)
    (needs_behind c.masks_are_right.ensures c.prints_are_right.ensures c.args.tree.now c.args.place c.args.wanted.now
    c.needs.result number c.below.ensures.tree c.requires c.needs.ensures passes)) in
    absurd (cc)
