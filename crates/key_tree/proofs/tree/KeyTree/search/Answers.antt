use Rattle.std.proofs.Common.{◌≡◌, ◌+◌, ◌-◌, ◌/◌, ◌<◌, ℕ, length, ap, arith}
use Rattle.key_tree.specs.declared.kid.Kid.{Kid}
use Rattle.key_tree.specs.Tree.{place_at}
use Rattle.key_tree.proofs.SearchLemmas.{anywhere, behind_middle, before_middle, at_middle, position_found, kid_is_some, kid_is_within}
use Rattle.key_tree.proofs.tree.KeyTree.search.Goals as goal

pub loop-low-init : goal.loop-low-init
loop-low-init c =
    anywhere c.args.self.now c.args.place _ c.args.atom.now (ap (λ (kids : _). length kids) c.kids-kids.ensures.kids)

pub offset_bounds-kids-mid : goal.offset_bounds-kids-mid
offset_bounds-kids-mid c =
    let same : length c.kids-kids.result.now ≡ length (place_at c.args.self.now c.args.place).kids = ap (λ (kids : _). length kids) c.kids-kids.ensures.kids in
    let small : c.loop-low.low + (c.loop-low.high - c.loop-low.low) / 2 < length c.kids-kids.result.now = omega (arith, c.loop-low.invariant.within) in
    omega (arith, c.kids-kids.type_inv.1)

pub bounds-kids-mid : goal.bounds-kids-mid
bounds-kids-mid c =
    let same : length c.kids-kids.result.now ≡ length (place_at c.args.self.now c.args.place).kids = ap (λ (kids : _). length kids) c.kids-kids.ensures.kids in
    omega (arith, c.loop-low.invariant.within)

pub atom-requires-clause-some : goal.atom-requires-clause-some
atom-requires-clause-some c =
    let same : length c.kids-kids.result.now ≡ length (place_at c.args.self.now c.args.place).kids = ap (λ (kids : _). length kids) c.kids-kids.ensures.kids in
    kid_is_some c.args.self.now c.args.place _ c.kids-kids.result.now _ c.kids-kids.ensures.tree c.requires
    c.kids-kids.ensures.kids (omega (arith, c.loop-low.invariant.within))

pub atom-requires-clause-within : goal.atom-requires-clause-within
atom-requires-clause-within c =
    let same : length c.kids-kids.result.now ≡ length (place_at c.args.self.now c.args.place).kids = ap (λ (kids : _). length kids) c.kids-kids.ensures.kids in
    kid_is_within c.args.self.now c.args.place _ c.kids-kids.result.now _ c.kids-kids.ensures.tree c.requires
    c.kids-kids.ensures.kids (omega (arith, c.loop-low.invariant.within))

pub loop-low-preserved-in-Less : goal.loop-low-preserved-in-Less
loop-low-preserved-in-Less c =
    let none : Kid = record { place = 0; least = 0; hash = 0 } in
    let mid : ℕ = c.loop-low.low + (c.loop-low.high - c.loop-low.low) / 2 in
    behind_middle c.args.self.now c.args.place _ c.loop-low.high mid c.args.atom.now c.atom.result.now none
    c.order_is_total.ensures c.kids-kids.ensures.tree c.requires c.loop-low.invariant (omega arith) (omega arith)
    (cc) (cc)

pub returns-in-Equal-clause-found : goal.returns-in-Equal-clause-found
returns-in-Equal-clause-found c =
    let none : Kid = record { place = 0; least = 0; hash = 0 } in
    let mid : ℕ = c.loop-low.low + (c.loop-low.high - c.loop-low.low) / 2 in
    at_middle c.args.self.now c.args.place mid c.args.atom.now c.atom.result.now none
    c.order_is_total.ensures (omega (arith, c.loop-low.invariant.within)) (cc) (cc)

pub loop-low-preserved : goal.loop-low-preserved
loop-low-preserved c =
    let none : Kid = record { place = 0; least = 0; hash = 0 } in
    let mid : ℕ = c.loop-low.low + (c.loop-low.high - c.loop-low.low) / 2 in
    before_middle c.args.self.now c.args.place c.loop-low.low c.loop-low.high mid c.args.atom.now c.atom.result.now none
    c.order_is_total.ensures c.kids-kids.ensures.tree c.requires c.loop-low.invariant (omega arith) (omega arith)
    (cc) (cc)

pub returns-clause-missing : goal.returns-clause-missing
returns-clause-missing c =
    position_found c.args.self.now c.args.place c.loop-low.low c.loop-low.high c.args.atom.now c.loop-low.invariant
    (omega arith)
