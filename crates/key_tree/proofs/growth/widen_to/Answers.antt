use Rattle.std.proofs.Common.{◌<◌, ◌∷◌, List, arith, ap, ◌∙◌, ℕ, subst, sym}
use Rattle.std.specs.Int.RustNames.{bit_or}
use Rattle.key_tree.specs.declared.kid.Kid.{Kid}
use Rattle.key_tree.specs.Places.{AreApart, PlainPlace}
use Rattle.key_tree.proofs.WidenLemmas.{widening_starts, widening_more, widening_ends, branch_older, branch_gives}
use Rattle.key_tree.proofs.growth.widen_to.Goals as goal

pub loop-place-init : goal.loop-place-init
loop-place-init c = λ may. widening_starts _ _ _ may

pub bounds-branches-place : goal.bounds-branches-place
bounds-branches-place c =
    let w = c.loop-place.invariant c.requires in
    omega (arith, w.within, w.same.counts, c.requires.sized)

pub widen_place-requires-clause-within : goal.widen_place-requires-clause-within
widen_place-requires-clause-within c =
    (branch_older _ _ _ _ _ c.loop-place.place _ c.index-branches-place.result c.requires
    (c.loop-place.invariant c.requires) (omega arith) c.index-branches-place.is).2

pub widen_place-requires-clause-masks : goal.widen_place-requires-clause-masks
widen_place-requires-clause-masks c =
    (c.loop-place.invariant c.requires).counts c.index-branches-place.result.from
    (branch_older _ _ _ _ _ c.loop-place.place _ c.index-branches-place.result c.requires
    (c.loop-place.invariant c.requires) (omega arith) c.index-branches-place.is).2

pub widen_place-requires-clause-apart : goal.widen_place-requires-clause-apart
widen_place-requires-clause-apart c =
    let w = c.loop-place.invariant c.requires in
    let up = c.index-branches-place.result.from in
    let older = branch_older _ _ _ _ _ c.loop-place.place _ c.index-branches-place.result c.requires w (omega arith)
    c.index-branches-place.is in
    subst (λ (kids : List Kid). AreApart kids) (sym (w.same.kids up))
    (c.requires.apart up (omega (arith, w.same.counts, older.2)))

pub loop-place-smaller : goal.loop-place-smaller
loop-place-smaller c =
    (branch_older _ _ _ _ _ c.loop-place.place _ c.index-branches-place.result c.requires
    (c.loop-place.invariant c.requires) (omega arith) c.index-branches-place.is).1

pub loop-place-preserved : goal.loop-place-preserved
loop-place-preserved c = λ may.
    let w = c.loop-place.invariant may in
    let some : 0 < c.loop-place.place = omega arith in
    let olds : List PlainPlace = c.args.root.now ∷ c.args.others.now.items in
    widening_more c.args.branches.now olds (c.loop-place.root ∷ c.loop-place.others.items) _ c.args.last c.loop-place.place
    c.loop-place.mask (bit_or c.loop-place.mask c.gives_of-mask.result) c.index-branches-place.result.from may w some
    (branch_older _ _ _ _ _ c.loop-place.place _ c.index-branches-place.result may w some c.index-branches-place.is).0
    (ap (λ (m : ℕ). bit_or c.loop-place.mask m) (c.gives_of-mask.ensures
    ∙ branch_gives _ _ _ _ _ c.loop-place.place _ c.index-branches-place.result may w some c.index-branches-place.is))
    c.widen_place.ensures

pub returns-clause-same : goal.returns-clause-same
returns-clause-same c = (c.loop-place.invariant c.requires).same

pub returns-clause-masked : goal.returns-clause-masked
returns-clause-masked c = widening_ends _ _ _ _ _ _ _ c.requires (c.loop-place.invariant c.requires) (omega arith)
