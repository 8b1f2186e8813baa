use Rattle.std.proofs.Common.{◌≡◌, Some, None, refl, ap, sym, ◌∙◌, subst}
use Rattle.lin_model.specs.Key.{KeyHolds}
use Rattle.refutation.specs.Bounds.{PlainBounds}
use Rattle.refutation.specs.Box.{PlainBox}
use Rattle.refutation.specs.Boxed.{HasShortSides}
use Rattle.refutation.specs.Leaf.{Closes, leaf_of}
use Rattle.refutation.specs.SearchOrder.{lowest_corner, step}
use Rattle.combos.specs.Found.{box_of, StaysOpen}
use Rattle.box_solver.specs.declared.found.Found.TheVariants.{Model}
use Rattle.box_solver.specs.Steps.{SplitsFairly}
use Rattle.box_solver.proofs.SearchLemmas.{stands-start, stands-box, box-is, stands-closed, stands-refuted, is_undecided}
use Rattle.box_solver.proofs.SearchLemmas.{stands-split, stands-model, stands-spent, marks-room}
use Rattle.box_solver.proofs.search.solve.Goals as goal

pub boxes-init : goal.boxes-init
boxes-init c =
    stands-start c.args.key.now c.args.budget c.args.region.now c.root-position.result c.root-position.ensures.key
    c.requires.boxed c.root-position.ensures.sides c.requires.reserved c.requires.trail c.root-position.ensures.root

-- ---- a leaf

pub go_on-requires-clause-short : goal.go_on-requires-clause-short
go_on-requires-clause-short c =
    (stands-box c.args.key.now c.args.budget c.args.region.now c.boxes.region c.boxes.splits c.boxes.position
    c.boxes.invariant).short

pub returns-then-not-go_on : goal.returns-then-not-go_on
returns-then-not-go_on c =
    let key = c.args.key.now in
    let box = c.boxes.position in
    let leaf = leaf_of c.in-Some.leaf in
    let same = box-is box c.bounds.result.now c.sides.result.now c.bounds.ensures c.sides.ensures.sides in
    let ended = c.go_on.ensures.none c.if-not-go_on.true in
    stands-refuted key c.args.budget c.args.region.now c.boxes.region c.push_leaf.new.region c.go_on.new.region
    c.boxes.splits box leaf c.boxes.invariant
    (subst (λ (b : PlainBox). Closes key b leaf) same (c.in-Some.ensures {u = tt}).closes)
    (record { adds = c.push_leaf.ensures.adds; trail = c.push_leaf.ensures.trail }) c.go_on.ensures.moves ended.0 ended.1

pub boxes-preserved-in-Some : goal.boxes-preserved-in-Some
boxes-preserved-in-Some c =
    let key = c.args.key.now in
    let box = c.boxes.position in
    let leaf = leaf_of c.in-Some.leaf in
    let same = box-is box c.bounds.result.now c.sides.result.now c.bounds.ensures c.sides.ensures.sides in
    stands-closed key c.args.budget c.args.region.now c.boxes.region c.push_leaf.new.region c.go_on.new.region
    c.boxes.splits box c.go_on.new.self leaf c.boxes.invariant
    (subst (λ (b : PlainBox). Closes key b leaf) same (c.in-Some.ensures {u = tt}).closes)
    (record { adds = c.push_leaf.ensures.adds; trail = c.push_leaf.ensures.trail }) c.go_on.ensures.moves
    (c.go_on.ensures.found c.if-not-go_on.false) c.go_on.ensures.trail

-- ---- the other ends

pub returns-in_default-step : goal.returns-in_default-step
returns-in_default-step c =
    let key = c.args.key.now in
    let box = c.boxes.position in
    stands-model key c.args.budget c.args.region.now c.boxes.region c.empty_trail.new.region c.boxes.splits box
    (Model c.lowest_corner.result) c.lowest_corner.result.items c.boxes.invariant c.empty_trail.ensures.adds_none
    c.empty_trail.ensures.trail refl
    (c.lowest_corner.ensures.values ∙ ap (λ (b : PlainBounds). lowest_corner key b) c.bounds-in_default-step.ensures)
    (c.lowest_corner.ensures.small (subst HasShortSides (sym c.bounds-in_default-step.ensures)
    (stands-box key c.args.budget c.args.region.now c.boxes.region c.boxes.splits box c.boxes.invariant).short))
    (subst (KeyHolds key)
    (ap (λ (b : PlainBounds). lowest_corner key b) c.bounds-in-boxes.ensures
    ∙ sym (ap (λ (b : PlainBounds). lowest_corner key b) c.bounds-in_default-step.ensures)
    ∙ sym c.lowest_corner.ensures.values) (c.step.ensures.none.0 c.in_default-step.is))

pub leave_open-requires : goal.leave_open-requires
leave_open-requires c =
    marks-room c.args.key.now c.args.budget c.args.region.now c.boxes.region c.boxes.splits c.boxes.position
    c.boxes.invariant

pub returns-then-splits-budget : goal.returns-then-splits-budget
returns-then-splits-budget c =
    let key = c.args.key.now in
    let box = c.boxes.position in
    let same = box-is box c.bounds.result.now c.sides.result.now c.bounds.ensures c.sides.ensures.sides in
    let open_ = subst (StaysOpen key) same (c.find_combo.ensures.none c.in_default.is) in
    stands-spent c.open_trees_are_below_room.ensures key c.args.budget c.args.region.now c.boxes.region
    c.leave_open.new.region c.boxes.splits box c.boxes.invariant c.leave_open.ensures.left c.leave_open.ensures.trail
    c.if-splits-budget.true
    (is_undecided key box open_ (λ holds. let none = c.step.ensures.none.1 (subst (KeyHolds key)
    (ap (λ (b : PlainBounds). lowest_corner key b) (sym c.bounds-in-boxes.ensures)) holds) in
    let some = c.in-Some-step.is in
    absurd (cc))) c.root-position.ensures.key c.requires.boxed

-- ---- a split

pub enter-requires-clause-split : goal.enter-requires-clause-split
enter-requires-clause-split c =
    let key = c.args.key.now in
    let box = c.boxes.position in
    let same = box-is box c.bounds-in-boxes.result.now c.sides-in-boxes.result.now c.bounds-in-boxes.ensures
    c.sides-in-boxes.ensures.sides in
    record {
      key = key;
      is_key = c.root-position.ensures.key;
      search_box = stands-box key c.args.budget c.args.region.now c.boxes.region c.boxes.splits box c.boxes.invariant;
      fair = subst (λ (b : PlainBox). SplitsFairly key b c.in-Some-step.node) same
          (c.in-Some-step.ensures {u = tt}).fair;
    }

pub boxes-preserved : goal.boxes-preserved
boxes-preserved c =
    let key = c.args.key.now in
    let box = c.boxes.position in
    let node = c.in-Some-step.node in
    let same = box-is box c.bounds.result.now c.sides.result.now c.bounds.ensures c.sides.ensures.sides in
    let same_2 = box-is box c.bounds-in-boxes.result.now c.sides-in-boxes.result.now c.bounds-in-boxes.ensures
    c.sides-in-boxes.ensures.sides in
    let open_ = subst (StaysOpen key) same (c.find_combo.ensures.none c.in_default.is) in
    stands-split c.cuts_leave_proper_halves.ensures key c.args.budget c.args.region.now c.boxes.region
    c.enter.new.region c.boxes.splits box c.enter.new.position node c.boxes.invariant c.if-splits-budget.false
    (is_undecided key box open_ (λ holds. let none = c.step.ensures.none.1 (subst (KeyHolds key)
    (ap (λ (b : PlainBounds). lowest_corner key b) (sym c.bounds-in-boxes.ensures)) holds) in
    let some = c.in-Some-step.is in
    absurd (cc))) (subst (λ (b : PlainBox). SplitsFairly key b node) same_2 (c.in-Some-step.ensures {u = tt}).fair)
    (ap (step key) (sym same_2) ∙ sym c.step.ensures.node ∙ c.in-Some-step.is) c.enter.ensures.enters
    c.enter.ensures.boxes c.enter.ensures.trail
