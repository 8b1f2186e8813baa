use Rattle.std.proofs.Common.{◌≡◌, ◌≤◌, ◌+◌, false, pos, length, drop, get_or, subst, refl, arith}
use Rattle.lin_model.specs.Lists.{none_there, some_there}
use Rattle.refutation.specs.declared.leaf.LeafTerm.{LeafTerm}
use Rattle.refutation.specs.declared.leaf.On.TheVariants.{Atom as OnAtom}
use Rattle.refutation.specs.declared.node.Node.{Node}
use Rattle.refutation.specs.declared.node.Node.TheVariants.{Split}
use Rattle.refutation.specs.Endings.{StopsAt}
use Rattle.refutation.specs.Facts.{OnFirst-at}
use Rattle.refutation.specs.Reading.{read_over}
use Rattle.refutation.proofs.ReadingLemmas.{IsBehind, behind-start, Treats-rest, reading-goes_on, reading-fails}
use Rattle.refutation.proofs.ReadingLemmas.{reading-step, reading-ends, reading-closes, reading-term_left}
use Rattle.refutation.proofs.checker.close_all.Goals as goal
use Rattle.refutation.proofs.checker.close_all.Goals.{In-Some}

abbrev no_node : Node
no_node = Split 0 (pos 0)

abbrev no_term : LeafTerm
no_term = record { on = OnAtom 0; factor = pos 0 }

pub loop-i-init : goal.loop-i-init
loop-i-init c = record { reading = behind-start _ _ refl; within = omega arith }

step : (c : In-Some) → IsBehind (c.loop-i.i + 1)
    (read_over false c.args.key.now (drop (c.loop-i.i + 1) c.args.nodes.now)
    (drop (c.loop-i.taken + c.in-Some.count) c.args.terms.now) c.treat.new.walk)
    (read_over false c.args.key.now c.args.nodes.now c.args.terms.now c.args.walk)
    × (c.loop-i.taken + c.in-Some.count ≤ length c.args.terms.now)
step c =
    let b = some_there c.loop-i.walk c.is_open.result c.is_open.ensures c.if-not-is_open.false in
    let did = OnFirst-at c.loop-i.walk _ b.0 b.1 b.2 (c.in_ok-treat.ensures {u = tt}) in
    reading-step c.args.key.now c.loop-i.i c.args.nodes.now no_node c.args.terms.now c.loop-i.taken c.in-Some.count b.0
    c.loop-i.walk b.1 c.treat.new.walk c.in_ok-treat.field-0
    (read_over false c.args.key.now c.args.nodes.now c.args.terms.now c.args.walk) c.loop-i-test.true
    c.loop-i.invariant.within b.2 c.in-Some.is
    (Treats-rest c.args.key.now b.0 (get_or c.args.nodes.now c.loop-i.i no_node) c.args.terms.now c.loop-i.taken
    c.in_ok-treat.field-0 b.1 c.treat.new.walk did) c.loop-i.invariant.reading

pub loop-i-preserved : goal.loop-i-preserved
loop-i-preserved c = record { reading = (step c).0; within = (step c).1 }

pub overflow_add-taken : goal.overflow_add-taken
overflow_add-taken c = omega (arith, (step c).1)

pub returns-then-not-is_open-clause-tree_goes_on : goal.returns-then-not-is_open-clause-tree_goes_on
returns-then-not-is_open-clause-tree_goes_on c = λ _.
    reading-goes_on c.args.key.now c.loop-i.i c.args.nodes.now no_node (drop c.loop-i.taken c.args.terms.now)
    c.loop-i.walk _ c.loop-i-test.true
    (none_there c.loop-i.walk c.is_open.result c.is_open.ensures c.if-not-is_open.true) c.loop-i.invariant.reading

pub returns-in-None-clause-node_fails : goal.returns-in-None-clause-node_fails
returns-in-None-clause-node_fails c = λ i e.
    let same : c.loop-i.i ≡ i = cc in
    let b = some_there c.loop-i.walk c.is_open.result c.is_open.ensures c.if-not-is_open.false in
    let did = OnFirst-at c.loop-i.walk _ b.0 b.1 b.2 (c.in_ok-treat.ensures {u = tt}) in
    subst (StopsAt (read_over false c.args.key.now c.args.nodes.now c.args.terms.now c.args.walk)) same
    (reading-fails c.args.key.now c.loop-i.i c.args.nodes.now no_node (drop c.loop-i.taken c.args.terms.now)
    b.0 c.loop-i.walk b.1 c.treat.new.walk c.in_ok-treat.field-0 _ c.loop-i-test.true b.2 c.in-None.is
    (Treats-rest c.args.key.now b.0 (get_or c.args.nodes.now c.loop-i.i no_node) c.args.terms.now c.loop-i.taken
    c.in_ok-treat.field-0 b.1 c.treat.new.walk did) c.loop-i.invariant.reading)

pub returns-then-is_open-clause-tree_ends : goal.returns-then-is_open-clause-tree_ends
returns-then-is_open-clause-tree_ends c = λ _.
    let b = some_there c.loop-i.walk c.is_open-2.result c.is_open-2.ensures c.if-is_open.true in
    reading-ends c.args.key.now c.loop-i.i c.args.nodes.now (drop c.loop-i.taken c.args.terms.now) b.0
    c.loop-i.walk b.1 _ c.loop-i-test.false b.2 c.loop-i.invariant.reading

pub returns-then-taken-terms-clause-tree_goes_on : goal.returns-then-taken-terms-clause-tree_goes_on
returns-then-taken-terms-clause-tree_goes_on c = λ _.
    reading-term_left c.args.key.now c.loop-i.i c.args.nodes.now c.args.terms.now c.loop-i.taken no_term c.loop-i.walk _
    c.loop-i-test.false (none_there c.loop-i.walk c.is_open-2.result c.is_open-2.ensures c.if-is_open.false)
    c.if-taken-terms.true c.loop-i.invariant.reading

pub returns-clause-closed : goal.returns-clause-closed
returns-clause-closed c =
    reading-closes c.args.key.now c.loop-i.i c.args.nodes.now c.args.terms.now c.loop-i.taken c.loop-i.walk _
    c.loop-i-test.false (none_there c.loop-i.walk c.is_open-2.result c.is_open-2.ensures c.if-is_open.false)
    c.if-taken-terms.false c.loop-i.invariant.reading
