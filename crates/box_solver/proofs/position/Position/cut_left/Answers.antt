use Rattle.std.proofs.Common.{ℤ, FitsSigned, to_z, of_z, ap, sym, ◌∙◌, subst, rules}
use Rattle.std.specs.Int.{w64}
use Rattle.std.proofs.lemmas.Int.{to_z-of_z}
use Rattle.refutation.specs.Box.{PlainBox}
use Rattle.refutation.specs.Boxed.{HasShortSides}
use Rattle.box_solver.specs.declared.turn.Turn.TheVariants.{CutLeft}
use Rattle.box_solver.specs.Region.{PlainTreeRegion}
use Rattle.box_solver.specs.Trail.{item_of}
use Rattle.box_solver.proofs.TrailLemmas.{cut-enters}
use Rattle.box_solver.proofs.position.Position.cut_left.Goals as goal

pub returns-clause-boxes : goal.returns-clause-boxes
returns-clause-boxes c =
    let between = c.requires.between in
    let upper = c.upper_side-upper.result in
    let fits : FitsSigned w64 upper = search rules in
    cut-enters c.args.region.now.trail c.push_trail.new.self.trail c.args.self.now
    (record { bounds = c.self.inside.bounds; sides = c.self.inside.sides.items }) c.args.var between.0 between.1 c.args.cut
    upper (to_z w64 (of_z w64 c.args.cut)) c.item_of.result c.lower_upper.new.self c.self.view_is between.2
    c.upper_side-upper.ensures.value (c.upper_side-upper.ensures.small
    (subst (λ (b : PlainBox). HasShortSides b.bounds) (sym c.self.view_is) c.requires.short))
    (c.item_of.ensures ∙ ap (λ (n : ℤ). item_of (CutLeft c.args.var n)) (to_z-of_z w64 upper fits))
    (ap (λ (r : PlainTreeRegion). r.trail) c.push_trail.ensures) (to_z-of_z w64 c.args.cut c.ranges.cut)
    c.lower_upper.ensures.after
