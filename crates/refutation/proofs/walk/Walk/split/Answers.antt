use Rattle.std.proofs.Common.{ℤ, ◌∷◌, to_z, of_z, ap, ◌∙◌}
use Rattle.std.specs.Int.{w64}
use Rattle.std.proofs.lemmas.Int.{to_z-of_z}
use Rattle.refutation.specs.Box.{left_half, right_half}
use Rattle.refutation.specs.Facts.{OnFirst-from}
use Rattle.refutation.proofs.WalkLemmas.{walk-split}
use Rattle.refutation.proofs.walk.Walk.split.Goals as goal

pub returns : goal.returns
returns c =
    OnFirst-from _ _ (λ box rest h.
    walk-split c.self.inside.open c.self.inside.path.items c.push.new.self.items c.self.inside.bounds
    c.lower_upper.new.self c.self.inside.sides.items box rest c.args.var (to_z w64 (of_z w64 c.args.cut))
    c.upper-upper.result c.upper-upper.ensures.value (c.in_ok-push.ensures {u = tt}).items c.lower_upper.ensures.after
    (c.self.view_is ∙ h) ∙ ap (λ (n : ℤ). left_half box c.args.var n ∷ right_half box c.args.var n ∷ rest)
    (to_z-of_z w64 c.args.cut c.ranges.cut))
