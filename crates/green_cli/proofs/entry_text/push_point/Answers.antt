use Rattle.std.proofs.Common.{◌≡◌, ◌++◌, ℤ, codes, decimal, get_or, pos, rules, w64}
use mir.Val.{SFits}
use Rattle.std.proofs.lemmas.Int.{to_z-of_z}
use Rattle.std.proofs.lemmas.List.{drop_all, get_or_default}
use Rattle.lin_text.specs.Spelling.{integer}
use Rattle.green_cli.proofs.TextLemmas.{carry, done}
use Rattle.green_cli.proofs.DumpLemmas.{point_end, point_step}
use Rattle.green_cli.proofs.entry_text.push_point.Goals as goal

pub loop-var-preserved : goal.loop-var-preserved
loop-var-preserved c =
    let values = c.args.values.now in
    let value : ℤ = get_or values c.loop-var.var (pos 0) in
    let step = point_step values c.loop-var.var value c.loop-var-test.true
    (get_or_default values c.loop-var.var _ _ c.loop-var-test.true) in
    let grows : c.push_value.new.out.items ≡ c.loop-var.out.items ++ (codes " v" ++ decimal c.loop-var.var ++ codes "="
    ++ integer value) =
    let fits : SFits w64 value = search rules in
    simp to_z-of_z at (c.in_ok-push_value.ensures {u = tt})
    in
    carry _ _ _ _ _ _ c.loop-var.invariant step grows

pub returns : goal.returns
returns c = done _ _ _ c.loop-var.invariant
    (point_end _ _ (drop_all c.loop-var.var c.args.values.now c.loop-var-test.false))
