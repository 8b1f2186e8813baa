use Rattle.std.proofs.Common.{refl, sym, ◌∙◌}
use Rattle.refutation.specs.Box.{PlainBox}
use Rattle.refutation.proofs.GlanceLemmas.{one-from_unit, one-from_fixed, unit-from_one}
use Rattle.refutation.proofs.glance.closed_by_one_atom.Goals as goal

pub returns-then-some_fixed_closes : goal.returns-then-some_fixed_closes
returns-then-some_fixed_closes c =
    let box : PlainBox = record { bounds = c.args.bounds.now; sides = c.args.sides.now } in
    (λ _. one-from_fixed c.args.key.now box (c.some_fixed_closes.ensures.0 c.if-some_fixed_closes.true), λ _. refl)

pub returns : goal.returns
returns c =
    let box : PlainBox = record { bounds = c.args.bounds.now; sides = c.args.sides.now } in (
      λ yes'. one-from_unit c.args.key.now box (c.some_unit_closes.ensures.0 yes'),
      λ closed.
          c.some_unit_closes.ensures.1 (unit-from_one c.args.key.now box (sym c.is_empty.ensures ∙ c.if-is_empty.false)
          (λ fixed. let no' = c.if-some_fixed_closes.false in let yes' = c.some_fixed_closes.ensures.1 fixed in
          absurd (cc)) closed),
    )
