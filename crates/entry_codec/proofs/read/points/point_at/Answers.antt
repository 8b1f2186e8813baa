use Rattle.std.proofs.Common.{length, ap, ◌∙◌}
use Rattle.entry_codec.proofs.KeyLemmas.{IsBytes-slice, IsPoint-read}
use Rattle.entry_codec.proofs.read.points.point_at.Goals as goal

pub unreachable-requires : goal.unreachable-requires
unreachable-requires c =
    let is = IsPoint-read c.args.width c.args.bytes.now c.in_ok-values.values.items c.in_ok-values.rest.now c.requires
    (IsBytes-slice c.args.bytes.now c.type_inv.bytes) c.in_ok-values.ensures in
    absurd (let never = c.in-Err.ensures.fits.1 is.0 in cc)

pub returns-clause-each : goal.returns-clause-each
returns-clause-each c =
    let is = IsPoint-read c.args.width c.args.bytes.now c.in_ok-values.values.items c.in_ok-values.rest.now c.requires
    (IsBytes-slice c.args.bytes.now c.type_inv.bytes) c.in_ok-values.ensures in
    ap length c.in-Ok.ensures.point ∙ is.1
