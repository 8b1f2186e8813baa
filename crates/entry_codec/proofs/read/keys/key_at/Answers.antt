use Rattle.entry_codec.proofs.KeyLemmas.{IsBytes-slice, FitsKey-read}
use Rattle.entry_codec.proofs.read.keys.key_at.Goals as goal

pub unreachable-requires : goal.unreachable-requires
unreachable-requires c =
    let fits = FitsKey-read c.args.bytes.now c.in_ok-atoms.atoms.items c.in_ok-atoms.rest.now (IsBytes-slice c.args.bytes.now c.type_inv.bytes)
    c.in_ok-atoms.ensures in
    absurd (let never = c.in-Err.ensures.fits.1 fits in cc)
