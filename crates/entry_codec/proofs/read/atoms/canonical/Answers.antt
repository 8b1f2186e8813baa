use Rattle.std.proofs.Common.{rules, w64}
use Rattle.std.proofs.lemmas.Int.{to_z-of_z}
use Rattle.entry_codec.proofs.CanonicalLaws.{canonical_cases}
use Rattle.entry_codec.proofs.read.atoms.canonical.Goals as goal

pub returns : goal.returns
returns c =
    let same = to_z-of_z w64 c.args.parts.constant (search rules) in
    canonical_cases c.new.result _ (rw same at c.new.ensures.canonical) (rw same at c.new.ensures.value)
