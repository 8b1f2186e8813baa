use Rattle.journal.proofs.ReadingLemmas.{IsWholeSize-few, whole_said}
use Rattle.journal.proofs.reading.whole_size.Goals as goal

pub returns-in-len4-up : goal.returns-in-len4-up
returns-in-len4-up c =
    whole_said c.args.front.now c.from_le_bytes.result c.size_of.result c.in-len4-up.len_at_least c.from_le_bytes.ensures
    c.size_of.ensures

pub returns-in_default : goal.returns-in_default
returns-in_default c = IsWholeSize-few c.args.front.now c.in_default.len_below
