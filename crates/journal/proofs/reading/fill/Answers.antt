use Rattle.std.proofs.Common.{◌≡◌, ◌∙◌, ◌-◌, length, min, drop, take, ap, take_at, rules}
use Rattle.journal.specs.declared.limits.TheConstants.{MAX_FILE}
use Rattle.journal.proofs.ReadingLemmas.{filled_content}
use Rattle.journal.proofs.reading.fill.Goals as goal

pub returns-clause-bytes : goal.returns-clause-bytes
returns-clause-bytes g c =
    let t = c.truncate.ensures in
    let buf = c.read_at.new.buf in
    let len : length buf ≡ c.resize.new.self.len = search rules in
    let asked : c.resize.new.self.len ≡ min c.args.n (MAX_FILE - c.args.at) = search rules in
    filled_content _ buf c.truncate.new.self.items c.args.at c.args.n c.resize.new.self.len c.in_ok-got.got c.requires
    asked len c.in_ok-got.ensures.answer
    (t.items ∙ ap (take c.in_ok-got.got)
    (take_at buf (drop (length buf) c.resize.new.self.items) c.resize.new.self.len len))
