use Rattle.std.proofs.Common.{◌<◌, length, arith}
use Rattle.combos.proofs.WorthLemmas.{read-kept}
use Rattle.combos.proofs.worths.Worths.highest_at.Goals as goal

pub returns-then-place-len-clause-value : goal.returns-then-place-len-clause-value
returns-then-place-len-clause-value c = λ x is.
    let worths = c.requires.worths in
    let lt : c.args.place < length c.args.self.now.lowest.items = omega (arith, worths.same) in
    read-kept c.args.self.now.highest.items c.deref.result.now c.args.place x c.deref.ensures.0
    ((worths.each c.args.place lt).highest x is) (worths.small c.args.place lt).highest
