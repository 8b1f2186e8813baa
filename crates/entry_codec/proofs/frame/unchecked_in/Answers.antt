use Rattle.std.proofs.Common.{◌≡◌, Err, arith}
use Rattle.entry_codec.specs.EntryReading.{entry_in}
use Rattle.entry_codec.proofs.KeyLemmas.{IsBytes-slice}
use Rattle.entry_codec.proofs.EntryLaws.{entry_in-within}
use Rattle.entry_codec.proofs.frame.unchecked_in.Goals as goal

pub overflow_sub-result : goal.overflow_sub-result
overflow_sub-result c =
    let are = IsBytes-slice c.args.content.now c.type_inv.content in
    let read : entry_in c.args.content.now ≡ Err c.in-Err-Bad.left =
    rw c.in-Err-Bad.field-0-is at c.in-Err-Bad.ensures.reads in
    let within = entry_in-within c.args.content.now c.in-Err-Bad.left are read in
    omega arith

pub returns-in-Err-Bad : goal.returns-in-Err-Bad
returns-in-Err-Bad c =
    let are = IsBytes-slice c.args.content.now c.type_inv.content in
    let read : entry_in c.args.content.now ≡ Err c.in-Err-Bad.left =
    rw c.in-Err-Bad.field-0-is at c.in-Err-Bad.ensures.reads in
    let within = entry_in-within c.args.content.now c.in-Err-Bad.left are read in
    record { left = c.in-Err-Bad.left; read = read; here = omega arith }
