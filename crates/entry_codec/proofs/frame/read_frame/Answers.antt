use Rattle.std.proofs.Common.{◌≡◌, inr, ap, sym, ◌∙◌, Ok}
use Rattle.std.proofs.lemmas.Result.{err_from_is_err_and}
use Rattle.entry_codec.specs.EntryReading.{entry_in}
use Rattle.entry_codec.proofs.KeyLemmas.{IsBytes-slice}
use Rattle.entry_codec.proofs.FrameLaws.{content_in-takes, content_in-ends, frame_in-begins, ends_body, ends_check}
use Rattle.entry_codec.proofs.frame.read_frame.Goals as goal

pub returns-in_err-content : goal.returns-in_err-content
returns-in_err-content c =
    let p = err_from_is_err_and c.from_residual.result c.from_residual.ensures.1 in
    let are = IsBytes-slice c.args.bytes.now c.type_inv.bytes in
    rw (p.1, p.2) (inr (content_in-ends c.args.bytes.now c.in_err-content.field-0.0 are c.in_err-content.ensures))

pub unchecked_in-requires : goal.unchecked_in-requires
unchecked_in-requires c =
    let are = IsBytes-slice c.args.bytes.now c.type_inv.bytes in
    (content_in-takes c.args.bytes.now c.in_ok-content.content.now are c.in_ok-content.ensures).within

pub returns-in_err-body : goal.returns-in_err-body
returns-in_err-body c =
    let p = err_from_is_err_and c.from_residual-in_err-body.result c.from_residual-in_err-body.ensures.1 in
    let are = IsBytes-slice c.args.bytes.now c.type_inv.bytes in
    rw (p.1, p.2)
    (ends_body c.args.bytes.now c.in_ok-content.content.now c.in_err-body.field-0.0 are c.in_ok-content.ensures
    c.in_err-body.ensures)

pub returns-in_err-entry : goal.returns-in_err-entry
returns-in_err-entry c =
    let p = err_from_is_err_and c.from_residual-in_err-entry.result c.from_residual-in_err-entry.ensures.1 in
    let are = IsBytes-slice c.args.bytes.now c.type_inv.bytes in
    rw (p.1, p.2)
    (ends_check c.args.bytes.now c.in_ok-content.content.now _ c.in_err-entry.field-0.0 are c.in_ok-content.ensures
    c.in_ok-body.ensures.0 c.in_err-entry.ensures)

pub returns : goal.returns
returns c =
    let are = IsBytes-slice c.args.bytes.now c.type_inv.bytes in
    let read : entry_in c.in_ok-content.content.now ≡ Ok c.in_ok-entry.entry =
    c.in_ok-body.ensures.0 ∙ ap Ok (sym c.in_ok-entry.ensures.0) in
    record {
      begins = frame_in-begins c.args.bytes.now c.in_ok-content.content.now c.in_ok-entry.entry are
          c.in_ok-content.ensures read;
      evidence = c.in_ok-entry.ensures.1;
    }
