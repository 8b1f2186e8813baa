use Rattle.std.proofs.lemmas.Result.{err_from_is_err_and}
use Rattle.entry_codec.proofs.TreeLemmas.{own_terms-count, own_terms-term, own_terms-read}
use Rattle.entry_codec.proofs.read.nodes.leaf_terms_at.Goals as goal

pub returns-in_err-count : goal.returns-in_err-count
returns-in_err-count c =
    let p = err_from_is_err_and c.from_residual.result c.from_residual.ensures.1 in
    rw (p.1, p.2)
    (own_terms-count c.args.terms.now.items c.args.bytes.now c.in_err-count.field-0.0 c.in_err-count.ensures)

pub returns-in_err-rest : goal.returns-in_err-rest
returns-in_err-rest c =
    let p = err_from_is_err_and c.from_residual-in_err-rest.result c.from_residual-in_err-rest.ensures.1 in
    rw (p.1, p.2)
    (own_terms-term c.args.terms.now.items c.args.bytes.now c.in_ok-count.count c.in_ok-count.rest.now
    c.in_err-rest.field-0.0 c.in_ok-count.ensures c.in_err-rest.ensures)

pub returns : goal.returns
returns c =
    own_terms-read c.args.terms.now.items c.args.bytes.now c.in_ok-count.count c.in_ok-count.rest.now _ _
    c.in_ok-count.ensures c.in_ok-rest.ensures
