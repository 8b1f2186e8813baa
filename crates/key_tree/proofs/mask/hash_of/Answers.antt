use Rattle.std.proofs.Common.{List, arith, ap, sym, ◌∙◌}
use Rattle.lin_model.specs.declared.form.FormTerm.{FormTerm}
use Rattle.key_tree.specs.Prints.{hash_of as form_hash}
use Rattle.key_tree.proofs.PrintLemmas.{hash_begins, hash_more, hash_done}
use Rattle.key_tree.proofs.mask.hash_of.Goals as goal

pub loop-term-init : goal.loop-term-init
loop-term-init c = (
  hash_begins c.terms-term-items.result.now ∙ ap (λ (form : List FormTerm). form_hash form) c.terms-term-items.ensures,
  omega arith,
)

pub loop-term-preserved : goal.loop-term-preserved
loop-term-preserved c = (
  rw c.with_term-hash.ensures.hash
      (hash_more c.loop-term.hash c.terms-term-items.result.now c.loop-term.term-index _ (omega arith)
      ∙ c.loop-term.invariant.0),
  c.with_term-hash.ensures.small,
)

pub returns-clause-hash : goal.returns-clause-hash
returns-clause-hash c =
    sym (hash_done c.loop-term.hash c.terms-term-items.result.now c.loop-term.term-index (omega arith))
    ∙ c.loop-term.invariant.0
