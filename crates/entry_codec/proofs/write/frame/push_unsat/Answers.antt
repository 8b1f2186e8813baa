use Rattle.std.proofs.Common.{sym, subst}
use Rattle.std.proofs.lemmas.Result.{on_ok_weaker}
use Rattle.refutation.specs.Tree.{PlainTree}
use Rattle.entry_codec.specs.Writing.{IsWritable, NamesShortSides}
use Rattle.entry_codec.proofs.WritingLaws.{unsat_in_grammar, writable_where_refuted}
use Rattle.entry_codec.proofs.write.frame.push_unsat.Goals as goal

pub push_tree-requires : goal.push_tree-requires
push_tree-requires c =
    subst IsWritable (sym c.tree.ensures.tree)
    (writable_where_refuted c.args.entry.now c.key.ensures.is_key c.key.ensures.refuted c.requires)

pub returns-clause-grammar : goal.returns-clause-grammar
returns-clause-grammar c =
    on_ok_weaker c.push_tree.result
    (λ short. unsat_in_grammar c.args.entry.now c.key.ensures.is_key c.key.ensures.refuted c.requires
    (subst (λ (t : PlainTree). NamesShortSides t.terms) c.tree.ensures.tree short))
    c.push_tree.ensures.short
