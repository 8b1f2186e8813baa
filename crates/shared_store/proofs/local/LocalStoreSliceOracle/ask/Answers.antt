use Rattle.std.proofs.Common.{IfOk, subst}
use Rattle.cert_check.specs.Asks.{Asks}
use Rattle.shared_store.specs.Local.{PlainStore, seat_of_both, seat_of_store}
use Rattle.shared_store.proofs.local.LocalStoreSliceOracle.ask.Goals as goal

pub returns-clause-asks : goal.returns-clause-asks
returns-clause-asks g c =
    subst (λ (s : PlainStore g.row.D.Denot). IfOk c.answer_key.result (λ reply. Asks s.budget c.args.key.now reply
    (seat_of_store s) (seat_of_both c.answer_key.new.books.core c.answer_key.new.books.journal))) c.self.view_is
    c.answer_key.ensures.asks
