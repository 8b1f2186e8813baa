use Rattle.lin_model.proofs.OrderLemmas.{compare_atoms-total, compare_atoms-apart}
use Rattle.lin_model.proofs.order.order_is_total.Goals as goal

pub returns : goal.returns
returns c = record { total = compare_atoms-total; apart = compare_atoms-apart }
