-- Entries that a search comes to aren't too large for frames.
use Rattle.std.proofs.Common.{ℕ, ◌≤◌, List, arith}
use Rattle.lin_model.specs.KeyAtom.{PlainKeyAtom}
use Rattle.cert_check.specs.declared.entry.Entry.{Entry}
use Rattle.cert_check.specs.declared.entry.Entry.TheVariants.{Sat, Unsat}
use Rattle.cert_check.specs.Decides.{IsChecked}
use Rattle.entry_codec.specs.Frames.{IsSmallEnough}
use Rattle.entry_codec.specs.Fits.{PointsFit, SmallCoresFit}
use Rattle.shared_store.specs.Solving.{IsFoundWithin}

pub small_where_found : (budget : ℕ) (key : List PlainKeyAtom) (entry : Entry) → budget ≤ 100000 → PointsFit
    → SmallCoresFit → IsChecked entry → IsFoundWithin budget key entry → IsSmallEnough entry
small_where_found budget key (Sat e) few points cores checked found = points e checked
small_where_found budget key (Unsat e) few points cores checked found =
    cores key (record { nodes = found.nodes; terms = found.terms }) e checked.key (record {
      refutes = found.tree.refutes;
      few = omega (arith, few, found.tree.few);
      shrunk = found.core;
    })
