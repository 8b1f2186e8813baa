-- What the table of implication keeps.
use Rattle.std.specs.Prelude.{◌↔◌, ℤ, IsTrue}
use Rattle.lin_model.specs.declared.op.Op.{Op}
use Rattle.atom_implies.specs.Implies.{TestImplies}
use Rattle.atom_implies.specs.Table.{table_says}

-- the table says yes exactly where every integer that passes the one test passes the other
abbrev pub TableIsRight : Type 0
TableIsRight = (op : Op) (c : ℤ) (other : Op) (d : ℤ) → IsTrue (table_says op c other d) ↔ TestImplies op c other d
