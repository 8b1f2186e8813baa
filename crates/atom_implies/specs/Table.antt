-- The table of implication between two tests.
use Rattle.std.specs.Prelude.{ℤ, Bool, false, not, int_le, int_lt}
use Rattle.std.specs.Ordering.{int_eq}
use Rattle.lin_model.specs.declared.op.Op.{Op}
use Rattle.lin_model.specs.declared.op.Op.TheVariants.{Le, Ge, Eq, Ne}

-- whether `op c` implies `other d`
abbrev pub table_says : Op → ℤ → Op → ℤ → Bool
table_says Le c Le d = int_le c d
table_says Le c Ge d = false
table_says Le c Eq d = false
table_says Le c Ne d = int_lt c d
table_says Ge c Le d = false
table_says Ge c Ge d = int_le d c
table_says Ge c Eq d = false
table_says Ge c Ne d = int_lt d c
table_says Eq c Le d = int_le c d
table_says Eq c Ge d = int_le d c
table_says Eq c Eq d = int_eq c d
table_says Eq c Ne d = not (int_eq c d)
table_says Ne c Le d = false
table_says Ne c Ge d = false
table_says Ne c Eq d = false
table_says Ne c Ne d = int_eq c d
