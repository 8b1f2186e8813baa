-- The text of a canonical atom.
use Rattle.std.specs.Prelude.{ℕ, List, ◌++◌, map, Some, codes, decimal}
use Rattle.lin_model.specs.Terms.{PlainTerm}
use Rattle.lin_model.specs.KeyAtom.{PlainKeyAtom}
use Rattle.lin_model.specs.declared.atom.Cmp.{Cmp}
use Rattle.lin_model.specs.declared.atom.Cmp.TheVariants as cmps
use Rattle.lin_model.specs.declared.form.FormTerm.{FormTerm}
use Rattle.lin_model.specs.declared.op.Op.{Op}
use Rattle.lin_model.specs.declared.op.Op.TheVariants.{Le, Ge, Eq, Ne}
use Rattle.lin_text.specs.Spelling.{side_text, cmp_text, integer}

-- the name of a variable of canonical atoms: `v0`, `v1` and so on
unfoldable pub key_name : ℕ → List ℕ
key_name var = codes "v" ++ decimal var

-- a term of a form as a term of a side
abbrev pub side_term : FormTerm → PlainTerm
side_term t = record { factor = t.coef; var = Some t.var }

-- an op as the comparison of two sides
abbrev pub cmp_of_op : Op → Cmp
cmp_of_op Le = cmps.Le
cmp_of_op Ge = cmps.Ge
cmp_of_op Eq = cmps.Eq
cmp_of_op Ne = cmps.Ne

-- the form, spelled as a side; the op; the constant with its sign
unfoldable pub key_atom_text : PlainKeyAtom → List ℕ
key_atom_text a =
    side_text key_name (map side_term a.form) ++ codes " " ++ cmp_text (cmp_of_op a.op) ++ codes " "
    ++ integer a.constant
