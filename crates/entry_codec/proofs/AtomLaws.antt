-- Reading canonical atoms, keys and points.
use Rattle.std.proofs.Common.{ℕ, ℤ, List, refl}
use Rattle.lin_model.specs.declared.form.FormTerm.{FormTerm}
use Rattle.lin_model.specs.declared.op.Op.{Op}
use Rattle.lin_model.specs.KeyAtom.{PlainKeyAtom}
use Rattle.entry_codec.specs.Grammar.{Grammar, both, counted}
use Rattle.entry_codec.specs.Fields.{op, atom_count, term_count, term_var, coefficient, constant, value_count, value}
use Rattle.entry_codec.specs.Atoms.{term, form_and_constant, atom_parts, FitsBehind, atom, key, point}
use Rattle.entry_codec.specs.FieldReading.{op_at, atom_count_at, term_count_at, term_var_at, coefficient_at, constant_at}
use Rattle.entry_codec.specs.FieldReading.{value_count_at, value_at}
use Rattle.entry_codec.specs.AtomReading.{term_at, terms_at, form_and_constant_at, atom_parts_at, fits_behind, atom_at}
use Rattle.entry_codec.specs.AtomReading.{key_at, point_at}
use Rattle.entry_codec.proofs.PartLaws.{Reads, ReadsAs-mapped, ReadsAs-both, Reads-seen_as, Reads-tested}
use Rattle.entry_codec.proofs.ListLaws.{ReadsItems, Reads-counted}
use Rattle.entry_codec.proofs.CodeLaws.{Reads-op}
use Rattle.entry_codec.proofs.FieldLaws.{Reads-atom_count, Reads-term_count, Reads-term_var, Reads-coefficient}
use Rattle.entry_codec.proofs.FieldLaws.{Reads-constant, Reads-value_count, Reads-value}
use Rattle.entry_codec.proofs.CanonicalLaws.{Decides-fits_behind}

-- items that don't depend on those before
pub each_alike : {A : Type 0} (part : Grammar A) (read : _) → Reads part read
    → ReadsItems (λ before. part) (λ before. read)
each_alike part read law = record { law = λ before. law; same = λ before x. refl }

-- the term of a variable and a coefficient
abbrev term_of : ℕ → ℤ → FormTerm
term_of var coef = record { var = var; coef = coef }

pub Reads-term : Reads term term_at
unfolding term term_at
Reads-term =
    Reads-seen_as (both term_var (λ var. coefficient)) (λ x. term_of x.0 x.1) (λ t. (t.var, t.coef)) term_at
    (λ t. refl) (λ x may. refl)
    (ReadsAs-both term_var (λ var. coefficient) term_of term_var_at (λ var bytes. _) Reads-term_var
    (λ var. ReadsAs-mapped coefficient (λ c. c) (term_of var) coefficient_at Reads-coefficient))

-- the terms of an atom, with their number
pub Reads-terms : Reads (counted term_count (λ before. term)) terms_at
unfolding terms_at
Reads-terms =
    Reads-counted (λ before. term) (λ before. term_at) (each_alike term term_at Reads-term) term_count term_count_at
    Reads-term_count

pub Reads-form_and_constant : Reads form_and_constant form_and_constant_at
unfolding form_and_constant form_and_constant_at
Reads-form_and_constant =
    ReadsAs-both (counted term_count (λ before. term)) (λ form. constant) (λ form c. (form, c)) terms_at
    (λ form bytes. _) Reads-terms
    (λ form. ReadsAs-mapped constant (λ c. c) (λ c. (form, c)) constant_at Reads-constant)

-- the atom of an op, a form and a constant
abbrev atom_of : Op → List FormTerm × ℤ → PlainKeyAtom
atom_of o x = record { form = x.0; op = o; constant = x.1 }

pub Reads-atom_parts : Reads atom_parts atom_parts_at
unfolding atom_parts atom_parts_at
Reads-atom_parts =
    Reads-seen_as (both op (λ o. form_and_constant)) (λ x. atom_of x.0 x.1) (λ a. (a.op, (a.form, a.constant)))
    atom_parts_at (λ a. refl) (λ x may. refl)
    (ReadsAs-both op (λ o. form_and_constant) atom_of op_at (λ o bytes. _) Reads-op
    (λ o. ReadsAs-mapped form_and_constant (λ x. x) (atom_of o) form_and_constant_at Reads-form_and_constant))

pub Reads-atom : (before : List PlainKeyAtom) → Reads (atom before) (atom_at before)
unfolding atom atom_at
Reads-atom before =
    Reads-tested atom_parts (FitsBehind before) (fits_behind before) atom_parts_at (Decides-fits_behind before)
    Reads-atom_parts

-- the atoms of a key
atoms_alike : ReadsItems atom atom_at
unfolding atom
atoms_alike = record { law = Reads-atom; same = λ before x. refl }

pub Reads-key : Reads key key_at
unfolding key key_at
Reads-key = Reads-counted atom atom_at atoms_alike atom_count atom_count_at Reads-atom_count

pub Reads-point : (width : ℕ) → Reads (point width) (point_at width)
unfolding point point_at
Reads-point width =
    Reads-counted (λ before. value) (λ before. value_at) (each_alike value value_at Reads-value) (value_count width)
    (value_count_at width) (Reads-value_count width)
