-- What follows from the definitions of names: for the proofs of the crates above.
use Rattle.std.proofs.Common.{ℕ, ◌<◌, List, Option, inl, inr, subst}
use Rattle.std.specs.Prelude.{Contains, IfSome}
use Rattle.std.proofs.lemmas.List.Elements.{All-contains, Contains-append_cases}
use Rattle.lin_model.specs.Terms.{PlainTerm}
use Rattle.lin_model.specs.Conditions.{NamesBelow, AtomNamesBelow}
use Rattle.lin_model.specs.Lists.{Given-filter_map}
use Rattle.lin_model.specs.declared.atom.Atom.{Atom}
use Rattle.slicer.specs.Names.{Names, side_vars}

-- a side names only what is in range
side_below : (n : ℕ) (terms : List PlainTerm) (v : ℕ) → NamesBelow n terms → Contains (side_vars terms) v → v < n
side_below n terms v below names =
    let given = Given-filter_map (λ (term : PlainTerm). term.var) terms v names in
    let here = All-contains (λ term. IfSome term.var (λ w. w < n)) terms given.element below given.among in
    subst (λ (o : Option ℕ). IfSome o (λ w. w < n)) given.gives here

-- an atom that names only variables below a number names none above it
pub below_from_Names : (n : ℕ) (atom : Atom) (v : ℕ) → AtomNamesBelow n atom → Names atom v → v < n
below_from_Names n atom v below names =
    elim (Contains-append_cases (side_vars atom.left) (side_vars atom.right) v names) [
      | inl left ↦ side_below n atom.left v below.left left
      | inr right ↦ side_below n atom.right v below.right right
    ]
