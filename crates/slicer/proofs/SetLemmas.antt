-- What the sets of the atoms tell of the atoms.
use Rattle.std.proofs.Common.{◌≡◌, ◌↔◌, ℕ, ◌<◌, List, [], length, get_or, Some, arith, subst}
use Rattle.std.specs.Prelude.{Contains, slice_get}
use Rattle.std.specs.List.{HoldsAt}
use Rattle.std.proofs.lemmas.Option.{get_or_from_slice_get, slice_get_within}
use Rattle.std.proofs.lemmas.List.{get_or_default}
use Rattle.lin_model.specs.Conditions.{PlainCondition}
use Rattle.lin_model.specs.declared.atom.Atom.{Atom}
use Rattle.lin_model.specs.Lists.{nil_from_none, nothing_in_nil, Found-at, Found-from, IsSomeAnd-found}
use Rattle.slicer.specs.declared.var_set.VarSet.{VarSet}
use Rattle.slicer.specs.Names.{Names, NamesAt, NamesNothingAt, atom_vars}
use Rattle.slicer.specs.Linked.{Chain, Linked}
use Rattle.slicer.specs.VarSets.{Has, Meet, IsVoid, AreSetsOf}
use Rattle.slicer.proofs.ChainLemmas.{Chain-over}

abbrev empty : VarSet
empty = record { bits = 0 }

-- what a set tells of the atom of its number
set_tells : (atoms : List Atom) (sets : List VarSet) → AreSetsOf atoms sets → (k : ℕ) (atom : Atom) (d : VarSet) (v : ℕ)
    → k < length sets → get_or atoms k atom ≡ atom → Has (get_or sets k d) v ↔ Names atom v
set_tells atoms sets are k atom d v lt is =
    subst (λ (x : Atom). Has (get_or sets k d) v ↔ Names x v) is (are.same k atom d lt v)

-- the atom of a number that is in range
record AtomAt (atoms : List Atom) (k : ℕ) : Type 0 where
  pub atom : Atom
  pub there : slice_get atoms k ≡ Some atom
  pub read : get_or atoms k atom ≡ atom

atom_at : (atoms : List Atom) (k : ℕ) → k < length atoms → AtomAt atoms k
atom_at atoms k lt =
    let found = Found-at atoms k lt in
    record {
      atom = found.value;
      there = found.is;
      read =
          get_or_from_slice_get atoms k found.value found.value found.is;
    }

-- chains through the sets are chains through the atoms
pub Linked-sets : (c : PlainCondition) (sets : List VarSet) → AreSetsOf c.atoms sets → (u v : ℕ)
    → Chain Has sets u v ↔ Linked c u v
Linked-sets c sets are u v = (
  Chain-over Has sets Names c.atoms (λ a b beside.
      let lt : beside.0 < length c.atoms = let one_each = are.one_each in let within = beside.2 in omega arith in
      let here = atom_at c.atoms beside.0 lt in
      let tells = λ (w : ℕ). set_tells c.atoms sets are beside.0 here.atom beside.1 w beside.2 here.read in (
        beside.0,
        here.atom,
        lt,
        here.read,
        ((tells a).0 (rw beside.3 beside.4.0), (tells b).0 (rw beside.3 beside.4.1)),
      )),
  Chain-over Names c.atoms Has sets (λ a b beside.
      let lt : beside.0 < length sets = let one_each = are.one_each in let within = beside.2 in omega arith in
      let set = get_or sets beside.0 empty in
      let tells = λ (w : ℕ). set_tells c.atoms sets are beside.0 beside.1 empty w lt beside.3 in
      (beside.0, set, lt, get_or_default sets beside.0 set empty lt, ((tells a).1 beside.4.0, (tells b).1 beside.4.1))),
)

-- an atom names one of these variables where its set meets them
pub NamesAt-sets : (atoms : List Atom) (sets : List VarSet) (vars : VarSet) (P : ℕ → Type 0) → AreSetsOf atoms sets
    → ((v : ℕ) → Has vars v ↔ P v) → (j : ℕ)
    → ((j < length sets) × HoldsAt (λ set. Meet set vars) sets j) ↔ ((v : ℕ) × P v × NamesAt atoms j v)
NamesAt-sets atoms sets vars P are same j = (
  λ meets.
      let lt : j < length atoms = let one_each = are.one_each in let within = meets.0 in omega arith in
      let here = atom_at atoms j lt in
      let both = meets.1 empty in
      let v = both.0 in
      let names = (set_tells atoms sets are j here.atom empty v meets.0 here.read).0 both.1 in
      (v, (same v).0 both.2, IsSomeAnd-found (slice_get atoms j) (λ a. Names a v) here.atom here.there names),
  λ named.
      let v = named.0 in
      let found = Found-from (slice_get atoms j) (λ a. Names a v) named.2 in
      let read = get_or_from_slice_get atoms j found.value found.value found.is in
      let lt : j < length sets = let one_each = are.one_each in let within =
      slice_get_within atoms j found.value found.is in omega arith in
      (lt, λ d. (v, (set_tells atoms sets are j found.value d v lt read).1 found.holds, (same v).1 named.1)),
)

-- an atom names no variable where its set is empty
pub NamesNothingAt-sets : (atoms : List Atom) (sets : List VarSet) → AreSetsOf atoms sets → (j : ℕ)
    → ((j < length sets) × HoldsAt IsVoid sets j) ↔ NamesNothingAt atoms j
NamesNothingAt-sets atoms sets are j = (
  λ void.
      let lt : j < length atoms = let one_each = are.one_each in let within = void.0 in omega arith in
      let here = atom_at atoms j lt in
      let none =
      nil_from_none (atom_vars here.atom)
      (λ v names. void.1 empty v ((set_tells atoms sets are j here.atom empty v void.0 here.read).1 names)) in
      IsSomeAnd-found (slice_get atoms j) (λ a. atom_vars a ≡ []) here.atom here.there none,
  λ nothing.
      let found = Found-from (slice_get atoms j) (λ a. atom_vars a ≡ []) nothing in
      let read = get_or_from_slice_get atoms j found.value found.value found.is in
      let lt : j < length sets = let one_each = are.one_each in let within =
      slice_get_within atoms j found.value found.is in omega arith in (
        lt,
        λ d v has.
            let names = (set_tells atoms sets are j found.value d v lt read).0 has in
            nothing_in_nil v (subst (λ (xs : List ℕ). Contains xs v) found.holds names),
      ),
)
