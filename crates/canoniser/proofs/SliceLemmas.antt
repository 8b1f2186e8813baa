-- What the slices of a condition list.
use Rattle.std.proofs.Common.{◌≡◌, ℕ, zero, suc, ◌<◌, ◌≤◌, List, [], ◌∷◌, ◌++◌, length, get_or, subst, inl, inr, arith}
use Rattle.std.specs.List.{AllPairs, Contains}
use Rattle.std.proofs.lemmas.List.Elements.{Contains-append_cases, Contains-get_or, All-contains}
use Rattle.lin_model.specs.Conditions.{PlainCondition, Fits}
use Rattle.lin_model.specs.declared.atom.Atom.{Atom}
use Rattle.lin_model.specs.Lists.{within_from_IsSomeAnd}
use Rattle.slicer.specs.Names.{Names, atom_vars, NamesNothingAt, NamesDeclared}
use Rattle.slicer.specs.Laws.{HasNamed, SlicesPartition}
use Rattle.slicer.specs.Slices.{PlainSlice, IsSliceOf, IsVariableFree, IsFront, least}
use Rattle.canoniser.specs.Keys.{IsSliceIn}

-- an atom names only variables of the list
abbrev pub NamesOnly : List ℕ → Atom → Type 0
NamesOnly order atom = (v : ℕ) → Names atom v → Contains order v

-- the numbers of a slice's atoms ascend, and both lists have numbers of the condition
pub record IsWithin (c : PlainCondition) (s : PlainSlice) : Type 0 where
  pub ascending : AllPairs ◌<◌ s.atoms
  pub atoms : (j : ℕ) → Contains s.atoms j → j < length c.atoms
  pub vars : (v : ℕ) → Contains s.vars v → v < length c.vars

IsWithin-class : (c : PlainCondition) (var : ℕ) (s : PlainSlice) → IsSliceOf c var s → IsWithin c s
IsWithin-class c var s is = record {
  ascending = is.atoms.ascending;
  atoms = λ j has. let named =
      (is.atoms.just j).0 has in within_from_IsSomeAnd c.atoms (λ atom. Names atom named.0) j named.2;
  vars = λ v has. ((is.vars.just v).0 has).0;
}

IsWithin-free : (c : PlainCondition) (s : PlainSlice) → IsVariableFree (NamesNothingAt c.atoms) s → IsWithin c s
IsWithin-free c s is = record {
  ascending = is.atoms.ascending;
  atoms = λ j has. within_from_IsSomeAnd c.atoms (λ atom. atom_vars atom ≡ []) j ((is.atoms.just j).0 has);
  vars = λ v has. let none : Contains [] v = rw is.vars at has in absurd (omega (arith, none.1));
}

-- a list of one has that alone
pub only : (slice s : PlainSlice) (k : ℕ) → k < length (slice ∷ []) → get_or (slice ∷ []) k s ≡ s → slice ≡ s
only slice s zero lt is = is
only slice s (suc k) lt is = absurd (omega arith)

IsWithin-front : (c : PlainCondition) (front : List PlainSlice) (s : PlainSlice)
    → IsFront (NamesNothingAt c.atoms) front → Contains front s → IsWithin c s
IsWithin-front c [] s is has = absurd (omega (arith, has.1))
IsWithin-front c (slice ∷ []) s is has = subst (IsWithin c) (only slice s has.0 has.1 has.2) (IsWithin-free c slice is)
IsWithin-front c (slice ∷ another ∷ more) s is has = absurd is

pub IsWithin-slice : (c : PlainCondition) (s : PlainSlice) → IsSliceIn c s → IsWithin c s
IsWithin-slice c s one =
    let all = one.all in
    let has : Contains (all.front ++ all.classes) s = rw all.joined at one.one in
    elim (Contains-append_cases all.front all.classes s has) [
      | inl in_front ↦ IsWithin-front c all.front s all.variable_free in_front
      | inr in_classes ↦ IsWithin-class c (least s) s
          (All-contains (λ slice. IsSliceOf c (least slice) slice) all.classes s all.linked.each in_classes)
    ]

-- a number at a place of an ascending list is at least the place
place-below : (xs : List ℕ) → AllPairs ◌<◌ xs → (k : ℕ) → k < length xs → k ≤ get_or xs k 0
place-below xs pairs zero lt = omega arith
place-below xs pairs (suc k) lt =
    let low = place-below xs pairs k (omega arith) in
    let up = pairs k (suc k) 0 (omega arith) lt in
    omega arith

-- ascending numbers below n are at most n
pub length-ascending : (xs : List ℕ) (n : ℕ) → AllPairs ◌<◌ xs → ((x : ℕ) → Contains xs x → x < n) → length xs ≤ n
length-ascending [] n pairs below = omega arith
length-ascending (x ∷ xs) n pairs below =
    let last : length xs < length (x ∷ xs) = omega arith in
    let low = place-below (x ∷ xs) pairs (length xs) last in
    let high = below (get_or (x ∷ xs) (length xs) 0) (Contains-get_or (x ∷ xs) (length xs) 0 last) in
    omega arith

-- a slice has at most 256 atoms
pub few_atoms : (c : PlainCondition) (s : PlainSlice) → Fits c.vars c.atoms → IsSliceIn c s → length s.atoms ≤ 256
few_atoms c s fits one =
    let within = IsWithin-slice c s one in
    let fewer = length-ascending s.atoms (length c.atoms) within.ascending within.atoms in
    let few = fits.few_atoms in
    omega arith

-- a slice has what its atoms name
pub HasNamed-slice : SlicesPartition → (c : PlainCondition) (s : PlainSlice) → NamesDeclared c → IsSliceIn c s
    → HasNamed c s
HasNamed-slice parts c s declared one =
    All-contains (HasNamed c) one.slices s (parts c one.slices declared one.all).named one.one
