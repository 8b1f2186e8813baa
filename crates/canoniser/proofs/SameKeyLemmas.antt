-- Slices with the same variables in the same order and the same atoms have the same keys.
use Rattle.std.proofs.Common.{◌≡◌, ◌≢◌, ◌↔◌, ℕ, [], List, get_or, sym, subst, inl, inr}
use Rattle.std.specs.List.{All, Contains}
use Rattle.std.proofs.lemmas.List.Elements.{All-contains, Contains-get_or}
use Rattle.lin_model.specs.Terms.{PlainVar}
use Rattle.lin_model.specs.Conditions.{PlainCondition}
use Rattle.lin_model.specs.declared.atom.Atom.{Atom}
use Rattle.lin_model.specs.KeyAtom.{PlainKeyAtom}
use Rattle.slicer.specs.Slices.{PlainSlice}
use Rattle.canoniser.specs.declared.atom_form.AtomForm.TheVariants.{False, KeyAtom}
use Rattle.canoniser.specs.Forms.{canonical_form}
use Rattle.canoniser.specs.Numbering.{atoms_of, order_of}
use Rattle.canoniser.specs.Keys.{IsBound, IsGiven, IsKeyOf}
use Rattle.canoniser.specs.Laws.{HaveSameKeys}
use Rattle.canoniser.proofs.CanonisedLemmas.{IsStrongest-same}

-- two slices are made of the same
pub record AreAlike (c : PlainCondition) (s : PlainSlice) (d : PlainCondition) (t : PlainSlice) : Type 0 where
  pub vars : c.vars ≡ d.vars
  pub order : order_of c s ≡ order_of d t
  pub atoms : (x : Atom) → Contains (atoms_of c s) x ↔ Contains (atoms_of d t) x

AreAlike-sym : (c : PlainCondition) (s : PlainSlice) (d : PlainCondition) (t : PlainSlice) → AreAlike c s d t
    → AreAlike d t c s
AreAlike-sym c s d t alike = record {
  vars = sym alike.vars;
  order = sym alike.order;
  atoms =
      λ x. ((alike.atoms x).1, (alike.atoms x).0);
}

IsGiven-alike : (c : PlainCondition) (s : PlainSlice) (d : PlainCondition) (t : PlainSlice) → AreAlike c s d t
    → (a : PlainKeyAtom) → IsGiven c s a → IsGiven d t a
IsGiven-alike c s d t alike a given = elim given [
  | inl any ↦ (
      let there = (alike.atoms any.1).0 (any.0, any.2, any.3) in
      inl (
        there.0,
        any.1,
        there.1,
        there.2,
        subst (λ (order : List ℕ). canonical_form order any.1 ≡ KeyAtom a) alike.order any.4,
      )
      )
  | inr bound ↦ inr (subst (λ (order : List ℕ). IsBound d order a) alike.order
      (subst (λ (vars : List PlainVar). IsBound (record { vars = vars; atoms = [] }) (order_of c s) a) alike.vars
      bound))
]

-- no canonical form of an atom of the slice is False
abbrev pub NoFormIsFalse : PlainCondition → PlainSlice → Type 0
NoFormIsFalse c s = All (λ atom. canonical_form (order_of c s) atom ≢ False) (atoms_of c s)

IsKeyOf-given : (c : PlainCondition) (s : PlainSlice) (d : PlainCondition) (t : PlainSlice)
    → (NoFormIsFalse c s → NoFormIsFalse d t) → ((a : PlainKeyAtom) → IsGiven c s a → IsGiven d t a)
    → ((a : PlainKeyAtom) → IsGiven d t a → IsGiven c s a) → (key : List PlainKeyAtom) → IsKeyOf c s key
    → IsKeyOf d t key
IsKeyOf-given c s d t none_false to from key is = record {
  none_false = none_false is.none_false;
  ascends = is.ascends;
  just = λ a. (
    λ has. IsStrongest-same (IsGiven c s) (IsGiven d t) to from a ((is.just a).0 has),
    λ strongest. (is.just a).1 (IsStrongest-same (IsGiven d t) (IsGiven c s) from to a strongest),
  );
}

-- slices with the same given atoms have the same keys
pub HaveSameKeys-given : (c : PlainCondition) (s : PlainSlice) (d : PlainCondition) (t : PlainSlice)
    → (NoFormIsFalse c s → NoFormIsFalse d t) → (NoFormIsFalse d t → NoFormIsFalse c s)
    → ((a : PlainKeyAtom) → IsGiven c s a → IsGiven d t a) → ((a : PlainKeyAtom) → IsGiven d t a → IsGiven c s a)
    → HaveSameKeys c s d t
HaveSameKeys-given c s d t there back to from key =
    (IsKeyOf-given c s d t there to from key, IsKeyOf-given d t c s back from to key)

NoFormIsFalse-alike : (c : PlainCondition) (s : PlainSlice) (d : PlainCondition) (t : PlainSlice) → AreAlike c s d t
    → NoFormIsFalse c s → NoFormIsFalse d t
NoFormIsFalse-alike c s d t alike none k x lt is =
    let atom = get_or (atoms_of d t) k x in
    let there = (alike.atoms atom).1 (Contains-get_or (atoms_of d t) k x lt) in
    All-contains (λ y. canonical_form (order_of c s) y ≢ False) (atoms_of c s) atom none there
    (subst (λ (order : List ℕ). canonical_form order atom ≡ False) (sym alike.order) is)

pub HaveSameKeys-alike : (c : PlainCondition) (s : PlainSlice) (d : PlainCondition) (t : PlainSlice) → AreAlike c s d t
    → HaveSameKeys c s d t
HaveSameKeys-alike c s d t alike =
    let back = AreAlike-sym c s d t alike in
    HaveSameKeys-given c s d t (NoFormIsFalse-alike c s d t alike) (NoFormIsFalse-alike d t c s back)
    (IsGiven-alike c s d t alike) (IsGiven-alike d t c s back)
