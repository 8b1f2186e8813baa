-- A slice whose variables are numbered otherwise has the same keys.
use Rattle.std.proofs.Common.{◌≡◌, ◌≢◌, ◌⊎◌, ℕ, ℤ, ◌<◌, List, [], ◌∷◌, ◌++◌, length, map, get_or, Bool, true, false}
use Rattle.std.proofs.Common.{not, if◌then◌else◌, refl, sym, ap, ◌∙◌, subst, inl, inr, arith}
use Rattle.std.specs.Prelude.{◌==◌, slice_index}
use Rattle.std.specs.List.{All, Contains, filter, slice_get}
use Rattle.std.specs.Option.{IsSomeAnd}
use Rattle.std.proofs.lemmas.List.{get_or-map, length-map, map-append}
use Rattle.std.proofs.lemmas.List.Elements.{All-head, All-tail, All-contains, All-map, All-filter, Contains-get_or}
use Rattle.std.proofs.lemmas.List.Elements.{Contains-append_left}
use Rattle.std.proofs.lemmas.Option.{get_or_from_slice_get}
use Rattle.lin_model.specs.Terms.{PlainVar}
use Rattle.lin_model.specs.Conditions.{PlainCondition, AtomNamesBelow}
use Rattle.lin_model.specs.declared.atom.Atom.{Atom}
use Rattle.lin_model.specs.KeyAtom.{PlainKeyAtom}
use Rattle.lin_model.specs.declared.op.Op.TheVariants.{Le, Ge}
use Rattle.lin_model.specs.Bounded.{variable}
use Rattle.lin_model.specs.Lists.{nil_from_none, Found-at, Found-from, IsSomeAnd-found}
use Rattle.slicer.specs.Names.{atom_vars, NamesDeclared}
use Rattle.slicer.specs.Laws.{HasNamed, SlicesPartition}
use Rattle.slicer.specs.Slices.{PlainSlice}
use Rattle.canoniser.specs.declared.atom_form.AtomForm.TheVariants.{False}
use Rattle.canoniser.specs.Forms.{canonical_form}
use Rattle.canoniser.specs.Numbering.{first_ones, atoms_of, order_of}
use Rattle.canoniser.specs.Keys.{IsSliceIn, IsBound, IsGiven, upper_atom, lower_atom}
use Rattle.canoniser.specs.Laws.{HaveSameBounds, IsOneToOne, IsRenumbered, RenumberingKeepsKeys, renumbered}
use Rattle.canoniser.proofs.SliceLemmas.{IsWithin-slice, HasNamed-slice}
use Rattle.canoniser.proofs.SelectLemmas.{belongs, belongs-tells, belongs-nothing, Selects-slice, atoms_of-selected}
use Rattle.canoniser.proofs.NumberingLemmas.{Contains-first_ones, order_of-below}
use Rattle.canoniser.proofs.NamedLemmas.{named, AreNamed, named_or_alone, order_of-named, order_of-alone}
use Rattle.canoniser.proofs.RenumberedLemmas.{apart, canonical_form-renumbered, atom_vars-renumbered, renumbered-back}
use Rattle.canoniser.proofs.RenumberedLemmas.{atoms-back, AtomNamesBelow-renumbered}
use Rattle.canoniser.proofs.SameKeyLemmas.{NoFormIsFalse, HaveSameKeys-given}

-- the second condition and slice are the first with their variables numbered otherwise
pub record Renumbers (c : PlainCondition) (s : PlainSlice) (d : PlainCondition) (t : PlainSlice) (n : ℕ)
    (f g : ℕ → ℕ) : Type 0 where
  pub one : IsOneToOne n f g
  pub back : IsOneToOne n g f
  pub count : length c.vars ≡ n
  pub other_count : length d.vars ≡ n
  pub declared : All (AtomNamesBelow n) c.atoms
  pub bounds : (v : ℕ) (var : PlainVar) → v < n → HaveSameBounds (get_or c.vars v var) (get_or d.vars (f v) var)
  pub atoms : d.atoms ≡ map (renumbered f) c.atoms
  pub slice : IsSliceIn c s
  pub other_slice : IsSliceIn d t
  pub has_named : HasNamed c s
  pub other_has_named : HasNamed d t
  pub vars : (v : ℕ) → Contains s.vars v → Contains t.vars (f v)
  pub other_vars : (w : ℕ) → Contains t.vars w → Contains s.vars (g w)

-- and the other way round
Renumbers-back : (c : PlainCondition) (s : PlainSlice) (d : PlainCondition) (t : PlainSlice) (n : ℕ) (f g : ℕ → ℕ)
    → Renumbers c s d t n f g → Renumbers d t c s n g f
Renumbers-back c s d t n f g are = record {
  one = are.back;
  back = are.one;
  count = are.other_count;
  other_count = are.count;
  declared =
      subst (λ (atoms : List Atom). All (AtomNamesBelow n) atoms) (sym are.atoms)
      (AtomNamesBelow-renumbered n f g are.one c.atoms are.declared);
  bounds = λ w var lt.
      let there = are.bounds (g w) var (are.back.within w lt) in
      let same : f (g w) ≡ w = are.back.back w lt in
      let here : HaveSameBounds (get_or c.vars (g w) var) (get_or d.vars w var) =
      subst (λ (v : ℕ). HaveSameBounds (get_or c.vars (g w) var) (get_or d.vars v var)) same there in
      record { lo = sym here.lo; hi = sym here.hi };
  atoms = sym (ap (map (renumbered g)) are.atoms ∙ atoms-back n f g are.one c.atoms are.declared);
  slice = are.other_slice;
  other_slice = are.slice;
  has_named = are.other_has_named;
  other_has_named = are.has_named;
  vars = are.other_vars;
  other_vars = are.vars;
}

Contains-map : {X Y : Type 0} (f : X → Y) (xs : List X) (x : X) → Contains xs x → Contains (map f xs) (f x)
Contains-map f xs x has =
    (has.0, omega (arith, has.1, length-map xs f), get_or-map f xs has.0 x (f x) has.1 ∙ ap f has.2)

empty_or_some : (xs : List ℕ) → (xs ≡ []) ⊎ (0 < length xs)
empty_or_some [] = inl refl
empty_or_some (x ∷ xs) = inr (omega arith)

-- an atom that belongs to the variables belongs to them under their other numbers
belongs-renumbered : (c : PlainCondition) (s : PlainSlice) (d : PlainCondition) (t : PlainSlice) (n : ℕ) (f g : ℕ → ℕ)
    → Renumbers c s d t n f g → (x : Atom) → belongs s.vars x ≡ true → belongs t.vars (renumbered f x) ≡ true
belongs-renumbered c s d t n f g are x passes = elim (empty_or_some s.vars) [
  | inl none ↦ (
      let other_none : t.vars ≡ [] = nil_from_none t.vars (λ w has. let there =
      subst (λ (vs : List ℕ). Contains vs (g w)) none (are.other_vars w has) in omega (arith, there.1)) in
      (belongs-nothing t.vars (renumbered f x) other_none).1
      (atom_vars-renumbered f x ∙ ap (map f) ((belongs-nothing s.vars x none).0 passes))
      )
  | inr some ↦ (
      let one = (belongs-tells s.vars x some).0 passes in
      let there = are.vars one.0 one.1 in
      (belongs-tells t.vars (renumbered f x) (omega (arith, there.1))).1 (
        f one.0,
        there,
        subst (λ (vs : List ℕ). Contains vs (f one.0)) (sym (atom_vars-renumbered f x))
            (Contains-map f (atom_vars x) one.0 one.2),
      )
      )
]

-- what passes of what is made of the elements
filter-map_agree : {X Y : Type 0} (p : Y → Bool) (q : X → Bool) (h : X → Y) (xs : List X) → All (λ x. p (h x) ≡ q x) xs
    → filter p (map h xs) ≡ map h (filter q xs)
filter-map_agree p q h [] same = refl
filter-map_agree {X} {Y} p q h (x ∷ xs) same =
    let rest = filter-map_agree p q h xs (All-tail (λ y. p (h y) ≡ q y) x xs same) in
    ap (λ (b : Bool). if b then h x ∷ filter p (map h xs) else filter p (map h xs))
    (All-head (λ y. p (h y) ≡ q y) x xs same)
    ∙ ap (λ (ys : List Y). if q x then h x ∷ ys else ys) rest
    ∙ map_if (q x)
  where
    map_if : (b : Bool) → (if b then h x ∷ map h (filter q xs) else map h (filter q xs)) ≡ map h
        (if b then x ∷ filter q xs else filter q xs)
    map_if true = refl
    map_if false = refl

same_bool : (a b : Bool) → (a ≡ true → b ≡ true) → (b ≡ true → a ≡ true) → a ≡ b
same_bool true b to from = sym (to refl)
same_bool false true to from = from refl
same_bool false false to from = refl

-- the atoms of the slice, numbered otherwise
atoms_of-renumbered : (c : PlainCondition) (s : PlainSlice) (d : PlainCondition) (t : PlainSlice) (n : ℕ) (f g : ℕ → ℕ)
    → Renumbers c s d t n f g → atoms_of d t ≡ map (renumbered f) (atoms_of c s)
atoms_of-renumbered c s d t n f g are =
    let again = Renumbers-back c s d t n f g are in
    let first = atoms_of-selected c s (Selects-slice c s are.has_named are.slice) in
    let second = atoms_of-selected d t (Selects-slice d t are.other_has_named are.other_slice) in
    let agree : All (λ x. belongs t.vars (renumbered f x) ≡ belongs s.vars x) c.atoms = λ k e lt.
    let x = get_or c.atoms k e in
    let same = renumbered-back n f g are.one x (are.declared k e lt) in
    same_bool (belongs t.vars (renumbered f x)) (belongs s.vars x)
    (λ so. subst (λ (y : Atom). belongs s.vars y ≡ true) same
    (belongs-renumbered d t c s n g f again (renumbered f x) so))
    (belongs-renumbered c s d t n f g are x)
    in
    second ∙ ap (filter (belongs t.vars)) are.atoms
    ∙ filter-map_agree (belongs t.vars) (belongs s.vars) (renumbered f) c.atoms agree
    ∙ ap (map (renumbered f)) (sym first)

named-renumbered : (f : ℕ → ℕ) (atoms : List Atom) → named (map (renumbered f) atoms) ≡ map f (named atoms)
named-renumbered f [] = refl
named-renumbered f (x ∷ xs) =
    ap (λ (vs : List ℕ). vs ++ named (map (renumbered f) xs)) (atom_vars-renumbered f x)
    ∙ ap (λ (vs : List ℕ). map f (atom_vars x) ++ vs) (named-renumbered f xs)
    ∙ sym (map-append f (atom_vars x) (named xs))

-- the first ones of other numbers
first_ones-renumbered : (n : ℕ) (f g : ℕ → ℕ) → IsOneToOne n f g → (xs : List ℕ) → All (λ v. v < n) xs
    → first_ones (map f xs) ≡ map f (first_ones xs)
first_ones-renumbered n f g one [] within = refl
first_ones-renumbered n f g one (x ∷ xs) within =
    let rest = first_ones-renumbered n f g one xs (All-tail (λ v. v < n) x xs within) in
    let below : (v : ℕ) → Contains (first_ones xs) v → v < n =
    λ v has. All-contains (λ w. w < n) xs v (All-tail (λ w. w < n) x xs within)
    ((Contains-first_ones xs v).0 has) in
    let agree : All (λ w. not (f w == f x) ≡ not (w == x)) (first_ones xs) = λ k e lt.
    let w = get_or (first_ones xs) k e in
    ap not (apart n f g one w x (below w (Contains-get_or (first_ones xs) k e lt)) (All-head (λ v. v < n) x xs within))
    in
    ap (λ (ys : List ℕ). f x ∷ filter (λ w. not (w == f x)) ys) rest
    ∙ ap (λ (ys : List ℕ). f x ∷ ys)
    (filter-map_agree (λ w. not (w == f x)) (λ w. not (w == x)) f (first_ones xs) agree)

-- what atoms of the slice name is below n
named_within : (c : PlainCondition) (s : PlainSlice) (n : ℕ) → length c.vars ≡ n → HasNamed c s → IsSliceIn c s
    → All (λ v. v < n) (named (atoms_of c s))
named_within c s n count has_named one k e lt =
    let all = named (atoms_of c s) in
    let v = get_or all k e in
    let in_order : Contains (order_of c s) v =
    (Contains-first_ones (all ++ s.vars) v).1 (Contains-append_left all s.vars v (Contains-get_or all k e lt)) in
    let below = order_of-below c s has_named one v in_order in
    omega arith

-- the order of the slice's variables is the same, under their other numbers
order_of-renumbered : (c : PlainCondition) (s : PlainSlice) (d : PlainCondition) (t : PlainSlice) (n : ℕ) (f g : ℕ → ℕ)
    → Renumbers c s d t n f g → order_of d t ≡ map f (order_of c s)
order_of-renumbered c s d t n f g are =
    let all = named (atoms_of c s) in
    let again : named (atoms_of d t) ≡ map f all =
    ap named (atoms_of-renumbered c s d t n f g are) ∙ named-renumbered f (atoms_of c s) in
    let is_back : (w : ℕ) → Contains t.vars w → f (g w) ≡ w = λ w has. are.back.back w (let lt =
    (IsWithin-slice d t are.other_slice).vars w has in let count = are.other_count in omega arith) in
    elim (named_or_alone c s are.has_named are.slice) [
      | inl are_named ↦ (
          let other_named : AreNamed d t = λ w has. subst (λ (vs : List ℕ). Contains vs w) (sym again)
          (subst (Contains (map f all)) (is_back w has)
          (Contains-map f all (g w) (are_named (g w) (are.other_vars w has)))) in
          order_of-named d t other_named ∙ ap first_ones again
          ∙ first_ones-renumbered n f g are.one all (named_within c s n are.count are.has_named are.slice)
          ∙ ap (map f) (sym (order_of-named c s are_named))
          )
      | inr alone ↦ (
          let u = alone.var in
          order_of-alone d t (f u) (again ∙ ap (map f) alone.unnamed) (are.vars u alone.has)
          (λ w has. sym (is_back w has) ∙ ap f (alone.no_other (g w) (are.other_vars w has)))
          ∙ ap (map f) (sym (order_of-alone c s u alone.unnamed alone.has alone.no_other))
          )
    ]

-- a bound is that of the variable under its other number
IsBound-renumbered : (c : PlainCondition) (s : PlainSlice) (d : PlainCondition) (t : PlainSlice) (n : ℕ) (f g : ℕ → ℕ)
    → Renumbers c s d t n f g → (order : List ℕ) (a : PlainKeyAtom) → All (λ v. v < n) order → IsBound c order a
    → IsBound d (map f order) a
IsBound-renumbered c s d t n f g are order a within bound =
    let v = bound.0 in
    let w = slice_index order v in
    let found = Found-from (slice_get c.vars w) (λ var. (a ≡ upper_atom v var) ⊎ (a ≡ lower_atom v var)) bound.2 in
    let var = found.value in
    let lt : w < n = within v 0 bound.1 in
    let other_lt : f w < length d.vars = let below = are.one.within w lt in let count =
    are.other_count in omega arith in
    let other_found = Found-at d.vars (f w) other_lt in
    let other = other_found.value in
    let same : HaveSameBounds var other =
    subst (λ (x : PlainVar). HaveSameBounds x other) (get_or_from_slice_get c.vars w var var found.is)
    (subst (λ (x : PlainVar). HaveSameBounds (get_or c.vars w var) x)
    (get_or_from_slice_get d.vars (f w) other var other_found.is) (are.bounds w var lt))
    in
    let one : (a ≡ upper_atom v other) ⊎ (a ≡ lower_atom v other) = elim found.holds [
      | inl upper ↦
          inl (upper ∙ ap (λ (z : ℤ). let b : PlainKeyAtom = record { form = variable v; op = Le; constant = z } in b)
          same.hi)
      | inr lower ↦
          inr (lower ∙ ap (λ (z : ℤ). let b : PlainKeyAtom = record { form = variable v; op = Ge; constant = z } in b)
          same.lo)
    ]
    in
    let index : slice_index (map f order) v ≡ f w = get_or-map f order v 0 0 bound.1 in (
      v,
      omega (arith, bound.1, length-map order f),
      subst (λ (i : ℕ). IsSomeAnd (slice_get d.vars i) (λ x. (a ≡ upper_atom v x) ⊎ (a ≡ lower_atom v x))) (sym index)
          (IsSomeAnd-found (slice_get d.vars (f w))
          (λ x. (a ≡ upper_atom v x) ⊎ (a ≡ lower_atom v x)) other other_found.is one),
    )

-- what the slice's variables and atoms have to be below
order_within : (c : PlainCondition) (s : PlainSlice) (d : PlainCondition) (t : PlainSlice) (n : ℕ) (f g : ℕ → ℕ)
    → Renumbers c s d t n f g → All (λ v. v < n) (order_of c s)
order_within c s d t n f g are k e lt =
    let v = get_or (order_of c s) k e in
    let below = order_of-below c s are.has_named are.slice v (Contains-get_or (order_of c s) k e lt) in
    let count = are.count in
    omega arith

atoms_below : (c : PlainCondition) (s : PlainSlice) (d : PlainCondition) (t : PlainSlice) (n : ℕ) (f g : ℕ → ℕ)
    → Renumbers c s d t n f g → All (AtomNamesBelow n) (atoms_of c s)
atoms_below c s d t n f g are =
    let selected = atoms_of-selected c s (Selects-slice c s are.has_named are.slice) in
    subst (λ (atoms : List Atom). All (AtomNamesBelow n) atoms) (sym selected)
    (All-filter (belongs s.vars) (AtomNamesBelow n) c.atoms are.declared)

-- the canonical form of an atom of the slice stays
same_form-renumbered : (c : PlainCondition) (s : PlainSlice) (d : PlainCondition) (t : PlainSlice) (n : ℕ) (f g : ℕ → ℕ)
    → Renumbers c s d t n f g → (x : Atom) → AtomNamesBelow n x
    → canonical_form (order_of d t) (renumbered f x) ≡ canonical_form (order_of c s) x
same_form-renumbered c s d t n f g are x below =
    ap (λ (o : List ℕ). canonical_form o (renumbered f x)) (order_of-renumbered c s d t n f g are)
    ∙ canonical_form-renumbered n f g are.one (order_of c s) x (order_within c s d t n f g are) below

IsGiven-renumbered : (c : PlainCondition) (s : PlainSlice) (d : PlainCondition) (t : PlainSlice) (n : ℕ) (f g : ℕ → ℕ)
    → Renumbers c s d t n f g → (a : PlainKeyAtom) → IsGiven c s a → IsGiven d t a
IsGiven-renumbered c s d t n f g are a given =
    let order = order_of-renumbered c s d t n f g are in
    let within = order_within c s d t n f g are in
    elim given [
      | inl any ↦ (
          let x = any.1 in
          let among : Contains (atoms_of c s) x = (any.0, any.2, any.3) in
          let there : Contains (atoms_of d t) (renumbered f x) =
          subst (λ (atoms : List Atom). Contains atoms (renumbered f x))
          (sym (atoms_of-renumbered c s d t n f g are)) (Contains-map (renumbered f) (atoms_of c s) x among) in
          let below = All-contains (AtomNamesBelow n) (atoms_of c s) x (atoms_below c s d t n f g are) among in
          let same = same_form-renumbered c s d t n f g are x below in
          inl (there.0, renumbered f x, there.1, there.2, same ∙ any.4)
          )
      | inr bound ↦ inr (subst (λ (o : List ℕ). IsBound d o a) (sym order)
          (IsBound-renumbered c s d t n f g are (order_of c s) a within bound))
    ]

NoFormIsFalse-renumbered : (c : PlainCondition) (s : PlainSlice) (d : PlainCondition) (t : PlainSlice) (n : ℕ)
    (f g : ℕ → ℕ) → Renumbers c s d t n f g → NoFormIsFalse c s → NoFormIsFalse d t
NoFormIsFalse-renumbered c s d t n f g are none =
    let P : Atom → Type 0 = λ y. canonical_form (order_of d t) y ≢ False in
    subst (λ (atoms : List Atom). All P atoms) (sym (atoms_of-renumbered c s d t n f g are))
    (All-map P (renumbered f) (atoms_of c s) (λ k e lt is.
    let x = get_or (atoms_of c s) k e in
    let same = same_form-renumbered c s d t n f g are x (atoms_below c s d t n f g are k e lt) in
    none k e lt (sym same ∙ is)))

-- what the second condition's atoms name is declared there
NamesDeclared-renumbered : (c d : PlainCondition) (f g : ℕ → ℕ) → NamesDeclared c → IsOneToOne (length c.vars) f g
    → IsRenumbered f c d → NamesDeclared d
NamesDeclared-renumbered c d f g declared one is =
    let n = length c.vars in
    let below : All (AtomNamesBelow n) d.atoms =
    subst (All (AtomNamesBelow n)) (sym is.atoms) (AtomNamesBelow-renumbered n f g one c.atoms declared) in
    subst (λ (m : ℕ). All (AtomNamesBelow m) d.atoms) (sym is.count) below

pub RenumberingKeepsKeys-lem : SlicesPartition → RenumberingKeepsKeys
RenumberingKeepsKeys-lem parts c d s t f g fits one back is slice other_slice same =
    let n = length c.vars in
    let are : Renumbers c s d t n f g = record {
      one = one;
      back = back;
      count = refl;
      other_count = is.count;
      declared = fits.in_range;
      bounds = is.bounds;
      atoms = is.atoms;
      slice = slice;
      other_slice = other_slice;
      has_named = HasNamed-slice parts c s fits.in_range slice;
      other_has_named = HasNamed-slice parts d t (NamesDeclared-renumbered c d f g fits.in_range one is) other_slice;
      vars = λ v has. (same v ((IsWithin-slice c s slice).vars v has)).0 has;
      other_vars = λ w has.
          let lt : w < n = let below = (IsWithin-slice d t other_slice).vars w has in let count =
          is.count in omega arith in
          (same (g w) (back.within w lt)).1 (subst (Contains t.vars) (sym (back.back w lt)) has);
    }
    in
    let again = Renumbers-back c s d t n f g are in
    HaveSameKeys-given c s d t (NoFormIsFalse-renumbered c s d t n f g are)
    (NoFormIsFalse-renumbered d t c s n g f again) (IsGiven-renumbered c s d t n f g are)
    (IsGiven-renumbered d t c s n g f again)
