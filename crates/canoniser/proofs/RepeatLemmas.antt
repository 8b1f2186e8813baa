-- An atom that is repeated after itself adds nothing to a slice.
use Rattle.std.proofs.Common.{◌≡◌, ◌↔◌, ℕ, ◌+◌, ◌<◌, List, [], ◌∷◌, ◌++◌, length, take, drop, get_or, Bool, true, refl}
use Rattle.std.proofs.Common.{sym, ap, ◌∙◌, subst, inl, inr, append_assoc, append-nil}
use Rattle.std.specs.List.{All, Contains, filter, flat_map}
use Rattle.std.proofs.lemmas.List.{take_more, drop_more, take-append-drop}
use Rattle.std.proofs.lemmas.List.Concat.{flat_map-append}
use Rattle.std.proofs.lemmas.List.Elements.{filter-append, All-append, All-take, All-drop, Contains-append_left}
use Rattle.std.proofs.lemmas.List.Elements.{Contains-append_right, Contains-append_cases, All-contains_itself}
use Rattle.std.proofs.lemmas.List.Elements.{All-weaker, All-head, All-tail}
use Rattle.std.proofs.lemmas.Bool.{cases_Bool}
use Rattle.lin_model.specs.Conditions.{PlainCondition, AtomNamesBelow}
use Rattle.lin_model.specs.declared.atom.Atom.{Atom}
use Rattle.lin_model.specs.Lists.{Found-at}
use Rattle.slicer.specs.Names.{atom_vars, NamesDeclared}
use Rattle.slicer.specs.Laws.{HasNamed, SlicesPartition}
use Rattle.slicer.specs.Slices.{PlainSlice}
use Rattle.canoniser.specs.Numbering.{first_ones, atoms_of, Gains}
use Rattle.canoniser.specs.Keys.{IsSliceIn}
use Rattle.canoniser.specs.Laws.{repeated, RepeatingKeepsKeys}
use Rattle.canoniser.proofs.GainsLemmas.{Gains-known, Gains-new, Gains-none, Gains-more}
use Rattle.canoniser.proofs.NumberingLemmas.{Contains-first_ones}
use Rattle.canoniser.proofs.SliceLemmas.{HasNamed-slice}
use Rattle.canoniser.proofs.SelectLemmas.{is_among, is_among-tells, belongs, Selects-slice, atoms_of-selected}
use Rattle.canoniser.proofs.SameKeyLemmas.{AreAlike, HaveSameKeys-alike}

-- what a list with the first ones of some numbers becomes with more numbers
record Gained (old more : List ℕ) : Type 0 where
  new : List ℕ
  gains : Gains old new more

gained : (old more : List ℕ) → Gained old more
gained old [] = record { new = old; gains = Gains-none old }
gained old (v ∷ more) = elim (cases_Bool (is_among old v)) [
  | inl known ↦ (
      let rest = gained old more in
      record {
        new = rest.new;
        gains =
            Gains-more old old rest.new (v ∷ []) more (v ∷ more) refl (Gains-known old v known) rest.gains;
      }
      )
  | inr missing ↦ (
      let longer = old ++ v ∷ [] in
      let rest = gained longer more in
      record {
        new = rest.new;
        gains =
            Gains-more old longer rest.new (v ∷ []) more (v ∷ more) refl
            (Gains-new old longer v missing refl) rest.gains;
      }
      )
]

-- lists with the same first ones have the same with more numbers behind them
first_ones-same : (xs ys more : List ℕ) → first_ones xs ≡ first_ones ys
    → first_ones (xs ++ more) ≡ first_ones (ys ++ more)
first_ones-same xs ys more same =
    let g = gained (first_ones xs) more in
    sym (g.gains xs refl) ∙ g.gains ys same

-- numbers that are there add nothing
pub first_ones-known : (xs more : List ℕ) → All (Contains xs) more → first_ones (xs ++ more) ≡ first_ones xs
first_ones-known xs [] known = ap first_ones (append-nil xs)
first_ones-known xs (v ∷ more) known =
    let here : is_among (first_ones xs) v ≡ true =
    (is_among-tells (first_ones xs) v).1 ((Contains-first_ones xs v).1 (All-head (Contains xs) v more known)) in
    let one : first_ones (xs ++ v ∷ []) ≡ first_ones xs = sym (Gains-known (first_ones xs) v here xs refl) in
    ap first_ones (sym (append_assoc xs (v ∷ []) more)) ∙ first_ones-same (xs ++ v ∷ []) xs more one
    ∙ first_ones-known xs more (All-tail (Contains xs) v more known)

-- the variables that atoms name
abbrev named : List Atom → List ℕ
named atoms = flat_map atom_vars atoms

-- atoms that are repeated change no order
order_repeated : (front again back : List Atom) (vars : List ℕ)
    → first_ones (named (front ++ (again ++ back)) ++ vars) ≡ first_ones
    (named ((front ++ again) ++ (again ++ back)) ++ vars)
order_repeated front again back vars =
    let before = named (front ++ again) in
    let more = named back ++ vars in
    let once : named (front ++ (again ++ back)) ++ vars ≡ before ++ more =
    ap (λ (atoms : List Atom). named atoms ++ vars) (sym (append_assoc front again back))
    ∙ ap (λ (vs : List ℕ). vs ++ vars) (flat_map-append atom_vars (front ++ again) back)
    ∙ append_assoc before (named back) vars
    in
    let twice : named ((front ++ again) ++ (again ++ back)) ++ vars ≡ (before ++ named again) ++ more =
    ap (λ (vs : List ℕ). vs ++ vars) (flat_map-append atom_vars (front ++ again) (again ++ back)
    ∙ ap (λ (vs : List ℕ). before ++ vs) (flat_map-append atom_vars again back)
    ∙ sym (append_assoc before (named again) (named back)))
    ∙ append_assoc (before ++ named again) (named back) vars
    in
    let known : All (Contains before) (named again) =
    All-weaker (Contains (named again)) (Contains before)
    (λ v has. subst (λ (vs : List ℕ). Contains vs v) (sym (flat_map-append atom_vars front again))
    (Contains-append_right (named front) (named again) v has)) (named again) (All-contains_itself (named again))
    in
    ap first_ones once ∙ sym (first_ones-same (before ++ named again) before more
    (first_ones-known before (named again) known)) ∙ ap first_ones (sym twice)

-- and no atom is more or less
atoms_repeated : (front again back : List Atom) (x : Atom)
    → Contains (front ++ (again ++ back)) x ↔ Contains ((front ++ again) ++ (again ++ back)) x
atoms_repeated front again back x =
    let both = again ++ back in (
      λ has. elim (Contains-append_cases front both x has) [
        | inl first ↦ Contains-append_left (front ++ again) both x (Contains-append_left front again x first)
        | inr later ↦ Contains-append_right (front ++ again) both x later
      ],
      λ has. elim (Contains-append_cases (front ++ again) both x has) [
        | inl first ↦ elim (Contains-append_cases front again x first) [
          | inl front_has ↦ Contains-append_left front both x front_has
          | inr again_has ↦ Contains-append_right front both x (Contains-append_left again back x again_has)
        ]
        | inr later ↦ Contains-append_right front both x later
      ],
    )

-- what passes from a place on, and what passes of a list with an element that is repeated
filter-from : (p : Atom → Bool) (atoms : List Atom) (i : ℕ) (d : Atom) → i < length atoms
    → filter p (drop i atoms) ≡ filter p (get_or atoms i d ∷ []) ++ filter p (drop (i + 1) atoms)
filter-from p atoms i d lt =
    ap (filter p) (drop_more atoms i d lt) ∙ filter-append p (get_or atoms i d ∷ []) (drop (i + 1) atoms)

filter-once : (p : Atom → Bool) (atoms : List Atom) (i : ℕ) (d : Atom) → i < length atoms
    → filter p atoms ≡ filter p (take i atoms) ++ (filter p (get_or atoms i d ∷ []) ++ filter p (drop (i + 1) atoms))
filter-once p atoms i d lt =
    ap (filter p) (sym (take-append-drop i atoms))
    ∙ filter-append p (take i atoms) (drop i atoms)
    ∙ ap (λ (xs : List Atom). filter p (take i atoms) ++ xs) (filter-from p atoms i d lt)

filter-twice : (p : Atom → Bool) (atoms : List Atom) (i : ℕ) (d : Atom) → i < length atoms
    → filter p (take (i + 1) atoms ++ drop i atoms) ≡ (filter p (take i atoms) ++ filter p (get_or atoms i d ∷ []))
    ++ (filter p (get_or atoms i d ∷ []) ++ filter p (drop (i + 1) atoms))
filter-twice p atoms i d lt =
    filter-append p (take (i + 1) atoms) (drop i atoms)
    ∙ ap (λ (xs : List Atom). xs ++ filter p (drop i atoms))
    (ap (filter p) (take_more atoms i d lt) ∙ filter-append p (take i atoms) (get_or atoms i d ∷ []))
    ∙ ap (λ (xs : List Atom). (filter p (take i atoms) ++ filter p (get_or atoms i d ∷ [])) ++ xs)
    (filter-from p atoms i d lt)

-- the atoms name only variables that there are
NamesDeclared-repeated : (c : PlainCondition) (i : ℕ) → NamesDeclared c → NamesDeclared (repeated i c)
NamesDeclared-repeated c i declared =
    let P : Atom → Type 0 = AtomNamesBelow (length c.vars) in
    All-append P (take (i + 1) c.atoms) (drop i c.atoms) (All-take P (i + 1) c.atoms declared)
    (All-drop P i c.atoms declared)

AreAlike-repeated : (c : PlainCondition) (i : ℕ) (s t : PlainSlice) → HasNamed c s → HasNamed (repeated i c) t
    → i < length c.atoms → IsSliceIn c s → IsSliceIn (repeated i c) t → s.vars ≡ t.vars → AreAlike c s (repeated i c) t
AreAlike-repeated c i s t named_in_s named_in_t lt one two same =
    let d = (Found-at c.atoms i lt).value in
    let p = belongs s.vars in
    let front = filter p (take i c.atoms) in
    let again = filter p (get_or c.atoms i d ∷ []) in
    let back = filter p (drop (i + 1) c.atoms) in
    let once : atoms_of c s ≡ front ++ (again ++ back) =
    atoms_of-selected c s (Selects-slice c s named_in_s one) ∙ filter-once p c.atoms i d lt in
    let twice : atoms_of (repeated i c) t ≡ (front ++ again) ++ (again ++ back) =
    atoms_of-selected (repeated i c) t (Selects-slice (repeated i c) t named_in_t two)
    ∙ ap (λ (vars : List ℕ). filter (belongs vars) (take (i + 1) c.atoms ++ drop i c.atoms)) (sym same)
    ∙ filter-twice p c.atoms i d lt
    in
    record {
      vars = refl;
      order =
          ap (λ (atoms : List Atom). first_ones (named atoms ++ s.vars)) once
          ∙ order_repeated front again back s.vars
          ∙ ap (λ (atoms : List Atom). first_ones (named atoms ++ s.vars)) (sym twice)
          ∙ ap (λ (vars : List ℕ). first_ones (named (atoms_of (repeated i c) t) ++ vars)) same;
      atoms = λ x.
          let both = atoms_repeated front again back x in (
            λ has. subst (λ (atoms : List Atom). Contains atoms x) (sym twice)
                (both.0 (subst (λ (atoms : List Atom). Contains atoms x) once has)),
            λ has. subst (λ (atoms : List Atom). Contains atoms x) (sym once)
                (both.1 (subst (λ (atoms : List Atom). Contains atoms x) twice has)),
          );
    }

pub RepeatingKeepsKeys-lem : SlicesPartition → RepeatingKeepsKeys
RepeatingKeepsKeys-lem parts c i s t fits lt one two same =
    let named_in_s = HasNamed-slice parts c s fits.in_range one in
    let named_in_t = HasNamed-slice parts (repeated i c) t (NamesDeclared-repeated c i fits.in_range) two in
    HaveSameKeys-alike c s (repeated i c) t (AreAlike-repeated c i s t named_in_s named_in_t lt one two same)
