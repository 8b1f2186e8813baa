-- A slice's variables are named by its atoms, or there is one alone and no atom names any.
use Rattle.std.proofs.Common.{◌≡◌, ◌⊎◌, ℕ, ◌<◌, List, [], ◌∷◌, ◌++◌, length, get_or, Bool, true, if◌then◌else◌, refl}
use Rattle.std.proofs.Common.{sym, ap, ◌∙◌, subst, inl, inr, arith}
use Rattle.std.specs.List.{All, Any, Contains, filter, flat_map}
use Rattle.std.proofs.lemmas.List.Elements.{Contains-append_cases, Contains-get_or, All-contains, filter_passes}
use Rattle.std.proofs.lemmas.Bool.{cases_Bool}
use Rattle.lin_model.specs.Conditions.{PlainCondition}
use Rattle.lin_model.specs.declared.atom.Atom.{Atom}
use Rattle.lin_model.specs.Lists.{Contains-first, Contains-later, Contains-cases, nil_from_none}
use Rattle.slicer.specs.Names.{Names, atom_vars, NamesNothingAt}
use Rattle.slicer.specs.Linked.{Chain, alone, longer}
use Rattle.slicer.specs.Laws.{HasNamed}
use Rattle.slicer.specs.Slices.{PlainSlice, IsSliceOf, IsFront, least}
use Rattle.canoniser.specs.Numbering.{first_ones, atoms_of, order_of}
use Rattle.canoniser.specs.Keys.{IsSliceIn}
use Rattle.canoniser.proofs.SliceLemmas.{only}
use Rattle.canoniser.proofs.SelectLemmas.{is_among, is_among-tells, belongs, belongs-tells, NamesOne, Selects-slice}
use Rattle.canoniser.proofs.SelectLemmas.{atoms_of-selected}
use Rattle.canoniser.proofs.NumberingLemmas.{Contains-flat_map, Source-flat_map}
use Rattle.canoniser.proofs.RepeatLemmas.{first_ones-known}

-- the variables that atoms name
abbrev pub named : List Atom → List ℕ
named atoms = flat_map atom_vars atoms

-- an element that passes stays
Contains-passing : (p : Atom → Bool) (xs : List Atom) (x : Atom) → p x ≡ true → Contains xs x → Contains (filter p xs) x
Contains-passing p [] x passes has = absurd (omega (arith, has.1))
Contains-passing p (y ∷ ys) x passes has = elim (Contains-cases y ys x has) [
  | inl here ↦ (
      let kept : p y ≡ true = ap p here ∙ passes in
      subst (λ (b : Bool). Contains (if b then y ∷ filter p ys else filter p ys) x) (sym kept)
      (subst (Contains (y ∷ filter p ys)) here (Contains-first y (filter p ys)))
      )
  | inr later ↦ elim (cases_Bool (p y)) [
    | inl kept ↦ subst (λ (b : Bool). Contains (if b then y ∷ filter p ys else filter p ys) x) (sym kept)
        (Contains-later y (filter p ys) x (Contains-passing p ys x passes later))
    | inr gone ↦ subst (λ (b : Bool). Contains (if b then y ∷ filter p ys else filter p ys) x) (sym gone)
        (Contains-passing p ys x passes later)
  ]
]

-- a chain that goes anywhere names its ends
last_named : (c : PlainCondition) (u v : ℕ) → Chain Names c.atoms u v → (u ≡ v) ⊎ Any (λ x. Names x v) c.atoms
last_named c u v alone = inl refl
last_named c u v (longer chain beside) = inr (beside.0, beside.1, beside.2, beside.3, beside.4.1)

first_named : (c : PlainCondition) (u v : ℕ) → Chain Names c.atoms u v → (u ≡ v) ⊎ Any (λ x. Names x u) c.atoms
first_named c u v alone = inl refl
first_named c u v (longer {last} chain beside) = elim (first_named c u last chain) [
  | inl same ↦ inr (beside.0, beside.1, beside.2, beside.3, subst (Names beside.1) (sym same) beside.4.0)
  | inr any ↦ inr any
]

-- all variables of the slice are named by its atoms
abbrev pub AreNamed : PlainCondition → PlainSlice → Type 0
AreNamed c s = (v : ℕ) → Contains s.vars v → Contains (named (atoms_of c s)) v

-- it has one variable, and its atoms name none
pub record IsAlone (c : PlainCondition) (s : PlainSlice) : Type 0 where
  pub var : ℕ
  pub has : Contains s.vars var
  pub no_other : (v : ℕ) → Contains s.vars v → v ≡ var
  pub unnamed : named (atoms_of c s) ≡ []

-- an atom that names a variable of the slice is one of its atoms
named_by : (c : PlainCondition) (s : PlainSlice) (v : ℕ) → atoms_of c s ≡ filter (belongs s.vars) c.atoms
    → Contains s.vars v → Any (λ x. Names x v) c.atoms → Contains (named (atoms_of c s)) v
named_by c s v selected has any =
    let x = any.1 in
    let passes = (belongs-tells s.vars x (omega (arith, has.1))).1 (v, has, any.4) in
    let among : Contains (atoms_of c s) x =
    subst (λ (xs : List Atom). Contains xs x) (sym selected)
    (Contains-passing (belongs s.vars) c.atoms x passes (any.0, any.2, any.3)) in
    Contains-flat_map atom_vars (atoms_of c s) x v among any.4

-- each atom of the slice names one of its variables, where it has any
names_one : (c : PlainCondition) (s : PlainSlice) (x : Atom) → atoms_of c s ≡ filter (belongs s.vars) c.atoms
    → 0 < length s.vars → Contains (atoms_of c s) x → NamesOne s.vars x
names_one c s x selected some has =
    (belongs-tells s.vars x some).0
    (All-contains (λ y. belongs s.vars y ≡ true) (filter (belongs s.vars) c.atoms) x
    (filter_passes (belongs s.vars) c.atoms) (subst (λ (xs : List Atom). Contains xs x) selected has))

AreNamed-class : (c : PlainCondition) (var : ℕ) (s : PlainSlice) → atoms_of c s ≡ filter (belongs s.vars) c.atoms
    → IsSliceOf c var s → AreNamed c s ⊎ IsAlone c s
AreNamed-class c var s selected is =
    let all = named (atoms_of c s) in
    let has_var : Contains s.vars var = (is.vars.just var).1 (is.declared, alone) in
    elim (cases_Bool (is_among all var)) [
      | inl is_named ↦ inl (λ v has. elim (last_named c var v ((is.vars.just v).0 has).1) [
        | inl same ↦ subst (Contains all) same ((is_among-tells all var).0 is_named)
        | inr any ↦ named_by c s v selected has any
      ])
      | inr unnamed ↦ (
          let missing : ¬ Contains all var = λ has. let there = (is_among-tells all var).1 has in cc in
          let no_other : (v : ℕ) → Contains s.vars v → v ≡ var =
          λ v has. elim (first_named c var v ((is.vars.just v).0 has).1) [
            | inl same ↦ sym same
            | inr any ↦ absurd (missing (named_by c s var selected has_var any))
          ]
          in
          inr (record {
            var = var;
            has = has_var;
            no_other = no_other;
            unnamed = nil_from_none all (λ w has.
                let source = Source-flat_map atom_vars (atoms_of c s) w has in
                let one = names_one c s source.element selected (omega (arith, has_var.1)) source.among in
                missing (Contains-flat_map atom_vars (atoms_of c s) source.element var source.among
                (subst (Names source.element) (no_other one.0 one.1) one.2)));
          })
          )
    ]

AreNamed-front : (c : PlainCondition) (front : List PlainSlice) (s : PlainSlice)
    → IsFront (NamesNothingAt c.atoms) front → Contains front s → AreNamed c s
AreNamed-front c [] s is has = absurd (omega (arith, has.1))
AreNamed-front c (slice ∷ []) s is has =
    let none : s.vars ≡ [] = ap (λ (x : PlainSlice). x.vars) (sym (only slice s has.0 has.1 has.2)) ∙ is.vars in
    λ v there. let no_more = subst (λ (vs : List ℕ). Contains vs v) none there in absurd (omega (arith, no_more.1))
AreNamed-front c (slice ∷ another ∷ more) s is has = absurd is

pub named_or_alone : (c : PlainCondition) (s : PlainSlice) → HasNamed c s → IsSliceIn c s → AreNamed c s ⊎ IsAlone c s
named_or_alone c s has_named one =
    let all = one.all in
    let has : Contains (all.front ++ all.classes) s = rw all.joined at one.one in
    elim (Contains-append_cases all.front all.classes s has) [
      | inl in_front ↦ inl (AreNamed-front c all.front s all.variable_free in_front)
      | inr in_classes ↦ AreNamed-class c (least s) s (atoms_of-selected c s (Selects-slice c s has_named one))
          (All-contains (λ slice. IsSliceOf c (least slice) slice) all.classes s all.linked.each in_classes)
    ]

-- the order where the atoms name all variables, and where there is one alone
pub order_of-named : (c : PlainCondition) (s : PlainSlice) → AreNamed c s
    → order_of c s ≡ first_ones (named (atoms_of c s))
order_of-named c s are =
    first_ones-known (named (atoms_of c s)) s.vars (λ k d lt. are (get_or s.vars k d) (Contains-get_or s.vars k d lt))

-- numbers that are all the same have one first
pub first_ones-single : (xs : List ℕ) (x : ℕ) → Contains xs x → ((y : ℕ) → Contains xs y → y ≡ x)
    → first_ones xs ≡ x ∷ []
first_ones-single [] x has same = absurd (omega (arith, has.1))
first_ones-single (y ∷ ys) x has same =
    let first : y ≡ x = same y (Contains-first y ys) in
    let known : All (Contains (y ∷ [])) ys = λ k d lt.
    let z = get_or ys k d in
    let is : z ≡ x = same z (Contains-later y ys z (Contains-get_or ys k d lt)) in
    subst (Contains (y ∷ [])) (first ∙ sym is) (Contains-first y [])
    in
    first_ones-known (y ∷ []) ys known ∙ ap (λ (v : ℕ). v ∷ []) first

pub order_of-alone : (c : PlainCondition) (s : PlainSlice) (var : ℕ) → named (atoms_of c s) ≡ [] → Contains s.vars var
    → ((v : ℕ) → Contains s.vars v → v ≡ var) → order_of c s ≡ var ∷ []
order_of-alone c s var unnamed has no_other =
    ap (λ (vs : List ℕ). first_ones (vs ++ s.vars)) unnamed ∙ first_ones-single s.vars var has no_other
