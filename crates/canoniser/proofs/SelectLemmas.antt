-- The atoms of a slice are those of the condition that belong to its variables.
use Rattle.std.proofs.Common.{◌≡◌, ◌↔◌, ℕ, suc, ◌+◌, ◌<◌, ◌≤◌, List, [], ◌∷◌, ◌++◌, length, drop, get_or, Option, Some}
use Rattle.std.proofs.Common.{None, Bool, true, false, if◌then◌else◌, refl, sym, ap, ◌∙◌, subst, inl, inr, arith}
use Rattle.std.specs.Prelude.{◌==◌}
use Rattle.std.specs.List.{AllPairs, Contains, slice_get, filter, filter_map, cons_option, list_any}
use Rattle.std.specs.Option.{IsSomeAnd}
use Rattle.std.proofs.lemmas.List.{drop_more, length-drop}
use Rattle.std.proofs.lemmas.List.Folds.{Any-from_list_any, list_any-from_Any}
use Rattle.std.proofs.lemmas.List.Elements.{Contains-append_cases, All-contains}
use Rattle.std.proofs.lemmas.Bool.{cases_Bool}
use Rattle.std.proofs.lemmas.Bool.Decides.{eqb_tells, Decides-eqb}
use Rattle.std.proofs.lemmas.Option.{slice_get_read}
use Rattle.lin_model.specs.Conditions.{PlainCondition}
use Rattle.lin_model.specs.declared.atom.Atom.{Atom}
use Rattle.lin_model.specs.Lists.{Contains-cases, Found-from, IsSomeAnd-found, within_from_IsSomeAnd}
use Rattle.slicer.specs.Names.{Names, NamesNothingAt, atom_vars}
use Rattle.slicer.specs.Linked.{alone}
use Rattle.slicer.specs.Laws.{HasNamed}
use Rattle.slicer.specs.Slices.{PlainSlice, IsSliceOf, IsVariableFree, IsFront, least}
use Rattle.canoniser.specs.Keys.{IsSliceIn}
use Rattle.canoniser.specs.Numbering.{atoms_of}
use Rattle.canoniser.proofs.SliceLemmas.{only}

-- a number is among the numbers
abbrev pub is_among : List ℕ → ℕ → Bool
is_among numbers v = list_any (λ w. w == v) numbers

pub is_among-tells : (numbers : List ℕ) (v : ℕ) → (is_among numbers v ≡ true) ↔ Contains numbers v
is_among-tells numbers v = (
  λ so. let any = Any-from_list_any (λ w. w == v) numbers so in let same : any.1 ≡ v =
      (Decides-eqb any.1 v).0 any.4 in subst (Contains numbers) same (any.0, any.2, any.3),
  λ has. list_any-from_Any (λ w. w == v) numbers (has.0, v, has.1, has.2, (Decides-eqb v v).1 refl),
)

abbrev is_nothing : List ℕ → Bool
is_nothing [] = true
is_nothing (v ∷ vs) = false

-- the atom names one of the variables, or none where there are none
abbrev pub belongs : List ℕ → Atom → Bool
belongs [] atom = is_nothing (atom_vars atom)
belongs (v ∷ vs) atom = list_any (is_among (v ∷ vs)) (atom_vars atom)

is_nothing-tells : (xs : List ℕ) → (is_nothing xs ≡ true) ↔ (xs ≡ [])
is_nothing-tells [] = (λ so. refl, λ is. refl)
is_nothing-tells (x ∷ xs) = (λ so. absurd (cc), λ is. absurd (cc))

-- it names one of them
abbrev pub NamesOne : List ℕ → Atom → Type 0
NamesOne vars atom = (v : ℕ) × Contains vars v × Names atom v

any_among-tells : (vars named : List ℕ)
    → (list_any (is_among vars) named ≡ true) ↔ ((v : ℕ) × Contains vars v × Contains named v)
any_among-tells vars named = (
  λ so. let any =
      Any-from_list_any (is_among vars) named so in (any.1, (is_among-tells vars any.1).0 any.4, (any.0, any.2, any.3)),
  λ one. list_any-from_Any (is_among vars) named
      (one.2.0, one.0, one.2.1, one.2.2, (is_among-tells vars one.0).1 one.1),
)

pub belongs-tells : (vars : List ℕ) (atom : Atom) → 0 < length vars → (belongs vars atom ≡ true) ↔ NamesOne vars atom
belongs-tells [] atom some = absurd (omega arith)
belongs-tells (v ∷ vs) atom some = any_among-tells (v ∷ vs) (atom_vars atom)

IsSomeAnd-weaker : {X : Type 0} (o : Option X) (P Q : X → Type 0) → ((x : X) → P x → Q x) → IsSomeAnd o P
    → IsSomeAnd o Q
IsSomeAnd-weaker None P Q weaker some = absurd some
IsSomeAnd-weaker (Some x) P Q weaker some = weaker x some

-- the numbers of a slice's atoms are those of the atoms that belong to its variables
pub record Selects (c : PlainCondition) (s : PlainSlice) : Type 0 where
  pub ascending : AllPairs ◌<◌ s.atoms
  pub just : (j : ℕ) → Contains s.atoms j ↔ IsSomeAnd (slice_get c.atoms j) (λ atom. belongs s.vars atom ≡ true)

Selects-class : (c : PlainCondition) (var : ℕ) (s : PlainSlice) → HasNamed c s → IsSliceOf c var s → Selects c s
Selects-class c var s has_named is =
    let some : 0 < length s.vars = let first = (is.vars.just var).1 (is.declared, alone) in omega (arith, first.1) in
    record {
      ascending = is.atoms.ascending;
      just = λ j. (
        λ has.
            let one = (is.atoms.just j).0 has in
            let found = Found-from (slice_get c.atoms j) (λ atom. Names atom one.0) one.2 in
            let in_slice = has_named j one.0 has one.2 in
            IsSomeAnd-found (slice_get c.atoms j) (λ atom. belongs s.vars atom ≡ true) found.value found.is
            ((belongs-tells s.vars found.value some).1 (one.0, in_slice, found.holds)),
        λ there.
            let found = Found-from (slice_get c.atoms j) (λ atom. belongs s.vars atom ≡ true) there in
            let one = (belongs-tells s.vars found.value some).0 found.holds in
            (is.atoms.just j).1 (
              one.0,
              ((is.vars.just one.0).0 one.1).1,
              IsSomeAnd-found (slice_get c.atoms j) (λ atom. Names atom one.0) found.value found.is one.2,
            ),
      );
    }

pub belongs-nothing : (vars : List ℕ) (atom : Atom) → vars ≡ [] → (belongs vars atom ≡ true) ↔ (atom_vars atom ≡ [])
belongs-nothing [] atom none = is_nothing-tells (atom_vars atom)
belongs-nothing (v ∷ vs) atom none = absurd (cc)

Selects-free : (c : PlainCondition) (s : PlainSlice) → IsVariableFree (NamesNothingAt c.atoms) s → Selects c s
Selects-free c s is = record {
  ascending = is.atoms.ascending;
  just = λ j. (
    λ has. IsSomeAnd-weaker (slice_get c.atoms j) (λ atom. atom_vars atom ≡ []) (λ atom. belongs s.vars atom ≡ true)
        (λ atom none. (belongs-nothing s.vars atom is.vars).1 none) ((is.atoms.just j).0 has),
    λ there. (is.atoms.just j).1
        (IsSomeAnd-weaker (slice_get c.atoms j) (λ atom. belongs s.vars atom ≡ true) (λ atom. atom_vars atom ≡ [])
        (λ atom so. (belongs-nothing s.vars atom is.vars).0 so) there),
  );
}

Selects-front : (c : PlainCondition) (front : List PlainSlice) (s : PlainSlice) → IsFront (NamesNothingAt c.atoms) front
    → Contains front s → Selects c s
Selects-front c [] s is has = absurd (omega (arith, has.1))
Selects-front c (slice ∷ []) s is has = subst (Selects c) (only slice s has.0 has.1 has.2) (Selects-free c slice is)
Selects-front c (slice ∷ another ∷ more) s is has = absurd is

pub Selects-slice : (c : PlainCondition) (s : PlainSlice) → HasNamed c s → IsSliceIn c s → Selects c s
Selects-slice c s has_named one =
    let all = one.all in
    let has : Contains (all.front ++ all.classes) s = rw all.joined at one.one in
    elim (Contains-append_cases all.front all.classes s has) [
      | inl in_front ↦ Selects-front c all.front s all.variable_free in_front
      | inr in_classes ↦ Selects-class c (least s) s has_named
          (All-contains (λ slice. IsSliceOf c (least slice) slice) all.classes s all.linked.each in_classes)
    ]

-- ascending numbers from k on of just the elements that pass
record SelectsFrom (whole : List Atom) (p : Atom → Bool) (k : ℕ) (numbers : List ℕ) : Type 0 where
  ascending : AllPairs ◌<◌ numbers
  just : (n : ℕ) → Contains numbers n ↔ ((k ≤ n) × IsSomeAnd (slice_get whole n) (λ x. p x ≡ true))

-- where the element at k doesn't pass, they are those from the next on
SelectsFrom-skipped : (whole : List Atom) (p : Atom → Bool) (k : ℕ) (y : Atom) (numbers : List ℕ)
    → slice_get whole k ≡ Some y → p y ≡ false → SelectsFrom whole p k numbers → SelectsFrom whole p (k + 1) numbers
SelectsFrom-skipped whole p k y numbers is fails from = record {
  ascending = from.ascending;
  just = λ n. (
    λ has. let both = (from.just n).0 has in elim (eqb_tells n k) [
      | inl same ↦ (
          let here : p y ≡ true = subst (λ (o : Option Atom). IsSomeAnd o (λ x. p x ≡ true)) is
          (subst (λ (m : ℕ). IsSomeAnd (slice_get whole m) (λ x. p x ≡ true)) same.1 both.1) in
          absurd (cc)
          )
      | inr other ↦ (let ne = other.1 in let low = both.0 in omega arith, both.1)
    ],
    λ both. (from.just n).1 (let low = both.0 in omega arith, both.1),
  );
}

-- later ones of ascending numbers are greater than the first
later_above : (m : ℕ) (ms : List ℕ) (n : ℕ) → AllPairs ◌<◌ (m ∷ ms) → Contains ms n → m < n
later_above m ms n pairs has =
    let up = pairs 0 (suc has.0) n (omega arith) (omega (arith, has.1)) in
    omega (arith, up, has.2)

-- where the element at k passes, k is the first number, and the others are those from the next on
first_is : (whole : List Atom) (p : Atom → Bool) (k m : ℕ) (ms : List ℕ) (y : Atom) → slice_get whole k ≡ Some y
    → p y ≡ true → SelectsFrom whole p k (m ∷ ms) → m ≡ k
first_is whole p k m ms y is passes from =
    let low = ((from.just m).0 (0, omega arith, refl)).0 in
    elim (Contains-cases m ms k
    ((from.just k).1 (omega arith, IsSomeAnd-found (slice_get whole k) (λ x. p x ≡ true) y is passes))) [
      | inl same ↦ same
      | inr later ↦ (let above = later_above m ms k from.ascending later in absurd (omega arith))
    ]

SelectsFrom-rest : (whole : List Atom) (p : Atom → Bool) (k m : ℕ) (ms : List ℕ) → m ≡ k
    → SelectsFrom whole p k (m ∷ ms) → SelectsFrom whole p (k + 1) ms
SelectsFrom-rest whole p k m ms first from = record {
  ascending = λ i j d lt upto. from.ascending (suc i) (suc j) d (omega arith) (omega arith);
  just = λ n. (
    λ has.
        let both = (from.just n).0 (suc has.0, omega (arith, has.1), has.2) in
        let above = later_above m ms n from.ascending has in
        (omega arith, both.1),
    λ both.
        let low = both.0 in
        elim (Contains-cases m ms n ((from.just n).1 (omega arith, both.1))) [
          | inl same ↦ absurd (omega arith)
          | inr later ↦ later
        ],
  );
}

nothing_past : (whole : List Atom) (p : Atom → Bool) (k : ℕ) (numbers : List ℕ) → length whole ≤ k
    → SelectsFrom whole p k numbers → filter_map (λ j. slice_get whole j) numbers ≡ []
nothing_past whole p k [] past from = refl
nothing_past whole p k (m ∷ ms) past from =
    let both = (from.just m).0 (0, omega arith, refl) in
    let low = both.0 in
    let within = within_from_IsSomeAnd whole (λ x. p x ≡ true) m both.1 in
    absurd (omega arith)

-- what a place of the list has, and the rest
place_of : (whole : List Atom) (y : Atom) (ys : List Atom) (k : ℕ) → y ∷ ys ≡ drop k whole
    → (slice_get whole k ≡ Some y) × (ys ≡ drop (k + 1) whole)
place_of whole y ys k rest =
    let more = ap length rest in
    let lt : k < length whole = omega (arith, length-drop k whole, more) in
    let whole_rest : y ∷ ys ≡ get_or whole k y ∷ drop (k + 1) whole = rest ∙ drop_more whole k y lt in
    let head : y ≡ get_or whole k y = cc in
    let tail : ys ≡ drop (k + 1) whole = cc in
    (slice_get_read whole (length whole) k y refl lt head, tail)

-- what the numbers stand for is what passes
filter_map-selected : (whole ys : List Atom) (p : Atom → Bool) (k : ℕ) (numbers : List ℕ) → ys ≡ drop k whole
    → SelectsFrom whole p k numbers → filter_map (λ j. slice_get whole j) numbers ≡ filter p ys
filter_map-selected whole [] p k numbers rest from =
    let none = ap length rest in
    nothing_past whole p k numbers (omega (arith, length-drop k whole, none)) from
filter_map-selected whole (y ∷ ys) p k [] rest from =
    let place = place_of whole y ys k rest in
    elim (cases_Bool (p y)) [
      | inl passes ↦ (let no =
          (from.just k).1 (omega arith, IsSomeAnd-found (slice_get whole k) (λ x. p x ≡ true) y place.0 passes) in
          absurd (omega (arith, no.1)))
      | inr fails ↦ filter_map-selected whole ys p (k + 1) [] place.1
          (SelectsFrom-skipped whole p k y [] place.0 fails from)
          ∙ sym (ap (λ (b : Bool). if b then y ∷ filter p ys else filter p ys) fails)
    ]
filter_map-selected whole (y ∷ ys) p k (m ∷ ms) rest from =
    let place = place_of whole y ys k rest in
    elim (cases_Bool (p y)) [
      | inl passes ↦ (
          let first = first_is whole p k m ms y place.0 passes from in
          let later = filter_map-selected whole ys p (k + 1) ms place.1 (SelectsFrom-rest whole p k m ms first from) in
          ap (λ (n : ℕ). cons_option (slice_get whole n) (filter_map (λ j. slice_get whole j) ms)) first
          ∙ ap (λ (o : Option Atom). cons_option o (filter_map (λ j. slice_get whole j) ms)) place.0
          ∙ ap (λ (xs : List Atom). y ∷ xs) later
          ∙ sym (ap (λ (b : Bool). if b then y ∷ filter p ys else filter p ys) passes)
          )
      | inr fails ↦ filter_map-selected whole ys p (k + 1) (m ∷ ms) place.1
          (SelectsFrom-skipped whole p k y (m ∷ ms) place.0 fails from)
          ∙ sym (ap (λ (b : Bool). if b then y ∷ filter p ys else filter p ys) fails)
    ]

-- the atoms of a slice are those that belong to its variables, in their order
pub atoms_of-selected : (c : PlainCondition) (s : PlainSlice) → Selects c s
    → atoms_of c s ≡ filter (belongs s.vars) c.atoms
atoms_of-selected c s selects =
    filter_map-selected c.atoms c.atoms (belongs s.vars) 0 s.atoms refl (record {
      ascending = selects.ascending;
      just = λ n. (λ has. (omega arith, (selects.just n).0 has), λ both. (selects.just n).1 both.1);
    })
