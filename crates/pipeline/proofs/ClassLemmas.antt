-- The slices with variables of a query whose slices were brought to keys.
use Rattle.std.proofs.Common.{◌≡◌, ◌⊎◌, inl, inr, ⊎_elim, ℕ, zero, suc, ◌<◌, ℤ, Option, Some, None, IsSomeAnd, List, []}
use Rattle.std.proofs.Common.{◌∷◌, ◌++◌, length, get_or, slice_get, arith, refl, sym, subst, ◌∙◌}
use Rattle.std.specs.List.{All, Any, AllPairs, Contains, filter_map, cons_option}
use Rattle.std.proofs.lemmas.List.{get_or_default}
use Rattle.std.proofs.lemmas.Slice.Zip.{AllZip-long}
use Rattle.std.proofs.lemmas.Option.{slice_get_within, get_or_from_slice_get}
use Rattle.std.proofs.lemmas.List.Elements.{All-cons}
use Rattle.lin_model.specs.Terms.{value_at, PlainVar}
use Rattle.lin_model.specs.Truth.{AtomHolds, IsAssignment, InBounds}
use Rattle.lin_model.specs.Conditions.{PlainCondition, Fits, Holds, IsSatisfiable}
use Rattle.lin_model.specs.declared.atom.Atom.{Atom}
use Rattle.lin_model.specs.Key.{KeyHolds}
use Rattle.lin_model.specs.Lists.{AllZip-at}
use Rattle.slicer.specs.Slices.{PlainSlice, IsFront}
use Rattle.slicer.specs.Names.{NamesNothingAt}
use Rattle.slicer.specs.Laws.{SlicesPartition, AreApart}
use Rattle.canoniser.specs.Solutions.{point_of}
use Rattle.refutation.specs.Reading.{HasNoPoint}
use Rattle.pipeline.specs.declared.slice_keys.SliceKey.{SliceKey}
use Rattle.pipeline.specs.Asking.{ShareNoVariable}
use Rattle.pipeline.specs.Keyed.{HoldsAt, IsKeyed, AreKeyed}
use Rattle.pipeline.proofs.SliceLemmas.{atom_holds_at}

-- ---- lists

pairs_tail : {X : Type 0} (R : X → X → Type 0) (xs ys : List X) → AllPairs R (xs ++ ys) → AllPairs R ys
pairs_tail {X} R [] ys h = h
pairs_tail {X} R (x ∷ xs) ys h = pairs_tail R xs ys
    (λ i j d lt within. h (suc i) (suc j) d (omega (arith, lt)) (omega (arith, within)))

-- a slice in front, or one behind
any_cases : {X : Type 0} (P : X → Type 0) (xs ys : List X) → Any P (xs ++ ys) → Any P xs ⊎ Any P ys
any_cases {X} P [] ys h = inr h
any_cases {X} P (x ∷ xs) ys (zero, y, lt, is, p) = inl (0, y, omega arith, is, p)
any_cases {X} P (x ∷ xs) ys (suc k, y, lt, is, p) =
    elim (any_cases P xs ys (k, y, omega (arith, lt), is, p)) [
      | inl a ↦ inl (suc a.0, a.1, omega (arith, a.2), a.3, a.4)
      | inr b ↦ inr b
    ]

-- what holds of all holds of those that are picked
one_picked : {X : Type 0} (P : X → Type 0) (xs : List X) (j : ℕ) (ys : List X) → All P xs → (o : Option X)
    → slice_get xs j ≡ o → All P ys → All P (cons_option o ys)
one_picked {X} P xs j ys all None e rest = rest
one_picked {X} P xs j ys all (Some y) e rest = All-cons P y ys
    (subst P (get_or_from_slice_get xs j y y e) (all j y (slice_get_within xs j y e))) rest

all_picked : {X : Type 0} (P : X → Type 0) (xs : List X) (js : List ℕ) → All P xs
    → All P (filter_map (λ j. slice_get xs j) js)
all_picked {X} P xs [] all = λ k d lt. absurd (omega arith)
all_picked {X} P xs (j ∷ js) all = one_picked P xs j (filter_map (λ i. slice_get xs i) js) all (slice_get xs j) refl
    (all_picked P xs js all)

-- ---- keys of slices

keyed_at : (q : PlainCondition) (keys : List SliceKey) (h : AreKeyed q keys) (i : ℕ) (s : PlainSlice) (k : SliceKey)
    → i < length keys → IsKeyed q (get_or h.are.classes i s) (get_or keys i k)
keyed_at q keys h i s k lt = AllZip-at (IsKeyed q) h.are.classes keys i s k h.each
    (omega (arith, lt, AllZip-long (IsKeyed q) h.are.classes keys h.each))

abbrev no_slice : PlainSlice
no_slice = record { vars = []; atoms = [] }

-- the slice of a key
keyed : (q : PlainCondition) (keys : List SliceKey) (h : AreKeyed q keys) (i : ℕ) (k : SliceKey) → i < length keys
    → k ≡ get_or keys i k → IsKeyed q (get_or h.are.classes i no_slice) k
keyed q keys h i k lt is = subst (IsKeyed q (get_or h.are.classes i no_slice)) (sym is)
    (keyed_at q keys h i no_slice k lt)

-- the variables of a slice are declared
pub declared : (q : PlainCondition) (keys : List SliceKey) (h : AreKeyed q keys) (i : ℕ) (k : SliceKey) (v : ℕ)
    → i < length keys → k ≡ get_or keys i k → Contains k.back v → v < length q.vars
declared q keys h i k v lt is has =
    (((h.are.linked.each i no_slice (omega (arith, lt, AllZip-long (IsKeyed q) h.are.classes keys h.each))).vars.just
    v).0 (((keyed q keys h i k lt is).vars v).0 has)).0

pub declared_at : (q : PlainCondition) (keys : List SliceKey) (h : AreKeyed q keys) (i : ℕ) (k : SliceKey)
    → i < length keys → k ≡ get_or keys i k → (n d : ℕ) → n < length k.back → get_or k.back n d < length q.vars
declared_at q keys h i k lt is n d low = declared q keys h i k (get_or k.back n d) lt is
    (n, low, get_or_default k.back n (get_or k.back n d) d low)

-- no variable is in two slices
pub apart : (q : PlainCondition) (keys : List SliceKey) (h : AreKeyed q keys) → SlicesPartition
    → Fits q.vars q.atoms → AllPairs ShareNoVariable keys
apart q keys h law fits i j d lt within v one other =
    (slices i j no_slice lt (omega (arith, within, AllZip-long (IsKeyed q) h.are.classes keys h.each))).vars v
    (((keyed_at q keys h i no_slice d (omega (arith, lt, within))).vars v).0 one)
    (((keyed_at q keys h j no_slice d within).vars v).0 other)
  where
    slices : AllPairs AreApart h.are.classes
    slices = pairs_tail AreApart h.are.front h.are.classes
        (subst (AllPairs AreApart) h.are.joined (law q h.slices fits.in_range h.are).apart)

-- ---- unsatisfiable by a slice

-- no assignment makes a query hold that has a slice without a point
pub unsat_by_slice : (q : PlainCondition) (keys : List SliceKey) (h : AreKeyed q keys) (i : ℕ) (k : SliceKey)
    → i < length keys → k ≡ get_or keys i k → HasNoPoint k.key → IsSatisfiable q → ⊥
unsat_by_slice q keys h i k lt is none (values, holds) =
    none (point_of k.back values) (((keyed q keys h i k lt is).same values holds.assignment).0
    (all_picked (λ atom. AtomHolds atom values) q.atoms (get_or h.are.classes i no_slice).atoms holds.atoms))

-- ---- values that satisfy all keys

-- the values of the slice's variables satisfy its key
abbrev pub SatisfiesKey : List ℤ → SliceKey → Type 0
SatisfiesKey values k = KeyHolds k.key (point_of k.back values)

-- each key is satisfied by the values
abbrev pub SatisfiesAll : List SliceKey → List ℤ → Type 0
SatisfiesAll keys values = All (SatisfiesKey values) keys

pub value_of_point : (back : List ℕ) (values : List ℤ) (v : ℕ) → v < length back → value_at (point_of back values) v
    ≡ value_at values (get_or back v 0)
value_of_point [] values v lt = absurd (omega arith)
value_of_point (w ∷ back) values zero lt = refl
value_of_point (w ∷ back) values (suc v) lt = value_of_point back values v (omega (arith, lt))

-- what holds of the item that is looked up
some_at : {X : Type 0} (xs : List X) (n : ℕ) (d : X) (P : X → Type 0) → IsSomeAnd (slice_get xs n) P → P (get_or xs n d)
some_at {X} xs n d P h = of (slice_get xs n) refl h
  where
    of : (o : Option X) → slice_get xs n ≡ o → IsSomeAnd o P → P (get_or xs n d)
    of None e k = absurd k
    of (Some x) e k = subst P (sym (get_or_from_slice_get xs n x d e)) k

-- the key at a place
key_at : List SliceKey → ℕ → SliceKey
key_at keys i = get_or keys i (record { key = []; back = [] })

key_at-is : (keys : List SliceKey) (i : ℕ) → i < length keys → key_at keys i ≡ get_or keys i (key_at keys i)
unfolding key_at
key_at-is keys i lt = get_or_default keys i (record { key = []; back = [] })
    (get_or keys i (record { key = []; back = [] })) lt

satisfied_at : (keys : List SliceKey) (values : List ℤ) → SatisfiesAll keys values → (i : ℕ) (k : SliceKey)
    → i < length keys → k ≡ get_or keys i k → SatisfiesKey values k
satisfied_at keys values satisfied i k lt is = subst (SatisfiesKey values) (sym is) (satisfied i k lt)

-- every variable is in some slice, whose key keeps its bounds
within_bounds : (q : PlainCondition) (keys : List SliceKey) (h : AreKeyed q keys) (values : List ℤ)
    → SatisfiesAll keys values → (n : ℕ) (var : PlainVar) → n < length q.vars
    → InBounds (get_or q.vars n var) (value_at values n)
within_bounds q keys h values satisfied n var lt = in_class (h.are.linked.every n lt)
  where
    at_place : (i v : ℕ) (k : SliceKey) → i < length keys → k ≡ get_or keys i k → v < length k.back → get_or k.back v 0
        ≡ n → InBounds (get_or q.vars n var) (value_at values n)
    at_place i v k within is low named =
        some_at q.vars n var (λ (x : PlainVar). InBounds x (value_at values n))
        (subst (λ (m : ℕ). IsSomeAnd (slice_get q.vars m) (λ x. InBounds x (value_at values m))) named
        (subst (λ (z : ℤ). IsSomeAnd (slice_get q.vars (get_or k.back v 0)) (λ x. InBounds x z))
        (value_of_point k.back values v low)
        ((keyed q keys h i k within is).bounds (point_of k.back values)
        (satisfied_at keys values satisfied i k within is) v low)))

    in_back : (i : ℕ) (k : SliceKey) → i < length keys → k ≡ get_or keys i k → Contains k.back n
        → InBounds (get_or q.vars n var) (value_at values n)
    in_back i k within is (v, low, named) = at_place i v k within is low (get_or_default k.back v 0 n low ∙ named)

    in_class : Any (λ slice. Contains slice.vars n) h.are.classes → InBounds (get_or q.vars n var) (value_at values n)
    in_class (i, s, within, is, has) =
        let lt_keys : i < length keys = omega (arith, within, AllZip-long (IsKeyed q) h.are.classes keys h.each) in
        let here : get_or h.are.classes i no_slice ≡ s = get_or_default h.are.classes i no_slice s within ∙ is in
        in_back i (key_at keys i) lt_keys (key_at-is keys i lt_keys)
        (((keyed q keys h i (key_at keys i) lt_keys (key_at-is keys i lt_keys)).vars n).1
        (subst (λ (t : PlainSlice). Contains t.vars n) (sym here) has))

assigned : (q : PlainCondition) (keys : List SliceKey) (h : AreKeyed q keys) (values : List ℤ)
    → SatisfiesAll keys values → length values ≡ length q.vars → IsAssignment q.vars values
assigned q keys h values satisfied long = record
    { one_each = long; within = λ n var lt. within_bounds q keys h values satisfied n var lt }

-- every atom is in some slice, whose key says the same
all_hold : (q : PlainCondition) (keys : List SliceKey) (h : AreKeyed q keys) (values : List ℤ) → SlicesPartition
    → Fits q.vars q.atoms → SatisfiesAll keys values → IsAssignment q.vars values
    → All (λ atom. AtomHolds atom values) q.atoms
all_hold q keys h values law fits satisfied assignment j d lt =
    some_at q.atoms j d (λ (atom : Atom). AtomHolds atom values)
    (by_slice (any_cases (λ slice. Contains slice.atoms j) h.are.front h.are.classes
    (subst (Any (λ slice. Contains slice.atoms j)) h.are.joined ((law q h.slices fits.in_range h.are).each_atom j lt))))
  where
    in_front : (front : List PlainSlice) → IsFront (NamesNothingAt q.atoms) front
        → Any (λ slice. Contains slice.atoms j) front → HoldsAt q values j
    in_front [] free (k, s, within, is, has) = absurd (omega arith)
    in_front (t ∷ []) free (k, s, within, is, has) = h.variable_free values assignment j
        ((free.atoms.just j).0 (subst (λ (u : PlainSlice). Contains u.atoms j) (sym (only k within is)) has))
      where
        only : (k : ℕ) → k < length (t ∷ []) → get_or (t ∷ []) k s ≡ s → t ≡ s
        only zero w e = e
        only (suc k) w e = absurd (omega (arith, w))
    in_front (t ∷ u ∷ more) free any = absurd free

    in_class : Any (λ slice. Contains slice.atoms j) h.are.classes → HoldsAt q values j
    in_class (i, s, within, is, has) =
        let lt_keys : i < length keys = omega (arith, within, AllZip-long (IsKeyed q) h.are.classes keys h.each) in
        let here : get_or h.are.classes i no_slice ≡ s = get_or_default h.are.classes i no_slice s within ∙ is in
        let k : SliceKey = key_at keys i in
        let satisfied_k : SatisfiesKey values (key_at keys i) =
        satisfied_at keys values satisfied i (key_at keys i) lt_keys (key_at-is keys i lt_keys) in
        atom_holds_at q (get_or h.are.classes i no_slice) values j
        (((keyed q keys h i (key_at keys i) lt_keys (key_at-is keys i lt_keys)).same values assignment).1
        satisfied_k) (subst (λ (t : PlainSlice). Contains t.atoms j) (sym here) has) lt

    by_slice : Any (λ slice. Contains slice.atoms j) h.are.front ⊎ Any (λ slice. Contains slice.atoms j) h.are.classes
        → HoldsAt q values j
    by_slice either = ⊎_elim (λ a. in_front h.are.front h.are.variable_free a) (λ b. in_class b) either

pub sat_by_keys : (q : PlainCondition) (keys : List SliceKey) (h : AreKeyed q keys) (values : List ℤ) → SlicesPartition
    → Fits q.vars q.atoms → SatisfiesAll keys values → length values ≡ length q.vars → Holds q values
sat_by_keys q keys h values law fits satisfied long =
    let assignment = assigned q keys h values satisfied long in
    record { assignment = assignment; atoms = all_hold q keys h values law fits satisfied assignment }
