-- From the least numbers that the tries of a layer give to the first of its entries that passes a test.
use Rattle.std.proofs.Common.{◌≡◌, ℕ, ◌+◌, ◌<◌, ◌≤◌, ◌∙◌, List, Option, Some, None, length, take, get_or}
use Rattle.std.proofs.Common.{◌⊎◌, inl, inr, arith, ap, subst}
use Rattle.std.specs.Prelude.{All, Contains, IsSomeAnd}
use Rattle.std.specs.List.{slice_get}
use Rattle.std.proofs.lemmas.List.{get_or_default, get_or-take, length-take}
use Rattle.std.proofs.lemmas.Option.{slice_get-get_or}
use Rattle.lin_model.specs.KeyAtom.{PlainKeyAtom}
use Rattle.lin_model.specs.Lists.{IsSomeAnd-found}
use Rattle.cert_check.specs.declared.entry.Entry.{Entry}
use Rattle.cert_check.specs.declared.entry.Entry.TheVariants.{Sat, Unsat}
use Rattle.cert_check.specs.Entries.{PlainSatEntry, PlainUnsatEntry}
use Rattle.cert_check.specs.Decides.{IsFirst, IsFirstAt, key_of}
use Rattle.key_tree.specs.Tree.{Pair}
use Rattle.key_tree.specs.Held.{IsLeastAt, IsLeastOf}
use Rattle.layers.specs.Tries.{satisfied_keys, cores}
use Rattle.layers.proofs.PairLemmas.{IsOfEntry, IsSatisfying, IsCore, of_satisfied, of_core, satisfied_there, core_there}

-- an entry is of one kind or the other
kind_of : (e : Entry) → IsSatisfying e ⊎ IsCore e
kind_of (Sat s) = inl tt
kind_of (Unsat u) = inr tt

-- a test of entries that is one of the keys of satisfied entries, and another of those of cores
pub record TestsKeys (P : Entry → Type 0) (Satisfied Refuted : List PlainKeyAtom → Type 0) : Type 0 where
  pub satisfied_to : (s : PlainSatEntry) → P (Sat s) → Satisfied s.key
  pub satisfied_from : (s : PlainSatEntry) → Satisfied s.key → P (Sat s)
  pub core_to : (u : PlainUnsatEntry) → P (Unsat u) → Refuted u.key
  pub core_from : (u : PlainUnsatEntry) → Refuted u.key → P (Unsat u)

-- what holds of any pair holds of one that is there
pair_says : (pairs : List Pair) (p : Pair) (P : Pair → Type 0) → All P pairs → Contains pairs p → P p
pair_says pairs p P all there = subst P there.2 (all there.0 p there.1)

-- the least number is no greater than that of a pair that passes
least_number : (Passes : List PlainKeyAtom → Type 0) (pairs : List Pair) (o : Option ℕ) (p : Pair)
    → IsLeastOf Passes pairs o → Contains pairs p → Passes p.key → IsSomeAnd o (λ n. n ≤ p.number)
least_number Passes pairs None p least there passes =
    absurd (pair_says pairs p (λ x. ¬ Passes x.key) least there passes)
least_number Passes pairs (Some n) p least there passes =
    pair_says pairs p (λ x. Passes x.key → n ≤ x.number) least.least there passes

-- a pair of the least number
record HasPair (Passes : List PlainKeyAtom → Type 0) (pairs : List Pair) (n : ℕ) : Type 0 where
  pub pair : Pair
  pub there : Contains pairs pair
  pub number : pair.number ≡ n
  pub passes : Passes pair.key

pair_from : (Passes : List PlainKeyAtom → Type 0) (pairs : List Pair) (n : ℕ) → IsLeastAt Passes pairs n
    → HasPair Passes pairs n
pair_from Passes pairs n least = record {
  pair = least.here.1;
  there = (least.here.0, least.here.2, least.here.3);
  number = least.here.4.0;
  passes = least.here.4.1;
}

-- the pair of an entry, under its place
satisfied_at : (es : List Entry) (e : Entry) (k : ℕ) → k < length es → get_or es k e ≡ e → IsSatisfying e
    → Contains (satisfied_keys 0 es) (record { key = key_of e; number = k })
satisfied_at es e k lt is kind =
    subst (λ (m : ℕ). Contains (satisfied_keys 0 es) (record { key = key_of e; number = m }))
    (let same : 0 + k ≡ k = omega arith in same) (satisfied_there 0 es e k lt is kind)

core_at : (es : List Entry) (e : Entry) (k : ℕ) → k < length es → get_or es k e ≡ e → IsCore e
    → Contains (cores 0 es) (record { key = key_of e; number = k })
core_at es e k lt is kind =
    subst (λ (m : ℕ). Contains (cores 0 es) (record { key = key_of e; number = m }))
    (let same : 0 + k ≡ k = omega arith in same) (core_there 0 es e k lt is kind)

-- an entry that stands at a place and is of a kind
pub record StandsAt (es : List Entry) (n : ℕ) (OfKind : Entry → Type 0) (P : Entry → Type 0) : Type 0 where
  pub entry : Entry
  pub kind : OfKind entry
  pub within : n < length es
  pub is : slice_get es n ≡ Some entry
  pub passes : P entry

-- a list of entries, and a test by keys
module _ (es : List Entry) (P : Entry → Type 0) (Satisfied Refuted : List PlainKeyAtom → Type 0)
    (tests : TestsKeys P Satisfied Refuted) where
  to_satisfied : (e : Entry) → IsSatisfying e → P e → Satisfied (key_of e)
  to_satisfied (Sat s) kind passes = tests.satisfied_to s passes
  to_satisfied (Unsat u) kind passes = absurd kind

  from_satisfied : (e : Entry) → IsSatisfying e → Satisfied (key_of e) → P e
  from_satisfied (Sat s) kind passes = tests.satisfied_from s passes
  from_satisfied (Unsat u) kind passes = absurd kind

  to_core : (e : Entry) → IsCore e → P e → Refuted (key_of e)
  to_core (Unsat u) kind passes = tests.core_to u passes
  to_core (Sat s) kind passes = absurd kind

  from_core : (e : Entry) → IsCore e → Refuted (key_of e) → P e
  from_core (Unsat u) kind passes = tests.core_from u passes
  from_core (Sat s) kind passes = absurd kind

  -- the entry of a pair stands at its number
  entry_at : (p : Pair) (n : ℕ) (OfKind : Entry → Type 0) → p.number ≡ n → (of : IsOfEntry 0 es p OfKind) → P of.entry
      → StandsAt es n OfKind P
  entry_at p n OfKind same of passes =
      let place : of.numbered.place ≡ n = omega (arith, of.numbered.number_is, same) in
      let within : n < length es = let lt = of.numbered.within in omega arith in
      record {
        entry = of.entry;
        kind = of.kind;
        within = within;
        is = slice_get-get_or es n of.entry within
            ∙ ap (λ (e : Entry). Some e)
            (subst (λ (m : ℕ). get_or es m of.entry ≡ of.entry) place of.numbered.is);
        passes = passes;
      }

  -- the entry that the trie of satisfied keys found, and the one that the trie of cores found
  satisfied_here : (n : ℕ) → IsLeastAt Satisfied (satisfied_keys 0 es) n → StandsAt es n IsSatisfying P
  satisfied_here n least =
      let has = pair_from Satisfied (satisfied_keys 0 es) n least in
      let of = of_satisfied 0 es has.pair has.there in
      entry_at has.pair n IsSatisfying has.number of
      (from_satisfied of.entry of.kind (subst Satisfied of.key has.passes))

  core_here : (n : ℕ) → IsLeastAt Refuted (cores 0 es) n → StandsAt es n IsCore P
  core_here n least =
      let has = pair_from Refuted (cores 0 es) n least in
      let of = of_core 0 es has.pair has.there in
      entry_at has.pair n IsCore has.number of (from_core of.entry of.kind (subst Refuted of.key has.passes))

  -- none of the kind that passes stands before what the trie found
  satisfied_no_less : (o : Option ℕ) (k : ℕ) (d : Entry) → IsLeastOf Satisfied (satisfied_keys 0 es) o → k < length es
      → IsSatisfying (get_or es k d) → P (get_or es k d) → IsSomeAnd o (λ n. n ≤ k)
  satisfied_no_less o k d least lt kind passes =
      least_number Satisfied (satisfied_keys 0 es) o
      (record { key = key_of (get_or es k d); number = k }) least
      (satisfied_at es (get_or es k d) k lt (get_or_default es k (get_or es k d) d lt) kind)
      (to_satisfied (get_or es k d) kind passes)

  core_no_less : (o : Option ℕ) (k : ℕ) (d : Entry) → IsLeastOf Refuted (cores 0 es) o → k < length es
      → IsCore (get_or es k d) → P (get_or es k d) → IsSomeAnd o (λ n. n ≤ k)
  core_no_less o k d least lt kind passes =
      least_number Refuted (cores 0 es) o
      (record { key = key_of (get_or es k d); number = k }) least
      (core_at es (get_or es k d) k lt (get_or_default es k (get_or es k d) d lt) kind)
      (to_core (get_or es k d) kind passes)

  -- the first of all, where no entry that passes stands before it
  first_there : (n : ℕ) (OfKind : Entry → Type 0) → StandsAt es n OfKind P
      → ((k : ℕ) (d : Entry) → k < length es → P (get_or es k d) → n ≤ k) → IsFirstAt P es n
  first_there n OfKind there no_less = record {
    here = IsSomeAnd-found (slice_get es n) P there.entry there.is there.passes;
    before = λ k d lt passes.
        let below : k < n = omega (arith, length-take n es) in
        let within : k < length es = omega (arith, length-take n es) in
        let same : get_or (take n es) k d ≡ get_or es k d = get_or-take n es k d below in
        absurd (let no_less_here = no_less k d within (subst P same passes) in omega arith);
  }

  -- where the trie of satisfied keys found an entry, and none such passes together with a core, it is the first
  pub first_satisfied : (n : ℕ)
      → ((a : Entry) (k : ℕ) (d : Entry) → slice_get es n ≡ Some a → IsSatisfying a → P a → k < length es
      → IsCore (get_or es k d) → P (get_or es k d) → ⊥)
      → IsLeastAt Satisfied (satisfied_keys 0 es) n → IsFirstAt P es n
  first_satisfied n apart least =
      let there = satisfied_here n least in
      first_there n IsSatisfying there (λ k d lt passes. elim (kind_of (get_or es k d)) [
        | inl kind ↦ satisfied_no_less (Some n) k d least lt kind passes
        | inr kind ↦ absurd (apart there.entry k d there.is there.kind there.passes lt kind passes)
      ])

  -- where it found none, the first is the one that the trie of cores found
  pub first_core : (o : Option ℕ) → IsLeastOf Satisfied (satisfied_keys 0 es) None → IsLeastOf Refuted (cores 0 es) o
      → IsFirst P es o
  first_core None none least = λ k d lt passes. elim (kind_of (get_or es k d)) [
    | inl kind ↦ satisfied_no_less None k d none lt kind passes
    | inr kind ↦ core_no_less None k d least lt kind passes
  ]
  first_core (Some n) none least =
      first_there n IsCore (core_here n least) (λ k d lt passes. elim (kind_of (get_or es k d)) [
        | inl kind ↦ absurd (satisfied_no_less None k d none lt kind passes)
        | inr kind ↦ core_no_less (Some n) k d least lt kind passes
      ])
