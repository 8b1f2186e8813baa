-- The keys of a list of entries, each under its place.
use Rattle.std.proofs.Common.{◌≡◌, ℕ, zero, suc, ◌+◌, ◌<◌, ◌∙◌, List, [], ◌∷◌, ◌++◌, length, take, get_or}
use Rattle.std.proofs.Common.{inl, inr, arith, refl, sym, ap, subst}
use Rattle.std.specs.Prelude.{All, Contains}
use Rattle.std.proofs.lemmas.List.{length-take, take_more, get_or_default}
use Rattle.std.proofs.lemmas.List.Elements.{All-push}
use Rattle.lin_model.specs.Lists.{Contains-first, Contains-later, Contains-cases, nothing_in_nil}
use Rattle.cert_check.specs.declared.entry.Entry.{Entry}
use Rattle.cert_check.specs.declared.entry.Entry.TheVariants.{Sat, Unsat}
use Rattle.cert_check.specs.Decides.{IsChecked, key_of}
use Rattle.key_tree.specs.Tree.{Pair}
use Rattle.layers.specs.Tries.{satisfied_keys, cores}

-- what stands at a place is contained
Contains-at : {X : Type 0} (xs : List X) (k : ℕ) (d : X) → k < length xs → Contains xs (get_or xs k d)
Contains-at xs k d lt = (k, lt, get_or_default xs k (get_or xs k d) d lt)

-- a number of a pair is that of the place before, and one more
next : (n k : ℕ) → n + 1 + k ≡ n + suc k
next n k = omega arith

-- one entry more, at the end
pub satisfied_keys-push : (n : ℕ) (es : List Entry) (e : Entry)
    → satisfied_keys n (es ++ e ∷ []) ≡ satisfied_keys n es ++ satisfied_keys (n + length es) (e ∷ [])
satisfied_keys-push n [] e = ap (λ (m : ℕ). satisfied_keys m (e ∷ [])) (let same : n ≡ n + 0 = omega arith in same)
satisfied_keys-push n (Sat s ∷ es) e =
    ap (λ (ps : List Pair). record { key = s.key; number = n } ∷ ps)
    (satisfied_keys-push (n + 1) es e
    ∙ ap (λ (m : ℕ). satisfied_keys (n + 1) es ++ satisfied_keys m (e ∷ [])) (next n (length es)))
satisfied_keys-push n (Unsat u ∷ es) e =
    satisfied_keys-push (n + 1) es e
    ∙ ap (λ (m : ℕ). satisfied_keys (n + 1) es ++ satisfied_keys m (e ∷ [])) (next n (length es))

pub cores-push : (n : ℕ) (es : List Entry) (e : Entry)
    → cores n (es ++ e ∷ []) ≡ cores n es ++ cores (n + length es) (e ∷ [])
cores-push n [] e = ap (λ (m : ℕ). cores m (e ∷ [])) (let same : n ≡ n + 0 = omega arith in same)
cores-push n (Unsat u ∷ es) e =
    ap (λ (ps : List Pair). record { key = u.key; number = n } ∷ ps)
    (cores-push (n + 1) es e ∙ ap (λ (m : ℕ). cores (n + 1) es ++ cores m (e ∷ [])) (next n (length es)))
cores-push n (Sat s ∷ es) e =
    cores-push (n + 1) es e ∙ ap (λ (m : ℕ). cores (n + 1) es ++ cores m (e ∷ [])) (next n (length es))

-- an entry of a list, by the number that its pair has
pub record Numbered (n : ℕ) (es : List Entry) (e : Entry) (number : ℕ) : Type 0 where
  pub place : ℕ
  pub within : place < length es
  pub is : get_or es place e ≡ e
  pub number_is : number ≡ n + place

-- the first one
numbered_first : (n : ℕ) (e : Entry) (es : List Entry) → Numbered n (e ∷ es) e n
numbered_first n e es = record { place = 0; within = omega arith; is = refl; number_is = omega arith }

-- one behind the first
numbered_later : (n : ℕ) (x e : Entry) (es : List Entry) (number : ℕ) → Numbered (n + 1) es e number
    → Numbered n (x ∷ es) e number
numbered_later n x e es number later = record {
  place = suc later.place;
  within = let within = later.within in omega arith;
  is = later.is;
  number_is = later.number_is ∙ next n later.place;
}

-- a pair is that of an entry
pub record IsOfEntry (n : ℕ) (es : List Entry) (p : Pair) (OfKind : Entry → Type 0) : Type 0 where
  pub entry : Entry
  pub kind : OfKind entry
  pub key : p.key ≡ key_of entry
  pub numbered : Numbered n es entry p.number

of_later : (n : ℕ) (x : Entry) (es : List Entry) (p : Pair) (OfKind : Entry → Type 0) → IsOfEntry (n + 1) es p OfKind
    → IsOfEntry n (x ∷ es) p OfKind
of_later n x es p OfKind of = record {
  entry = of.entry;
  kind = of.kind;
  key = of.key;
  numbered = numbered_later n x of.entry es p.number of.numbered;
}

-- an entry whose key is satisfied, and one that is a core
abbrev pub IsSatisfying : Entry → Type 0
IsSatisfying (Sat s) = Unit {0}
IsSatisfying (Unsat u) = ⊥

abbrev pub IsCore : Entry → Type 0
IsCore (Sat s) = ⊥
IsCore (Unsat u) = Unit {0}

-- the pair of an entry at the front
of_first : (n : ℕ) (e : Entry) (es : List Entry) (p : Pair) (OfKind : Entry → Type 0) → OfKind e
    → record { key = key_of e; number = n } ≡ p → IsOfEntry n (e ∷ es) p OfKind
of_first n e es p OfKind kind same = record {
  entry = e;
  kind = kind;
  key = sym (ap (λ (q : Pair). q.key) same);
  numbered = subst (λ (m : ℕ). Numbered n (e ∷ es) e m) (ap (λ (q : Pair). q.number) same) (numbered_first n e es);
}

-- each pair of a satisfied key is that of an entry
pub of_satisfied : (n : ℕ) (es : List Entry) (p : Pair) → Contains (satisfied_keys n es) p → IsOfEntry n es p IsSatisfying
of_satisfied n [] p there = absurd (nothing_in_nil p there)
of_satisfied n (Sat s ∷ es) p there =
    elim (Contains-cases (record { key = s.key; number = n }) (satisfied_keys (n + 1) es) p there) [
      | inl same ↦ of_first n (Sat s) es p IsSatisfying tt same
      | inr later ↦ of_later n (Sat s) es p IsSatisfying (of_satisfied (n + 1) es p later)
    ]
of_satisfied n (Unsat u ∷ es) p there = of_later n (Unsat u) es p IsSatisfying (of_satisfied (n + 1) es p there)

-- each pair of a core is that of an entry
pub of_core : (n : ℕ) (es : List Entry) (p : Pair) → Contains (cores n es) p → IsOfEntry n es p IsCore
of_core n [] p there = absurd (nothing_in_nil p there)
of_core n (Unsat u ∷ es) p there =
    elim (Contains-cases (record { key = u.key; number = n }) (cores (n + 1) es) p there) [
      | inl same ↦ of_first n (Unsat u) es p IsCore tt same
      | inr later ↦ of_later n (Unsat u) es p IsCore (of_core (n + 1) es p later)
    ]
of_core n (Sat s ∷ es) p there = of_later n (Sat s) es p IsCore (of_core (n + 1) es p there)

-- each entry whose key is satisfied has its pair
pub satisfied_there : (n : ℕ) (es : List Entry) (e : Entry) (k : ℕ) → k < length es → get_or es k e ≡ e → IsSatisfying e
    → Contains (satisfied_keys n es) (record { key = key_of e; number = n + k })
satisfied_there n [] e k within is kind = absurd (omega arith)
satisfied_there n (Sat s ∷ es) e zero within is kind =
    subst (λ (x : Entry). Contains (satisfied_keys n (Sat s ∷ es)) (record { key = key_of x; number = n + 0 })) is
    (subst (λ (m : ℕ). Contains (satisfied_keys n (Sat s ∷ es)) (record { key = s.key; number = m }))
    (let same : n ≡ n + 0 = omega arith in same)
    (Contains-first (record { key = s.key; number = n }) (satisfied_keys (n + 1) es)))
satisfied_there n (Unsat u ∷ es) e zero within is kind =
    absurd (subst IsSatisfying (sym is) kind)
satisfied_there n (Sat s ∷ es) e (suc k) within is kind =
    subst (λ (m : ℕ). Contains (satisfied_keys n (Sat s ∷ es)) (record { key = key_of e; number = m })) (next n k)
    (Contains-later (record { key = s.key; number = n }) (satisfied_keys (n + 1) es)
    (record { key = key_of e; number = n + 1 + k }) (satisfied_there (n + 1) es e k (omega arith) is kind))
satisfied_there n (Unsat u ∷ es) e (suc k) within is kind =
    subst (λ (m : ℕ). Contains (satisfied_keys n (Unsat u ∷ es)) (record { key = key_of e; number = m })) (next n k)
    (satisfied_there (n + 1) es e k (omega arith) is kind)

-- each core has its pair
pub core_there : (n : ℕ) (es : List Entry) (e : Entry) (k : ℕ) → k < length es → get_or es k e ≡ e → IsCore e
    → Contains (cores n es) (record { key = key_of e; number = n + k })
core_there n [] e k within is kind = absurd (omega arith)
core_there n (Unsat u ∷ es) e zero within is kind =
    subst (λ (x : Entry). Contains (cores n (Unsat u ∷ es)) (record { key = key_of x; number = n + 0 })) is
    (subst (λ (m : ℕ). Contains (cores n (Unsat u ∷ es)) (record { key = u.key; number = m }))
    (let same : n ≡ n + 0 = omega arith in same)
    (Contains-first (record { key = u.key; number = n }) (cores (n + 1) es)))
core_there n (Sat s ∷ es) e zero within is kind = absurd (subst IsCore (sym is) kind)
core_there n (Unsat u ∷ es) e (suc k) within is kind =
    subst (λ (m : ℕ). Contains (cores n (Unsat u ∷ es)) (record { key = key_of e; number = m })) (next n k)
    (Contains-later (record { key = u.key; number = n }) (cores (n + 1) es)
    (record { key = key_of e; number = n + 1 + k }) (core_there (n + 1) es e k (omega arith) is kind))
core_there n (Sat s ∷ es) e (suc k) within is kind =
    subst (λ (m : ℕ). Contains (cores n (Sat s ∷ es)) (record { key = key_of e; number = m })) (next n k)
    (core_there (n + 1) es e k (omega arith) is kind)

-- one entry more from the front of a list, as it was read
module _ (es : List Entry) (i : ℕ) (item e : Entry) (within : i < length es) (is : item ≡ get_or es i item)
    (read : e ≡ item) where
  -- the front with it
  pub front_more : take (i + 1) es ≡ take i es ++ e ∷ []
  front_more = take_more es i item within
      ∙ ap (λ (x : Entry). take i es ++ x ∷ []) (sym (read ∙ is))

  -- where it stands
  place_is : i ≡ 0 + length (take i es)
  place_is = omega (arith, length-take i es)

  -- what it adds to the satisfied keys, and to the cores
  pub keys_more : (old new : List Pair) → old ≡ satisfied_keys 0 (take i es) → new ≡ old ++ satisfied_keys i (e ∷ [])
      → new ≡ satisfied_keys 0 (take (i + 1) es)
  keys_more old new before grown =
      grown ∙ ap (λ (ps : List Pair). ps ++ satisfied_keys i (e ∷ [])) before
      ∙ sym (ap (satisfied_keys 0) front_more ∙ satisfied_keys-push 0 (take i es) e
      ∙ ap (λ (m : ℕ). satisfied_keys 0 (take i es) ++ satisfied_keys m (e ∷ [])) (sym place_is))

  pub cores_more : (old new : List Pair) → old ≡ cores 0 (take i es) → new ≡ old ++ cores i (e ∷ [])
      → new ≡ cores 0 (take (i + 1) es)
  cores_more old new before grown =
      grown ∙ ap (λ (ps : List Pair). ps ++ cores i (e ∷ [])) before
      ∙ sym (ap (cores 0) front_more ∙ cores-push 0 (take i es) e
      ∙ ap (λ (m : ℕ). cores 0 (take i es) ++ cores m (e ∷ [])) (sym place_is))

  -- all so far are checked, and this one too
  pub checked_more : All IsChecked (take i es) → IsChecked e → All IsChecked (take (i + 1) es)
  checked_more before this =
      subst (λ (xs : List Entry). All IsChecked xs) (sym front_more) (All-push IsChecked (take i es) e before this)

-- the numbers of the front's pairs are below its length
pub satisfied_below : (es : List Entry) (i : ℕ) (pairs : List Pair) → i < length es
    → pairs ≡ satisfied_keys 0 (take i es) → All (λ p. p.number < i) pairs
satisfied_below es i pairs within same k d lt =
    let of = of_satisfied 0 (take i es) (get_or pairs k d)
    (subst (λ (ps : List Pair). Contains ps (get_or pairs k d)) same (Contains-at pairs k d lt)) in
    let at = of.numbered.within in
    let is = of.numbered.number_is in
    omega (arith, length-take i es)

pub cores_below : (es : List Entry) (i : ℕ) (pairs : List Pair) → i < length es
    → pairs ≡ cores 0 (take i es) → All (λ p. p.number < i) pairs
cores_below es i pairs within same k d lt =
    let of = of_core 0 (take i es) (get_or pairs k d)
    (subst (λ (ps : List Pair). Contains ps (get_or pairs k d)) same (Contains-at pairs k d lt)) in
    let at = of.numbered.within in
    let is = of.numbered.number_is in
    omega (arith, length-take i es)
