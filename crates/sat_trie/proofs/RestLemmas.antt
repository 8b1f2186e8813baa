-- What an atom leaves of those that are wanted.
use Rattle.std.proofs.Common.{◌≡◌, ℕ, ◌+◌, ◌-◌, ◌<◌, ◌≤◌, List, ◌∷◌, length, get_or, refl, sym, ap, subst, ◌∙◌, arith, inl, inr, ◌⊎◌}
use Rattle.std.specs.Prelude.{bit_and}
use Rattle.std.specs.List.{All, Any}
use Rattle.std.specs.Int.{bit_at}
use Rattle.std.specs.Int.RustNames.{bit_or, bit_xor}
use Rattle.std.proofs.lemmas.Nat.Bits.{bit_at-zero, bit_at-lt, bit_at_or, bit_at_and, bit_at_xor}
use Rattle.std.proofs.lemmas.Bool.{cases_lt}
use Rattle.std.proofs.lemmas.Bool.Decides.{eqb_tells}
use Rattle.lin_model.specs.KeyAtom.{PlainKeyAtom}
use Rattle.atom_implies.specs.Implies.{Implies}
use Rattle.key_tree.specs.declared.runs.Run.{Run}
use Rattle.key_tree.specs.Prints.{hash_of, needs_of, IsWithin}
use Rattle.key_tree.specs.Asked.{no_atom}
use Rattle.key_tree.specs.Runs.{IsRunOf}
use Rattle.key_tree.specs.Laws.{PrintsAreRight}
use Rattle.key_tree.specs.MaskFacts.{within_more, within_left, within_right, within_both}
use Rattle.sat_trie.specs.declared.left.Left.{Left}
use Rattle.sat_trie.specs.declared.rest.Rest.{Rest}
use Rattle.sat_trie.specs.Left.{has_place, places_in, needs_left}
use Rattle.sat_trie.specs.Wanted.{atoms_left, IsLeft, IsUnwanted, IsImplied, IsOther, IsCompared}
use Rattle.sat_trie.proofs.AnyLemmas.{Any-first, Any-later, Any-cases}
use Rattle.sat_trie.proofs.CoverLemmas.{LeavesOf}
use Rattle.sat_trie.proofs.LeftLemmas.{count_less, count_few, count_rises, count_within, count_more, count_some}
use Rattle.sat_trie.proofs.WantedLemmas.{all_at, at_all, atoms_count}

-- an atom is compared with those at the places from the first on, and it came to this place
pub record IsRestSoFar (asked : List PlainKeyAtom) (a : PlainKeyAtom) (before : Left) (rest : Rest) (first n : ℕ)
    : Type 0 where
  pub counted : rest.left.count ≡ length (places_in rest.left.words (length asked))
  pub needs : rest.left.needs ≡ before.needs
  pub later : (place : ℕ) → n ≤ place → has_place rest.left.words place ≡ has_place before.words place
  pub stays : (place : ℕ) → has_place rest.left.words place ≡ 1 → has_place before.words place ≡ 1
  pub other : (place : ℕ) → first ≤ place → place < n → has_place rest.left.words place ≡ 1
      → ¬ Implies a (get_or asked place no_atom)
  pub goes : (place : ℕ) → has_place before.words place ≡ 1 → (has_place rest.left.words place ≡ 1)
      ⊎ (Implies a (get_or asked place no_atom) × IsWithin (needs_of (get_or asked place no_atom)) rest.gone)
  pub kept : (mask : ℕ) → ((place : ℕ) → place < n → has_place rest.left.words place ≡ 1
      → IsWithin (needs_of (get_or asked place no_atom)) mask) → IsWithin rest.kept mask

-- at the first place nothing was compared
pub rest_starts : (asked : List PlainKeyAtom) (a : PlainKeyAtom) (before : Left) (rest : Rest) (first : ℕ)
    → IsLeft asked before (length asked) → rest ≡ record { left = before; gone = 0; kept = 0 }
    → IsRestSoFar asked a before rest first first
rest_starts asked a before rest first is_left is =
    subst (λ (r : Rest). IsRestSoFar asked a before r first first) (sym is)
    (record {
      counted = is_left.counted;
      needs = refl;
      later = λ place le. refl;
      stays = λ place on. on;
      other = λ place from lt on. absurd (omega (arith, from, lt));
      goes = λ place on. inl on;
      kept = λ mask all i. omega (arith, bit_at-zero i);
    })

module _ (asked : List PlainKeyAtom) (a : PlainKeyAtom) (before : Left) (old new : Rest) (first n : ℕ)
    (so_far : IsRestSoFar asked a before old first n) where
  abbrev atom : PlainKeyAtom
  atom = get_or asked n no_atom

  -- the place isn't left
  unwanted : IsUnwanted n old new → IsRestSoFar asked a before new first (n + 1)
  unwanted step =
      subst (λ (r : Rest). IsRestSoFar asked a before r first (n + 1)) (sym step.same)
      (record {
        counted = so_far.counted;
        needs = so_far.needs;
        later = λ place le. so_far.later place (omega (arith, le));
        stays = so_far.stays;
        other = λ place from lt on. elim (eqb_tells place n) [
          | inl last ↦ absurd (omega (
            arith,
            on,
            step.not_left,
            ap (λ (k : ℕ). has_place old.left.words k) last.1,
          ))
          | inr earlier ↦ so_far.other place from (omega (arith, lt, earlier.1)) on
        ];
        goes = so_far.goes;
        kept = λ mask all. so_far.kept mask (λ place lt on. all place (omega (arith, lt)) on);
      })

  -- its atom is implied
  implied : n < length asked → IsImplied asked a n old new → IsRestSoFar asked a before new first (n + 1)
  implied within step =
      let without = step.left in
      let fewer =
      count_less old.left.words new.left.words n (length asked) within step.was_left without.less without.others in
      let stayed : (place : ℕ) → has_place new.left.words place ≡ 1 → (¬ (place ≡ n)) × (has_place old.left.words place ≡ 1) =
      λ place on. elim (eqb_tells place n) [
        | inl last ↦ absurd (omega (arith, on, without.less, ap (λ (k : ℕ). has_place new.left.words k) last.1))
        | inr earlier ↦ (earlier.1, sym (without.others place earlier.1) ∙ on)
      ] in
      record {
        counted = omega (arith, fewer, without.count, so_far.counted);
        needs = without.needs ∙ so_far.needs;
        later = λ place le.
            without.others place (λ same. absurd (omega (arith, same, le))) ∙ so_far.later place (omega (arith, le));
        stays = λ place on. so_far.stays place (stayed place on).1;
        other = λ place from lt on.
            let differs = (stayed place on).0 in
            so_far.other place from
            (elim (cases_lt place n) [ inl less ↦ less | inr upto ↦ absurd (differs (omega (arith, lt, upto))) ])
            (stayed place on).1;
        goes = λ place on. elim (eqb_tells place n) [
          | inl last ↦ inr (subst (λ (k : ℕ). Implies a (get_or asked k no_atom)
              × IsWithin (needs_of (get_or asked k no_atom)) new.gone) (sym last.1)
              (step.implied, subst (λ (m : ℕ). IsWithin (needs_of atom) m) (sym step.gone) (within_right old.gone (needs_of atom))))
          | inr earlier ↦ elim (so_far.goes place on) [
            | inl still ↦ inl (without.others place earlier.1 ∙ still)
            | inr gone ↦ inr (
              gone.0,
              subst (λ (m : ℕ). IsWithin (needs_of (get_or asked place no_atom)) m) (sym step.gone)
                  (within_more (needs_of (get_or asked place no_atom)) old.gone (bit_or old.gone (needs_of atom)) gone.1
                  (within_left old.gone (needs_of atom))),
            )
          ]
        ];
        kept = λ mask all. subst (λ (m : ℕ). IsWithin m mask) (sym step.kept)
            (so_far.kept mask (λ place lt on.
            all place (omega (arith, lt)) (without.others place (λ same. absurd (omega (arith, same, lt))) ∙ on)));
      }

  -- its atom isn't implied
  other_stays : IsOther asked a n old new → IsRestSoFar asked a before new first (n + 1)
  other_stays step =
      let same : (place : ℕ) → has_place new.left.words place ≡ has_place old.left.words place =
      λ place. ap (λ (left : Left). has_place left.words place) step.left in
      record {
        counted = subst (λ (left : Left). left.count ≡ length (places_in left.words (length asked))) (sym step.left)
            so_far.counted;
        needs = ap (λ (left : Left). left.needs) step.left ∙ so_far.needs;
        later = λ place le. same place ∙ so_far.later place (omega (arith, le));
        stays = λ place on. so_far.stays place (sym (same place) ∙ on);
        other = λ place from lt on. elim (eqb_tells place n) [
          | inl last ↦ subst (λ (k : ℕ). ¬ Implies a (get_or asked k no_atom)) (sym last.1) step.other
          | inr earlier ↦ so_far.other place from (omega (arith, lt, earlier.1)) (sym (same place) ∙ on)
        ];
        goes = λ place on. elim (so_far.goes place on) [
          | inl still ↦ inl (same place ∙ still)
          | inr gone ↦ inr (
            gone.0,
            subst (λ (m : ℕ). IsWithin (needs_of (get_or asked place no_atom)) m) (sym step.gone) gone.1,
          )
        ];
        kept = λ mask all. subst (λ (m : ℕ). IsWithin m mask) (sym step.kept)
            (within_both old.kept (needs_of atom) mask
            (so_far.kept mask (λ place lt on. all place (omega (arith, lt)) (same place ∙ on)))
            (all n (omega arith) (same n ∙ step.was_left)));
      }

  -- one place more
  pub rest_more : n < length asked → IsCompared asked a n old new → IsRestSoFar asked a before new first (n + 1)
  rest_more within step = elim step [
    | inl not_left ↦ unwanted not_left
    | inr was_left ↦ elim was_left [ inl so ↦ implied within so | inr not ↦ other_stays not ]
  ]

  -- a place that is left is counted
  pub rest_counts : n < length asked → has_place old.left.words n ≡ 1 → 0 < old.left.count
  rest_counts within on = omega (arith, so_far.counted, count_some old.left.words n (length asked) within on)

  -- the steps so far
  pub rest_costs : (begun mid after : ℕ) → mid ≤ begun + length (places_in before.words n)
      → after ≤ mid + has_place old.left.words n → after ≤ begun + length (places_in before.words (n + 1))
  rest_costs begun mid after upto one =
      omega (arith, upto, one, so_far.later n (omega arith), count_more before.words n)

-- ---- after the last place

module _ (asked : List PlainKeyAtom) (a : PlainKeyAtom) (before : Left) (rest : Rest) (hash n : ℕ) (run : Run)
    (prints : PrintsAreRight) (is_left : IsLeft asked before (length asked)) (is : hash ≡ hash_of a.form)
    (is_run : IsRunOf asked hash run) (so_far : IsRestSoFar asked a before rest run.first n) (all : run.end ≤ n) where
  -- no atom that is left is implied, since those outside the run have other forms
  none_left : (place : ℕ) → place < length asked → has_place rest.left.words place ≡ 1
      → ¬ Implies a (get_or asked place no_atom)
  none_left place lt on implies =
      let same : hash_of (get_or asked place no_atom).form ≡ hash =
      sym (prints.hash a (get_or asked place no_atom) implies) ∙ sym is in
      so_far.other place (is_run.first place no_atom lt same)
      (omega (arith, is_run.end place no_atom lt same, all)) on implies

  -- so what is left is just what the atom doesn't cover
  pub rest_leaves : LeavesOf a (atoms_left asked before (length asked)) (atoms_left asked rest.left (length asked))
  rest_leaves others = (
    λ covers. all_at (λ b. Any (λ x. Implies x b) (a ∷ others)) asked before.words (length asked) (λ place lt on.
        elim (so_far.goes place on) [
          | inl still ↦ Any-later (λ x. Implies x (get_or asked place no_atom)) a others
              (at_all (λ b. Any (λ x. Implies x b) others) asked rest.left.words (length asked) covers place lt still)
          | inr gone ↦ Any-first (λ x. Implies x (get_or asked place no_atom)) a others gone.0
        ]),
    λ covers. all_at (λ b. Any (λ x. Implies x b) others) asked rest.left.words (length asked) (λ place lt on.
        elim (Any-cases (λ x. Implies x (get_or asked place no_atom)) a others
        (at_all (λ b. Any (λ x. Implies x b) (a ∷ others)) asked before.words (length asked) covers place lt
        (so_far.stays place on))) [
          | inl implied ↦ absurd (none_left place lt on implied)
          | inr later ↦ later
        ]),
  )

  -- they are no more than before
  pub rest_fewer : length (atoms_left asked rest.left (length asked)) ≤ length (atoms_left asked before (length asked))
  rest_fewer =
      omega (
        arith,
        atoms_count asked rest.left.words (length asked),
        atoms_count asked before.words (length asked),
        count_within rest.left.words before.words (length asked) so_far.stays,
      )

  -- what was needed before, where a mask has what is gone and what those that are left need
  needs_before : (mask : ℕ) → All (λ b. IsWithin (needs_of b) mask) (atoms_left asked rest.left (length asked))
      → IsWithin before.needs (bit_or mask rest.gone)
  needs_before mask needed =
      is_left.needs (bit_or mask rest.gone)
      (all_at (λ b. IsWithin (needs_of b) (bit_or mask rest.gone)) asked before.words (length asked) (λ place lt on.
      let own : ℕ = needs_of (get_or asked place no_atom) in
      elim (so_far.goes place on) [
        | inl still ↦ within_more own mask (bit_or mask rest.gone)
            (at_all (λ b. IsWithin (needs_of b) mask) asked rest.left.words (length asked) needed place lt still)
            (within_left mask rest.gone)
        | inr gone ↦ within_more own rest.gone (bit_or mask rest.gone) gone.1 (within_right mask rest.gone)
      ]))

  -- the needs of what is left
  pub rest_needs : (mask : ℕ) → n ≤ length asked
      → All (λ b. IsWithin (needs_of b) mask) (atoms_left asked rest.left (length asked))
      → IsWithin (needs_left rest.left.needs rest.gone rest.kept) mask
  rest_needs mask few needed i =
      let needs : ℕ = rest.left.needs in
      let left : ℕ = bit_xor needs (bit_and needs rest.gone) in
      let kept : bit_at rest.kept i ≤ bit_at mask i =
      so_far.kept mask (λ place lt on.
      at_all (λ b. IsWithin (needs_of b) mask) asked rest.left.words (length asked) needed place (omega (arith, lt, few)) on) i in
      let was : bit_at before.needs i ≤ bit_at (bit_or mask rest.gone) i = needs_before mask needed i in
      let same : bit_at needs i ≡ bit_at before.needs i = ap (λ (m : ℕ). bit_at m i) so_far.needs in
      omega (
        arith,
        bit_at_or left rest.kept i,
        bit_at_xor needs (bit_and needs rest.gone) i,
        bit_at_and needs rest.gone i,
        bit_at_or mask rest.gone i,
        bit_at-lt needs i,
        bit_at-lt mask i,
        bit_at-lt rest.gone i,
        kept,
        was,
        same,
      )

  -- so they are left as they are counted
  pub rest_left : (left : Left) → n ≤ length asked
      → left ≡ record {
        words = rest.left.words;
        count = rest.left.count;
        needs = needs_left rest.left.needs rest.gone rest.kept;
      } → IsLeft asked left (length asked)
  rest_left left few made = subst (λ (l : Left). IsLeft asked l (length asked)) (sym made)
      (record {
        counted = so_far.counted;
        few = omega (arith, so_far.counted, count_few rest.left.words (length asked));
        needs = λ mask needed. rest_needs mask few needed;
      })

-- the steps that it took
pub rest_cost : (asked : List PlainKeyAtom) (before : Left) (begun after n : ℕ) → n ≤ length asked
    → after ≤ begun + length (places_in before.words n) → after ≤ begun + length (atoms_left asked before (length asked))
rest_cost asked before begun after n few upto =
    let e : n + (length asked - n) ≡ length asked = omega (arith, few) in
    omega (
      arith,
      upto,
      atoms_count asked before.words (length asked),
      count_rises before.words n (length asked - n),
      ap (λ (k : ℕ). length (places_in before.words k)) e,
    )
