-- The atoms at places that are still to be covered.
use Rattle.std.proofs.Common.{◌≡◌, ℕ, zero, suc, ◌+◌, ◌<◌, ◌≤◌, List, [], ◌∷◌, ◌++◌, length, get_or, take, sym, ap, subst, ◌∙◌, arith, inl, inr}
use Rattle.std.specs.List.{All}
use Rattle.std.proofs.lemmas.List.{map_push, take_more, take_all, length-map}
use Rattle.std.proofs.lemmas.List.Elements.{All-push, All-nil}
use Rattle.std.proofs.lemmas.Bool.Decides.{eqb_tells}
use Rattle.lin_model.specs.KeyAtom.{PlainKeyAtom}
use Rattle.key_tree.specs.Prints.{needs_of, IsWithin}
use Rattle.key_tree.specs.Asked.{no_atom}
use Rattle.sat_trie.specs.declared.left.Left.{Left}
use Rattle.sat_trie.specs.Left.{has_place, places_in, IsFull}
use Rattle.sat_trie.specs.Wanted.{atoms_at, atoms_left, IsLeft}
use Rattle.sat_trie.proofs.AnyLemmas.{All-front, All-last}
use Rattle.sat_trie.proofs.LeftLemmas.{has_place-lt, places_in-more, places_in-same, places_in-zero, count_more}

-- ---- what holds at each place of a set holds of each of its atoms

-- the atoms of the first places, where the next one is in the set
pub atoms_more : (asked : List PlainKeyAtom) (words : List ℕ) (n : ℕ) → has_place words n ≡ 1
    → atoms_at asked (places_in words (n + 1)) ≡ atoms_at asked (places_in words n) ++ get_or asked n no_atom ∷ []
atoms_more asked words n is =
    ap (λ (places : List ℕ). atoms_at asked places) (places_in-more words n is)
    ∙ map_push (λ p. get_or asked p no_atom) (places_in words n) n

-- and where it isn't
pub atoms_same : (asked : List PlainKeyAtom) (words : List ℕ) (n : ℕ) → has_place words n ≡ 0
    → atoms_at asked (places_in words (n + 1)) ≡ atoms_at asked (places_in words n)
atoms_same asked words n is = ap (λ (places : List ℕ). atoms_at asked places) (places_in-same words n is)

-- there are none below 0
pub atoms_none : (asked : List PlainKeyAtom) (words : List ℕ) → atoms_at asked (places_in words 0) ≡ []
atoms_none asked words = ap (λ (places : List ℕ). atoms_at asked places) (places_in-zero words)

-- as many as places
pub atoms_count : (asked : List PlainKeyAtom) (words : List ℕ) (n : ℕ)
    → length (atoms_at asked (places_in words n)) ≡ length (places_in words n)
atoms_count asked words n = length-map (places_in words n) (λ p. get_or asked p no_atom)

module _ (P : PlainKeyAtom → Type 0) (asked : List PlainKeyAtom) (words : List ℕ) where
  -- from the places to the atoms
  pub all_at : (n : ℕ) → ((place : ℕ) → place < n → has_place words place ≡ 1 → P (get_or asked place no_atom))
      → All P (atoms_at asked (places_in words n))
  all_at zero holds =
      subst (λ (atoms : List PlainKeyAtom). All P atoms) (sym (atoms_none asked words)) (All-nil P)
  all_at (suc n) holds =
      let e : n + 1 ≡ suc n = omega arith in
      let rest : All P (atoms_at asked (places_in words n)) =
      all_at n (λ place lt on. holds place (omega (arith, lt)) on) in
      subst (λ (k : ℕ). All P (atoms_at asked (places_in words k))) e
      (elim (eqb_tells (has_place words n) 1) [
        | inl on ↦ subst (λ (atoms : List PlainKeyAtom). All P atoms) (sym (atoms_more asked words n on.1))
            (All-push P (atoms_at asked (places_in words n)) (get_or asked n no_atom) rest (holds n (omega arith) on.1))
        | inr off ↦ subst (λ (atoms : List PlainKeyAtom). All P atoms)
            (sym (atoms_same asked words n (omega (arith, off.1, has_place-lt words n)))) rest
      ])

  -- and back
  pub at_all : (n : ℕ) → All P (atoms_at asked (places_in words n)) → (place : ℕ) → place < n
      → has_place words place ≡ 1 → P (get_or asked place no_atom)
  at_all zero all place lt on = absurd (omega (arith, lt))
  at_all (suc n) all place lt on =
      let e : suc n ≡ n + 1 = omega arith in
      let next : All P (atoms_at asked (places_in words (n + 1))) =
      subst (λ (k : ℕ). All P (atoms_at asked (places_in words k))) e all in
      elim (eqb_tells place n) [
        | inl last ↦
            let there : has_place words n ≡ 1 = ap (λ (k : ℕ). has_place words k) (sym last.1) ∙ on in
            subst (λ (k : ℕ). P (get_or asked k no_atom)) (sym last.1)
            (All-last P (atoms_at asked (places_in words n)) (get_or asked n no_atom)
            (subst (λ (atoms : List PlainKeyAtom). All P atoms) (atoms_more asked words n there) next))
        | inr before ↦
            at_all n
            (elim (eqb_tells (has_place words n) 1) [
              | inl here ↦ All-front P (atoms_at asked (places_in words n)) (get_or asked n no_atom ∷ [])
                  (subst (λ (atoms : List PlainKeyAtom). All P atoms) (atoms_more asked words n here.1) next)
              | inr off ↦ subst (λ (atoms : List PlainKeyAtom). All P atoms)
                  (atoms_same asked words n (omega (arith, off.1, has_place-lt words n))) next
            ]) place (omega (arith, lt, before.1)) on
      ]

-- ---- all places

-- where the first so many places are in the set, it has as many below
count_all : (words : List ℕ) (n : ℕ) → ((place : ℕ) → place < n → has_place words place ≡ 1)
    → length (places_in words n) ≡ n
count_all words zero has = ap (λ (places : List ℕ). length places) (places_in-zero words)
count_all words (suc n) has =
    let e : suc n ≡ n + 1 = omega arith in
    omega (
      arith,
      ap (λ (k : ℕ). length (places_in words k)) e,
      count_more words n,
      count_all words n (λ place lt. has place (omega (arith, lt))),
      has n (omega arith),
    )

-- and their atoms are the first of what is asked
atoms_all : (asked : List PlainKeyAtom) (words : List ℕ) (n : ℕ) → n ≤ length asked
    → ((place : ℕ) → place < n → has_place words place ≡ 1) → atoms_at asked (places_in words n) ≡ take n asked
atoms_all asked words zero le has = atoms_none asked words
atoms_all asked words (suc n) le has =
    let e : n + 1 ≡ suc n = omega arith in
    let rest = atoms_all asked words n (omega (arith, le)) (λ place lt. has place (omega (arith, lt))) in
    subst (λ (k : ℕ). atoms_at asked (places_in words k) ≡ take k asked) e
    (atoms_more asked words n (has n (omega arith))
    ∙ (ap (λ (xs : List PlainKeyAtom). xs ++ get_or asked n no_atom ∷ []) rest
    ∙ sym (take_more asked n no_atom (omega (arith, le)))))

module _ (asked : List PlainKeyAtom) (left : Left) (needs : ℕ) (full : IsFull (length asked) needs left)
    (few : length asked ≤ 384)
    (over : (mask : ℕ) → All (λ a. IsWithin (needs_of a) mask) asked → IsWithin needs mask) where
  -- each place of what is asked is in the set
  has_all : (place : ℕ) → place < length asked → has_place left.words place ≡ 1
  has_all place lt = full.places place (omega (arith, lt, few))

  -- so what is left is what is asked
  pub all_atoms : atoms_left asked left (length asked) ≡ asked
  all_atoms =
      atoms_all asked left.words (length asked) (omega arith) has_all ∙ take_all (length asked) asked (omega arith)

  -- all of it is left
  pub all_left : IsLeft asked left (length asked)
  all_left = record {
    counted = full.count ∙ sym (count_all left.words (length asked) has_all);
    few = omega (arith, full.count);
    needs = λ mask needed. subst (λ (n : ℕ). IsWithin n mask) (sym full.needs)
        (over mask (subst (λ (atoms : List PlainKeyAtom). All (λ a. IsWithin (needs_of a) mask) atoms) all_atoms needed));
  }
