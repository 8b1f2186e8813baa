-- What of an asked key is still to be covered: the atoms at some of its places.
use Rattle.std.specs.Prelude.{◌≡◌, ◌⊎◌, ℕ, ◌≤◌, All, List, length, map, slice_index_or}
use Rattle.std.specs.Int.RustNames.{bit_or}
use Rattle.lin_model.specs.KeyAtom.{PlainKeyAtom}
use Rattle.atom_implies.specs.Implies.{Implies}
use Rattle.key_tree.specs.Prints.{needs_of, IsWithin}
use Rattle.key_tree.specs.Asked.{no_atom}
use Rattle.sat_trie.specs.declared.left.Left.{Left}
use Rattle.sat_trie.specs.declared.rest.Rest.{Rest}
use Rattle.sat_trie.specs.Left.{has_place, places_in, IsWithoutPlace}

-- the atoms at these places
abbrev pub atoms_at : List PlainKeyAtom → List ℕ → List PlainKeyAtom
atoms_at asked places = map (λ p. slice_index_or asked p no_atom) places

-- the atoms that are left of the first n
abbrev pub atoms_left : List PlainKeyAtom → Left → ℕ → List PlainKeyAtom
atoms_left asked left n = atoms_at asked (places_in left.words n)

-- Of the first n atoms some are left, as many as are counted. A mask that has what each of them needs has all that is kept
-- of their needs.
pub record IsLeft (asked : List PlainKeyAtom) (left : Left) (n : ℕ) : Type 0 where
  pub counted : left.count ≡ length (places_in left.words n)
  pub few : left.count ≤ n
  pub needs : (mask : ℕ) → All (λ a. IsWithin (needs_of a) mask) (atoms_left asked left n) → IsWithin left.needs mask

-- the atom at a place isn't left, and nothing changes
pub record IsUnwanted (place : ℕ) (old new : Rest) : Type 0 where
  pub not_left : has_place old.left.words place ≡ 0
  pub same : new ≡ old

-- the atom at a place is implied: it is left no more, and its needs are gone
pub record IsImplied (asked : List PlainKeyAtom) (atom : PlainKeyAtom) (place : ℕ) (old new : Rest) : Type 0 where
  pub was_left : has_place old.left.words place ≡ 1
  pub implied : Implies atom (slice_index_or asked place no_atom)
  pub left : IsWithoutPlace old.left place new.left
  pub gone : new.gone ≡ bit_or old.gone (needs_of (slice_index_or asked place no_atom))
  pub kept : new.kept ≡ old.kept

-- it isn't implied: it is still left, and its needs are kept
pub record IsOther (asked : List PlainKeyAtom) (atom : PlainKeyAtom) (place : ℕ) (old new : Rest) : Type 0 where
  pub was_left : has_place old.left.words place ≡ 1
  pub other : ¬ Implies atom (slice_index_or asked place no_atom)
  pub left : new.left ≡ old.left
  pub gone : new.gone ≡ old.gone
  pub kept : new.kept ≡ bit_or old.kept (needs_of (slice_index_or asked place no_atom))

-- an atom was compared with that at a place
abbrev pub IsCompared : List PlainKeyAtom → PlainKeyAtom → ℕ → Rest → Rest → Type 0
IsCompared asked atom place old new =
    IsUnwanted place old new ⊎ (IsImplied asked atom place old new ⊎ IsOther asked atom place old new)
