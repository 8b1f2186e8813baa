-- The hashes of a key's atoms, and where those with one hash stand.
use Rattle.std.specs.Prelude.{◌≡◌, ◌≤◌, ℕ, pos, All, List, [], length, map}
use Rattle.lin_model.specs.declared.op.Op.TheVariants.{Le}
use Rattle.lin_model.specs.KeyAtom.{PlainKeyAtom}
use Rattle.key_tree.specs.declared.runs.Runs.{Runs}
use Rattle.key_tree.specs.Prints.{hash_of, needs_of, IsWithin}
use Rattle.key_tree.specs.Runs.{AreRuns}

-- the hash of the atom's form
abbrev pub atom_hash : PlainKeyAtom → ℕ
atom_hash a = hash_of a.form

-- what is asked: each atom has its hash, and stands in the run of that; the needs have what each atom needs, and are
-- within each mask that has
pub record IsAsked (key : List PlainKeyAtom) (hashes : List ℕ) (runs : Runs) (needs : ℕ) : Type 0 where
  pub hashed : hashes ≡ map atom_hash key
  pub run : AreRuns hashes runs (length hashes)
  pub few : length hashes ≤ 384
  pub each : All (λ a. IsWithin (needs_of a) needs) key
  pub needed : (mask : ℕ) → All (λ a. IsWithin (needs_of a) mask) key → IsWithin needs mask

-- what stands for an atom where there is none
abbrev pub no_atom : PlainKeyAtom
no_atom = record { form = []; op = Le; constant = pos 0 }
