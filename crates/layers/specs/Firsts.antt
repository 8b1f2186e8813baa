-- Flags beside the entries of layers: of which it is known that they are the first that decide their own keys.
use Rattle.std.specs.Prelude.{◌≡◌, ◌≢◌, ℕ, Bool, false, IsTrue, ◌<◌, List, length, map, take, slice_index_or}
use Rattle.std.specs.List.{flat_map}
use Rattle.lin_model.specs.KeyAtom.{PlainKeyAtom}
use Rattle.cert_check.specs.declared.entry.Entry.{Entry}
use Rattle.cert_check.specs.Decides.{NoneDecides, key_of}
use Rattle.layers.specs.Layers.{joined}

-- the flags of all layers, those of one layer behind those of the other
abbrev pub flags_of : List (List Bool) → List Bool
flags_of firsts = flat_map (λ flags. flags) firsts

-- where a flag is set, none of the entries before decides the key of the entry at its place
abbrev pub AreRight : List Entry → List Bool → Type 0
AreRight entries flags = (place : ℕ) (d : Entry) → place < length entries → IsTrue (slice_index_or flags place false)
    → NoneDecides (take place entries) (key_of (slice_index_or entries place d))

-- the flags of layers: one for each entry of each layer, and right by all entries before it, in any layer
pub record AreFirsts (layers : List (List Entry)) (firsts : List (List Bool)) : Type 0 where
  pub alike : map (λ flags. length flags) firsts ≡ map (λ layer. length layer) layers
  pub right : AreRight (joined layers) (flags_of firsts)

-- no entry of this key has a flag that is set
abbrev pub NoneIsKnown : List (List Entry) → List (List Bool) → List PlainKeyAtom → Type 0
NoneIsKnown layers firsts key = (place : ℕ) (d : Entry) → place < length (joined layers)
    → IsTrue (slice_index_or (flags_of firsts) place false) → key_of (slice_index_or (joined layers) place d) ≢ key
