-- Reading bodies as entries, whose evidence may not check.
use Rattle.std.specs.Prelude.{◌≡◌, ℕ, Ok, Result, List, length}
use Rattle.lin_model.specs.Key.{key_width}
use Rattle.cert_check.specs.declared.entry.Entry.{Entry}
use Rattle.cert_check.specs.declared.entry.Entry.TheVariants.{Sat, Unsat}
use Rattle.entry_codec.specs.declared.kind.BodyKind.{BodyKind}
use Rattle.entry_codec.specs.declared.kind.BodyKind.TheVariants as kinds
use Rattle.entry_codec.specs.declared.read.bodies.Unchecked.{Unchecked}
use Rattle.entry_codec.specs.declared.read.bodies.Unchecked.TheVariants as unchecked
use Rattle.entry_codec.specs.Reading.{Read, ◌>>=◌, whole_at}
use Rattle.entry_codec.specs.FieldReading.{body_kind_at}
use Rattle.entry_codec.specs.AtomReading.{key_at, point_at}
use Rattle.entry_codec.specs.TreeReading.{tree_at}

-- what was read, as the entry that it is if its evidence checks
abbrev pub as_entry : Unchecked → Entry
as_entry (unchecked.Sat key point) = Sat (record { key = key; point = point })
as_entry (unchecked.Unsat key tree) = Unsat (record { key = key; tree = tree })

-- a point has a value for each variable of its key
abbrev pub HasValueEach : Unchecked → Type 0
HasValueEach (unchecked.Sat key point) = length point ≡ key_width key
HasValueEach (unchecked.Unsat key tree) = Unit {0}

-- a key with a point
unfoldable pub sat_entry_at : List ℕ → Read Entry
sat_entry_at bytes = do
  key ← key_at bytes
  point ← point_at (key_width key.0) key.1
  Ok (Sat (record { key = key.0; point = point.0 }), point.1)

-- a key with a tree
unfoldable pub unsat_entry_at : List ℕ → Read Entry
unsat_entry_at bytes = do
  key ← key_at bytes
  tree ← tree_at key.1
  Ok (Unsat (record { key = key.0; tree = tree.0 }), tree.1)

-- the fields of a body of this kind
unfoldable pub entry_fields_at : BodyKind → List ℕ → Read Entry
entry_fields_at kinds.Sat bytes = sat_entry_at bytes
entry_fields_at kinds.Unsat bytes = unsat_entry_at bytes

-- a body
unfoldable pub entry_at : List ℕ → Read Entry
entry_at bytes = do
  kind ← body_kind_at bytes
  entry_fields_at kind.0 kind.1

-- a body and nothing more
unfoldable pub entry_in : List ℕ → Result Entry ℕ
entry_in = whole_at entry_at
