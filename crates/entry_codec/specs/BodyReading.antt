-- Reading bodies.
use Rattle.std.specs.Prelude.{ℕ, Ok, Result, List}
use Rattle.lin_model.specs.Key.{key_width}
use Rattle.entry_codec.specs.declared.kind.BodyKind.{BodyKind}
use Rattle.entry_codec.specs.declared.kind.BodyKind.TheVariants as kinds
use Rattle.entry_codec.specs.Reading.{Read, ◌>>=◌, whole_at}
use Rattle.entry_codec.specs.FieldReading.{body_kind_at}
use Rattle.entry_codec.specs.AtomReading.{key_at, point_at}
use Rattle.entry_codec.specs.NodeReading.{nodes_at}
use Rattle.entry_codec.specs.Bodies.{Body, sat, unsat}

-- the fields of a key with a point
unfoldable pub sat_at : List ℕ → Read Body
sat_at bytes = do
  key ← key_at bytes
  point ← point_at (key_width key.0) key.1
  Ok (sat key.0 point.0, point.1)

-- the fields of a key with a tree
unfoldable pub unsat_at : List ℕ → Read Body
unsat_at bytes = do
  key ← key_at bytes
  nodes ← nodes_at key.1
  Ok (unsat key.0 nodes.0, nodes.1)

-- the fields of a body of this kind
unfoldable pub body_fields_at : BodyKind → List ℕ → Read Body
body_fields_at kinds.Sat bytes = sat_at bytes
body_fields_at kinds.Unsat bytes = unsat_at bytes

-- a body
unfoldable pub body_at : List ℕ → Read Body
body_at bytes = do
  kind ← body_kind_at bytes
  body_fields_at kind.0 kind.1

-- a body and nothing more
unfoldable pub body_in : List ℕ → Result Body ℕ
body_in = whole_at body_at
