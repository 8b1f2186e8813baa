-- The bodies of frames, and the entries that they are of.
use Rattle.std.specs.Prelude.{◌≡◌, ℕ, ℤ, List}
use Rattle.lin_model.specs.KeyAtom.{PlainKeyAtom}
use Rattle.lin_model.specs.Key.{key_width}
use Rattle.cert_check.specs.declared.entry.Entry.{Entry}
use Rattle.cert_check.specs.declared.entry.Entry.TheVariants.{Sat, Unsat}
use Rattle.entry_codec.specs.declared.kind.BodyKind.{BodyKind}
use Rattle.entry_codec.specs.declared.kind.BodyKind.TheVariants as kinds
use Rattle.entry_codec.specs.Grammar.{Grammar, both, seen_as}
use Rattle.entry_codec.specs.Fields.{body_kind}
use Rattle.entry_codec.specs.Atoms.{key, point}
use Rattle.entry_codec.specs.Nodes.{TreeNode, nodes, tree_of, nodes_of}

-- a key with what should decide it, which nobody has checked
pub data Body : Type 0 where
  sat : List PlainKeyAtom → List ℤ → Body
  unsat : List PlainKeyAtom → List TreeNode → Body

-- what stands behind the kind of a body
abbrev pub BodyFields : BodyKind → Type 0
BodyFields kinds.Sat = List PlainKeyAtom × List ℤ
BodyFields kinds.Unsat = List PlainKeyAtom × List TreeNode

-- a key and a point with a value for each of its variables; a key and the nodes of a tree
unfoldable pub body_fields : (kind : BodyKind) → Grammar (BodyFields kind)
body_fields kinds.Sat = both key (λ atoms. point (key_width atoms))
body_fields kinds.Unsat = both key (λ atoms. nodes)

-- a body by its kind and its fields
abbrev pub body_parts : Body → (kind : BodyKind) × BodyFields kind
body_parts (sat atoms values) = (kinds.Sat, (atoms, values))
body_parts (unsat atoms whole) = (kinds.Unsat, (atoms, whole))

-- a body: its kind, and the fields of that kind
unfoldable pub body : Grammar Body
body = seen_as body_parts (both body_kind body_fields)

-- ---- entries

-- the entry of a body, if its evidence checks
abbrev pub entry_of : Body → Entry
entry_of (sat atoms values) = Sat (record { key = atoms; point = values })
entry_of (unsat atoms whole) = Unsat (record { key = atoms; tree = tree_of whole })

-- the body of an entry
abbrev pub body_of : Entry → Body
body_of (Sat e) = sat e.key e.point
body_of (Unsat e) = unsat e.key (nodes_of e.tree.nodes e.tree.terms)

-- the bytes of an entry's body
unfoldable pub body_bytes : Entry → List ℕ
body_bytes e = body.spell (body_of e)

-- the entry is in the grammar: its body gives it back, and may stand
pub record IsInGrammar (e : Entry) : Type 0 where
  pub own : entry_of (body_of e) ≡ e
  pub may : body.may (body_of e)
