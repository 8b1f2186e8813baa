-- What may stand is spelled by bytes.
use Rattle.std.proofs.Common.{◌≡◌, refl, ℕ, zero, suc, ◌-◌, ◌^◌, ◌<◌, List, [], ◌∷◌, ◌++◌, length, inl, inr, subst, arith}
use Rattle.std.specs.Int.{Width, w16, w32, w64, cast_unsigned, byte_len, byte_at, bytes_low_first, to_le_bytes}
use Rattle.std.proofs.Math.ListN.{get_or-append}
use Rattle.std.proofs.lemmas.Bool.{cases_lt}
use Rattle.std.proofs.lemmas.List.{get_or-append_right}
use Rattle.lin_model.specs.Key.{key_width}
use Rattle.lin_model.specs.Test.{code_of}
use Rattle.lin_model.specs.declared.op.Op.{Op}
use Rattle.lin_model.specs.declared.op.Op.TheVariants.{Le, Ge, Eq, Ne}
use Rattle.cert_check.specs.declared.entry.Entry.{Entry}
use Rattle.entry_codec.specs.declared.kind.BodyKind.{BodyKind}
use Rattle.entry_codec.specs.declared.kind.BodyKind.TheVariants as bodies
use Rattle.entry_codec.specs.declared.kind.NodeKind.{NodeKind}
use Rattle.entry_codec.specs.declared.kind.NodeKind.TheVariants as kinds
use Rattle.entry_codec.specs.declared.kind.OnKind.{OnKind}
use Rattle.entry_codec.specs.declared.kind.OnKind.TheVariants as ons
use Rattle.entry_codec.specs.Grammar.{IsBytes, Grammar, both, spell_list, counted}
use Rattle.entry_codec.specs.Numbers.{small, short, long, integer}
use Rattle.entry_codec.specs.Fields.{atom_count, term_count, term_var, coefficient, constant, value_count, value}
use Rattle.entry_codec.specs.Fields.{node_count, split_var, cut, reference, leaf_count, factor}
use Rattle.entry_codec.specs.Fields.{op, body_code, body_kind, node_code, node_kind, on_code, on_kind}
use Rattle.entry_codec.specs.Atoms.{term, form_and_constant, atom_parts, atom, key, point}
use Rattle.entry_codec.specs.Nodes.{on_parts, on, leaf_term, node_fields, node_parts, node, nodes}
use Rattle.entry_codec.specs.Bodies.{body_fields, body_parts, body, body_bytes, body_of, IsInGrammar}
use Rattle.entry_codec.proofs.ListLaws.{MayFollowFrom, MayFollowFrom-head, MayFollowFrom-tail}

-- ---- lists of bytes

pub IsBytes-none : IsBytes []
IsBytes-none k = omega arith

pub IsBytes-cons : (b : ℕ) (bytes : List ℕ) → b < 2 ^ 8 → IsBytes bytes → IsBytes (b ∷ bytes)
IsBytes-cons b bytes lt are zero = lt
IsBytes-cons b bytes lt are (suc k) = are k

pub IsBytes-append : (front rest : List ℕ) → IsBytes front → IsBytes rest → IsBytes (front ++ rest)
IsBytes-append front rest are others k = elim (cases_lt k (length front)) [
  | inl lt ↦ rw (get_or-append front rest 0 k lt) (are k)
  | inr le ↦ rw (get_or-append_right front rest (length front) k 0 refl le) (others (k - length front))
]

-- a byte of a number
byte_below : (i x : ℕ) → byte_at i x < 2 ^ 8
byte_below zero x = omega arith
byte_below (suc i) x = omega arith

-- the bytes of a number
IsBytes-low_first : (i n x : ℕ) → IsBytes (bytes_low_first i n x)
IsBytes-low_first i zero x = IsBytes-none
IsBytes-low_first i (suc n) x =
    IsBytes-cons (byte_at i x) (bytes_low_first (suc i) n x) (byte_below i x) (IsBytes-low_first (suc i) n x)

pub IsBytes-number : (w : Width) (x : ℕ) → IsBytes (to_le_bytes w x)
IsBytes-number w x = IsBytes-low_first 0 (byte_len w) x

-- ---- parts

-- each value that may stand is spelled by bytes
abbrev pub SpellsBytes : {A : Type 0} → Grammar A → Type 0
SpellsBytes {A} part = (value : A) → part.may value → IsBytes (part.spell value)

-- of two parts
spells-both : {A : Type 0} {B : A → Type 0} (first : Grammar A) (second : (a : A) → Grammar (B a))
    → SpellsBytes first → ((a : A) → SpellsBytes (second a)) → SpellsBytes (both first second)
spells-both first second of_first of_second x may =
    IsBytes-append (first.spell x.0) ((second x.0).spell x.1) (of_first x.0 may.0) (of_second x.0 x.1 may.1)

-- of items behind others
spells-items : {A : Type 0} (item : List A → Grammar A) → ((before : List A) → SpellsBytes (item before))
    → ((before : List A) (x : A) → (item before).spell x ≡ (item []).spell x)
    → (before values : List A) → MayFollowFrom item before values → IsBytes (spell_list item values)
spells-items item of_item same before [] may = IsBytes-none
spells-items item of_item same before (x ∷ xs) may =
    IsBytes-append ((item []).spell x) (spell_list item xs)
    (subst IsBytes (same before x) (of_item before x (MayFollowFrom-head item before x xs may)))
    (spells-items item of_item same (before ++ x ∷ []) xs (MayFollowFrom-tail item before x xs may))

-- of a number and as many items
spells-counted : {A : Type 0} (count : Grammar ℕ) (item : List A → Grammar A) → SpellsBytes count
    → ((before : List A) → SpellsBytes (item before))
    → ((before : List A) (x : A) → (item before).spell x ≡ (item []).spell x) → SpellsBytes (counted count item)
spells-counted count item of_count of_item same values may =
    IsBytes-append (count.spell (length values)) (spell_list item values) (of_count (length values) may.0)
    (spells-items item of_item same [] values may.1.1)

-- ---- fields

spells-small : SpellsBytes small
unfolding small
spells-small n may = IsBytes-cons n [] may IsBytes-none

spells-short : SpellsBytes short
unfolding short
spells-short n may = IsBytes-number w16 n

spells-long : SpellsBytes long
unfolding long
spells-long n may = IsBytes-number w32 n

spells-integer : SpellsBytes integer
unfolding integer
spells-integer n may = IsBytes-number w64 (cast_unsigned w64 n)

-- a code below 256
code_bytes : (code : ℕ) → code < 2 ^ 8 → IsBytes (code ∷ [])
code_bytes code lt = IsBytes-cons code [] lt IsBytes-none

op_below : (o : Op) → code_of o < 2 ^ 8
op_below Le = omega arith
op_below Ge = omega arith
op_below Eq = omega arith
op_below Ne = omega arith

body_below : (kind : BodyKind) → body_code kind < 2 ^ 8
body_below bodies.Sat = omega arith
body_below bodies.Unsat = omega arith

node_below : (kind : NodeKind) → node_code kind < 2 ^ 8
node_below kinds.Split = omega arith
node_below kinds.NeSplit = omega arith
node_below kinds.Combo = omega arith
node_below kinds.Fixed = omega arith
node_below kinds.Empty = omega arith

on_below : (kind : OnKind) → on_code kind < 2 ^ 8
on_below ons.Atom = omega arith
on_below ons.Side = omega arith

-- ---- keys and points

spells-term : SpellsBytes term
unfolding term term_var coefficient
spells-term t may = IsBytes-append (small.spell t.var) (integer.spell t.coef) (spells-small t.var may.0) (spells-integer t.coef may.1)

spells-form_and_constant : SpellsBytes form_and_constant
unfolding form_and_constant term_count constant
spells-form_and_constant x may =
    spells-both (counted term_count (λ before. term)) (λ form. constant)
    (spells-counted term_count (λ before. term) (λ n m. spells-small n m.0) (λ before. spells-term) (λ before t. refl))
    (λ form. spells-integer) x may

spells-atom_parts : SpellsBytes atom_parts
unfolding atom_parts op
spells-atom_parts a may =
    IsBytes-append (code_of a.op ∷ []) (form_and_constant.spell (a.form, a.constant)) (code_bytes (code_of a.op) (op_below a.op))
    (spells-form_and_constant (a.form, a.constant) may.1)

spells-key : SpellsBytes key
unfolding key atom_count atom
spells-key atoms may =
    spells-counted atom_count atom (λ n m. spells-short n m.0) (λ before a m. spells-atom_parts a m.0) (λ before a. refl)
    atoms may

spells-point : (width : ℕ) → SpellsBytes (point width)
unfolding point value_count value
spells-point width values may =
    spells-counted (value_count width) (λ before. value) (λ n m. spells-small n m.0) (λ before n m. spells-integer n m.0)
    (λ before n. refl) values may

-- ---- trees

spells-on : SpellsBytes on
unfolding on on_kind reference
spells-on o may =
    spells-both on_kind (λ kind. reference) (λ kind m. code_bytes (on_code kind) (on_below kind)) (λ kind. spells-short)
    (on_parts o) may

spells-leaf_term : SpellsBytes leaf_term
unfolding leaf_term factor
spells-leaf_term t may =
    IsBytes-append (on.spell t.on) (integer.spell t.factor) (spells-on t.on may.0) (spells-integer t.factor may.1.0)

spells-node_fields : (kind : NodeKind) → SpellsBytes (node_fields kind)
unfolding node_fields split_var cut reference leaf_count
spells-node_fields kinds.Split x may =
    IsBytes-append (small.spell x.0) (integer.spell x.1) (spells-small x.0 may.0.0) (spells-integer x.1 may.1.0)
spells-node_fields kinds.NeSplit n may = spells-short n may
spells-node_fields kinds.Combo terms may =
    spells-counted leaf_count (λ before. leaf_term) (λ n m. spells-small n m.0) (λ before. spells-leaf_term)
    (λ before t. refl) terms may
spells-node_fields kinds.Fixed n may = spells-short n may
spells-node_fields kinds.Empty x may = IsBytes-none

spells-node : SpellsBytes node
unfolding node node_kind
spells-node whole may =
    spells-both node_kind node_fields (λ kind m. code_bytes (node_code kind) (node_below kind)) spells-node_fields
    (node_parts whole) may

spells-nodes : SpellsBytes nodes
unfolding nodes node_count
spells-nodes whole may =
    spells-counted node_count (λ before. node) (λ n m. spells-long n m.0) (λ before. spells-node) (λ before w. refl)
    whole may

-- ---- bodies

spells-body_fields : (kind : BodyKind) → SpellsBytes (body_fields kind)
unfolding body_fields
spells-body_fields bodies.Sat x may =
    IsBytes-append (key.spell x.0) ((point (key_width x.0)).spell x.1) (spells-key x.0 may.0)
    (spells-point (key_width x.0) x.1 may.1)
spells-body_fields bodies.Unsat x may =
    IsBytes-append (key.spell x.0) (nodes.spell x.1) (spells-key x.0 may.0) (spells-nodes x.1 may.1)

spells-body : SpellsBytes body
unfolding body body_kind
spells-body b may =
    spells-both body_kind body_fields (λ kind m. code_bytes (body_code kind) (body_below kind)) spells-body_fields
    (body_parts b) may

-- the body of an entry in the grammar is bytes
pub body_is_bytes : (e : Entry) → IsInGrammar e → IsBytes (body_bytes e)
unfolding body_bytes
body_is_bytes e grammar = spells-body (body_of e) grammar.may
