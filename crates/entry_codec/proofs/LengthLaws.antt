-- How long bodies are.
use Rattle.std.proofs.Common.{◌≡◌, ℕ, ◌+◌, ◌*◌, ◌≤◌, ℤ, List, [], ◌∷◌, length, refl, arith}
use Rattle.std.specs.List.{All, flat_map}
use Rattle.std.proofs.lemmas.List.{length-append}
use Rattle.std.proofs.lemmas.List.Elements.{All-head, All-tail}
use Rattle.lin_model.specs.declared.form.FormTerm.{FormTerm}
use Rattle.lin_model.specs.Key.{IsKey, key_width}
use Rattle.lin_model.specs.KeyAtom.{PlainKeyAtom, IsCanonical}
use Rattle.refutation.specs.declared.leaf.LeafTerm.{LeafTerm}
use Rattle.refutation.specs.declared.leaf.On.{On}
use Rattle.refutation.specs.declared.leaf.On.TheVariants.{Atom as OnAtom, Side as OnSide}
use Rattle.entry_codec.specs.Grammar.{counted}
use Rattle.entry_codec.specs.Numbers.{small, short, long, integer}
use Rattle.entry_codec.specs.Fields.{atom_count, term_count, term_var, coefficient, constant, value_count, value}
use Rattle.entry_codec.specs.Fields.{node_count, split_var, cut, reference, leaf_count, factor, op, body_kind}
use Rattle.entry_codec.specs.Fields.{node_kind}
use Rattle.entry_codec.specs.Fields.{on_kind}
use Rattle.entry_codec.specs.Atoms.{term, form_and_constant, atom_parts, atom, key, point}
use Rattle.entry_codec.specs.Nodes.{on, leaf_term, TreeNode, split, ne_split, combo, fixed, empty, node_fields, node}
use Rattle.entry_codec.specs.Nodes.{terms_of, nodes}
use Rattle.entry_codec.specs.Bodies.{sat, unsat, body_fields, body}

-- items of a limited length
list_within : {A : Type 0} (P : A → Type 0) (spell : A → List ℕ) (limit : ℕ)
    → ((x : A) → P x → length (spell x) ≤ limit) → (xs : List A) → All P xs
    → length (flat_map spell xs) ≤ limit * length xs
list_within P spell limit each [] all = omega arith
list_within P spell limit each (x ∷ xs) all = omega (
  arith,
  length-append (spell x) (flat_map spell xs),
  each x (All-head P x xs all),
  list_within P spell limit each xs (All-tail P x xs all),
)

-- items of one length
list_is : {A : Type 0} (spell : A → List ℕ) (each : ℕ) → ((x : A) → length (spell x) ≡ each) → (xs : List A)
    → length (flat_map spell xs) ≡ each * length xs
list_is spell each are [] = omega arith
list_is spell each are (x ∷ xs) =
    omega (arith, length-append (spell x) (flat_map spell xs), are x, list_is spell each are xs)

-- ---- keys and points

term_length : (t : FormTerm) → length (term.spell t) ≡ 9
unfolding term term_var coefficient small integer
term_length t = refl

terms_length : (form : List FormTerm)
    → length ((counted term_count (λ before. term)).spell form) ≡ 1 + 9 * length form
unfolding term_count small
terms_length form = omega (arith, list_is term.spell 9 term_length form)

constant_length : (n : ℤ) → length (constant.spell n) ≡ 8
unfolding constant integer
constant_length n = refl

atom_length : (a : PlainKeyAtom) → IsCanonical a → length ((atom []).spell a) ≤ 586
unfolding atom atom_parts form_and_constant op
atom_length a h = omega (
  arith,
  length-append ((counted term_count (λ before. term)).spell a.form) (constant.spell a.constant),
  terms_length a.form,
  constant_length a.constant,
  h.form.few_terms,
)

pub key_length : (atoms : List PlainKeyAtom) → IsKey atoms → length (key.spell atoms) ≤ 225026
unfolding key atom_count short
key_length atoms h =
    omega (arith, list_within IsCanonical (atom []).spell 586 atom_length atoms h.canonical, h.fits.few)

value_length : (n : ℤ) → length (value.spell n) ≡ 8
unfolding value integer
value_length n = refl

pub point_length : (width : ℕ) (values : List ℤ) → length ((point width).spell values) ≡ 1 + 8 * length values
unfolding point value_count small
point_length width values = omega (arith, list_is value.spell 8 value_length values)

-- ---- nodes

on_length : (o : On) → length (on.spell o) ≡ 3
unfolding on on_kind reference short
on_length (OnAtom i) = refl
on_length (OnSide k) = refl

factor_length : (n : ℤ) → length (factor.spell n) ≡ 8
unfolding factor integer
factor_length n = refl

leaf_term_length : (t : LeafTerm) → length (leaf_term.spell t) ≡ 11
unfolding leaf_term
leaf_term_length t =
    omega (arith, length-append (on.spell t.on) (factor.spell t.factor), on_length t.on, factor_length t.factor)

node_length : (n : TreeNode) → length (node.spell n) ≤ 10 + 11 * length (terms_of n)
unfolding node node_fields node_kind split_var cut reference leaf_count small short integer
node_length (split v at) = omega arith
node_length (ne_split i) = omega arith
node_length (combo terms) = omega (arith, list_is leaf_term.spell 11 leaf_term_length terms)
node_length (fixed i) = omega arith
node_length empty = omega arith

node_list_length : (ns : List TreeNode)
    → length (flat_map node.spell ns) ≤ 10 * length ns + 11 * length (flat_map terms_of ns)
node_list_length [] = omega arith
node_list_length (n ∷ ns) = omega (
  arith,
  length-append (node.spell n) (flat_map node.spell ns),
  length-append (terms_of n) (flat_map terms_of ns),
  node_length n,
  node_list_length ns,
)

pub nodes_length : (ns : List TreeNode)
    → length (nodes.spell ns) ≤ 4 + (10 * length ns + 11 * length (flat_map terms_of ns))
unfolding nodes node_count long
nodes_length ns = omega (arith, node_list_length ns)

-- ---- bodies

pub sat_length : (atoms : List PlainKeyAtom) (values : List ℤ) → IsKey atoms → length values ≤ 64
    → length (body.spell (sat atoms values)) ≤ 225540
unfolding body body_fields body_kind
sat_length atoms values h few = omega (
  arith,
  length-append (key.spell atoms) ((point (key_width atoms)).spell values),
  key_length atoms h,
  point_length (key_width atoms) values,
)

pub unsat_length : (atoms : List PlainKeyAtom) (ns : List TreeNode) → IsKey atoms
    → length (body.spell (unsat atoms ns)) ≤ 225031 + (10 * length ns + 11 * length (flat_map terms_of ns))
unfolding body body_fields body_kind
unsat_length atoms ns h =
    omega (arith, length-append (key.spell atoms) (nodes.spell ns), key_length atoms h, nodes_length ns)
