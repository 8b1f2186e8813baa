-- Reading the nodes of trees.
use Rattle.std.proofs.Common.{◌≡◌, ℕ, ℤ, List, Ok, Err, refl, sym, ap}
use Rattle.refutation.specs.declared.leaf.LeafTerm.{LeafTerm}
use Rattle.refutation.specs.declared.leaf.On.{On}
use Rattle.refutation.specs.declared.leaf.On.TheVariants.{Atom as OnAtom, Side as OnSide}
use Rattle.entry_codec.specs.declared.kind.NodeKind.{NodeKind}
use Rattle.entry_codec.specs.declared.kind.NodeKind.TheVariants as kinds
use Rattle.entry_codec.specs.declared.kind.OnKind.{OnKind}
use Rattle.entry_codec.specs.declared.kind.OnKind.TheVariants as ons
use Rattle.entry_codec.specs.Grammar.{nothing, both, counted}
use Rattle.entry_codec.specs.Fields.{node_count, split_var, cut, reference, leaf_count, factor, node_kind, on_kind}
use Rattle.entry_codec.specs.Nodes.{on_parts, on, leaf_term, TreeNode, split, ne_split, combo, fixed, empty, NodeFields}
use Rattle.entry_codec.specs.Nodes.{node_fields, node_parts, node, nodes}
use Rattle.entry_codec.specs.FieldReading.{node_count_at, split_var_at, cut_at, reference_at, leaf_count_at, factor_at}
use Rattle.entry_codec.specs.FieldReading.{node_kind_at, on_kind_at}
use Rattle.entry_codec.specs.NodeReading.{on_of, on_at, leaf_term_at, leaf_terms_at, split_at, node_fields_at, node_at}
use Rattle.entry_codec.specs.NodeReading.{nodes_at}
use Rattle.entry_codec.proofs.Bytes.{ok_is}
use Rattle.entry_codec.proofs.PartLaws.{ReadsAs, Reads, ReadsAs-mapped, ReadsAs-both, Reads-seen_as}
use Rattle.entry_codec.proofs.ListLaws.{Reads-counted}
use Rattle.entry_codec.proofs.CodeLaws.{Reads-node_kind, Reads-on_kind}
use Rattle.entry_codec.proofs.FieldLaws.{Reads-node_count, Reads-split_var, Reads-cut, Reads-reference, Reads-leaf_count}
use Rattle.entry_codec.proofs.FieldLaws.{Reads-factor}
use Rattle.entry_codec.proofs.AtomLaws.{each_alike}

-- ---- terms of combinations

on_back : (o : On) → on_of (on_parts o).0 (on_parts o).1 ≡ o
on_back (OnAtom number) = refl
on_back (OnSide number) = refl

on_forth : (kind : OnKind) (number : ℕ) → on_parts (on_of kind number) ≡ (kind, number)
on_forth ons.Atom number = refl
on_forth ons.Side number = refl

pub Reads-on : Reads on on_at
unfolding on on_at
Reads-on =
    Reads-seen_as (both on_kind (λ kind. reference)) (λ x. on_of x.0 x.1) on_parts on_at on_back
    (λ x may. on_forth x.0 x.1)
    (ReadsAs-both on_kind (λ kind. reference) on_of on_kind_at (λ kind bytes. _) Reads-on_kind
    (λ kind. ReadsAs-mapped reference (λ n. n) (on_of kind) reference_at Reads-reference))

-- the term on this with this factor
abbrev leaf_of : On → ℤ → LeafTerm
leaf_of o f = record { on = o; factor = f }

pub Reads-leaf_term : Reads leaf_term leaf_term_at
unfolding leaf_term leaf_term_at
Reads-leaf_term =
    Reads-seen_as (both on (λ o. factor)) (λ x. leaf_of x.0 x.1) (λ t. (t.on, t.factor)) leaf_term_at (λ t. refl)
    (λ x may. refl)
    (ReadsAs-both on (λ o. factor) leaf_of on_at (λ o bytes. _) Reads-on
    (λ o. ReadsAs-mapped factor (λ f. f) (leaf_of o) factor_at Reads-factor))

-- the terms of a combination, with their number
pub Reads-leaf_terms : Reads (counted leaf_count (λ before. leaf_term)) leaf_terms_at
unfolding leaf_terms_at
Reads-leaf_terms =
    Reads-counted (λ before. leaf_term) (λ before. leaf_term_at) (each_alike leaf_term leaf_term_at Reads-leaf_term)
    leaf_count leaf_count_at Reads-leaf_count

-- ---- nodes

-- the node of these fields
abbrev node_with : (kind : NodeKind) → NodeFields kind → TreeNode
node_with kinds.Split x = split x.0 x.1
node_with kinds.NeSplit atom = ne_split atom
node_with kinds.Combo terms = combo terms
node_with kinds.Fixed atom = fixed atom
node_with kinds.Empty none = empty

-- nothing is always read
ReadsAs-nothing : {B : Type 0} (value : B) → ReadsAs nothing (λ none. value) (λ bytes. Ok (value, bytes))
ReadsAs-nothing {B} value = record {
  takes = λ bytes seen rest are e.
      let whole = ok_is {E = ℕ} (value, bytes) (seen, rest) e in
      record {
        value = tt;
        is = sym (ap (λ (x : B × List ℕ). x.0) whole);
        begins = record { may = tt; spelled = ap (λ (x : B × List ℕ). x.1) whole };
      };
  again = λ none rest may. refl;
  faulty = λ bytes left are e. absurd (let never : Ok (value, bytes) ≡ Err left = e in cc);
  only = λ bytes left are fault. absurd fault;
  within = λ bytes left fault. absurd fault;
}

ReadsAs-node_fields : (kind : NodeKind) → ReadsAs (node_fields kind) (node_with kind) (node_fields_at kind)
unfolding node_fields node_fields_at split_at
ReadsAs-node_fields kinds.Split =
    ReadsAs-both split_var (λ var. cut) split split_var_at (λ var bytes. _) Reads-split_var
    (λ var. ReadsAs-mapped cut (λ c. c) (split var) cut_at Reads-cut)
ReadsAs-node_fields kinds.NeSplit = ReadsAs-mapped reference (λ n. n) ne_split reference_at Reads-reference
ReadsAs-node_fields kinds.Combo =
    ReadsAs-mapped (counted leaf_count (λ before. leaf_term)) (λ ts. ts) combo leaf_terms_at Reads-leaf_terms
ReadsAs-node_fields kinds.Fixed = ReadsAs-mapped reference (λ n. n) fixed reference_at Reads-reference
ReadsAs-node_fields kinds.Empty = ReadsAs-nothing empty

node_back : (whole : TreeNode) → node_with (node_parts whole).0 (node_parts whole).1 ≡ whole
node_back (split var at) = refl
node_back (ne_split atom) = refl
node_back (combo terms) = refl
node_back (fixed atom) = refl
node_back empty = refl

node_forth : (kind : NodeKind) (fields : NodeFields kind) → node_parts (node_with kind fields) ≡ (kind, fields)
node_forth kinds.Split x = refl
node_forth kinds.NeSplit atom = refl
node_forth kinds.Combo terms = refl
node_forth kinds.Fixed atom = refl
node_forth kinds.Empty none = refl

pub Reads-node : Reads node node_at
unfolding node node_at
Reads-node =
    Reads-seen_as (both node_kind node_fields) (λ x. node_with x.0 x.1) node_parts node_at node_back
    (λ x may. node_forth x.0 x.1)
    (ReadsAs-both node_kind node_fields node_with node_kind_at node_fields_at Reads-node_kind ReadsAs-node_fields)

pub Reads-nodes : Reads nodes nodes_at
unfolding nodes nodes_at
Reads-nodes =
    Reads-counted (λ before. node) (λ before. node_at) (each_alike node node_at Reads-node) node_count node_count_at
    Reads-node_count
