-- Texts of entries and of ends, written out.
use Rattle.std.proofs.Common.{◌≡◌, [], ◌∷◌, ◌++◌, pos, negsuc, Some, None, codes, refl}
use Rattle.std.specs.Prelude.{⊤}
use Rattle.std.specs.Fmt.{digits}
use Rattle.lin_model.specs.KeyAtom.{PlainKeyAtom}
use Rattle.lin_model.specs.declared.form.FormTerm.{FormTerm}
use Rattle.lin_model.specs.declared.op.Op.TheVariants as op
use Rattle.lin_text.specs.KeyAtoms.{key_atom_text, key_name}
use Rattle.lin_text.specs.Spelling.{cmp_text, factor_text, first_term, integer, joint_of, later_term, line, minus_of}
use Rattle.lin_text.specs.Spelling.{side_text, size_text}
use Rattle.refutation.specs.declared.leaf.LeafTerm.{LeafTerm}
use Rattle.refutation.specs.declared.leaf.On.TheVariants as on
use Rattle.refutation.specs.declared.node.Node.TheVariants as node
use Rattle.cert_check.specs.declared.entry.Entry.{Entry}
use Rattle.cert_check.specs.declared.entry.Entry.TheVariants.{Sat, Unsat}
use Rattle.cert_check.specs.declared.refused.Refused.TheVariants as refused
use Rattle.entry_codec.specs.declared.fault.FrameEnd.TheVariants as frame
use Rattle.journal.specs.declared.recovered.Recovered.{Recovered}
use Rattle.journal.specs.declared.recovered.Stop.TheVariants.{Frame, TooMany}
use Rattle.green_cli.specs.DumpText.{dump_text, end_text, entries_text, entry_text, node_text, nodes_text, on_text}
use Rattle.green_cli.specs.DumpText.{point_text, refused_text, stop_text, term_text}

-- what computes at numbers, atoms, nodes and entries that are written out
unfoldable numbers : ⊤
unfolding digits integer minus_of
numbers = tt

unfoldable atoms : ⊤
unfolding numbers key_atom_text key_name side_text first_term later_term size_text factor_text joint_of cmp_text
atoms = tt

unfoldable nodes : ⊤
unfolding numbers nodes_text node_text term_text on_text
nodes = tt

unfoldable entries : ⊤
unfolding atoms nodes entries_text entry_text point_text
entries = tt

unfoldable reasons : ⊤
unfolding numbers end_text stop_text refused_text
reasons = tt

-- `v0 <= 3` and `v0 >= 3`, which 3 satisfies
abbrev three : Entry
three =
    let v0 : FormTerm = record { var = 0; coef = pos 1 } in
    let at_most : PlainKeyAtom = record { form = v0 ∷ []; op = op.Le; constant = pos 3 } in
    let at_least : PlainKeyAtom = record { form = v0 ∷ []; op = op.Ge; constant = pos 3 } in
    Sat (record { key = at_most ∷ at_least ∷ []; point = pos 3 ∷ [] })

-- `v0 - v1 <= -1` and `v0 - v1 >= 1`, which contradict each other
abbrev apart : Entry
apart =
    let v0 : FormTerm = record { var = 0; coef = pos 1 } in
    let less_v1 : FormTerm = record { var = 1; coef = negsuc 0 } in
    let below : PlainKeyAtom = record { form = v0 ∷ less_v1 ∷ []; op = op.Le; constant = negsuc 0 } in
    let above : PlainKeyAtom = record { form = v0 ∷ less_v1 ∷ []; op = op.Ge; constant = pos 1 } in
    let one : LeafTerm = record { on = on.Atom 0; factor = pos 1 } in
    let other : LeafTerm = record { on = on.Atom 1; factor = pos 1 } in
    Unsat (record {
      key = below ∷ above ∷ [];
      tree = record { nodes = node.Combo 2 ∷ []; terms = one ∷ other ∷ [] };
    })

-- a file of one entry, which ends with it
one_entry : (found : Recovered) → found.entries.items ≡ three ∷ [] → found.end_at ≡ 62 → found.stopped ≡ None
    → dump_text found
    ≡ line (codes "green dump 1") ++ line (codes "entry 0 sat v0=3") ++ line (codes "key v0 <= 3")
    ++ line (codes "key v0 >= 3") ++ line (codes "end 62")
unfolding entries reasons dump_text
one_entry found one at stopped = rw (one, at, stopped) refl

-- an entry behind another
a_refuted_key : entries_text 1 (apart ∷ [])
    ≡ line (codes "entry 1 unsat") ++ line (codes "core v0 - v1 <= -1") ++ line (codes "core v0 - v1 >= 1")
    ++ line (codes "node combo 1*a0 1*a1")
unfolding entries
a_refuted_key = refl

-- two values of a point
two_values : point_text 0 (negsuc 2 ∷ pos 0 ∷ []) ≡ codes " v0=-3 v1=0"
unfolding entries
two_values = refl

-- each combination has its own terms
nodes_of_all_kinds :
    let first : LeafTerm = record { on = on.Atom 2; factor = negsuc 4 } in
    let second : LeafTerm = record { on = on.Side 7; factor = pos 1 } in
    let third : LeafTerm = record { on = on.Atom 0; factor = pos 3 } in
    nodes_text
    (node.Split 3 (negsuc 0) ∷ node.Combo 2 ∷ node.NeSplit 4 ∷ node.Combo 1 ∷ node.Fixed 1 ∷ node.Empty ∷ node.Left ∷ [])
    (first ∷ second ∷ third ∷ [])
    ≡ line (codes "node split v3 -1") ++ line (codes "node combo -5*a2 1*s7") ++ line (codes "node nesplit a4")
    ++ line (codes "node combo 3*a0") ++ line (codes "node fixed a1") ++ line (codes "node empty")
    ++ line (codes "node left")
unfolding nodes
nodes_of_all_kinds = refl

-- ends of each kind
pub record Ends : Type 0 where
  pub whole : end_text 8 None ≡ line (codes "end 8")
  pub short : end_text 62 (Some (Frame frame.Short)) ≡ line (codes "stopped 62 short")
  pub too_long : end_text 8 (Some (Frame frame.TooLong)) ≡ line (codes "stopped 8 too-long")
  pub too_many : end_text 12 (Some TooMany) ≡ line (codes "stopped 12 too-many")
  pub bad_body : end_text 8 (Some (Frame (frame.BadBody 54))) ≡ line (codes "stopped 8 bad-body 54")
  pub point : end_text 8 (Some (Frame (frame.Uncertified (refused.PointFails 0))))
      ≡ line (codes "stopped 8 uncertified point 0")
  pub node : end_text 8 (Some (Frame (frame.Uncertified (refused.NodeFails 3))))
      ≡ line (codes "stopped 8 uncertified node 3")
  pub tree_ends : end_text 8 (Some (Frame (frame.Uncertified refused.TreeEnds)))
      ≡ line (codes "stopped 8 uncertified tree-ends")
  pub tree_goes_on : end_text 8 (Some (Frame (frame.Uncertified refused.TreeGoesOn)))
      ≡ line (codes "stopped 8 uncertified tree-goes-on")

ends : Ends
unfolding reasons
ends = record {
  whole = refl;
  short = refl;
  too_long = refl;
  too_many = refl;
  bad_body = refl;
  point = refl;
  node = refl;
  tree_ends = refl;
  tree_goes_on = refl;
}
