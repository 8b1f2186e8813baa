-- Bodies, what they are spelled as, and their first faults, on small worked values, as the checker computes them.
use Rattle.std.proofs.Common.{◌≡◌, ℕ, pos, negsuc, List, [], ◌∷◌, ◌++◌, Ok, Err, take, drop, set, replicate, refl}
use Rattle.lin_model.specs.declared.form.FormTerm.{FormTerm}
use Rattle.lin_model.specs.declared.op.Op.TheVariants.{Le, Ge}
use Rattle.lin_model.specs.Bounded.{variable}
use Rattle.lin_model.specs.Form.{gcd_within, gcd, divisor}
use Rattle.lin_model.specs.KeyAtom.{PlainKeyAtom}
use Rattle.refutation.specs.declared.leaf.On.TheVariants.{Atom as OnAtom, Side as OnSide}
use Rattle.entry_codec.specs.declared.fault.FrameEnd.TheVariants.{Ended, Short, TooLong, BadBody}
use Rattle.entry_codec.specs.Reading.{repeat}
use Rattle.entry_codec.specs.Numbers.{small, short, long, integer}
use Rattle.entry_codec.specs.Fields.{atom_count, term_count, term_var, coefficient, constant, value_count, value}
use Rattle.entry_codec.specs.Fields.{node_count, split_var, cut, reference, leaf_count, factor, op, body_kind}
use Rattle.entry_codec.specs.Fields.{node_kind, on_kind}
use Rattle.entry_codec.specs.Atoms.{term, form_and_constant, atom_parts, atom, key, point}
use Rattle.entry_codec.specs.Nodes.{on, leaf_term, split, ne_split, combo, fixed, empty, node_fields, node, nodes}
use Rattle.entry_codec.specs.Bodies.{Body, sat, unsat, body_fields, body, entry_of}
use Rattle.entry_codec.specs.NumberReading.{small_at, short_at, long_at, integer_at}
use Rattle.entry_codec.specs.FieldReading.{atom_count_at, term_count_at, term_var_at, coefficient_at, constant_at}
use Rattle.entry_codec.specs.FieldReading.{value_count_at, value_at, node_count_at, split_var_at, cut_at, reference_at}
use Rattle.entry_codec.specs.FieldReading.{leaf_count_at, factor_at, op_at, body_kind_at, node_kind_at, on_kind_at}
use Rattle.entry_codec.specs.Canonical.{is_canonical_form, is_canonical}
use Rattle.entry_codec.specs.AtomReading.{term_at, terms_at, form_and_constant_at, atom_parts_at, fits_behind, atom_at}
use Rattle.entry_codec.specs.AtomReading.{key_at, point_at}
use Rattle.entry_codec.specs.NodeReading.{on_at, leaf_term_at, leaf_terms_at, split_at, node_fields_at, node_at, nodes_at}
use Rattle.entry_codec.specs.BodyReading.{sat_at, unsat_at, body_fields_at, body_at, body_in}
use Rattle.entry_codec.specs.FrameReading.{content_in, frame_in}

-- ---- a point: `v0 <= 3` and `v0 >= 3`, satisfied by 3

abbrev pinned : Body
pinned = sat (record { form = variable 0; op = Le; constant = pos 3 } ∷ record {
  form = variable 0;
  op = Ge;
  constant = pos 3;
} ∷ []) (pos 3 ∷ [])

abbrev pinned_bytes : List ℕ
pinned_bytes =
    1 ∷ 2 ∷ 0 ∷ 1 ∷ 1 ∷ 0 ∷ 1 ∷ 0 ∷ 0 ∷ 0 ∷ 0 ∷ 0 ∷ 0 ∷ 0 ∷ 3 ∷ 0 ∷ 0 ∷ 0 ∷ 0 ∷ 0 ∷ 0 ∷ 0 ∷ 2 ∷ 1 ∷ 0 ∷ 1 ∷ 0 ∷
    0 ∷ 0 ∷ 0 ∷ 0 ∷ 0 ∷ 0 ∷ 3 ∷ 0 ∷ 0 ∷ 0 ∷ 0 ∷ 0 ∷ 0 ∷ 0 ∷ 1 ∷ 3 ∷ 0 ∷ 0 ∷ 0 ∷ 0 ∷ 0 ∷ 0 ∷ 0 ∷ []

-- ---- a tree: `v0 - v1 <= -1` and `v0 - v1 >= 1`, refuted by their sum

-- `v0 - v1`
abbrev difference : List FormTerm
difference = record { var = 0; coef = pos 1 } ∷ record { var = 1; coef = negsuc 0 } ∷ []

abbrev crossed_key : List PlainKeyAtom
crossed_key = record { form = difference; op = Le; constant = negsuc 0 } ∷ record {
  form = difference;
  op = Ge;
  constant = pos 1;
} ∷ []

abbrev crossed : Body
crossed = unsat crossed_key
    (combo (record { on = OnAtom 0; factor = pos 1 } ∷ record { on = OnAtom 1; factor = pos 1 } ∷ []) ∷ [])

abbrev crossed_bytes : List ℕ
crossed_bytes =
    2 ∷ 2 ∷ 0 ∷ 1 ∷ 2 ∷ 0 ∷ 1 ∷ 0 ∷ 0 ∷ 0 ∷ 0 ∷ 0 ∷ 0 ∷ 0 ∷ 1 ∷ 255 ∷ 255 ∷ 255 ∷ 255 ∷ 255 ∷ 255 ∷ 255 ∷ 255 ∷
    255 ∷ 255 ∷ 255 ∷ 255 ∷ 255 ∷ 255 ∷ 255 ∷ 255 ∷ 2 ∷ 2 ∷ 0 ∷ 1 ∷ 0 ∷ 0 ∷ 0 ∷ 0 ∷ 0 ∷ 0 ∷ 0 ∷ 1 ∷ 255 ∷ 255 ∷
    255 ∷ 255 ∷ 255 ∷ 255 ∷ 255 ∷ 255 ∷ 1 ∷ 0 ∷ 0 ∷ 0 ∷ 0 ∷ 0 ∷ 0 ∷ 0 ∷ 1 ∷ 0 ∷ 0 ∷ 0 ∷ 3 ∷ 2 ∷ 0 ∷ 0 ∷ 0 ∷ 1 ∷
    0 ∷ 0 ∷ 0 ∷ 0 ∷ 0 ∷ 0 ∷ 0 ∷ 0 ∷ 1 ∷ 0 ∷ 1 ∷ 0 ∷ 0 ∷ 0 ∷ 0 ∷ 0 ∷ 0 ∷ 0 ∷ []

-- ---- every node, over no atom: whether an atom or a side exists is not asked here

abbrev every_node : Body
every_node = unsat []
    (split 63 (negsuc 4294967295) ∷ ne_split 65535 ∷ combo (record { on = OnSide 258; factor = pos 0 } ∷ []) ∷ fixed 1
    ∷ empty ∷ [])

abbrev every_node_bytes : List ℕ
every_node_bytes =
    2 ∷ 0 ∷ 0 ∷ 5 ∷ 0 ∷ 0 ∷ 0 ∷ 1 ∷ 63 ∷ 0 ∷ 0 ∷ 0 ∷ 0 ∷ 255 ∷ 255 ∷ 255 ∷ 255 ∷ 2 ∷ 255 ∷ 255 ∷ 3 ∷ 1 ∷ 1 ∷
    2 ∷ 1 ∷ 0 ∷ 0 ∷ 0 ∷ 0 ∷ 0 ∷ 0 ∷ 0 ∷ 0 ∷ 4 ∷ 1 ∷ 0 ∷ 5 ∷ []

-- ---- `v0 <= 0` and `v0 >= 1`, with a node more than the box needs, which is empty

abbrev empty_twice : Body
empty_twice = unsat (record { form = variable 0; op = Le; constant = pos 0 } ∷ record {
  form = variable 0;
  op = Ge;
  constant = pos 1;
} ∷ []) (empty ∷ empty ∷ [])

abbrev empty_twice_bytes : List ℕ
empty_twice_bytes =
    2 ∷ 2 ∷ 0 ∷ 1 ∷ 1 ∷ 0 ∷ 1 ∷ 0 ∷ 0 ∷ 0 ∷ 0 ∷ 0 ∷ 0 ∷ 0 ∷ 0 ∷ 0 ∷ 0 ∷ 0 ∷ 0 ∷ 0 ∷ 0 ∷ 0 ∷ 2 ∷ 1 ∷ 0 ∷ 1 ∷ 0 ∷
    0 ∷ 0 ∷ 0 ∷ 0 ∷ 0 ∷ 0 ∷ 1 ∷ 0 ∷ 0 ∷ 0 ∷ 0 ∷ 0 ∷ 0 ∷ 0 ∷ 2 ∷ 0 ∷ 0 ∷ 0 ∷ 5 ∷ 5 ∷ []

-- ---- what they are spelled as, and what is read

record AreSpelled : Type 0 where
  pinned_is : body.spell pinned ≡ pinned_bytes
  crossed_is : body.spell crossed ≡ crossed_bytes
  every_node_is : body.spell every_node ≡ every_node_bytes

are_spelled : AreSpelled
unfolding body body_fields key point atom atom_parts form_and_constant term nodes node node_fields leaf_term on
    body_kind op node_kind on_kind atom_count term_count term_var coefficient constant value_count value node_count
    split_var cut reference leaf_count factor small short long integer
are_spelled = record { pinned_is = refl; crossed_is = refl; every_node_is = refl }

record AreRead : Type 0 where
  pinned_is : body_in pinned_bytes ≡ Ok pinned
  crossed_is : body_in crossed_bytes ≡ Ok crossed
  every_node_is : body_in every_node_bytes ≡ Ok every_node

are_read : AreRead
unfolding body_in body_at body_fields_at sat_at unsat_at key_at point_at atom_at fits_behind is_canonical
    is_canonical_form divisor gcd gcd_within atom_parts_at form_and_constant_at terms_at term_at repeat nodes_at
    node_at node_fields_at split_at leaf_terms_at leaf_term_at on_at body_kind_at op_at node_kind_at on_kind_at
    atom_count_at term_count_at term_var_at coefficient_at constant_at value_count_at value_at node_count_at
    split_var_at cut_at reference_at leaf_count_at factor_at small_at short_at long_at integer_at
are_read = record { pinned_is = refl; crossed_is = refl; every_node_is = refl }

-- ---- the first faults: how many bytes there are from the faulty field to the end. Of a body of 50 bytes, 46 left over
-- are from byte 8 of its frame on

record AreFaulty : Type 0 where
  -- a kind must come
  no_body_is : body_in ([]) ≡ Err 0
  -- the kind is neither 1 nor 2
  kind_is : body_in (set pinned_bytes 0 3) ≡ Err 50
  -- 385 atoms
  too_many_atoms_is : body_in (set (set pinned_bytes 1 129) 2 1) ≡ Err 49
  -- the number of atoms is cut short
  atom_count_cut_is : body_in (take 2 pinned_bytes) ≡ Err 1
  -- an atom must come
  no_atom_is : body_in (take 3 pinned_bytes) ≡ Err 0
  -- an op code of 0, and one of 5
  op_is : body_in (set pinned_bytes 3 0) ≡ Err 47
  op_above_is : body_in (set pinned_bytes 3 5) ≡ Err 47
  -- no terms, and 65
  no_terms_is : body_in (set pinned_bytes 4 0) ≡ Err 46
  too_many_terms_is : body_in (set pinned_bytes 4 65) ≡ Err 46
  -- the variable 64: the whole atom is at fault
  variable_is : body_in (set pinned_bytes 5 64) ≡ Err 47
  -- the coefficient 2, whose divisor isn't 1: the whole atom is at fault
  coefficient_is : body_in (set pinned_bytes 6 2) ≡ Err 47
  -- a constant of 2^50
  constant_is : body_in (set (set pinned_bytes 14 0) 20 4) ≡ Err 47
  -- an atom that would be at fault as a whole is cut short in its constant
  cut_atom_is : body_in (take 20 (set pinned_bytes 6 2)) ≡ Err 6
  -- an op code is at fault in an atom that is cut short too
  cut_op_is : body_in (take 20 (set pinned_bytes 3 5)) ≡ Err 17
  -- the second atom comes before the first, and is the first again
  order_is : body_in (take 3 pinned_bytes ++ (take 19 (drop 22 pinned_bytes) ++ (take 19 (drop 3 pinned_bytes) ++ drop 41 pinned_bytes))) ≡ Err 28
  repeated_is : body_in (set pinned_bytes 22 1) ≡ Err 28
  -- no value for v0, and two
  value_count_is : body_in (set pinned_bytes 41 0) ≡ Err 9
  value_count_above_is : body_in (set pinned_bytes 41 2) ≡ Err 9
  -- a value of 2^32 + 3
  value_is : body_in (set pinned_bytes 46 1) ≡ Err 8
  -- the value is cut short
  cut_value_is : body_in (take 49 pinned_bytes) ≡ Err 7
  -- a byte is left over
  left_over_is : body_in (pinned_bytes ++ 0 ∷ []) ≡ Err 1
  -- a second node must come
  second_node_is : body_in (set crossed_bytes 59 2) ≡ Err 0
  -- no node should come, and all of one is left over
  no_node_is : body_in (set crossed_bytes 59 0) ≡ Err 24
  -- 2^20 + 1 nodes
  too_many_nodes_is : body_in (set (set crossed_bytes 59 1) 61 16) ≡ Err 28
  -- a node of no kind
  node_kind_is : body_in (set crossed_bytes 63 6) ≡ Err 24
  -- a combination of no terms, and of 9
  no_leaf_is : body_in (set crossed_bytes 64 0) ≡ Err 23
  too_many_leaves_is : body_in (set crossed_bytes 64 9) ≡ Err 23
  -- a term on neither an atom nor a side
  on_kind_is : body_in (set crossed_bytes 65 2) ≡ Err 22
  -- a factor of 2^31 + 1
  factor_is : body_in (set crossed_bytes 71 128) ≡ Err 19
  -- a split of v64
  split_var_is : body_in (set every_node_bytes 8 64) ≡ Err 29
  -- a cut of -2^32 - 1
  cut_is : body_in (set (set every_node_bytes 9 255) 13 254) ≡ Err 28

are_faulty : AreFaulty
unfolding body_in body_at body_fields_at sat_at unsat_at key_at point_at atom_at fits_behind is_canonical
    is_canonical_form divisor gcd gcd_within atom_parts_at form_and_constant_at terms_at term_at repeat nodes_at
    node_at node_fields_at split_at leaf_terms_at leaf_term_at on_at body_kind_at op_at node_kind_at on_kind_at
    atom_count_at term_count_at term_var_at coefficient_at constant_at value_count_at value_at node_count_at
    split_var_at cut_at reference_at leaf_count_at factor_at small_at short_at long_at integer_at
are_faulty = record {
  no_body_is = refl;
  kind_is = refl;
  too_many_atoms_is = refl;
  atom_count_cut_is = refl;
  no_atom_is = refl;
  op_is = refl;
  op_above_is = refl;
  no_terms_is = refl;
  too_many_terms_is = refl;
  variable_is = refl;
  coefficient_is = refl;
  constant_is = refl;
  cut_atom_is = refl;
  cut_op_is = refl;
  order_is = refl;
  repeated_is = refl;
  value_count_is = refl;
  value_count_above_is = refl;
  value_is = refl;
  cut_value_is = refl;
  left_over_is = refl;
  second_node_is = refl;
  no_node_is = refl;
  too_many_nodes_is = refl;
  node_kind_is = refl;
  no_leaf_is = refl;
  too_many_leaves_is = refl;
  on_kind_is = refl;
  factor_is = refl;
  split_var_is = refl;
  cut_is = refl;
}

-- ---- frames

-- bytes behind a length
abbrev behind : ℕ → List ℕ → List ℕ
behind size bytes = size ∷ 0 ∷ 0 ∷ 0 ∷ bytes

record AreFrames : Type 0 where
  -- a frame with a front of another behind it
  pinned_is : frame_in (behind 50 pinned_bytes ++ 7 ∷ []) ≡ Ok (entry_of pinned, 54)
  crossed_is : frame_in (behind 87 crossed_bytes) ≡ Ok (entry_of crossed, 91)
  -- a tree that refutes nothing is in the grammar too
  no_node_is : frame_in (behind 7 (2 ∷ 0 ∷ 0 ∷ 0 ∷ 0 ∷ 0 ∷ 0 ∷ [])) ≡ Ok (entry_of (unsat [] []), 11)
  negative_factor_is : frame_in (behind 87 (take 79 crossed_bytes ++ replicate 8 255))
      ≡ Ok (
        entry_of (unsat crossed_key (combo (record { on = OnAtom 0; factor = pos 1 } ∷ record {
          on = OnAtom 1;
          factor = negsuc 0;
        } ∷ []) ∷ [])),
        91,
      )
  -- as is one with a node behind the last that it needs
  goes_on_is : frame_in (behind 47 empty_twice_bytes) ≡ Ok (entry_of empty_twice, 51)
  -- no bytes, and fewer than a length or a body has
  ended_is : frame_in [] ≡ Err Ended
  length_cut_is : frame_in (0 ∷ 0 ∷ 0 ∷ []) ≡ Err Short
  body_cut_is : frame_in (behind 50 (take 49 pinned_bytes)) ≡ Err Short
  -- 2^24 is the greatest length
  greatest_is : frame_in (0 ∷ 0 ∷ 0 ∷ 1 ∷ pinned_bytes) ≡ Err Short
  too_long_is : frame_in (1 ∷ 0 ∷ 0 ∷ 1 ∷ pinned_bytes) ≡ Err TooLong
  far_too_long_is : frame_in (255 ∷ 255 ∷ 255 ∷ 255 ∷ pinned_bytes) ≡ Err TooLong
  -- the places of faults
  empty_is : frame_in (behind 0 (1 ∷ [])) ≡ Err (BadBody 4)
  kind_is : frame_in (behind 50 (set pinned_bytes 0 3)) ≡ Err (BadBody 4)
  coefficient_is : frame_in (behind 50 (set pinned_bytes 6 2)) ≡ Err (BadBody 7)
  left_over_is : frame_in (behind 51 (pinned_bytes ++ 0 ∷ [])) ≡ Err (BadBody 54)
  second_node_is : frame_in (behind 87 (set crossed_bytes 59 2)) ≡ Err (BadBody 91)
  no_node_should_come_is : frame_in (behind 87 (set crossed_bytes 59 0)) ≡ Err (BadBody 67)

are_frames : AreFrames
unfolding frame_in content_in body_in body_at body_fields_at sat_at unsat_at key_at point_at atom_at fits_behind
    is_canonical is_canonical_form divisor gcd gcd_within atom_parts_at form_and_constant_at terms_at term_at repeat
    nodes_at node_at node_fields_at split_at leaf_terms_at leaf_term_at on_at body_kind_at op_at node_kind_at
    on_kind_at atom_count_at term_count_at term_var_at coefficient_at constant_at value_count_at value_at
    node_count_at split_var_at cut_at reference_at leaf_count_at factor_at small_at short_at long_at integer_at
are_frames = record {
  pinned_is = refl;
  crossed_is = refl;
  no_node_is = refl;
  negative_factor_is = refl;
  goes_on_is = refl;
  ended_is = refl;
  length_cut_is = refl;
  body_cut_is = refl;
  greatest_is = refl;
  too_long_is = refl;
  far_too_long_is = refl;
  empty_is = refl;
  kind_is = refl;
  coefficient_is = refl;
  left_over_is = refl;
  second_node_is = refl;
  no_node_should_come_is = refl;
}
