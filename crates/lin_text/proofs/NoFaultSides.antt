-- A side before a joint is shorter than the side that goes on there, and how a comparison begins.
use Rattle.std.proofs.Common.{◌≡◌, ℕ, ◌<◌, ◌≤◌, Bool, true, false, List, [], ◌∷◌, ◌++◌, length, refl, sym, ap, ◌∙◌}
use Rattle.std.proofs.Common.{arith, append_assoc, inl, inr}
use Rattle.std.specs.Prelude.{◌⊎◌, flat_map}
use Rattle.lin_model.specs.Terms.{PlainTerm}
use Rattle.lin_model.specs.declared.atom.Atom.{Atom}
use Rattle.lin_text.specs.declared.class.Sign.{Sign}
use Rattle.lin_text.specs.Pieces.{Piece, name, number, minus, compare}
use Rattle.lin_text.specs.Grammar.{Quantity, constant, multiple, single, Joined, Side, sign, quantity_pieces}
use Rattle.lin_text.specs.Grammar.{item_pieces, joint, joined_pieces, side_pieces, item_count, AreTerms, IsExpr}
use Rattle.lin_text.specs.Grammar.{Compares, Naming}
use Rattle.lin_text.specs.Faults.{begins_times, EndsBeforeSide, EndsInFullSide}
use Rattle.lin_text.proofs.UniqueSides.{ends_side, end, item-once, joined-once, side-once, later_no_times, no_joint}
use Rattle.lin_text.proofs.UniqueSides.{no_times}

joint_no_times : (js : List Joined) (b : Bool) (ps : List Piece)
    → begins_times (flat_map joined_pieces js ++ joint b ∷ ps) ≡ false
joint_no_times [] b ps = no_times b [] ps
joint_no_times (j ∷ js) b ps = ap begins_times
    (append_assoc (joined_pieces j) (flat_map joined_pieces js) (joint b ∷ ps))
    ∙ no_times j.subtracted (item_pieces j.item) (flat_map joined_pieces js ++ joint b ∷ ps)

longer_later : (is js : List Joined) (b : Bool) (ps more : List Piece) → ends_side more ≡ true
    → flat_map joined_pieces is ++ joint b ∷ ps ≡ flat_map joined_pieces js ++ more → length is < length js
longer_later [] [] b ps more ends e = absurd (no_joint b more ps ends (sym e))
longer_later [] (j ∷ js) b ps more ends e = omega arith
longer_later (i ∷ is) [] b ps more ends e =
    absurd (no_joint i.subtracted more (item_pieces i.item ++ (flat_map joined_pieces is ++ joint b ∷ ps)) ends (sym e
    ∙ append_assoc (joined_pieces i) (flat_map joined_pieces is) (joint b ∷ ps)))
longer_later (i ∷ is) (j ∷ js) b ps more ends e =
    let flat : joined_pieces i ++ (flat_map joined_pieces is ++ joint b ∷ ps) ≡ joined_pieces j
    ++ (flat_map joined_pieces js ++ more) =
    sym (append_assoc (joined_pieces i) (flat_map joined_pieces is) (joint b ∷ ps))
    ∙ (e ∙ append_assoc (joined_pieces j) (flat_map joined_pieces js) more) in
    let first = joined-once i j (flat_map joined_pieces is ++ joint b ∷ ps) (flat_map joined_pieces js ++ more)
    (joint_no_times is b ps) (later_no_times js more ends) flat in
    omega (arith, longer_later is js b ps more ends first.1)

longer_side : (s t : Side) (b : Bool) (ps more : List Piece) → ends_side more ≡ true
    → side_pieces s ++ joint b ∷ ps ≡ side_pieces t ++ more → item_count s < item_count t
unfolding side_pieces
longer_side s t b ps more ends e =
    let flat : item_pieces s.first ++ (flat_map joined_pieces s.later ++ joint b ∷ ps) ≡ item_pieces t.first
    ++ (flat_map joined_pieces t.later ++ more) =
    sym (append_assoc (item_pieces s.first) (flat_map joined_pieces s.later) (joint b ∷ ps))
    ∙ (e ∙ append_assoc (item_pieces t.first) (flat_map joined_pieces t.later) more) in
    let first = item-once s.first t.first (flat_map joined_pieces s.later ++ joint b ∷ ps)
    (flat_map joined_pieces t.later ++ more) (joint_no_times s.later b ps)
    (later_no_times t.later more ends) flat in
    omega (arith, longer_later s.later t.later b ps more ends first.1)

AreTerms-length : (names : Naming) (js : List Joined) (ts : List PlainTerm) → AreTerms names js ts
    → length js ≡ length ts
AreTerms-length names [] ts are = sym (ap length are)
AreTerms-length names (j ∷ js) [] are = absurd are
AreTerms-length names (j ∷ js) (t ∷ ts) are = omega (arith, AreTerms-length names js ts are.1)

few_items : (names : Naming) (s : Side) (ts : List PlainTerm) → IsExpr names s ts → item_count s ≤ 64
few_items names s ts is =
    omega (arith, AreTerms-length names (record { subtracted = false; item = s.first } ∷ s.later) ts is.0, is.1.few)

-- a full side and one joint more, and what stands before them
pub full_shape : (front ps : List Piece) (f : EndsInFullSide front)
    → (front ++ ps ≡ side_pieces f.side ++ joint f.subtracted ∷ ps)
    ⊎ ((l : Side) × (c : Sign) × (front ++ ps ≡ side_pieces l
    ++ compare c ∷ (side_pieces f.side ++ joint f.subtracted ∷ ps)))
full_shape front ps f = by_start f.starts
  where
    s : List Piece
    s = side_pieces f.side

    j : List Piece
    j = joint f.subtracted ∷ []

    whole : front ++ ps ≡ f.before ++ (s ++ (j ++ ps))
    whole = ap (λ (xs : List Piece). xs ++ ps) f.written
        ∙ (append_assoc (f.before ++ s) j ps ∙ append_assoc f.before s (j ++ ps))

    by_start : EndsBeforeSide f.before → (front ++ ps ≡ s ++ (j ++ ps))
        ⊎ ((l : Side) × (c : Sign) × (front ++ ps ≡ side_pieces l ++ compare c ∷ (s ++ (j ++ ps))))
    by_start (inl none) = inl (whole ∙ ap (λ (xs : List Piece). xs ++ (s ++ (j ++ ps))) none)
    by_start (inr (l, c, e)) = inr (
      l,
      c,
      whole
          ∙ (ap (λ (xs : List Piece). xs ++ (s ++ (j ++ ps))) e
          ∙ append_assoc (side_pieces l) (compare c ∷ []) (s ++ (j ++ ps))),
    )

-- no side of a comparison has more items than it may have
pub no_full_side : (names : Naming) (front ps : List Piece) (a : Atom) → Compares names (front ++ ps) a
    → EndsInFullSide front → ⊥
unfolding ends_side
no_full_side names front ps a c f = by_shape (full_shape front ps f)
  where
    written : front ++ ps ≡ side_pieces c.left ++ (compare c.sign ∷ (side_pieces c.right ++ end))
    written = c.written ∙ append_assoc (side_pieces c.left) (compare c.sign ∷ side_pieces c.right) end

    by_shape : ((front ++ ps ≡ side_pieces f.side ++ joint f.subtracted ∷ ps)
        ⊎ ((l : Side) × (d : Sign) × (front ++ ps ≡ side_pieces l
        ++ compare d ∷ (side_pieces f.side ++ joint f.subtracted ∷ ps)))) → ⊥
    by_shape (inl e) = absurd (omega (
      arith,
      f.full,
      few_items names c.left a.left c.left_terms,
      longer_side f.side c.left f.subtracted ps (compare c.sign ∷ (side_pieces c.right ++ end)) refl (sym e
          ∙ written),
    ))
    by_shape (inr (l, d, e)) =
        let first = side-once l c.left (compare d ∷ (side_pieces f.side ++ joint f.subtracted ∷ ps))
        (compare c.sign ∷ (side_pieces c.right ++ end)) refl refl (sym e ∙ written) in
        let both : compare d ∷ (side_pieces f.side ++ joint f.subtracted ∷ ps)
        ≡ compare c.sign ∷ (side_pieces c.right ++ end) = first.1 in
        let rest : side_pieces f.side ++ joint f.subtracted ∷ ps ≡ side_pieces c.right
        ++ end = behind d c.sign (side_pieces f.side ++ joint f.subtracted ∷ ps) (side_pieces c.right ++ end) both in
        absurd (omega (
          arith,
          f.full,
          few_items names c.right a.right c.right_terms,
          longer_side f.side c.right f.subtracted ps end refl rest,
        ))
      where
        behind : (x y : Sign) (xs ys : List Piece) → compare x ∷ xs ≡ compare y ∷ ys → xs ≡ ys
        behind x y xs ys h = cc

-- a side begins with `-`, a number or a name
module _ {X : Type 0} (f : List Piece → X) (x : X) (at_minus : (ps : List Piece)
    → f (minus ∷ ps) ≡ x) (at_number : (n : ℕ) (ps : List Piece)
    → f (number n ∷ ps) ≡ x) (at_name : (y : List ℕ) (ps : List Piece) → f (name y ∷ ps) ≡ x) where
  item_begins : (b : Bool) (a : Quantity) (more : List Piece) → f ((sign b ++ quantity_pieces a) ++ more) ≡ x
  item_begins true a more = at_minus (quantity_pieces a ++ more)
  item_begins false (constant n) more = at_number n more
  item_begins false (multiple n y) more = at_number n _
  item_begins false (single y) more = at_name y more

  pub side_begins : (s : Side) (more : List Piece) → f (side_pieces s ++ more) ≡ x
  unfolding side_pieces
  side_begins s more = ap f (append_assoc (item_pieces s.first) (flat_map joined_pieces s.later) more)
      ∙ item_begins s.first.negative s.first.quantity (flat_map joined_pieces s.later ++ more)

  pub comparison_begins : (names : Naming) (ps : List Piece) (a : Atom) → Compares names ps a → f ps ≡ x
  comparison_begins names ps a c = ap f (c.written
      ∙ append_assoc (side_pieces c.left) (compare c.sign ∷ side_pieces c.right) end)
      ∙ side_begins c.left (compare c.sign ∷ (side_pieces c.right ++ end))
