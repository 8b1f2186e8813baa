-- The tokens of an atom lead to its terms, its op and its constant.
use Rattle.std.proofs.Common.{◌≡◌, ℕ, min, Bool, true, false, not, List, [], ◌∷◌, ◌++◌, map, refl, sym, ap}
use Rattle.std.proofs.Common.{◌∙◌, append_assoc, Some, None, Option, All, ℤ}
use Rattle.std.specs.Prelude.{flat_map, option_and_then}
use Rattle.std.proofs.lemmas.Bool.{false≢true}
use Rattle.std.proofs.lemmas.List.{append-nil}
use Rattle.std.proofs.lemmas.List.Elements.{All-head, All-tail}
use Rattle.lin_model.specs.declared.form.FormTerm.{FormTerm}
use Rattle.lin_model.specs.declared.op.Op.{Op}
use Rattle.lin_text.specs.declared.atom_step.State.TheVariants as states
use Rattle.lin_text.specs.declared.atom_step.Step.{Step}
use Rattle.lin_text.specs.declared.class.Sign.{Sign}
use Rattle.lin_text.specs.declared.class.TheConstants.{TOO_LARGE}
use Rattle.lin_text.specs.Pieces.{Piece, number, plus, minus, compare}
use Rattle.lin_text.specs.Grammar.{Integer, Quantity, constant, multiple, single, Joined, Side, sign, joint}
use Rattle.lin_text.specs.Grammar.{integer_pieces, quantity_pieces, item_pieces, joined_pieces, side_pieces}
use Rattle.lin_text.specs.KeyAtomTexts.{op_of, AtomTree, atom_pieces, NamesKeyVar, IsAtomTree}
use Rattle.lin_text.specs.AtomSteps.{key_var, sized, named, op_step, constant_term, with_term, run}
use Rattle.lin_text.proofs.AtomNames.{key_var-of}

-- the number of a name's variable, where it has one
abbrev pub var_or : Option ℕ → ℕ
var_or None = 64
var_or (Some v) = v

-- what the reader sees of a quantity: its variable and its size
abbrev pub shown_var : Quantity → ℕ
shown_var (constant n) = 64
shown_var (multiple n x) = var_or (key_var x)
shown_var (single x) = var_or (key_var x)

abbrev pub shown_size : Quantity → ℕ
shown_size (constant n) = min n TOO_LARGE
shown_size (multiple n x) = min n TOO_LARGE
shown_size (single x) = 1

-- whether an item is negative, by the sign that joins it and its own
abbrev pub turned : Bool → Bool → Bool
turned subtracted true = not subtracted
turned subtracted false = subtracted

abbrev pub shown_quantity : Bool → Quantity → FormTerm
shown_quantity negative q = record { var = shown_var q; coef = sized negative (shown_size q) }

abbrev pub shown_term : Joined → FormTerm
shown_term j = shown_quantity (turned j.subtracted j.item.negative) j.item.quantity

-- the items of a side, the first as if a plus joined it
abbrev pub items : Side → List Joined
items s = record { subtracted = false; item = s.first } ∷ s.later

abbrev pub shown_terms : Side → List FormTerm
shown_terms s = map shown_term (items s)

abbrev pub shown_constant : Integer → ℤ
shown_constant i = sized i.negative (min i.size TOO_LARGE)

-- a sign that joins an item, or a comparison
abbrev pub begins_next : List Piece → Bool
begins_next (plus ∷ ps) = true
begins_next (minus ∷ ps) = true
begins_next (compare c ∷ ps) = true
begins_next _ = false

-- a constant is complete where no `*` follows it
number_ends : (terms : List FormTerm) (n : ℤ) (ps : List Piece) → begins_next ps ≡ true
    → run terms (states.Number n) ps ≡ run (terms ++ constant_term n ∷ []) states.Behind ps
number_ends terms n (plus ∷ ps) e = refl
number_ends terms n (minus ∷ ps) e = refl
number_ends terms n (compare c ∷ ps) e =
    elim (op_of c) as (λ o. option_and_then (λ s. run (with_term terms s.term) s.state ps)
    (op_step (Some (constant_term n)) o) ≡ option_and_then
    (λ s. run (with_term (terms ++ constant_term n ∷ []) s.term) s.state ps) (op_step None o)) [
      | None ↦ refl
      | Some op ↦ refl
    ]
number_ends terms n [] e = absurd (false≢true e)
number_ends terms n (_ ∷ ps) e = absurd (false≢true e)

-- a name that is a variable ends an item
run-named : (terms : List FormTerm) (coef : ℤ) (x : List ℕ) (var : ℕ) (ps : List Piece) → key_var x ≡ Some var
    → option_and_then (λ s. run (with_term terms s.term) s.state ps) (named coef (key_var x))
    ≡ run (terms ++ record { var = var_or (key_var x); coef = coef } ∷ []) states.Behind ps
run-named terms coef x var ps e =
    elim (key_var x) as (λ o. o ≡ Some var
    → option_and_then (λ s. run (with_term terms s.term) s.state ps) (named coef o)
    ≡ run (terms ++ record { var = var_or o; coef = coef } ∷ []) states.Behind ps) [
      | None ↦ λ h. absurd (cc)
      | Some v ↦ λ h. refl
    ] e

run-quantity : (terms : List FormTerm) (negative : Bool) (q : Quantity) (ps : List Piece) → NamesKeyVar q
    → begins_next ps ≡ true → run terms (states.Size negative) (quantity_pieces q ++ ps)
    ≡ run (terms ++ shown_quantity negative q ∷ []) states.Behind ps
run-quantity terms negative (constant n) ps names e = number_ends terms (sized negative (min n TOO_LARGE)) ps e
run-quantity terms negative (multiple n x) ps names e =
    run-named terms (sized negative (min n TOO_LARGE)) x (min names.0 64) ps (key_var-of x names.0 names.1)
run-quantity terms negative (single x) ps names e =
    run-named terms (sized negative 1) x (min names.0 64) ps (key_var-of x names.0 names.1)

-- an item without a minus of its own begins as behind one
no_minus : (terms : List FormTerm) (b : Bool) (q : Quantity) (ps : List Piece)
    → run terms (states.Item b) (quantity_pieces q ++ ps) ≡ run terms (states.Size b) (quantity_pieces q ++ ps)
no_minus terms b (constant n) ps = refl
no_minus terms b (multiple n x) ps = refl
no_minus terms b (single x) ps = refl

run-item : (terms : List FormTerm) (j : Joined) (ps : List Piece) → NamesKeyVar j.item.quantity → begins_next ps ≡ true
    → run terms (states.Item j.subtracted) (item_pieces j.item ++ ps)
    ≡ run (terms ++ shown_term j ∷ []) states.Behind ps
run-item terms j ps names e =
    elim j.item.negative as (λ b. run terms (states.Item j.subtracted) ((sign b ++ quantity_pieces j.item.quantity) ++ ps)
    ≡ run (terms ++ shown_quantity (turned j.subtracted b) j.item.quantity ∷ []) states.Behind ps) [
      | true ↦ run-quantity terms (not j.subtracted) j.item.quantity ps names e
      | false ↦ no_minus terms j.subtracted j.item.quantity ps
          ∙ run-quantity terms j.subtracted j.item.quantity ps names e
    ]

run-joint : (terms : List FormTerm) (b : Bool) (ps : List Piece)
    → run terms states.Behind (joint b ∷ ps) ≡ run terms (states.Item b) ps
run-joint terms true ps = refl
run-joint terms false ps = refl

joint-next : (b : Bool) (ps : List Piece) → begins_next (joint b ∷ ps) ≡ true
joint-next true ps = refl
joint-next false ps = refl

later-next : (js : List Joined) (ps : List Piece) → begins_next ps ≡ true
    → begins_next (flat_map joined_pieces js ++ ps) ≡ true
later-next [] ps e = e
later-next (j ∷ js) ps e =
    ap begins_next (append_assoc (joined_pieces j) (flat_map joined_pieces js) ps)
    ∙ joint-next j.subtracted (item_pieces j.item ++ (flat_map joined_pieces js ++ ps))

run-later : (terms : List FormTerm) (js : List Joined) (ps : List Piece) → All (λ j. NamesKeyVar j.item.quantity) js
    → begins_next ps ≡ true → run terms states.Behind (flat_map joined_pieces js ++ ps)
    ≡ run (terms ++ map shown_term js) states.Behind ps
run-later terms [] ps names e = ap (λ (ts : List FormTerm). run ts states.Behind ps) (sym (append-nil terms))
run-later terms (j ∷ js) ps names e =
    ap (run terms states.Behind) (append_assoc (joined_pieces j) (flat_map joined_pieces js) ps)
    ∙ run-joint terms j.subtracted (item_pieces j.item ++ (flat_map joined_pieces js ++ ps))
    ∙ run-item terms j (flat_map joined_pieces js ++ ps) (All-head (λ k. NamesKeyVar k.item.quantity) j js names)
    (later-next js ps e)
    ∙ run-later (terms ++ shown_term j ∷ []) js ps (All-tail (λ k. NamesKeyVar k.item.quantity) j js names) e
    ∙ ap (λ (ts : List FormTerm). run ts states.Behind ps) (append_assoc terms (shown_term j ∷ []) (map shown_term js))

run-side : (s : Side) (ps : List Piece) → NamesKeyVar s.first.quantity
    → All (λ j. NamesKeyVar j.item.quantity) s.later → begins_next ps ≡ true
    → run [] (states.Item false) (side_pieces s ++ ps) ≡ run (shown_terms s) states.Behind ps
unfolding side_pieces
run-side s ps first later e =
    let j : Joined = record { subtracted = false; item = s.first } in
    ap (run [] (states.Item false)) (append_assoc (item_pieces s.first) (flat_map joined_pieces s.later) ps)
    ∙ run-item [] j (flat_map joined_pieces s.later ++ ps) first (later-next s.later ps e)
    ∙ run-later (shown_term j ∷ []) s.later ps later e

run-constant : (terms : List FormTerm) (op : Op) (i : Integer) (ps : List Piece)
    → run terms (states.Constant op) (integer_pieces i ++ ps) ≡ run terms (states.Over op (shown_constant i)) ps
run-constant terms op i ps =
    elim i.negative as (λ b. run terms (states.Constant op) ((sign b ++ number i.size ∷ []) ++ ps)
    ≡ run terms (states.Over op (sized b (min i.size TOO_LARGE))) ps) [ true ↦ refl | false ↦ refl ]

run-sign : (terms : List FormTerm) (c : Sign) (op : Op) (ps : List Piece) → op_of c ≡ Some op
    → run terms states.Behind (compare c ∷ ps) ≡ run terms (states.Constant op) ps
run-sign terms c op ps e =
    ap (λ (o : Option Op). option_and_then (λ (s : Step). run (with_term terms s.term) s.state ps) (op_step None o)) e

-- a whole atom
pub run-tree : (tree : AtomTree) (op : Op) (ps : List Piece) → IsAtomTree tree → op_of tree.sign ≡ Some op
    → run [] (states.Item false) (atom_pieces tree ++ ps)
    ≡ run (shown_terms tree.side) (states.Over op (shown_constant tree.integer)) ps
run-tree tree op ps is e =
    ap (run [] (states.Item false))
    (append_assoc (side_pieces tree.side) (compare tree.sign ∷ integer_pieces tree.integer) ps)
    ∙ run-side tree.side (compare tree.sign ∷ (integer_pieces tree.integer ++ ps)) is.first is.later refl
    ∙ run-sign (shown_terms tree.side) tree.sign op (integer_pieces tree.integer ++ ps) e
    ∙ run-constant (shown_terms tree.side) op tree.integer ps
