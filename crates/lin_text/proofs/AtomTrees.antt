-- What leads through an atom begins one, and a form is full where 64 terms were read.
use Rattle.std.proofs.Common.{◌≡◌, ℕ, Bool, true, false, List, [], ◌∷◌, ◌++◌, length, Option, Some, None}
use Rattle.std.proofs.Common.{refl, sym, ap, subst, ◌∙◌, append_assoc, arith, All, ℤ}
use Rattle.std.specs.Prelude.{flat_map}
use Rattle.std.proofs.lemmas.List.Elements.{All-cons, All-nil}
use Rattle.lin_model.specs.declared.form.FormTerm.{FormTerm}
use Rattle.lin_model.specs.declared.op.Op.{Op}
use Rattle.lin_text.specs.declared.atom_step.State.{State}
use Rattle.lin_text.specs.declared.atom_step.State.TheVariants as states
use Rattle.lin_text.specs.declared.class.Sign.TheVariants.{Le}
use Rattle.lin_text.specs.Pieces.{Piece, name, number, compare, line_end}
use Rattle.lin_text.specs.Grammar.{Quantity, constant, multiple, single, Item, Joined, Side, sign, quantity_pieces}
use Rattle.lin_text.specs.Grammar.{item_pieces, joint, joined_pieces, side_pieces, item_count, integer_pieces}
use Rattle.lin_text.specs.KeyAtomTexts.{AtomTree, atom_pieces, NamesKeyVar, IsAtomTree, BeginsAtom, IsFullForm}
use Rattle.lin_text.specs.AtomSteps.{is_item, run}
use Rattle.lin_text.proofs.Places as lines
use Rattle.lin_text.proofs.Shapes.{ItemFront, Shape-run}
use Rattle.lin_text.proofs.AtomNames.{key_var-is}
use Rattle.lin_text.proofs.AtomPlaces.{image, runs-to, AreAtomPieces, run-pieces, run-append}

-- the names of a side are variables

names-quantity : (q : Quantity) (ps : List Piece) → AreAtomPieces (quantity_pieces q ++ ps)
    → NamesKeyVar q × AreAtomPieces ps
names-quantity (constant n) ps h = (tt, h.1)
names-quantity (multiple n x) ps h = let v = key_var-is x h.1.1.0.0 h.1.1.0.1 in ((v.0, v.1), h.1.1.1)
names-quantity (single x) ps h = let v = key_var-is x h.0.0 h.0.1 in ((v.0, v.1), h.1)

names-item : (b : Bool) (q : Quantity) (ps : List Piece) → AreAtomPieces ((sign b ++ quantity_pieces q) ++ ps)
    → NamesKeyVar q × AreAtomPieces ps
names-item true q ps h = names-quantity q ps h.1
names-item false q ps h = names-quantity q ps h

names-joined : (b : Bool) (ps : List Piece) → AreAtomPieces (joint b ∷ ps) → AreAtomPieces ps
names-joined true ps h = h.1
names-joined false ps h = h.1

names-later : (js : List Joined) (ps : List Piece) → AreAtomPieces (flat_map joined_pieces js ++ ps)
    → All (λ j. NamesKeyVar j.item.quantity) js × AreAtomPieces ps
names-later [] ps h = (All-nil (λ j. NamesKeyVar j.item.quantity), h)
names-later (j ∷ js) ps h =
    let rest : List Piece = flat_map joined_pieces js ++ ps in
    let one = names-item j.item.negative j.item.quantity rest
    (names-joined j.subtracted (item_pieces j.item ++ rest)
    (subst AreAtomPieces (append_assoc (joined_pieces j) (flat_map joined_pieces js) ps) h)) in
    let more = names-later js ps one.1 in
    (All-cons (λ k. NamesKeyVar k.item.quantity) j js one.0 more.0, more.1)

names-side : (s : Side) (ps : List Piece) → AreAtomPieces (side_pieces s ++ ps)
    → NamesKeyVar s.first.quantity × All (λ j. NamesKeyVar j.item.quantity) s.later × AreAtomPieces ps
unfolding side_pieces
names-side s ps h =
    let one = names-item s.first.negative s.first.quantity (flat_map joined_pieces s.later ++ ps)
    (subst AreAtomPieces (append_assoc (item_pieces s.first) (flat_map joined_pieces s.later) ps) h) in
    let more = names-later s.later ps one.1 in
    (one.0, more.0, more.1)

-- the tree of what was read whole
pub record Whole (ps : List Piece) : Type 0 where
  pub tree : AtomTree
  pub is : IsAtomTree tree
  pub written : ps ≡ atom_pieces tree

pub whole : (ps : List Piece) (terms : List FormTerm) (op : Op) (z : ℤ)
    → run [] (states.Item false) ps ≡ Some (terms, states.Over op z) → Whole ps
whole ps terms op z e =
    let s = Shape-run (lines.item true 0) (lines.after false 1 true) [] ps refl
    (runs-to [] terms (states.Item false) (states.Over op z) ps e) in
    let front = subst (λ (m : ℕ). ItemFront false m s.0) (let none : s.2 ≡ 0 = omega (arith, s.3) in none) s.4 in
    let tree : AtomTree = record {
      side = front.0;
      sign = front.1;
      integer = record { negative = s.6.0; size = s.6.1 };
    } in
    let written : ps ≡ atom_pieces tree =
    s.5 ∙ ap (λ (i : Item). s.0 ++ item_pieces i) s.6.2
    ∙ ap (λ (f : List Piece). f ++ integer_pieces tree.integer) front.2
    ∙ append_assoc (side_pieces front.0) (compare front.1 ∷ []) (integer_pieces tree.integer) in
    let names = names-side front.0 (compare front.1 ∷ integer_pieces tree.integer)
    (subst AreAtomPieces written (run-pieces [] terms (states.Item false) (states.Over op z) ps e)) in
    record {
      tree = tree;
      is = record { first = names.0; later = names.1; sign = names.2.0 };
      written = written;
    }

-- an atom can be ended in every state

abbrev IsOver : Option (List FormTerm × State) → Type 0
IsOver None = ⊥
IsOver (Some r) = (op : Op) × (z : ℤ) × (r.1 ≡ states.Over op z)

-- the name of a variable
abbrev some_name : List ℕ
some_name = 118 ∷ 48 ∷ []

finish : (terms : List FormTerm) (s : State) → (qs : List Piece) × IsOver (run terms s qs)
finish terms (states.Item b) = (number 0 ∷ compare Le ∷ number 0 ∷ [], (_, _, refl))
finish terms (states.Size b) = (number 0 ∷ compare Le ∷ number 0 ∷ [], (_, _, refl))
finish terms (states.Number z) = (compare Le ∷ number 0 ∷ [], (_, _, refl))
finish terms (states.Factor z) = (name some_name ∷ compare Le ∷ number 0 ∷ [], (_, _, refl))
finish terms states.Behind = (compare Le ∷ number 0 ∷ [], (_, _, refl))
finish terms (states.Constant op) = (number 0 ∷ [], (_, _, refl))
finish terms (states.ConstantSize op) = (number 0 ∷ [], (_, _, refl))
finish terms (states.Over op z) = ([], (op, z, refl))

over_whole : (ps : List Piece) (o : Option (List FormTerm × State)) → run [] (states.Item false) ps ≡ o → IsOver o
    → Whole ps
over_whole ps None e h = absurd h
over_whole ps (Some r) e h =
    whole ps r.0 h.0 h.1 (e ∙ ap (λ (s : State). Some (r.0, s)) h.2)

-- tokens that lead through an atom begin one
pub begins : (ps : List Piece) (terms : List FormTerm) (s : State)
    → run [] (states.Item false) ps ≡ Some (terms, s) → BeginsAtom ps
begins ps terms s e =
    let f = finish terms s in
    let w = over_whole (ps ++ f.0) (run terms s f.0) (run-append [] terms (states.Item false) s ps f.0 e) f.1 in
    record {
      tree = w.tree;
      is = w.is;
      more = f.0 ++ line_end ∷ [];
      written = ap (λ (qs : List Piece). qs ++ line_end ∷ []) (sym w.written) ∙ append_assoc ps f.0 (line_end ∷ []);
    }

-- a form of 64 terms and the sign of one more

pub full_form : (front : List Piece) (terms : List FormTerm) (b : Bool)
    → run [] (states.Item false) front ≡ Some (terms, states.Item b) → length terms ≡ 64 → IsFullForm front
full_form front terms b e count =
    let s = Shape-run (lines.item true 0) (lines.item true (length terms)) [] front refl
    (runs-to [] terms (states.Item false) (states.Item b) front e) in
    let f = subst (λ (n : ℕ). ItemFront true n front) count s in
    record {
      side = f.1;
      subtracted = f.2;
      full = f.4;
      written = f.5 ∙ ap (λ (qs : List Piece). qs ++ side_pieces f.1 ++ joint f.2 ∷ []) f.3;
    }

full_run : (front : List Piece) → IsFullForm front
    → lines.run (lines.item true 0) front ≡ Some (lines.item true 64)
full_run front full =
    let r = lines.run-side true full.side (joint full.subtracted ∷ []) in
    ap (lines.run (lines.item true 0)) full.written ∙ r.1
    ∙ lines.run-joint true (item_count full.side) r.0 full.subtracted []
    ∙ ap (λ (n : ℕ). Some (lines.item true n)) full.full

-- only 64 terms and a sign lead to a place before an item that has 64 before it
at_image : (n : ℕ) (s : State) → Some (image n s) ≡ Some (lines.item true 64) → (n ≡ 64) × (is_item s ≡ true)
at_image n (states.Item b) e = (cc, refl)
at_image n (states.Size b) e = absurd (cc)
at_image n (states.Number z) e = absurd (cc)
at_image n (states.Factor z) e = absurd (cc)
at_image n states.Behind e = absurd (cc)
at_image n (states.Constant op) e = absurd (cc)
at_image n (states.ConstantSize op) e = absurd (cc)
at_image n (states.Over op z) e = absurd (cc)

pub full_front : (front : List Piece) (terms : List FormTerm) (s : State)
    → run [] (states.Item false) front ≡ Some (terms, s) → IsFullForm front
    → (length terms ≡ 64) × (is_item s ≡ true)
full_front front terms s e full =
    at_image (length terms) s (sym (runs-to [] terms (states.Item false) s front e) ∙ full_run front full)
