-- The fault that stands at a token which can't come next, or at one behind a whole atom.
use Rattle.std.proofs.Common.{◌≡◌, ℕ, ◌≤◌, Bool, true, false, List, [], ◌∷◌, ◌++◌, length, Option, Some, None}
use Rattle.std.proofs.Common.{refl, sym, ap, subst, ◌∙◌, append_assoc, arith, inl, inr, ◌⊎◌, ℤ, lit≤}
use Rattle.std.specs.Prelude.{option_and_then, IsTrue}
use Rattle.std.proofs.lemmas.Bool.{false≢true}
use Rattle.std.proofs.lemmas.List.{append-nil, length-map}
use Rattle.lin_model.specs.KeyAtom.{PlainKeyAtom}
use Rattle.lin_model.specs.declared.form.FormTerm.{FormTerm}
use Rattle.lin_model.specs.declared.op.Op.{Op}
use Rattle.lin_text.specs.declared.atom_step.State.{State}
use Rattle.lin_text.specs.declared.atom_step.State.TheVariants as states
use Rattle.lin_text.specs.declared.fault.TextKind.{TextKind}
use Rattle.lin_text.specs.declared.fault.TextKind.TheVariants as kinds
use Rattle.lin_text.specs.Pieces.{Piece, var, word, name, number, plus, minus, times, compare, bad, line_end}
use Rattle.lin_text.specs.Classes.{class_of}
use Rattle.lin_text.specs.Faults.{begins_item}
use Rattle.lin_text.specs.Kinds.{rank}
use Rattle.lin_text.specs.Reading.{refusal_kind}
use Rattle.lin_text.specs.Grammar.{item_count}
use Rattle.lin_text.specs.KeyAtomTexts.{op_of, AtomTree, atom_pieces, IsAtomTree, Means, BeginsAtom, BeginsUncanonical}
use Rattle.lin_text.specs.KeyAtomTexts.{IsFullForm, StandsInAtom}
use Rattle.lin_text.specs.AtomSteps.{is_item, next, with_term, run}
use Rattle.lin_text.proofs.KeyAtomOnce.{tree_once}
use Rattle.lin_text.proofs.AtomRuns.{shown_term, items, shown_terms, shown_constant, run-tree}
use Rattle.lin_text.proofs.AtomPlaces.{run-append}
use Rattle.lin_text.proofs.AtomTrees.{full_front, full_form}
use Rattle.lin_text.proofs.AtomMeanings.{tree-op}
use Rattle.lin_text.proofs.AtomCounts.{too_many}

-- of two fronts of a list the longer one goes on with what is behind the other
pub fronts : {X : Type 0} (xs ys us vs : List X) (u : X) → xs ++ ys ≡ us ++ u ∷ vs
    → ((mid : List X) × (xs ≡ us ++ u ∷ mid)) ⊎ ((mid : List X) × (us ≡ xs ++ mid))
fronts [] ys us vs u e = inr (us, refl)
fronts {X} (x ∷ xs) ys [] vs u e =
    let same : x ≡ u = cc in inl (xs, ap (λ (z : X). z ∷ xs) same)
fronts {X} (x ∷ xs) ys (w ∷ us) vs u e =
    let same : x ≡ w = cc in
    let rest : xs ++ ys ≡ us ++ u ∷ vs = cc in
    elim (fronts xs ys us vs u rest) [
      | inl h ↦ inl (h.0, ap (λ (zs : List X). x ∷ zs) h.1 ∙ ap (λ (z : X). z ∷ (us ++ u ∷ h.0)) same)
      | inr h ↦ inr (h.0, ap (λ (zs : List X). w ∷ zs) h.1 ∙ ap (λ (z : X). z ∷ (xs ++ h.0)) (sym same))
    ]

-- the run through a tree
abbrev ends_at : AtomTree → Op → Option (List FormTerm × State)
ends_at tree op = Some (shown_terms tree.side, states.Over op (shown_constant tree.integer))

pub run-whole : (tree : AtomTree) (op : Op) → IsAtomTree tree → op_of tree.sign ≡ Some op
    → run [] (states.Item false) (atom_pieces tree) ≡ ends_at tree op
run-whole tree op is e =
    ap (run [] (states.Item false)) (sym (append-nil (atom_pieces tree))) ∙ run-tree tree op [] is e

-- behind a whole atom nothing can come
over : (terms ends : List FormTerm) (op : Op) (z : ℤ) (s : State) (ps : List Piece)
    → run terms (states.Over op z) ps ≡ Some (ends, s) → ps ≡ []
over terms ends op z s [] e = refl
over terms ends op z s (p ∷ ps) e = absurd (cc)

abbrev pub is_over : State → Bool
is_over (states.Over op z) = true
is_over _ = false

-- the front that was read isn't whole
abbrev state_in : Option (List FormTerm × State) → State → State
state_in None s = s
state_in (Some r) s = r.1

no_whole_front : (terms ends : List FormTerm) (op : Op) (z : ℤ) (s : State) (ps : List Piece)
    → run terms (states.Over op z) ps ≡ Some (ends, s) → is_over s ≡ false → ⊥
no_whole_front terms ends op z s [] e goes_on =
    false≢true (sym goes_on ∙ ap is_over (ap (λ o. state_in o s) (sym e)))
no_whole_front terms ends op z s (p ∷ ps) e goes_on = absurd (cc)

-- no atom goes on with a token that can't come next
pub dies : (front : List Piece) (terms : List FormTerm) (s : State) (q : Piece) (tree : AtomTree) (ys vs : List Piece)
    → run [] (states.Item false) front ≡ Some (terms, s) → is_over s ≡ false → next s q ≡ None → IsAtomTree tree
    → atom_pieces tree ++ ys ≡ front ++ q ∷ vs → ⊥
dies front terms s q tree ys vs e goes_on none is written =
    let op = tree-op tree is in
    let all = run-whole tree op.0 is op.1 in
    elim (fronts (atom_pieces tree) ys front vs q written) [
      | inl h ↦
          let dead : run [] (states.Item false) (front ++ q ∷ h.0) ≡ None =
          run-append [] terms (states.Item false) s front (q ∷ h.0) e
          ∙ ap (λ o. option_and_then (λ st. run (with_term terms st.term) st.state h.0) o) none in
          let clash : None ≡ ends_at tree op.0 =
          sym dead ∙ ap (run [] (states.Item false)) (sym h.1) ∙ all in
          cc
      | inr h ↦
          no_whole_front (shown_terms tree.side) terms op.0 (shown_constant tree.integer) s h.0
          (sym (run-append [] (shown_terms tree.side) (states.Item false)
          (states.Over op.0 (shown_constant tree.integer)) (atom_pieces tree) h.0 all)
          ∙ ap (run [] (states.Item false)) (sym h.1) ∙ e) goes_on
    ]

-- a fault stands at a token, and none that goes before it
pub record FirstStands (front : List Piece) (q : Piece) (after : List Piece) (kind : TextKind) : Type 0 where
  pub stands : StandsInAtom front q after kind
  pub least : (k : TextKind) → StandsInAtom front q after k → rank kind ≤ rank k

-- from the ranks of the three kinds that may stand
pub least_of : (front : List Piece) (q : Piece) (after : List Piece) (n : ℕ)
    → (StandsInAtom front q after kinds.TooManyTerms → n ≤ 2) → (StandsInAtom front q after kinds.Token → n ≤ 3)
    → n ≤ 4 → (k : TextKind) → StandsInAtom front q after k → n ≤ rank k
least_of front q after n terms token syntax kinds.TooManyTerms h = terms h
least_of front q after n terms token syntax kinds.Token h = token h
least_of front q after n terms token syntax kinds.Syntax h = syntax
least_of front q after n terms token syntax kinds.TooManyVars h = absurd h
least_of front q after n terms token syntax kinds.TooManyAtoms h = absurd h
least_of front q after n terms token syntax kinds.NumberTooLarge h = absurd h
least_of front q after n terms token syntax kinds.UnknownName h = absurd h
least_of front q after n terms token syntax kinds.NameTwice h = absurd h
least_of front q after n terms token syntax kinds.EmptyRange h = absurd h
least_of front q after n terms token syntax kinds.NoMemory h = absurd h

-- where neither a 65th item begins nor an atom goes on, it is the kind of the token
pub refused : (front : List Piece) (q : Piece) (after : List Piece)
    → (IsFullForm front → IsTrue (begins_item q) → ⊥) → ¬ BeginsAtom (front ++ q ∷ [])
    → FirstStands front q after (refusal_kind (class_of q))
refused front q after few no_atom = by_piece q refl
  where
    syntax : (q ≡ bad → ⊥) → FirstStands front q after kinds.Syntax
    syntax not_bad = record {
      stands = inl no_atom;
      least = least_of front q after 4 (λ h. absurd (few h.0 h.1)) (λ h. absurd (not_bad h)) (lit≤ tt);
    }

    by_piece : (p : Piece) → q ≡ p → FirstStands front q after (refusal_kind (class_of p))
    by_piece bad is = record {
      stands = is;
      least = least_of front q after 3 (λ h. absurd (few h.0 h.1)) (λ h. lit≤ tt) (lit≤ tt);
    }
    by_piece var is = syntax (λ e. cc)
    by_piece (word w) is = syntax (λ e. cc)
    by_piece (name x) is = syntax (λ e. cc)
    by_piece (number n) is = syntax (λ e. cc)
    by_piece plus is = syntax (λ e. cc)
    by_piece minus is = syntax (λ e. cc)
    by_piece times is = syntax (λ e. cc)
    by_piece (compare c) is = syntax (λ e. cc)
    by_piece line_end is = syntax (λ e. cc)

-- a token that can't come next
pub refused_next : (front : List Piece) (q : Piece) (after : List Piece) (terms : List FormTerm) (s : State)
    → run [] (states.Item false) front ≡ Some (terms, s) → is_over s ≡ false → next s q ≡ None
    → (length terms ≡ 64 → is_item s ≡ true → begins_item q ≡ true → ⊥)
    → FirstStands front q after (refusal_kind (class_of q))
refused_next front q after terms s e goes_on none few =
    refused front q after
    (λ full b. let f = full_front front terms s e full in few f.0 f.1 b)
    (λ b. dies front terms s q b.tree (line_end ∷ []) b.more e goes_on none b.is
    (b.written ∙ append_assoc front (q ∷ []) b.more))

-- the 65th item
pub refused_full : (front : List Piece) (q : Piece) (after : List Piece) (terms : List FormTerm) (b : Bool)
    → run [] (states.Item false) front ≡ Some (terms, states.Item b) → length terms ≡ 64 → begins_item q ≡ true
    → FirstStands front q after kinds.TooManyTerms
refused_full front q after terms b e count begins = record {
  stands = (full_form front terms b e count, begins);
  least = least_of front q after 2 (λ h. lit≤ tt) (λ h. lit≤ tt) (lit≤ tt);
}

-- no atom with few terms stands in front where a 65th item begins
pub no_few : (front : List Piece) (terms : List FormTerm) (b : Bool) (q : Piece) (tree : AtomTree)
    (ys vs : List Piece) → run [] (states.Item false) front ≡ Some (terms, states.Item b) → length terms ≡ 64
    → begins_item q ≡ true → IsAtomTree tree → item_count tree.side ≤ 64
    → atom_pieces tree ++ ys ≡ front ++ q ∷ vs → ⊥
no_few front terms b q tree ys vs e count begins is few written =
    let op = tree-op tree is in
    let all = run-whole tree op.0 is op.1 in
    elim (fronts (atom_pieces tree) ys front vs q written) [
      | inl h ↦
          let more = too_many terms (shown_terms tree.side) (states.Item b)
          (states.Over op.0 (shown_constant tree.integer)) q h.0 refl count begins
          (sym (run-append [] terms (states.Item false) (states.Item b) front (q ∷ h.0) e)
          ∙ ap (run [] (states.Item false)) (sym h.1) ∙ all) in
          omega (arith, more, few, length-map (items tree.side) shown_term)
      | inr h ↦
          no_whole_front (shown_terms tree.side) terms op.0 (shown_constant tree.integer) (states.Item b) h.0
          (sym (run-append [] (shown_terms tree.side) (states.Item false)
          (states.Over op.0 (shown_constant tree.integer)) (atom_pieces tree) h.0 all)
          ∙ ap (run [] (states.Item false)) (sym h.1) ∙ e) refl
    ]

-- behind a whole atom only the line's end can come
pub refused_behind : (tree : AtomTree) (q : Piece) (after : List Piece) (terms : List FormTerm) (op : Op) (z : ℤ)
    → run [] (states.Item false) (atom_pieces tree) ≡ Some (terms, states.Over op z) → (q ≡ line_end → ⊥)
    → FirstStands (atom_pieces tree) q after (refusal_kind (class_of q))
refused_behind tree q after terms op z e other =
    refused (atom_pieces tree) q after
    (λ full b. false≢true (full_front (atom_pieces tree) terms (states.Over op z) e full).1)
    (λ b.
    let same = (tree_once b.tree tree (line_end ∷ []) (q ∷ b.more)
    (b.written ∙ append_assoc (atom_pieces tree) (q ∷ []) b.more)).1 in
    let is : line_end ≡ q = cc in
    other (sym is))

-- an atom that stands in front of these tokens, and is canonical, is no other one
pub no_uncanonical : (tree : AtomTree) (a : PlainKeyAtom) (rest : List Piece) → Means tree a
    → BeginsUncanonical (atom_pieces tree ++ rest) → ⊥
no_uncanonical tree a rest means u =
    let same = (tree_once tree u.tree rest u.after u.written).0 in
    u.none a (subst (λ (x : AtomTree). Means x a) same means)
