-- What the reader answers behind a whole atom.
use Rattle.std.proofs.Common.{◌≡◌, ℕ, Bool, false, List, [], ◌∷◌, ◌++◌, length, Option, Some, None}
use Rattle.std.proofs.Common.{refl, sym, ap, subst, ◌∙◌, arith, inr, ℤ, lit≤}
use Rattle.std.proofs.lemmas.List.{append-nil, map-append, length-map}
use Rattle.lin_model.specs.Lists.{not_nil}
use Rattle.lin_model.specs.KeyAtom.{PlainKeyAtom, IsCanonical}
use Rattle.lin_model.specs.declared.form.FormTerm.{FormTerm}
use Rattle.lin_model.specs.declared.op.Op.{Op}
use Rattle.lin_text.specs.declared.atom_step.State.{State}
use Rattle.lin_text.specs.declared.atom_step.State.TheVariants as states
use Rattle.lin_text.specs.declared.fault.TextKind.TheVariants as kinds
use Rattle.lin_text.specs.Pieces.{Piece, PlainToken, pieces, first_token}
use Rattle.lin_text.specs.KeyAtomTexts.{op_of, atom_pieces, Means, BeginsUncanonical, SpellsAtomTo}
use Rattle.lin_text.specs.KeyAtomTexts.{HasAtomFault}
use Rattle.lin_text.specs.AtomSteps.{next, run, IsRead}
use Rattle.lin_text.proofs.Outcomes.{token_of}
use Rattle.lin_text.proofs.AtomRuns.{shown_term, items}
use Rattle.lin_text.proofs.AtomTrees.{Whole, whole, full_front}
use Rattle.lin_text.proofs.AtomMeanings.{shown_atom, means-shown, shown-means, tree-op}
use Rattle.lin_text.proofs.AtomRefused.{FirstStands, least_of, dies, run-whole}
use Rattle.lin_text.proofs.AtomFirst.{first_of}

-- the atom of what was read whole
abbrev in_state : List FormTerm → State → PlainKeyAtom → PlainKeyAtom
in_state form (states.Over op z) a = record { form = form; op = op; constant = z }
in_state form _ a = a

abbrev atom_in : Option (List FormTerm × State) → PlainKeyAtom → PlainKeyAtom
atom_in None a = a
atom_in (Some r) a = in_state r.0 r.1 a

-- the atom of the same parts
pub made : (f g : List FormTerm) (op : Op) (y z : ℤ) → f ≡ g → y ≡ z → (record {
  form = f;
  op = op;
  constant = y;
}) ≡ (let a : PlainKeyAtom = record { form = g; op = op; constant = z } in a)
made f g op y z e h =
    ap (λ (h : List FormTerm). record { form = h; op = op; constant = y }) e
    ∙ ap (λ (x : ℤ). record { form = g; op = op; constant = x }) h

-- an atom that isn't canonical is at fault at its first token
uncanonical_first : (q : Piece) (after : List Piece) → BeginsUncanonical (q ∷ after)
    → FirstStands [] q after kinds.Syntax
uncanonical_first q after u = record {
  stands = inr (refl, u);
  least = least_of [] q after 4
      (λ h. let f = full_front [] [] (states.Item false) refl h.0 in absurd (omega (arith, f.0)))
      (λ h. absurd (dies [] [] (states.Item false) q u.tree u.after after refl refl
      (ap (next (states.Item false)) h) u.is (sym u.written)))
      (lit≤ tt);
}

module _ (p : Bool) (bytes : List ℕ) (at : ℕ) (terms : List FormTerm) (op : Op) (z : ℤ) (to : ℕ)
    (got : IsRead p bytes at terms (states.Over op z) to) where
  abbrev pub read_atom : PlainKeyAtom
  read_atom = record { form = terms; op = op; constant = z }

  w : Whole (pieces got.used)
  w = whole (pieces got.used) terms op z got.runs

  of_tree : run [] (states.Item false) (atom_pieces w.tree) ≡ Some (terms, states.Over op z)
  of_tree = ap (run [] (states.Item false)) (sym w.written) ∙ got.runs

  tree_op : (o : Op) × (op_of w.tree.sign ≡ Some o)
  tree_op = tree-op w.tree w.is

  same : read_atom ≡ shown_atom w.tree tree_op.0
  same = ap (λ o. atom_in o read_atom) (sym of_tree ∙ run-whole w.tree tree_op.0 w.is tree_op.1)

  means : IsCanonical read_atom → Means w.tree read_atom
  means canonical =
      subst (λ (a : PlainKeyAtom). Means w.tree a) (sym same)
      (means-shown w.tree tree_op.0 w.is tree_op.1 (subst IsCanonical same canonical))

  meant : (a : PlainKeyAtom) → Means w.tree a → read_atom ≡ a
  meant a m =
      let ops : Some tree_op.0 ≡ Some a.op = sym tree_op.1 ∙ m.op in
      let op_is : tree_op.0 ≡ a.op = cc in
      same ∙ ap (shown_atom w.tree) op_is ∙ shown-means w.tree a m

  written : (rest : List PlainToken) → pieces (got.used ++ rest) ≡ atom_pieces w.tree ++ pieces rest
  written rest = map-append (λ (u : PlainToken). u.piece) got.used rest
      ∙ ap (λ (ps : List Piece). ps ++ pieces rest) w.written

  uncanonical : (IsCanonical read_atom → ⊥) → BeginsUncanonical (pieces (got.used ++ got.rest))
  uncanonical none = record {
    tree = w.tree;
    is = w.is;
    few = omega (
      arith,
      got.few,
      ap (λ (a : PlainKeyAtom). length a.form) same,
      length-map (items w.tree.side) shown_term,
    );
    after = pieces got.rest;
    written = written got.rest;
    none = λ a m. none (subst IsCanonical (sym (meant a m)) m.canonical);
  }

  -- it isn't canonical
  pub refuses_whole : (IsCanonical read_atom → ⊥) → HasAtomFault p bytes at kinds.Syntax (first_token p bytes at).from
  refuses_whole none =
      let t = token_of p bytes at (got.used ++ got.rest) got.are in
      subst (λ (u : PlainToken). HasAtomFault p bytes at kinds.Syntax u.from) t.is
      (first_of p bytes at (got.used ++ got.rest) [] t.more t.token kinds.Syntax got.are t.split
      (uncanonical_first t.token.piece (pieces t.more)
      (subst BeginsUncanonical (ap pieces t.split) (uncanonical none)))
      (λ front mid u e k h. not_nil front u mid (sym e)))

  -- it is canonical
  pub spells_to : IsCanonical read_atom → SpellsAtomTo p bytes at read_atom to
  spells_to canonical = record {
    front = got.used;
    rest = got.rest;
    are = got.are;
    there = got.there;
    ends = got.ends;
    writes = record {
      tree = w.tree;
      written = w.written ∙ sym (append-nil (atom_pieces w.tree));
      means = means canonical;
    };
  }
