-- A line that spells a canonical atom has no fault.
use Rattle.std.proofs.Common.{◌≡◌, ℕ, ◌+◌, ◌≤◌, false, List, [], ◌∷◌, ◌++◌, length, refl, sym, ap, subst, ◌∙◌}
use Rattle.std.proofs.Common.{append_assoc, arith, inl, inr}
use Rattle.std.proofs.lemmas.Bool.{false≢true}
use Rattle.std.proofs.lemmas.List.{append-nil, append_cancel_left}
use Rattle.lin_model.specs.Lists.{not_nil}
use Rattle.lin_model.specs.KeyAtom.{PlainKeyAtom}
use Rattle.lin_model.specs.declared.op.Op.{Op}
use Rattle.lin_text.specs.declared.atom_step.State.TheVariants as states
use Rattle.lin_text.specs.declared.fault.TextKind.{TextKind}
use Rattle.lin_text.specs.declared.fault.TextKind.TheVariants as kinds
use Rattle.lin_text.specs.Pieces.{Piece, bad, line_end, PlainToken, pieces}
use Rattle.lin_text.specs.Faults.{begins_item}
use Rattle.lin_text.specs.KeyAtomTexts.{AtomTree, atom_pieces, IsAtomTree, WritesAtom, BeginsAtom}
use Rattle.lin_text.specs.KeyAtomTexts.{BeginsUncanonical, StandsInAtom, StandsAmong}
use Rattle.lin_text.specs.KeyAtomLaws.{SpelledAtomHasNoFault}
use Rattle.lin_text.specs.AtomSteps.{run}
use Rattle.lin_text.proofs.UniqueTokens.{AreTokens-once}
use Rattle.lin_text.proofs.AtomRuns.{shown_terms, shown_constant}
use Rattle.lin_text.proofs.AtomMeanings.{few-means, tree-means}
use Rattle.lin_text.proofs.AtomClean.{no_stand}
use Rattle.lin_text.proofs.AtomRefused.{fronts, run-whole, no_uncanonical}
use Rattle.lin_text.proofs.AtomFirst.{pieces-split}

-- the end of the line, and nothing behind it
last_one : (mid after : List Piece) (q : Piece) → line_end ∷ [] ≡ mid ++ q ∷ after → (mid ≡ []) × (q ≡ line_end)
last_one [] after q e = let same : line_end ≡ q = cc in (refl, sym same)
last_one (m ∷ mid) after q e =
    let none : [] ≡ mid ++ q ∷ after = cc in absurd (not_nil mid q after (sym none))

module _ (ps : List Piece) (a : PlainKeyAtom) (spells : WritesAtom ps a (line_end ∷ [])) (front : List Piece)
    (q : Piece) (after : List Piece) (there : ps ≡ front ++ q ∷ after) where
  abbrev tree : AtomTree
  tree = spells.tree

  is : IsAtomTree tree
  is = tree-means tree a spells.means

  whole : atom_pieces tree ++ line_end ∷ [] ≡ front ++ q ∷ after
  whole = sym spells.written ∙ there

  canonical : front ≡ [] → BeginsUncanonical (q ∷ after) → ⊥
  canonical none u =
      no_uncanonical tree a (line_end ∷ []) spells.means
      (subst BeginsUncanonical (sym (whole ∙ ap (λ (f : List Piece). f ++ q ∷ after) none)) u)

  few : length (shown_terms tree.side) + 0 ≤ 64
  few = omega (arith, few-means tree a spells.means)

  at_end : (mid : List Piece) → front ≡ atom_pieces tree ++ mid → (k : TextKind) → StandsInAtom front q after k → ⊥
  at_end mid f = by_kind
    where
      last : (mid ≡ []) × (q ≡ line_end)
      last = last_one mid after q (append_cancel_left (atom_pieces tree) (line_end ∷ []) (mid ++ q ∷ after)
          (whole ∙ ap (λ (g : List Piece). g ++ q ∷ after) f ∙ append_assoc (atom_pieces tree) mid (q ∷ after)))

      begins : BeginsAtom (front ++ q ∷ [])
      begins = record {
        tree = tree;
        is = is;
        more = [];
        written = ap (λ (r : Piece). atom_pieces tree ++ r ∷ []) (sym last.1)
            ∙ ap (λ (g : List Piece). g ++ q ∷ []) (sym (f ∙ ap (λ (m : List Piece). atom_pieces tree ++ m) last.0
            ∙ append-nil (atom_pieces tree)))
            ∙ sym (append-nil (front ++ q ∷ []));
      }

      by_kind : (k : TextKind) → StandsInAtom front q after k → ⊥
      by_kind kinds.TooManyTerms h = false≢true (sym (ap begins_item last.1) ∙ h.1)
      by_kind kinds.Token h = let clash : bad ≡ line_end = sym h ∙ last.1 in cc
      by_kind kinds.Syntax (inl h) = h begins
      by_kind kinds.Syntax (inr h) = canonical h.0 h.1
      by_kind kinds.TooManyVars h = h
      by_kind kinds.TooManyAtoms h = h
      by_kind kinds.NumberTooLarge h = h
      by_kind kinds.UnknownName h = h
      by_kind kinds.NameTwice h = h
      by_kind kinds.EmptyRange h = h
      by_kind kinds.NoMemory h = h

  pub no_fault_at : (k : TextKind) → StandsInAtom front q after k → ⊥
  no_fault_at k h =
      let op : Op = a.op in
      elim (fronts (atom_pieces tree) (line_end ∷ []) front after q whole) [
        | inl g ↦
            no_stand front q g.0 after (shown_terms tree.side) (states.Over op (shown_constant tree.integer))
            (ap (run [] (states.Item false)) (sym g.1) ∙ run-whole tree op is spells.means.op) few canonical k h
        | inr g ↦ at_end g.0 g.1 k h
      ]

-- no fault stands among the tokens of a line that spells an atom
pub no_fault_among : (tokens : List PlainToken) (a : PlainKeyAtom) → WritesAtom (pieces tokens) a (line_end ∷ [])
    → (k : TextKind) (place : ℕ) → StandsAmong tokens k place → ⊥
no_fault_among tokens a spells k place s =
    no_fault_at (pieces tokens) a spells (pieces s.front) s.token.piece (pieces s.after)
    (ap pieces s.in_line ∙ pieces-split s.front s.after s.token) k s.stands

pub spelled_no_fault : SpelledAtomHasNoFault
spelled_no_fault p bytes at a kind place s h =
    let same : s.tokens ≡ h.tokens = AreTokens-once p bytes at s.tokens h.tokens s.are h.are in
    no_fault_among h.tokens a
    (subst (λ (ts : List PlainToken). WritesAtom (pieces ts) a (line_end ∷ [])) same s.writes) kind place
    h.first.stands
