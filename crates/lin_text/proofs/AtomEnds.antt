-- What the end of the line says of an atom that was read.
use Rattle.std.proofs.Common.{◌≡◌, ℕ, Bool, true, false, cond, List, [], ◌∷◌, ◌++◌, Some, refl, sym, ap}
use Rattle.std.proofs.Common.{subst, ◌∙◌, arith}
use Rattle.std.specs.Prelude.{Ok, Err}
use Rattle.std.proofs.lemmas.Bool.{false≢true}
use Rattle.std.proofs.lemmas.List.{append-nil, map-append}
use Rattle.lin_model.specs.KeyAtom.{PlainKeyAtom}
use Rattle.lin_text.specs.declared.atom_step.State.TheVariants as states
use Rattle.lin_text.specs.declared.class.Lexeme.{Lexeme}
use Rattle.lin_text.specs.declared.fault.TextKind.{TextKind}
use Rattle.lin_text.specs.declared.refusal.Fault.{Fault}
use Rattle.lin_text.specs.Pieces.{Piece, line_end, PlainToken, pieces, is_last}
use Rattle.lin_text.specs.Classes.{class_of, shown}
use Rattle.lin_text.specs.Reading.{Read, refusal, is_end_class, end_at}
use Rattle.lin_text.specs.KeyAtomTexts.{AtomTree, atom_pieces, IsAtomTree, BeginsUncanonical, SpellsAtom, SpellsAtomTo}
use Rattle.lin_text.specs.KeyAtomTexts.{HasAtomFault}
use Rattle.lin_text.specs.AtomSteps.{run}
use Rattle.lin_text.proofs.Outcomes.{Token, token_of}
use Rattle.lin_text.proofs.AtomRuns.{shown_terms, shown_constant}
use Rattle.lin_text.proofs.AtomMeanings.{tree-means, few-means}
use Rattle.lin_text.proofs.AtomRefused.{FirstStands, refused_behind, no_uncanonical, run-whole}
use Rattle.lin_text.proofs.AtomFirst.{first_behind}

-- the line ended
abbrev pub ended : Read (Unit {0})
ended = Ok tt

is_end : (q : Piece) → is_end_class (class_of q) ≡ true → q ≡ line_end
is_end line_end e = refl
is_end _ e = absurd (false≢true e)

module _ (p : Bool) (bytes : List ℕ) (at : ℕ) (a : PlainKeyAtom) (to : ℕ) (s : SpellsAtomTo p bytes at a to) where
  abbrev tree : AtomTree
  tree = s.writes.tree

  is : IsAtomTree tree
  is = tree-means tree a s.writes.means

  front : pieces s.front ≡ atom_pieces tree
  front = s.writes.written ∙ append-nil (atom_pieces tree)

  of_tree : run [] (states.Item false) (atom_pieces tree)
      ≡ Some (shown_terms tree.side, states.Over a.op (shown_constant tree.integer))
  of_tree = run-whole tree a.op is s.writes.means.op

  written : pieces (s.front ++ s.rest) ≡ atom_pieces tree ++ pieces s.rest
  written = map-append (λ (u : PlainToken). u.piece) s.front s.rest
      ∙ ap (λ (ps : List Piece). ps ++ pieces s.rest) front

  abbrev t : Token p bytes to s.rest
  t = token_of p bytes to s.rest s.there

  -- the line ends
  ends : t.token.piece ≡ line_end → SpellsAtom p bytes at a (line_end ∷ [])
  ends over = record {
    tokens = s.front ++ s.rest;
    are = s.are;
    writes = record {
      tree = tree;
      written = written
          ∙ ap (λ (us : List PlainToken). atom_pieces tree ++ pieces us) (t.split
          ∙ ap (λ (us : List PlainToken). t.token ∷ us) (t.over (ap is_last over)))
          ∙ ap (λ (q : Piece). atom_pieces tree ++ q ∷ []) over;
      means = s.writes.means;
    };
  }

  -- it goes on
  goes_on : (t.token.piece ≡ line_end → ⊥) → HasAtomFault p bytes at (refusal (shown t.token)).kind t.token.from
  goes_on other =
      let q = t.token.piece in
      let kind = (refusal (shown t.token)).kind in
      first_behind p bytes at (s.front ++ s.rest) s.front t.more t.token kind (shown_terms tree.side)
      (states.Over a.op (shown_constant tree.integer)) s.are
      (ap (λ (us : List PlainToken). s.front ++ us) t.split)
      (subst (λ (ps : List Piece). FirstStands ps q (pieces t.more) kind) (sym front)
      (refused_behind tree q (pieces t.more) (shown_terms tree.side) a.op (shown_constant tree.integer) of_tree other))
      (ap (run [] (states.Item false)) front ∙ of_tree)
      (omega (arith, few-means tree a s.writes.means))
      (λ u. no_uncanonical tree a (pieces s.rest) s.writes.means (subst BeginsUncanonical written u))

  seen : end_at p bytes to ≡ cond (is_end_class (class_of t.token.piece)) ended (Err (refusal (shown t.token)))
  unfolding end_at
  seen = ap (λ (l : Lexeme). cond (is_end_class l.class) ended (Err (refusal l))) t.shows

  pub at_end : end_at p bytes to ≡ ended → SpellsAtom p bytes at a (line_end ∷ [])
  at_end e = by_class (is_end_class (class_of t.token.piece)) refl (sym seen ∙ e)
    where
      by_class : (b : Bool) → is_end_class (class_of t.token.piece) ≡ b
          → cond b ended (Err (refusal (shown t.token))) ≡ ended → SpellsAtom p bytes at a (line_end ∷ [])
      by_class true b h = ends (is_end t.token.piece b)
      by_class false b h = absurd (cc)

  pub behind_end : (f : Fault TextKind) → end_at p bytes to ≡ Err f → HasAtomFault p bytes at f.kind f.at
  behind_end f e = by_class (is_end_class (class_of t.token.piece)) refl (sym seen ∙ e)
    where
      by_class : (b : Bool) → is_end_class (class_of t.token.piece) ≡ b
          → cond b ended (Err (refusal (shown t.token))) ≡ Err f → HasAtomFault p bytes at f.kind f.at
      by_class true b h = absurd (cc)
      by_class false b h =
          let same : refusal (shown t.token) ≡ f = cc in
          subst (λ (g : Fault TextKind). HasAtomFault p bytes at g.kind g.at) same
          (goes_on (λ over. false≢true (sym b ∙ ap (λ (r : Piece). is_end_class (class_of r)) over)))
