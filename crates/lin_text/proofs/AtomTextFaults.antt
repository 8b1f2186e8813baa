-- The first fault of a text of one atom.
use Rattle.std.proofs.Common.{◌≡◌, ℕ, ◌<◌, ◌≤◌, suc, true, false, List, [], ◌∷◌, ◌++◌, length, drop, refl, sym, ap}
use Rattle.std.proofs.Common.{subst, ◌∙◌, arith, inl, inr, ◌⊎◌, lit≤}
use Rattle.lin_model.specs.KeyAtom.{PlainKeyAtom}
use Rattle.lin_text.specs.declared.class.Lexeme.{Lexeme}
use Rattle.lin_text.specs.declared.fault.TextKind.{TextKind}
use Rattle.lin_text.specs.declared.fault.TextKind.TheVariants as kinds
use Rattle.lin_text.specs.Lines.{line_from, line_below, line_end}
use Rattle.lin_text.specs.Pieces.{Piece, var, word, name, number, plus, minus, times, compare, bad, PlainToken, PlainLine}
use Rattle.lin_text.specs.Pieces.{line_end as end_piece, pieces, AreTokens, AreLines}
use Rattle.lin_text.specs.Classes.{class_of}
use Rattle.lin_text.specs.Kinds.{rank}
use Rattle.lin_text.specs.Reading.{lexeme_at, refusal, refusal_kind}
use Rattle.lin_text.specs.FirstFaults.{StandsInLine, StandsIn, HasFaultFrom}
use Rattle.lin_text.specs.KeyAtomTexts.{SpellsAtom, StandsAmong, HasAtomFault, atom_stands, atom_rules}
use Rattle.lin_text.specs.KeyAtomTexts.{IsAtomText}
use Rattle.lin_text.specs.KeyAtomLaws.{AtomTextHasNoFault}
use Rattle.lin_text.specs.Facts.{first_line-bounds}
use Rattle.lin_text.proofs.UniqueTokens.{AreLines-once}
use Rattle.lin_text.proofs.Positions.{tokens_total, lines_total, tokens-within, tokens-later}
use Rattle.lin_text.proofs.Outcomes.{Token, token_of}
use Rattle.lin_text.proofs.AtomNoFault.{no_fault_among}

abbrev Has : List ℕ → TextKind → ℕ → Type 0
Has bytes = HasFaultFrom atom_rules false bytes false 0

-- a fault of the atom's line is one among its tokens
among : (line : PlainLine) (k : TextKind) (place : ℕ) → StandsInLine atom_rules false line k place
    → StandsAmong line.tokens k place
among line k place s = record {
  front = s.front;
  token = s.token;
  after = s.after;
  in_line = s.in_line;
  place = s.place;
  stands = s.stands;
}

pub text_no_fault : AtomTextHasNoFault
text_no_fault bytes a kind place t h = by_place stands
  where
    stands : StandsIn atom_rules bytes false (t.line ∷ []) kind place
    stands = subst (λ (ls : List PlainLine). StandsIn atom_rules bytes false ls kind place)
        (AreLines-once false bytes 0 h.lines (t.line ∷ []) h.are t.alone) h.first.stands

    by_place : StandsIn atom_rules bytes false (t.line ∷ []) kind place → ⊥
    by_place (inl s) = no_fault_among t.line.tokens a t.writes kind place (among t.line kind place s)
    by_place (inr s) = s.0

-- a text without a line
pub no_line : (bytes : List ℕ) (at : ℕ) → at ≡ line_from bytes 0 → at ≡ length bytes → Has bytes kinds.Syntax at
no_line bytes at start e = record {
  lines = [];
  are = sym start ∙ e;
  first = record { stands = (refl, e); least = least };
} where
  least : (k : TextKind) (p : ℕ) → StandsIn atom_rules bytes false [] k p
      → (at < p) ⊎ ((at ≡ p) × (rank kinds.Syntax ≤ rank k))
  least k p s = inr (
    e ∙ sym s.1,
    subst (λ (j : TextKind). rank kinds.Syntax ≤ rank j) (sym s.0) (lit≤ tt),
  )

-- a fault below the atom's line lies below it
behind : (bytes : List ℕ) (at : ℕ) (lines : List PlainLine) (k : TextKind) (p : ℕ) → at ≤ length bytes
    → AreLines false bytes at lines → StandsIn atom_rules bytes true lines k p → (at ≤ p) × (at < length bytes)
behind bytes at [] k p le are s = absurd s.0
behind bytes at (line ∷ lines) k p le are (inl s) =
    let b = first_line-bounds true at (drop at bytes) in
    let w = tokens-within false bytes line.start line.tokens s.front s.after s.token are.2 s.in_line in
    (omega (arith, s.place, w.0, are.0, b.0), omega (arith, are.0, are.1, b.0))
behind bytes at (line ∷ lines) k p le are (inr s) =
    let b = first_line-bounds true at (drop at bytes) in
    let more = behind bytes (line_below bytes line.start) lines k p (omega arith) are.3 s in
    (omega (arith, more.0, more.1, are.0, are.1, b.0), omega (arith, are.0, are.1, b.0))

-- a fault of a line goes before those below it
above : (bytes : List ℕ) (at : ℕ) (lines : List PlainLine) (k : TextKind) (place p : ℕ)
    → AreLines false bytes (line_below bytes at) lines → place ≤ line_end bytes at
    → StandsIn atom_rules bytes true lines k p → place < p
above bytes at lines k place p are within s =
    let b = behind bytes (line_below bytes at) lines k p (omega arith) are s in
    omega (arith, b.0, b.1, within)

-- a fault of the atom's line
module _ (bytes : List ℕ) (at : ℕ) (kind : TextKind) (place : ℕ) (start : at ≡ line_from bytes 0) (lt : at < length bytes)
    (h : HasAtomFault false bytes at kind place) where
  abbrev line : PlainLine
  line = record { start = at; tokens = h.tokens }

  abbrev s : StandsAmong h.tokens kind place
  s = h.first.stands

  more : (lines : List PlainLine) × AreLines false bytes (line_below bytes at) lines
  more = lines_total (suc (length bytes)) false bytes (line_below bytes at) (omega arith) (omega arith)

  least : (k : TextKind) (p : ℕ) → StandsIn atom_rules bytes false (line ∷ more.0) k p
      → (place < p) ⊎ ((place ≡ p) × (rank kind ≤ rank k))
  least k p (inl f) = h.first.least k p (among line k p f)
  least k p (inr f) =
      let w = tokens-within false bytes at h.tokens s.front s.after s.token h.are s.in_line in
      inl (above bytes at more.0 k place p more.1 (omega (arith, w.1, s.place)) f)

  pub in_line : Has bytes kind place
  in_line = record {
    lines = line ∷ more.0;
    are = (start, lt, h.are, more.1);
    first = record {
      stands = inl (record {
        front = s.front;
        token = s.token;
        after = s.after;
        in_line = s.in_line;
        place = s.place;
        stands = s.stands;
      });
      least = least;
    };
  }

-- the atom's line alone
pub alone : (bytes : List ℕ) (at below : ℕ) (a : PlainKeyAtom) → at ≡ line_from bytes 0 → at < length bytes
    → SpellsAtom false bytes at a (end_piece ∷ []) → below ≡ line_from bytes (line_below bytes at)
    → below ≡ length bytes → IsAtomText bytes a
alone bytes at below a start lt s next none = record {
  line = record { start = at; tokens = s.tokens };
  alone = (start, lt, s.are, sym next ∙ none);
  writes = s.writes;
}

-- the first token of a line behind the atom's
first_kind : (q : Piece) (after : List Piece) → atom_stands true [] q after (refusal_kind (class_of q))
first_kind bad after = refl
first_kind var after = refl
first_kind (word w) after = refl
first_kind (name x) after = refl
first_kind (number n) after = refl
first_kind plus after = refl
first_kind minus after = refl
first_kind times after = refl
first_kind (compare c) after = refl
first_kind end_piece after = refl

first_rank : (q : Piece) (after : List Piece) (k : TextKind) → atom_stands true [] q after k
    → rank (refusal_kind (class_of q)) ≤ rank k
first_rank q after kinds.Syntax h = most q
  where
    most : (r : Piece) → rank (refusal_kind (class_of r)) ≤ 4
    most bad = lit≤ tt
    most _ = lit≤ tt
first_rank q after kinds.Token h =
    subst (λ (r : Piece). rank (refusal_kind (class_of r)) ≤ 3) (sym h) (lit≤ tt)
first_rank q after _ h = absurd h

-- a line stands behind the atom's
module _ (bytes : List ℕ) (at below : ℕ) (a : PlainKeyAtom) (start : at ≡ line_from bytes 0) (lt : at < length bytes)
    (spells : SpellsAtom false bytes at a (end_piece ∷ [])) (next : below ≡ line_from bytes (line_below bytes at))
    (lt_below : below < length bytes) where
  ts : (tokens : List PlainToken) × AreTokens false bytes below tokens
  ts = tokens_total (suc (length bytes)) false bytes below (omega arith) (omega arith)

  abbrev t : Token false bytes below ts.0
  t = token_of false bytes below ts.0 ts.1

  below_other : (lines : List PlainLine) × AreLines false bytes (line_below bytes below) lines
  below_other = lines_total (suc (length bytes)) false bytes (line_below bytes below) (omega arith) (omega arith)

  abbrev atom_line : PlainLine
  atom_line = record { start = at; tokens = spells.tokens }

  abbrev other : PlainLine
  other = record { start = below; tokens = ts.0 }

  abbrev kind : TextKind
  kind = refusal_kind (class_of t.token.piece)

  stands : StandsInLine atom_rules true other kind t.token.from
  stands = record {
    front = [];
    token = t.token;
    after = t.more;
    in_line = t.split;
    place = refl;
    stands = first_kind t.token.piece (pieces t.more);
  }

  abbrev Goal : TextKind → ℕ → Type 0
  Goal k p = (t.token.from < p) ⊎ ((t.token.from ≡ p) × (rank kind ≤ rank k))

  within : t.token.from ≤ line_end bytes below
  within = (tokens-within false bytes below ts.0 [] t.more t.token ts.1 t.split).1

  -- a fault of that line is at its first token or behind it
  at_token : (k : TextKind) (front after : List PlainToken) (u : PlainToken) → ts.0 ≡ front ++ u ∷ after
      → atom_stands true (pieces front) u.piece (pieces after) k → Goal k u.from
  at_token k [] after u e h =
      let there : t.token ∷ t.more ≡ u ∷ after = sym t.split ∙ e in
      let same : t.token ≡ u = cc in
      inr (
        ap (λ (v : PlainToken). v.from) same,
        first_rank t.token.piece (pieces after) k
            (subst (λ (v : PlainToken). atom_stands true [] v.piece (pieces after) k) (sym same) h),
      )
  at_token k (f ∷ front) after u e h =
      let there : t.token ∷ t.more ≡ (f ∷ front) ++ u ∷ after = sym t.split ∙ e in
      let rest : t.more ≡ front ++ u ∷ after = cc in
      inl (tokens-later false bytes below ts.0 [] front after t.token u ts.1
      (t.split ∙ ap (λ (us : List PlainToken). t.token ∷ us) rest))

  least_behind : (k : TextKind) (p : ℕ) → StandsIn atom_rules bytes false (atom_line ∷ other ∷ below_other.0) k p → Goal k p
  least_behind k p (inl f) = absurd (no_fault_among spells.tokens a spells.writes k p (among atom_line k p f))
  least_behind k p (inr (inl f)) =
      subst (λ (n : ℕ). Goal k n) (sym f.place) (at_token k f.front f.after f.token f.in_line f.stands)
  least_behind k p (inr (inr f)) = inl (above bytes below below_other.0 k t.token.from p below_other.1 within f)

  pub line_behind : (l : Lexeme) → l ≡ lexeme_at false bytes below → Has bytes (refusal l).kind (refusal l).at
  line_behind l is =
      subst (λ (m : Lexeme). Has bytes (refusal m).kind (refusal m).at) (sym (is ∙ t.shows)) (record {
        lines = atom_line ∷ other ∷ below_other.0;
        are = (start, lt, spells.are, (next, lt_below, ts.1, below_other.1));
        first = record { stands = inr (inl stands); least = least_behind };
      })
