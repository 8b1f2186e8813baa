-- What is written for a canonical atom spells it, and is a text of it.
use Rattle.std.proofs.Common.{◌≡◌, ℕ, ◌+◌, ◌<◌, ◌≤◌, Bool, false, List, [], ◌∷◌, ◌++◌, length, drop, refl}
use Rattle.std.proofs.Common.{sym, ap, subst, ◌∙◌, arith, append_assoc, inl, inr, length-append, length-drop}
use Rattle.std.specs.List.{prefix_len}
use Rattle.std.proofs.Math.Seq.{drop-append_seam}
use Rattle.std.proofs.lemmas.List.{append-nil}
use Rattle.std.proofs.lemmas.Bool.{false≢true}
use Rattle.lin_model.specs.KeyAtom.{PlainKeyAtom, IsCanonical}
use Rattle.lin_text.specs.Lines.{is_in_line, is_skipped, line_below, line_from}
use Rattle.lin_text.specs.Pieces.{line_end, pieces, AreTokens}
use Rattle.lin_text.specs.Facts.{line_from-here, line_from-end}
use Rattle.lin_text.specs.KeyAtoms.{key_atom_text}
use Rattle.lin_text.specs.KeyAtomTexts.{SpellsAtom}
use Rattle.lin_text.specs.KeyAtomLaws.{WrittenAtomIsSpelled, WrittenAtomIsText}
use Rattle.lin_text.proofs.KeyAtomSpelled.{atom_starts}
use Rattle.lin_text.proofs.FeedBehind.{prefix_len-feed, AreTokens-feed, is_skipped-feed}

-- before a line feed
before_feed : (p : Bool) (front left : List ℕ) (a : PlainKeyAtom) → IsCanonical a
    → SpellsAtom p (front ++ (key_atom_text a ++ 10 ∷ left)) (length front) a (line_end ∷ [])
before_feed p front left a canonical =
    let w = atom_starts p a left canonical in
    let has = w.starts.reads.read (front ++ (key_atom_text a ++ 10 ∷ left)) (length front)
    (drop-append_seam front (key_atom_text a ++ 10 ∷ left)) in
    record { tokens = has.tokens; are = has.are; writes = w.writes (pieces has.tokens) has.shown }

-- at the end of the text
at_end : (p : Bool) (front : List ℕ) (a : PlainKeyAtom) → IsCanonical a
    → SpellsAtom p (front ++ key_atom_text a) (length front) a (line_end ∷ [])
at_end p front a canonical =
    let s = before_feed p front [] a canonical in
    let are = subst (λ (bytes : List ℕ). AreTokens p bytes (length front) s.tokens)
    (sym (append_assoc front (key_atom_text a) (10 ∷ []))) s.are in
    record {
      tokens = s.tokens;
      are = AreTokens-feed p (front ++ key_atom_text a) (length front) s.tokens
          (omega (arith, length-append front (key_atom_text a))) are;
      writes = s.writes;
    }

pub written_atom : WrittenAtomIsSpelled
written_atom p front rest a canonical (inl none) =
    subst (λ (text : List ℕ). SpellsAtom p (front ++ text) (length front) a (line_end ∷ []))
    (sym (ap (λ (ys : List ℕ). key_atom_text a ++ ys) none ∙ append-nil (key_atom_text a)))
    (at_end p front a canonical)
written_atom p front rest a canonical (inr feed) =
    subst (λ (ys : List ℕ). SpellsAtom p (front ++ (key_atom_text a ++ ys)) (length front) a (line_end ∷ []))
    (sym feed.1) (before_feed p front feed.0 a canonical)

some_byte : (xs : List ℕ) → is_skipped xs ≡ false → 0 < length xs
unfolding is_skipped
some_byte [] e = absurd (false≢true (sym e))
some_byte (x ∷ xs) e = omega arith

-- no line is behind a text whose last line a line feed would end
none_below : (xs : List ℕ) → drop (prefix_len is_in_line (xs ++ 10 ∷ []) + 1) (xs ++ 10 ∷ []) ≡ []
    → line_from xs (line_below xs 0) ≡ length xs
none_below xs e =
    let all : length xs ≤ prefix_len is_in_line xs = omega (
      arith,
      length-drop (prefix_len is_in_line (xs ++ 10 ∷ []) + 1) (xs ++ 10 ∷ []),
      ap length e,
      length-append xs (10 ∷ []),
      prefix_len-feed is_in_line refl xs,
    ) in
    let below : line_below xs 0 ≡ length xs = omega (arith, all) in
    line_from-end xs (line_below xs 0) (omega (arith, below)) ∙ below

pub written_text : WrittenAtomIsText
written_text a canonical =
    let text = key_atom_text a in
    let s = at_end false [] a canonical in
    let w = atom_starts false a [] canonical in
    let counts : is_skipped text ≡ false = sym (is_skipped-feed text) ∙ w.starts.counts in
    record {
      line = record { start = 0; tokens = s.tokens };
      alone = (
        sym (line_from-here text text 0 refl counts),
        some_byte text counts,
        s.are,
        none_below text w.starts.reads.below,
      );
      writes = s.writes;
    }
