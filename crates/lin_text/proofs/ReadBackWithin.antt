-- The plain spelling of a condition within a text.
use Rattle.std.proofs.Common.{◌≡◌, ℕ, ◌+◌, ◌<◌, suc, Bool, true, false, cond, not, List, [], ◌∷◌, ◌++◌, length, drop}
use Rattle.std.proofs.Common.{refl, sym, ap, subst, ◌∙◌, arith, inl, inr, length-drop, length-append}
use Rattle.std.specs.List.{prefix_len}
use Rattle.std.proofs.Math.Seq.{drop-append_seam}
use Rattle.std.proofs.lemmas.List.Sums.{take_while-cons}
use Rattle.lin_model.specs.Terms.{PlainVar}
use Rattle.lin_text.specs.Spelling.{condition_text}
use Rattle.lin_text.specs.Lines.{is_skipped, line_from, line_below}
use Rattle.lin_text.specs.Pieces.{Piece, word, PlainToken, PlainLine, first_token, pieces, AreTokens, AreLines}
use Rattle.lin_text.specs.Queries.{begins_word, is_of_query, query_lines, start_of, query_end, AreDeclaredAndCompared}
use Rattle.lin_text.specs.Laws.{EndsQuery, WrittenIsSpelledWithin}
use Rattle.lin_text.specs.Facts.{line_from-here}
use Rattle.lin_text.proofs.Positions.{tokens_total, lines_total}
use Rattle.lin_text.proofs.ReadBackFront.{front_piece, first_token-front, counts-word}
use Rattle.lin_text.proofs.ReadBack.{Walks, GoesOn, walk_condition, at_end, FreeNames-of}

-- the first token of a line, among all of its tokens
begins_with : (p : Bool) (bytes : List ℕ) (at : ℕ) (w : List ℕ) (ts : List PlainToken) → AreTokens p bytes at ts
    → (first_token p bytes at).piece ≡ word w → begins_word (pieces ts) ≡ true
begins_with p bytes at w [] are is = absurd are
begins_with p bytes at w (t ∷ ts) are is =
    ap (λ (p : Piece). begins_word (p ∷ pieces ts)) (ap (λ (u : PlainToken). u.piece) are.0 ∙ is)

-- no line of the query comes behind it
no_more : (bytes : List ℕ) (vars : List PlainVar) (line : PlainLine) (lines : List PlainLine)
    → begins_word (pieces line.tokens) ≡ true → AreDeclaredAndCompared vars (query_lines (line ∷ lines)) [] []
no_more bytes vars line lines is =
    subst (λ (ls : List PlainLine). AreDeclaredAndCompared vars ls [] [])
    (sym (take_while-cons is_of_query line lines
    ∙ ap (λ (b : Bool). cond (not b) (line ∷ query_lines lines) []) is)) (refl, refl)

ends_here : (bytes : List ℕ) (line : PlainLine) (lines : List PlainLine) → begins_word (pieces line.tokens) ≡ true
    → query_end bytes (line ∷ lines) ≡ line.start
ends_here bytes line lines is =
    ap (λ (b : Bool). start_of bytes (drop (cond (not b) (1 + prefix_len is_of_query lines) 0) (line ∷ lines))) is

some_bytes : (rest : List ℕ) → is_skipped rest ≡ false → 0 < length rest
unfolding is_skipped
some_bytes [] counts = absurd (cc)
some_bytes (b ∷ bs) counts = omega arith

walk_word : (p : Bool) (bytes : List ℕ) (at : ℕ) (w : List ℕ) (vars : List PlainVar) (end : ℕ) (ts : List PlainToken)
    (lines : List PlainLine) → line_from bytes at ≡ at → at < length bytes → AreTokens p bytes at ts
    → AreLines p bytes (line_below bytes at) lines → (first_token p bytes at).piece ≡ word w → end ≡ at
    → Walks p bytes at vars [] [] end
walk_word p bytes at w vars end ts lines here room are more begins same =
    let line : PlainLine = record { start = at; tokens = ts } in
    let word_first : begins_word (pieces ts) ≡ true = begins_with p bytes at w ts are begins in
    record {
      lines = line ∷ lines;
      are = (sym here, room, are, more);
      meant = no_more bytes vars line lines word_first;
      ends = same ∙ sym (ends_here bytes line lines word_first);
    }

-- a line that begins with a word ends the query
at_word : (p : Bool) (bytes rest w : List ℕ) (vars : List PlainVar) (end : ℕ) → front_piece p rest ≡ word w
    → end + length rest ≡ length bytes → GoesOn p bytes rest vars [] [] end
at_word p bytes rest w vars end is place =
    λ at within e.
    let same : end ≡ at = omega (arith, ap length e, length-drop at bytes) in
    let counts : is_skipped rest ≡ false = counts-word p rest w is in
    let room : at < length bytes = omega (arith, some_bytes rest counts) in
    let begins : (first_token p bytes at).piece
    ≡ word w = ap (λ (t : PlainToken). t.piece) (first_token-front p bytes at)
    ∙ (ap (front_piece p) e ∙ is) in
    let ts = tokens_total (suc (length bytes)) p bytes at within (omega arith) in
    let lines = lines_total (suc (length bytes)) p bytes (line_below bytes at) (omega arith) (omega arith) in
    walk_word p bytes at w vars end ts.0 lines.0
    (line_from-here bytes rest at (sym e) counts) room ts.1 lines.1 begins same

goes_on_behind : (p : Bool) (bytes rest : List ℕ) (vars : List PlainVar) (end : ℕ) → EndsQuery p rest
    → end + length rest ≡ length bytes → GoesOn p bytes rest vars [] [] end
goes_on_behind p bytes rest vars end (inl none) place =
    let all : end ≡ length bytes = omega (arith, ap length none) in
    subst (λ (n : ℕ). GoesOn p bytes rest vars [] [] n) (sym all)
    (subst (λ (xs : List ℕ). GoesOn p bytes xs vars [] [] (length bytes)) (sym none) (at_end p bytes vars))
goes_on_behind p bytes rest vars end (inr begins) place =
    at_word p bytes rest begins.0 vars end (sym (ap (λ (t : PlainToken). t.piece) (first_token-front p rest 0))
    ∙ begins.1) place

pub Spells-within : WrittenIsSpelledWithin
Spells-within p front rest q is free ends =
    let bytes : List ℕ = front ++ (condition_text q ++ rest) in
    let end : ℕ = length front + length (condition_text q) in
    let long : length bytes ≡ length front + (length (condition_text q) + length rest) = omega (
      arith,
      length-append front (condition_text q ++ rest),
      length-append (condition_text q) rest,
    ) in
    let w = walk_condition p bytes rest q end is (FreeNames-of p q.vars free)
    (goes_on_behind p bytes rest q.vars end ends (omega (arith, long)))
    (length front) (omega (arith, long)) (drop-append_seam front (condition_text q ++ rest)) in
    record { lines = w.lines; are = w.are; spelled = record { meaning = w.meant; fits = is.fits }; ends = w.ends }
