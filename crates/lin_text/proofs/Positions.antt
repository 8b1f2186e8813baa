-- Where the tokens and lines of a text lie, one behind the other, and that none is missing.
use Rattle.std.proofs.Common.{◌≡◌, ℕ, ◌-◌, ◌<◌, ◌≤◌, zero, suc, Bool, true, false, nat_lt, List}
use Rattle.std.proofs.Common.{[], ◌∷◌, ◌++◌, length, drop, refl, sym, subst, ◌∙◌, arith, length-drop}
use Rattle.std.specs.Prelude.{MatchBool}
use borrow.Author.Tests.{ltb-true, ltb-false}
use Rattle.lin_model.specs.Lists.{not_nil}
use Rattle.lin_text.specs.Lines.{line_end, line_below, line_from}
use Rattle.lin_text.specs.Pieces.{PlainToken, PlainLine, first_token, is_last, AreTokens, AreLines}
use Rattle.lin_text.specs.LineLaws.{IsAhead, LinesAreInOrder}
use Rattle.lin_text.specs.Facts.{first_line-bounds}
use Rattle.lin_text.proofs.UniqueTokens.{AreLines-once}
use Rattle.lin_text.proofs.TokenPlaces.{first_token-ahead, line_end-within}

-- every place has tokens
pub tokens_total : (n : ℕ) (p : Bool) (bytes : List ℕ) (at : ℕ) → at ≤ length bytes → length bytes - at < n
    → (ts : List PlainToken) × AreTokens p bytes at ts
tokens_total zero p bytes at le few = absurd (omega arith)
tokens_total (suc n) p bytes at le few =
    let t = first_token p bytes at in
    let ahead = first_token-ahead p bytes at in
    elim (is_last t.piece) as (λ b. is_last t.piece ≡ b → (ts : List PlainToken) × AreTokens p bytes at ts) [
      | true ↦ λ e. (
        t ∷ [],
        (
          refl,
          subst (λ (b : Bool).
              MatchBool b (◌≡◌ {A = List PlainToken} [] []) (AreTokens p bytes t.to [])) (sym e) refl,
        ),
      )
      | false ↦ λ e.
          let further : t.from < t.to = ahead.some e in
          let rest = tokens_total n p bytes t.to (omega (arith, ahead.within, line_end-within bytes at le))
          (omega (arith, ahead.ahead, further, ahead.within, line_end-within bytes at le)) in (
            t ∷ rest.0,
            (
              refl,
              subst (λ (b : Bool). MatchBool b (rest.0 ≡ []) (AreTokens p bytes t.to rest.0))
                  (sym e) rest.1,
            ),
          )
    ] refl

-- every place has lines
pub lines_total : (n : ℕ) (p : Bool) (bytes : List ℕ) (at : ℕ) → at ≤ length bytes → length bytes - at < n
    → (lines : List PlainLine) × AreLines p bytes at lines
lines_total zero p bytes at le few = absurd (omega arith)
lines_total (suc n) p bytes at le few =
    let s = line_from bytes at in
    let bounds = first_line-bounds true at (drop at bytes) in
    let within : s ≤ length bytes = omega (arith, bounds.1, length-drop at bytes) in
    elim (nat_lt s (length bytes)) as (λ b. nat_lt s (length bytes) ≡ b
    → (lines : List PlainLine) × AreLines p bytes at lines) [
      | true ↦ λ e.
          let lt : s < length bytes = ltb-true s (length bytes) e in
          let ts = tokens_total (suc (length bytes)) p bytes s within (omega arith) in
          let rest = lines_total n p bytes (line_below bytes s) (omega arith) (omega (arith, bounds.0)) in
          (record { start = s; tokens = ts.0 } ∷ rest.0, (refl, lt, ts.1, rest.1))
      | false ↦ λ e. ([], (let ge : length bytes ≤ s = ltb-false s (length bytes) e in omega arith))
    ] refl

-- a token of a line lies behind the place, and within the line
pub tokens-within : (p : Bool) (bytes : List ℕ) (at : ℕ) (ts front after : List PlainToken) (u : PlainToken)
    → AreTokens p bytes at ts → ts ≡ front ++ u ∷ after → (at ≤ u.from) × (u.from ≤ line_end bytes at)
tokens-within p bytes at [] front after u are e = absurd are
tokens-within p bytes at (t ∷ ts) [] after u are e =
    let same : u ≡ first_token p bytes at = (let eq : t ≡ u = cc in sym eq ∙ are.0) in
    let ahead = first_token-ahead p bytes at in
    subst (λ (w : PlainToken). (at ≤ w.from) × (w.from ≤ line_end bytes at)) (sym same) (
      ahead.ahead,
      omega (arith, ahead.order, ahead.within),
    )
tokens-within p bytes at (t ∷ ts) (f ∷ front) after u are e =
    let ahead = subst (λ (w : PlainToken). IsAhead bytes at w) (sym are.0) (first_token-ahead p bytes at) in
    let rest : ts ≡ front ++ u ∷ after = cc in
    elim (is_last t.piece) as (λ b. MatchBool b (ts ≡ []) (AreTokens p bytes t.to ts)
    → (at ≤ u.from) × (u.from ≤ line_end bytes at)) [
      | true ↦ λ h. absurd (not_nil front u after (sym rest ∙ h))
      | false ↦ λ h.
          let more = tokens-within p bytes t.to ts front after u h rest in
          (omega (arith, ahead.ahead, ahead.order, more.0), omega (arith, more.1, ahead.line))
    ] are.1

-- of two tokens of a line the later one lies behind
pub tokens-later : (p : Bool) (bytes : List ℕ) (at : ℕ) (ts front mid after : List PlainToken) (t u : PlainToken)
    → AreTokens p bytes at ts → ts ≡ front ++ t ∷ (mid ++ u ∷ after) → t.from < u.from
tokens-later p bytes at [] front mid after t u are e = absurd are
tokens-later p bytes at (w ∷ ts) [] mid after t u are e =
    let same : w ≡ t = cc in
    let rest : ts ≡ mid ++ u ∷ after = cc in
    let ahead = subst (λ (v : PlainToken). IsAhead bytes at v) (sym are.0) (first_token-ahead p bytes at) in
    elim (is_last w.piece) as (λ b. is_last w.piece ≡ b → MatchBool b (ts ≡ []) (AreTokens p bytes w.to ts)
    → t.from < u.from) [
      | true ↦ λ l h. absurd (not_nil mid u after (sym rest ∙ h))
      | false ↦ λ l h.
          let more = tokens-within p bytes w.to ts mid after u h rest in
          let lt : w.from < u.from = omega (arith, ahead.some l, more.0) in
          subst (λ (v : PlainToken). v.from < u.from) same lt
    ] refl are.1
tokens-later p bytes at (w ∷ ts) (f ∷ front) mid after t u are e =
    let rest : ts ≡ front ++ t ∷ (mid ++ u ∷ after) = cc in
    elim (is_last w.piece) as (λ b. MatchBool b (ts ≡ []) (AreTokens p bytes w.to ts) → t.from < u.from) [
      | true ↦ λ h. absurd (not_nil front t (mid ++ u ∷ after) (sym rest ∙ h))
      | false ↦ λ h. tokens-later p bytes w.to ts front mid after t u h rest
    ] are.1

-- a line lies behind the place
pub lines-behind : (p : Bool) (bytes : List ℕ) (at : ℕ) (lines above below : List PlainLine) (line : PlainLine)
    → AreLines p bytes at lines → lines ≡ above ++ line ∷ below
    → (at ≤ line.start) × (line.start < length bytes) × AreTokens p bytes line.start line.tokens
lines-behind p bytes at [] [] below line are e = absurd (cc)
lines-behind p bytes at [] (a ∷ above) below line are e = absurd (cc)
lines-behind p bytes at (l ∷ lines) [] below line are e =
    let same : l ≡ line = cc in
    let bounds = first_line-bounds true at (drop at bytes) in
    subst (λ (m : PlainLine). (at ≤ m.start) × (m.start < length bytes) × AreTokens p bytes m.start m.tokens) same
    (omega (arith, are.0, bounds.0), are.1, are.2)
lines-behind p bytes at (l ∷ lines) (a ∷ above) below line are e =
    let bounds = first_line-bounds true at (drop at bytes) in
    let rest : lines ≡ above ++ line ∷ below = cc in
    let more = lines-behind p bytes (line_below bytes l.start) lines above below line are.3 rest in
    (omega (arith, are.0, are.1, bounds.0, more.0), more.1, more.2)

-- of two lines the later one lies behind
lines-later : (p : Bool) (bytes : List ℕ) (at : ℕ) (lines above between below : List PlainLine) (line later : PlainLine)
    → AreLines p bytes at lines → lines ≡ above ++ line ∷ (between ++ later ∷ below) → line.start < later.start
lines-later p bytes at [] [] between below line later are e = absurd (cc)
lines-later p bytes at [] (a ∷ above) between below line later are e = absurd (cc)
lines-later p bytes at (l ∷ lines) [] between below line later are e =
    let same : l ≡ line = cc in
    let rest : lines ≡ between ++ later ∷ below = cc in
    let behind = lines-behind p bytes (line_below bytes l.start) lines between below later are.3 rest in
    subst (λ (m : PlainLine). m.start < later.start) same (omega (arith, are.1, behind.0, behind.1))
lines-later p bytes at (l ∷ lines) (a ∷ above) between below line later are e =
    let rest : lines ≡ above ++ line ∷ (between ++ later ∷ below) = cc in
    lines-later p bytes (line_below bytes l.start) lines above between below line later are.3 rest

-- so the lines and tokens of a text are in order
pub lines_in_order : LinesAreInOrder
lines_in_order in_proof bytes = record {
  first_ahead = first_token-ahead in_proof bytes;
  has_tokens = λ at le. tokens_total (suc (length bytes)) in_proof bytes at le (omega arith);
  has_lines = λ at le. lines_total (suc (length bytes)) in_proof bytes at le (omega arith);
  lines_once = AreLines-once in_proof bytes;
  token_within = tokens-within in_proof bytes;
  token_later = tokens-later in_proof bytes;
  line_behind = lines-behind in_proof bytes;
  line_later = lines-later in_proof bytes;
}
