use Rattle.std.proofs.Common.{◌≡◌, ap, sym, ◌∙◌, ℕ}
use Rattle.std.proofs.lemmas.Bool.{false≢true}
use Rattle.session_text.specs.Words.{token_at, second_at, third_at, text_of, green_word, one_digit}
use Rattle.session_text.proofs.TokenLemmas.{text-same, to-same, end-same}
use Rattle.session_text.proofs.WordLemmas.{same_bytes, bytes_eq-is}
use Rattle.session_text.proofs.line.is_header.Goals as goal

pub returns-then-not-has_text : goal.returns-then-not-has_text
unfolding green_word
returns-then-not-has_text c = (
  λ t. absurd (false≢true t),
  λ h. sym c.if-not-has_text.true ∙ (c.has_text.ensures
      ∙ bytes_eq-is _ _ (text-same c.args.bytes.now c.args.at c.next_token-green.result c.next_token-green.ensures.token
      ∙ h.green)),
)

pub returns-then-not-has_text-2 : goal.returns-then-not-has_text-2
unfolding one_digit
returns-then-not-has_text-2 c =
    let to = to-same c.args.bytes.now c.args.at c.next_token-green.result c.next_token-green.ensures.token in
    let text = text-same c.args.bytes.now c.next_token-green.result.to c.next_token-one.result
    c.next_token-one.ensures.token in
    let same : text_of c.args.bytes.now (token_at c.args.bytes.now c.next_token-green.result.to)
    ≡ text_of c.args.bytes.now (second_at c.args.bytes.now c.args.at) =
    ap (λ (n : ℕ). text_of c.args.bytes.now (token_at c.args.bytes.now n)) to in (
      λ t. absurd (false≢true t),
      λ h. sym c.if-not-has_text-2.true ∙ (c.has_text-2.ensures ∙ bytes_eq-is _ _ (text ∙ same ∙ h.one)),
    )

pub returns : goal.returns
unfolding green_word one_digit
returns c =
    let bytes = c.args.bytes.now in
    let to = to-same bytes c.args.at c.next_token-green.result c.next_token-green.ensures.token in
    let text = text-same bytes c.next_token-green.result.to c.next_token-one.result c.next_token-one.ensures.token in
    let same : text_of bytes (token_at bytes c.next_token-green.result.to)
    ≡ text_of bytes (second_at bytes c.args.at) = ap (λ (n : ℕ). text_of bytes (token_at bytes n)) to in
    let then : c.next_token-one.result.to ≡ (second_at bytes c.args.at).to =
    to-same bytes c.next_token-green.result.to c.next_token-one.result c.next_token-one.ensures.token
    ∙ ap (λ (n : ℕ). (token_at bytes n).to) to in
    let ends = end-same bytes c.next_token-one.result.to c.next_token-end.result c.next_token-end.ensures.token in
    let third : (token_at bytes c.next_token-one.result.to).piece
    ≡ (third_at bytes c.args.at).piece = ap (λ (n : ℕ). (token_at bytes n).piece) then in (
      λ t. record {
        green = sym (text-same bytes c.args.at c.next_token-green.result c.next_token-green.ensures.token)
            ∙ same_bytes _ _ (sym c.has_text.ensures ∙ c.if-not-has_text.false);
        one = sym (text ∙ same) ∙ same_bytes _ _ (sym c.has_text-2.ensures ∙ c.if-not-has_text-2.false);
        ends = sym third ∙ ends.0 (c.is_line_end.ensures.0 t);
      },
      λ h. c.is_line_end.ensures.1 (ends.1 (third ∙ h.ends)),
    )
