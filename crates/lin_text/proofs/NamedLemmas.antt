-- A token that is a name has the text of one.
use Rattle.std.proofs.Common.{◌≡◌, ℕ, ◌+◌, ◌-◌, ◌<◌, ◌≤◌, zero, suc, Bool, true, false, cond, nat_lt, nat_eq, List, []}
use Rattle.std.proofs.Common.{◌∷◌, length, take, drop, get_or, refl, sym, ap, subst, ◌∙◌, arith}
use Rattle.std.specs.Prelude.{◌&&◌, IsTrue, slice_range, bytes_eq, codes}
use Rattle.std.specs.List.{prefix_len}
use Rattle.std.proofs.lemmas.Bool.{or_parts}
use Rattle.std.proofs.lemmas.List.Folds.{length-prefix_len}
use borrow.Author.Tests.{ltb-false}
use Rattle.lin_model.specs.Names.{IsName, is_name_start, is_name_byte, is_digit, is_reserved}
use Rattle.lin_text.specs.declared.token.Token.{Token}
use Rattle.lin_text.specs.declared.token.TokenKind.TheVariants as kinds
use Rattle.lin_text.specs.declared.class.Class.{Class}
use Rattle.lin_text.specs.declared.class.Class.TheVariants.{Name}
use Rattle.lin_text.specs.Lines.{is_feed, is_blank}
use Rattle.lin_text.specs.Tokens.{token_length, symbol_length, kind_of, nothing_at, token_of, token_here, token_from}
use Rattle.lin_text.specs.Pieces.{var, word, name, plus, minus, times, compare, piece_of, name_piece, symbol_piece}
use Rattle.lin_text.specs.Pieces.{sign_of, is_word, is_claim_word, plain_token, first_token, PlainToken}
use Rattle.lin_text.specs.Classes.{class_of}

place_more : (p : ℕ → Bool) (x : ℕ) (ys : List ℕ) (j d : ℕ) → p x ≡ true
    → ((i e : ℕ) → i < length ys → IsTrue (p (get_or ys i e))) → j < length (x ∷ ys) → IsTrue (p (get_or (x ∷ ys) j d))
place_more p x ys zero d e more h = e
place_more p x ys (suc j) d e more h = more j d (omega arith)

all_in_prefix : (p : ℕ → Bool) (xs : List ℕ) (k : ℕ) (d : ℕ) → k < length (take (prefix_len p xs) xs)
    → IsTrue (p (get_or (take (prefix_len p xs) xs) k d))
all_in_prefix p [] k d lt = absurd (omega arith)
all_in_prefix p (x ∷ xs) k d lt =
    elim (p x) as (λ b. p x ≡ b → k < length (take (cond b (1 + prefix_len p xs) 0) (x ∷ xs))
    → IsTrue (p (get_or (take (cond b (1 + prefix_len p xs) 0) (x ∷ xs)) k d))) [
      | true ↦ λ e h.
          let s : 1 + prefix_len p xs ≡ suc (prefix_len p xs) = omega arith in
          subst (λ (n : ℕ). IsTrue (p (get_or (take n (x ∷ xs)) k d))) (sym s)
          (place_more p x (take (prefix_len p xs) xs) k d e (all_in_prefix p xs)
          (subst (λ (n : ℕ). k < length (take n (x ∷ xs))) s h))
      | false ↦ λ e h. absurd (omega arith)
    ] refl lt

starts_byte : (b : ℕ) → is_name_start b ≡ true → is_name_byte b ≡ true
starts_byte b e = rw e refl

name_word : (v w : Bool) (text : List ℕ) → class_of (cond v var (cond w (word text) (name text))) ≡ Name → w ≡ false
name_word true w text e = absurd (cc)
name_word false true text e = absurd (cc)
name_word false false text e = refl

no_name_symbol : (a b c : Bool) (text : List ℕ)
    → class_of (cond a plus (cond b minus (cond c times (compare (sign_of text))))) ≡ Name → ⊥
no_name_symbol true b c text e = cc
no_name_symbol false true c text e = cc
no_name_symbol false false true text e = cc
no_name_symbol false false false text e = cc

-- the text of a name
name_is : (p : Bool) (b : ℕ) (bs : List ℕ) (text : List ℕ) → is_name_start b ≡ true
    → 1 + prefix_len is_name_byte bs ≤ 64 → text ≡ b ∷ take (prefix_len is_name_byte bs) bs
    → class_of (name_piece p text) ≡ Name → IsName text
unfolding name_piece
name_is p b bs text starts short is e = record {
  short = rw is (omega (arith, length-prefix_len is_name_byte bs));
  starts = rw is starts;
  goes_on = rw is all;
  free = (or_parts (is_reserved text) (p && is_claim_word text)
      (name_word (bytes_eq text (codes "var")) (is_word p text) text e)).0;
} where
  all : (k : ℕ) (d : ℕ) → k < length (b ∷ take (prefix_len is_name_byte bs) bs)
      → IsTrue (is_name_byte (get_or (b ∷ take (prefix_len is_name_byte bs) bs) k d))
  all zero d lt = starts_byte b starts
  all (suc k) d lt = all_in_prefix is_name_byte bs k d (omega arith)

Goal : Bool → List ℕ → Token → Type 0
Goal p bytes t =
    class_of (piece_of p t.kind (slice_range bytes t.from t.to)) ≡ Name → IsName (slice_range bytes t.from t.to)

slice_here : (bytes : List ℕ) (from n : ℕ) (rest : List ℕ) → drop from bytes ≡ rest
    → slice_range bytes from (from + n) ≡ take n rest
slice_here bytes from n rest e =
    ap (λ (m : ℕ). take m (drop from bytes)) (let s : (from + n) - from ≡ n = omega arith in s) ∙ ap (take n) e

by_kind : (p : Bool) (bytes : List ℕ) (from b : ℕ) (bs : List ℕ) (n : ℕ) → drop from bytes ≡ b ∷ bs
    → n ≡ token_length (b ∷ bs) → (starts : Bool) → is_name_start b ≡ starts → (long : Bool) → nat_lt 64 n ≡ long
    → (digit : Bool) (zero_long : Bool) → Goal p bytes
    (token_of (cond starts (cond long kinds.Bad kinds.Name)
    (cond digit kinds.Number (cond zero_long kinds.Bad kinds.Symbol))) from n)
unfolding Goal piece_of symbol_piece token_length
by_kind p bytes from b bs n e len true st true lg d z h = absurd (cc)
by_kind p bytes from b bs n e len true st false lg d z h =
    let n_is : n ≡ 1 + prefix_len is_name_byte bs = len
    ∙ ap (λ (c : Bool). cond c (1 + prefix_len is_name_byte bs)
    (cond (is_digit b) (1 + prefix_len is_digit bs) (symbol_length b bs))) st in
    let short : n ≤ 64 = ltb-false 64 n lg in
    name_is p b bs (slice_range bytes from (from + n)) st (subst (λ (m : ℕ). m ≤ 64) n_is short)
    (slice_here bytes from n (b ∷ bs) e ∙ ap (λ (m : ℕ). take m (b ∷ bs)) (n_is
    ∙ (let s : 1 + prefix_len is_name_byte bs ≡ suc (prefix_len is_name_byte bs) = omega arith in s)))
    h
by_kind p bytes from b bs n e len false st lg lge true z h = absurd (cc)
by_kind p bytes from b bs n e len false st lg lge false true h = absurd (cc)
by_kind p bytes from b bs n e len false st lg lge false false h =
    let text = slice_range bytes from (from + n) in
    absurd (no_name_symbol (bytes_eq text (codes "+")) (bytes_eq text (codes "-")) (bytes_eq text (codes "*")) text h)

here : (p : Bool) (bytes : List ℕ) (from : ℕ) (rest : List ℕ) → drop from bytes ≡ rest
    → Goal p bytes (token_here from rest)
unfolding Goal piece_of token_here
here p bytes from [] e h = absurd (cc)
here p bytes from (b ∷ bs) e h =
    elim (is_feed b) as (λ f. Goal p bytes (cond f (nothing_at kinds.LineEnd from)
    (token_of (kind_of b (token_length (b ∷ bs))) from (token_length (b ∷ bs))))) [
      | true ↦ λ h. absurd (cc)
      | false ↦ by_kind p bytes from b bs (token_length (b ∷ bs)) e refl (is_name_start b) refl
          (nat_lt 64 (token_length (b ∷ bs))) refl (is_digit b) (nat_eq (token_length (b ∷ bs)) 0)
    ] h

-- a token that is a name
pub named-token : (p : Bool) (bytes : List ℕ) (at : ℕ) (t : Token) (c : Class) → t ≡ token_from bytes at
    → c ≡ class_of (piece_of p t.kind (slice_range bytes t.from t.to)) → c ≡ Name
    → IsName (slice_range bytes t.from t.to)
unfolding Goal token_from
named-token p bytes at t c is shows e =
    let from = at + prefix_len is_blank (drop at bytes) in
    subst (λ (u : Token). Goal p bytes u) (sym is) (here p bytes from (drop from bytes) refl) (sym shows ∙ e)

-- the same of a token of a line
pub named-plain : (p : Bool) (bytes : List ℕ) (at : ℕ) (t : PlainToken) (x : List ℕ) → t ≡ first_token p bytes at
    → t.piece ≡ name x → IsName (slice_range bytes t.from t.to)
unfolding Goal plain_token token_from
named-plain p bytes at t x is e =
    subst (λ (u : PlainToken). class_of u.piece ≡ Name → IsName (slice_range bytes u.from u.to)) (sym is)
    (here p bytes (at + prefix_len is_blank (drop at bytes))
    (drop (at + prefix_len is_blank (drop at bytes)) bytes) refl)
    (ap class_of e)
