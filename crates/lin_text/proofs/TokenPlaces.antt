-- Where the first token from a place on lies: ahead, within its line.
use Rattle.std.proofs.Common.{◌≡◌, ℕ, ◌+◌, ◌-◌, ◌<◌, ◌≤◌, zero, suc, Bool, true, false, cond, not, nat_lt, nat_eq, List}
use Rattle.std.proofs.Common.{[], ◌∷◌, length, drop, refl, sym, ap, subst, ◌∙◌, arith, length-drop}
use Rattle.std.specs.Prelude.{◌&&◌, slice_range}
use Rattle.std.specs.List.{prefix_len}
use Rattle.std.proofs.lemmas.List.{drop-drop}
use Rattle.std.proofs.lemmas.Bool.Decides.{nat_tests}
use Rattle.std.proofs.lemmas.List.Sums.{prefix_len-le-length}
use Rattle.lin_model.specs.Names.{is_name_start, is_name_byte, is_digit}
use Rattle.lin_text.specs.declared.token.Token.{Token}
use Rattle.lin_text.specs.declared.token.TokenKind.{TokenKind}
use Rattle.lin_text.specs.declared.token.TokenKind.TheVariants as kinds
use Rattle.lin_text.specs.Lines.{is_feed, is_in_line, is_blank, line_end}
use Rattle.lin_text.specs.Tokens.{token_length, symbol_length, begins_pair, begins_equal, is_symbol, kind_of}
use Rattle.lin_text.specs.Tokens.{nothing_at, token_of, token_here, token_from}
use Rattle.lin_text.specs.Pieces.{plain_token, first_token, is_last}
use Rattle.lin_text.specs.Pieces.{piece_of}
use Rattle.lin_text.specs.LineLaws.{IsAhead}

-- a run of bytes of a sort is no longer than one of a wider sort
prefix_len-mono : (p q : ℕ → Bool) → ((b : ℕ) → p b ≡ true → q b ≡ true) → (xs : List ℕ)
    → prefix_len p xs ≤ prefix_len q xs
prefix_len-mono p q wider [] = omega arith
prefix_len-mono p q wider (x ∷ xs) =
    elim (p x) as (λ b. p x ≡ b → cond b (1 + prefix_len p xs) 0 ≤ prefix_len q (x ∷ xs)) [
      | true ↦ λ e. subst (λ (c : Bool). 1 + prefix_len p xs ≤ cond c (1 + prefix_len q xs) 0) (sym (wider x e))
          (omega (arith, prefix_len-mono p q wider xs))
      | false ↦ λ e. omega arith
    ] refl

prefix_len-drop : (p : ℕ → Bool) (xs : List ℕ) (k : ℕ) → k ≤ prefix_len p xs
    → k + prefix_len p (drop k xs) ≡ prefix_len p xs
prefix_len-drop p xs zero le = omega arith
prefix_len-drop p [] (suc k) le = absurd (omega arith)
prefix_len-drop p (x ∷ xs) (suc k) le =
    elim (p x) as (λ b. suc k ≤ cond b (1 + prefix_len p xs) 0
    → suc k + prefix_len p (drop k xs) ≡ cond b (1 + prefix_len p xs) 0) [
      | true ↦ λ h. omega (arith, prefix_len-drop p xs k (omega arith))
      | false ↦ λ h. absurd (omega arith)
    ] le

in_line_not : (b : ℕ) → is_feed b ≡ false → is_in_line b ≡ true
in_line_not b e = rw e refl

feed_is : (b : ℕ) → is_feed b ≡ true → b ≡ 10
feed_is b e = grind (arith, nat_tests)

by_feed : (p : ℕ → Bool) → p 10 ≡ false → (b : ℕ) → p b ≡ true → is_in_line b ≡ true
by_feed p none b e =
    elim (is_feed b) as (λ f. is_feed b ≡ f → not f ≡ true) [
      | true ↦ λ f. let same : true ≡ false = sym e ∙ ap p (feed_is b f) ∙ none in absurd (cc)
      | false ↦ λ f. refl
    ] refl

symbol-in : (b : ℕ) (bs : List ℕ) → is_feed b ≡ false → symbol_length b bs ≤ prefix_len is_in_line (b ∷ bs)
symbol-in b bs e =
    subst (λ (c : Bool). symbol_length b bs ≤ cond c (1 + prefix_len is_in_line bs) 0) (sym (in_line_not b e))
    (by_pair (begins_pair b) bs)
  where
    by_pair : (pair : Bool) (cs : List ℕ) → cond (pair && begins_equal cs) 2 (cond (is_symbol b) 1 0)
        ≤ 1 + prefix_len is_in_line cs
    by_pair false cs = elim (is_symbol b) as (λ s. cond s 1 0 ≤ 1 + prefix_len is_in_line cs) [
      | true ↦ omega arith
      | false ↦ omega arith
    ]
    by_pair true [] = elim (is_symbol b) as (λ s. cond s 1 0 ≤ 1 + prefix_len is_in_line []) [
      | true ↦ omega arith
      | false ↦ omega arith
    ]
    by_pair true (c ∷ cs) =
        elim (nat_eq c 61) as (λ s. nat_eq c 61 ≡ s
        → cond s 2 (cond (is_symbol b) 1 0) ≤ 1 + prefix_len is_in_line (c ∷ cs)) [
          | true ↦ λ s. subst (λ (d : Bool). 2 ≤ 1 + cond d (1 + prefix_len is_in_line cs) 0)
              (sym (by_feed (λ d. nat_eq d 61) refl c s)) (omega arith)
          | false ↦ λ s. elim (is_symbol b) as (λ s'. cond s' 1 0 ≤ 1 + prefix_len is_in_line (c ∷ cs)) [
            | true ↦
                omega arith
            | false ↦ omega arith
          ]
        ] refl

-- a token ends within its line
token_length-in : (b : ℕ) (bs : List ℕ) → is_feed b ≡ false → token_length (b ∷ bs) ≤ prefix_len is_in_line (b ∷ bs)
unfolding token_length
token_length-in b bs e =
    elim (is_name_start b) as (λ s. cond s (1 + prefix_len is_name_byte bs)
    (cond (is_digit b) (1 + prefix_len is_digit bs) (symbol_length b bs)) ≤ prefix_len is_in_line (b ∷ bs)) [
      | true ↦ subst (λ (c : Bool). 1 + prefix_len is_name_byte bs ≤ cond c (1 + prefix_len is_in_line bs) 0)
          (sym (in_line_not b e)) (omega (
            arith,
            prefix_len-mono is_name_byte is_in_line
                (by_feed is_name_byte refl) bs,
          ))
      | false ↦ elim (is_digit b) as (λ d. cond d (1 + prefix_len is_digit bs) (symbol_length b bs)
          ≤ prefix_len is_in_line (b ∷ bs)) [
            | true ↦ subst (λ (c : Bool). 1 + prefix_len is_digit bs ≤ cond c (1 + prefix_len is_in_line bs) 0)
                (sym (in_line_not b e)) (omega (arith, prefix_len-mono is_digit is_in_line (by_feed is_digit refl) bs))
            | false ↦ symbol-in b bs e
          ]
    ]

-- a token is within a line that has so many bytes more, and it has bytes unless it is the last
pub record IsWithin (at n : ℕ) (t : Token) : Type 0 where
  pub from : t.from ≡ at
  pub order : t.from ≤ t.to
  pub within : t.to ≤ at + n
  pub some : (t.kind ≡ kinds.Bad → ⊥) → (t.kind ≡ kinds.LineEnd → ⊥) → t.from < t.to

some_long : (b : ℕ) (bs : List ℕ) → token_length (b ∷ bs) ≡ 0 → kind_of b (token_length (b ∷ bs)) ≡ kinds.Bad
unfolding token_length
some_long b bs e =
    elim (is_name_start b) as (λ s. cond s (1 + prefix_len is_name_byte bs)
    (cond (is_digit b) (1 + prefix_len is_digit bs) (symbol_length b bs)) ≡ 0 → (n : ℕ) → n ≡ 0
    → cond s (cond (nat_lt 64 n) kinds.Bad kinds.Name)
    (cond (is_digit b) kinds.Number (cond (nat_eq n 0) kinds.Bad kinds.Symbol)) ≡ kinds.Bad) [
      | true ↦ λ h n z. absurd (omega arith)
      | false ↦ elim (is_digit b) as (λ d. cond d (1 + prefix_len is_digit bs) (symbol_length b bs) ≡ 0 → (n : ℕ)
          → n ≡ 0 → cond d kinds.Number (cond (nat_eq n 0) kinds.Bad kinds.Symbol) ≡ kinds.Bad) [
            | true ↦ λ h n z. absurd (omega arith)
            | false ↦ λ h n z. rw z refl
          ]
    ] e (token_length (b ∷ bs)) e

positive : (at n : ℕ) → (n ≡ 0 → ⊥) → at < at + n
positive at zero e = absurd (e refl)
positive at (suc n) e = omega arith

token_of-within : (kind : TokenKind) (at n m : ℕ) → n ≤ m → (n ≡ 0 → kind ≡ kinds.Bad)
    → IsWithin at m (token_of kind at n)
token_of-within kinds.Bad at n m le z = record {
  from = refl;
  order = omega arith;
  within = omega arith;
  some = λ b l. absurd (b refl);
}
token_of-within kinds.Name at n m le z = record {
  from = refl;
  order = omega arith;
  within = omega arith;
  some = λ b l. positive at n (λ e. b (z e));
}
token_of-within kinds.Number at n m le z = record {
  from = refl;
  order = omega arith;
  within = omega arith;
  some = λ b l. positive at n (λ e. b (z e));
}
token_of-within kinds.Symbol at n m le z = record {
  from = refl;
  order = omega arith;
  within = omega arith;
  some = λ b l. positive at n (λ e. b (z e));
}
token_of-within kinds.LineEnd at n m le z = record {
  from = refl;
  order = omega arith;
  within = omega arith;
  some = λ b l. absurd (l refl);
}

token_here-within : (at : ℕ) (rest : List ℕ) → IsWithin at (prefix_len is_in_line rest) (token_here at rest)
unfolding token_here
token_here-within at [] = record {
  from = refl;
  order = omega arith;
  within = omega arith;
  some = λ b l. absurd (l refl);
}
token_here-within at (b ∷ bs) =
    elim (is_feed b) as (λ f. is_feed b ≡ f → IsWithin at (prefix_len is_in_line (b ∷ bs))
    (cond f (nothing_at kinds.LineEnd at) (token_of (kind_of b (token_length (b ∷ bs))) at
    (token_length (b ∷ bs))))) [
      | true ↦ λ f. record { from = refl; order = omega arith; within = omega arith; some = λ b' l. absurd (l refl) }
      | false ↦ λ f. token_of-within (kind_of b (token_length (b ∷ bs))) at (token_length (b ∷ bs))
          (prefix_len is_in_line (b ∷ bs)) (token_length-in b bs f) (some_long b bs)
    ] refl

piece_last : (p : Bool) (kind : TokenKind) (text : List ℕ) → is_last (piece_of p kind text) ≡ false
    → (kind ≡ kinds.Bad → ⊥) × (kind ≡ kinds.LineEnd → ⊥)
unfolding piece_of
piece_last p kinds.Bad text e = absurd (cc)
piece_last p kinds.LineEnd text e = absurd (cc)
piece_last p kinds.Name text e = (λ f. cc, λ f. cc)
piece_last p kinds.Number text e = (λ f. cc, λ f. cc)
piece_last p kinds.Symbol text e = (λ f. cc, λ f. cc)

ahead_of : (p : Bool) (bytes : List ℕ) (at : ℕ) (t : Token)
    → IsWithin (at + prefix_len is_blank (drop at bytes))
    (prefix_len is_in_line (drop (at + prefix_len is_blank (drop at bytes)) bytes)) t
    → IsAhead bytes at (plain_token p bytes t)
unfolding plain_token
ahead_of p bytes at t w =
    let blanks = prefix_len is_blank (drop at bytes) in
    let few : blanks ≤ prefix_len is_in_line (drop at bytes) = prefix_len-mono is_blank is_in_line
    (by_feed is_blank refl) (drop at bytes) in
    let rest : blanks + prefix_len is_in_line (drop blanks (drop at bytes))
    ≡ prefix_len is_in_line (drop at bytes) = prefix_len-drop is_in_line (drop at bytes) blanks few in
    let there : prefix_len is_in_line (drop (at + blanks) bytes)
    ≡ prefix_len is_in_line (drop blanks (drop at bytes)) =
    ap (prefix_len is_in_line) (sym (drop-drop blanks at bytes)) in
    let k = t.to - at in
    let to_is : t.to ≡ at + k = omega (arith, w.from, w.order) in
    let upto : k ≤ prefix_len is_in_line (drop at bytes) = omega (arith, w.from, w.order, w.within) in
    let whole : k + prefix_len is_in_line (drop k (drop at bytes))
    ≡ prefix_len is_in_line (drop at bytes) = prefix_len-drop is_in_line (drop at bytes) k upto in
    let same : prefix_len is_in_line (drop t.to bytes)
    ≡ prefix_len is_in_line (drop k (drop at bytes)) = ap (λ (m : ℕ). prefix_len is_in_line (drop m bytes)) to_is
    ∙ ap (prefix_len is_in_line) (sym (drop-drop k at bytes)) in
    record {
      ahead = omega (arith, w.from);
      order = w.order;
      within = omega arith;
      line = omega arith;
      some = λ e. let l = piece_last p t.kind (slice_range bytes t.from t.to) e in w.some l.0 l.1;
    }

pub first_token-ahead : (p : Bool) (bytes : List ℕ) (at : ℕ) → IsAhead bytes at (first_token p bytes at)
unfolding token_from
first_token-ahead p bytes at =
    let from = at + prefix_len is_blank (drop at bytes) in
    ahead_of p bytes at (token_here from (drop from bytes)) (token_here-within from (drop from bytes))

-- the end of a line is no further than the end of the input
pub line_end-within : (bytes : List ℕ) (at : ℕ) → at ≤ length bytes → line_end bytes at ≤ length bytes
line_end-within bytes at le = omega (arith, prefix_len-le-length is_in_line (drop at bytes), length-drop at bytes)
