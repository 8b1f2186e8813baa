-- The number of a name among names, and the text of a name.
use Rattle.std.proofs.Common.{◌≡◌, ℕ, ◌+◌, ◌<◌, ◌≤◌, zero, suc, Bool, true, false, cond, not, nat_lt, List, [], ◌∷◌}
use Rattle.std.proofs.Common.{length, get_or, Some, None, refl, sym, ap, ◌∙◌, arith, position}
use Rattle.std.specs.Prelude.{slice_get, slice_range, bytes_eq, codes, Contains}
use Rattle.std.specs.List.{prefix_len}
use Rattle.std.proofs.lemmas.Bool.Decides.{nat_tests}
use Rattle.std.proofs.lemmas.Slice.Eq.{bytes_eq-Decides}
use borrow.Author.Tests.{ltb-true}
use Rattle.lin_text.specs.declared.token.TokenKind.{TokenKind}
use Rattle.lin_text.specs.declared.token.TokenKind.TheVariants.{Name, Number, Symbol, Bad, LineEnd}
use Rattle.lin_text.specs.Pieces.{var, word, name, plus, minus, times, compare, piece_of, name_piece, symbol_piece}
use Rattle.lin_text.specs.Pieces.{sign_of, is_word, plain_token, first_token, PlainToken}

found_at : (q : List ℕ → Bool) (xs : List (List ℕ)) → prefix_len (λ x. not (q x)) xs < length xs
    → (y : List ℕ) × (slice_get xs (prefix_len (λ x. not (q x)) xs) ≡ Some y) × (q y ≡ true)
found_at q [] lt = absurd (omega arith)
found_at q (x ∷ xs) lt =
    elim (q x) as (λ b. q x ≡ b → cond (not b) (1 + prefix_len (λ y. not (q y)) xs) 0 < length (x ∷ xs)
    → (y : List ℕ) × (slice_get (x ∷ xs) (cond (not b) (1 + prefix_len (λ y. not (q y)) xs) 0) ≡ Some y)
    × (q y ≡ true)) [
      | true ↦ λ e h. (x, refl, e)
      | false ↦ λ e h.
          let there = found_at q xs (omega arith) in (
            there.0,
            ap (slice_get (x ∷ xs)) (let s : 1 + prefix_len (λ y. not (q y)) xs
                ≡ suc (prefix_len (λ y. not (q y)) xs) = omega arith in s) ∙ there.1,
            there.2,
          )
    ] refl lt

none_pass : (q : List ℕ → Bool) (xs : List (List ℕ)) → length xs ≤ prefix_len (λ x. not (q x)) xs → (k : ℕ) (d : List ℕ)
    → k < length xs → q (get_or xs k d) ≡ false
none_pass q [] le k d lt = absurd (omega arith)
none_pass q (x ∷ xs) le k d lt =
    elim (q x) as (λ b. q x ≡ b → length (x ∷ xs) ≤ cond (not b) (1 + prefix_len (λ y. not (q y)) xs) 0
    → q (get_or (x ∷ xs) k d) ≡ false) [
      | true ↦ λ e h. absurd (omega arith)
      | false ↦ λ e h. none_pass_at q x xs k d e (none_pass q xs (omega arith)) lt
    ] refl le
  where
    none_pass_at : (q : List ℕ → Bool) (x : List ℕ) (xs : List (List ℕ)) (k : ℕ) (d : List ℕ) → q x ≡ false
        → ((j : ℕ) (e : List ℕ) → j < length xs → q (get_or xs j e) ≡ false) → k < length (x ∷ xs)
        → q (get_or (x ∷ xs) k d) ≡ false
    none_pass_at q x xs zero d e below lt = e
    none_pass_at q x xs (suc j) d e below lt = below j d (omega arith)

is_found : (a b k : ℕ) → cond (nat_lt a b) (Some a) None ≡ Some k → (a < b) × (a ≡ k)
is_found a b k e = elim (nat_lt a b) as (λ t. nat_lt a b ≡ t → cond t (Some a) None ≡ Some k
    → (a < b) × (a ≡ k)) [ true ↦ λ l h. (ltb-true a b l, cc) | false ↦ λ l h. absurd (cc) ] refl e

is_none : (a b : ℕ) → cond (nat_lt a b) (Some a) None ≡ None → b ≤ a
is_none a b e = grind (arith, nat_tests)

pub position-found : (x : List ℕ) (names : List (List ℕ)) (k : ℕ) → position (bytes_eq x) names ≡ Some k
    → slice_get names k ≡ Some x
position-found x names k e =
    let f = is_found _ _ k e in
    let there = found_at (bytes_eq x) names f.0 in
    let same : x ≡ there.0 = (bytes_eq-Decides x there.0).0 there.2 in
    ap (slice_get names) (sym f.1) ∙ there.1 ∙ ap Some (sym same)

slice_get-Contains : (xs : List (List ℕ)) (k : ℕ) (x : List ℕ) → slice_get xs k ≡ Some x → Contains xs x
slice_get-Contains [] k x e = absurd (cc)
slice_get-Contains (y ∷ ys) zero x e = (0, omega arith, cc)
slice_get-Contains (y ∷ ys) (suc k) x e = let c = slice_get-Contains ys k x e in (suc c.0, omega (arith, c.1), c.2)

pub Contains-position : (x : List ℕ) (names : List (List ℕ)) (k : ℕ) → position (bytes_eq x) names ≡ Some k
    → Contains names x
Contains-position x names k e = slice_get-Contains names k x (position-found x names k e)

pub position-none : (x : List ℕ) (names : List (List ℕ)) → position (bytes_eq x) names ≡ None → ¬ Contains names x
position-none x names e c =
    let no = none_pass (bytes_eq x) names (is_none _ _ e) c.0 x c.1 in
    let yes : bytes_eq x (get_or names c.0 x) ≡ true = (bytes_eq-Decides x (get_or names c.0 x)).1 (sym c.2) in
    absurd (let b : false ≡ true = sym no ∙ yes in cc)

name_piece-name : (v w : Bool) (text x : List ℕ) → cond v var (cond w (word text) (name text)) ≡ name x → x ≡ text
name_piece-name true w text x e = absurd (cc)
name_piece-name false true text x e = absurd (cc)
name_piece-name false false text x e = cc

symbol_piece-name : (a b c : Bool) (text x : List ℕ)
    → cond a plus (cond b minus (cond c times (compare (sign_of text)))) ≡ name x → ⊥
symbol_piece-name true b c text x e = cc
symbol_piece-name false true c text x e = cc
symbol_piece-name false false true text x e = cc
symbol_piece-name false false false text x e = cc

piece_of-name : (p : Bool) (kind : TokenKind) (text x : List ℕ) → piece_of p kind text ≡ name x → x ≡ text
unfolding piece_of name_piece symbol_piece
piece_of-name p Name text x e = name_piece-name (bytes_eq text (codes "var")) (is_word p text) text x e
piece_of-name p Number text x e = absurd (cc)
piece_of-name p Symbol text x e = absurd (symbol_piece-name (bytes_eq text (codes "+")) (bytes_eq text (codes "-"))
    (bytes_eq text (codes "*")) text x e)
piece_of-name p Bad text x e = absurd (cc)
piece_of-name p LineEnd text x e = absurd (cc)

-- a name is the bytes of its token
pub name-text : (p : Bool) (bytes : List ℕ) (at : ℕ) (t : PlainToken) (x : List ℕ) → t ≡ first_token p bytes at
    → t.piece ≡ name x → x ≡ slice_range bytes t.from t.to
unfolding plain_token
name-text p bytes at t x is e =
    piece_of-name p _ _ x (ap (λ (u : PlainToken). u.piece) (sym is) ∙ e)
    ∙ ap (λ (u : PlainToken). slice_range bytes u.from u.to) (sym is)
