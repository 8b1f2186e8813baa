-- Names and numbers at the front of a text.
use Rattle.std.proofs.Common.{◌≡◌, ℕ, ◌+◌, ◌-◌, ◌*◌, ◌<◌, ◌≤◌, ◌^◌, Bool, true, false, cond, List, [], ◌∷◌, ◌++◌}
use Rattle.std.proofs.Common.{length, refl, sym, ap, subst, ◌∙◌, arith, All, IsTrue, decimal, nat_lt, ◌%◌}
use Rattle.std.proofs.Common.{length-append}
use Rattle.std.specs.Prelude.{◌||◌, ◌&&◌, ◌==◌, bytes_eq, codes}
use Rattle.std.specs.List.{prefix_len}
use Rattle.std.specs.Bool.{Decides}
use Rattle.std.proofs.lemmas.Slice.Eq.{bytes_eq-Decides}
use Rattle.std.proofs.lemmas.Fmt.{decimal_by_steps}
use Rattle.std.proofs.lemmas.List.Sums.{fold-append}
use Rattle.std.proofs.lemmas.List.Elements.{All-nil, All-cons, All-push, All-weaker, All-head, All-tail}
use Rattle.std.proofs.lemmas.Bool.{or_parts}
use Rattle.std.proofs.lemmas.Bool.Decides.{nat_tests}
use Rattle.lin_model.specs.Names.{IsName, is_name_start, is_name_byte, is_digit, is_reserved}
use Rattle.lin_text.specs.Lines.{is_feed, is_in_line, is_blank}
use Rattle.lin_text.specs.Tokens.{token_length, kind_of, token_of, symbol_length}
use Rattle.lin_text.specs.declared.token.TokenKind.{TokenKind}
use Rattle.lin_text.specs.declared.token.TokenKind.TheVariants.{Name, Number, Symbol, Bad}
use Rattle.lin_text.specs.Pieces.{Piece, var, word, name, number, name_piece}
use Rattle.lin_text.specs.Pieces.{piece_of, number_of, is_word, is_claim_word, is_last}
use Rattle.lin_text.proofs.ReadBackTokens.{Reads, Starts, Starts-token, Token-front, prefix_len-all}

-- no name and no number goes on with this text
pub record Stops (rest : List ℕ) : Type 0 where
  pub names : prefix_len is_name_byte rest ≡ 0
  pub digits : prefix_len is_digit rest ≡ 0

pub Stops-blank : (rest : List ℕ) → Stops (32 ∷ rest)
Stops-blank rest = record { names = refl; digits = refl }

pub Stops-feed : (rest : List ℕ) → Stops (10 ∷ rest)
Stops-feed rest = record { names = refl; digits = refl }

-- the bytes that begin a name

name_start-blank : (b : ℕ) → is_name_start b ≡ true → is_blank b ≡ false
name_start-blank b e = grind (arith, nat_tests)

name_start-counts : (b : ℕ) → is_name_start b ≡ true → (is_feed b || b == 35) ≡ false
name_start-counts b e = grind (arith, nat_tests)

name_byte-in_line : (b : ℕ) → is_name_byte b ≡ true → is_in_line b ≡ true
name_byte-in_line b e = grind (arith, nat_tests)

digit-blank : (b : ℕ) → is_digit b ≡ true → is_blank b ≡ false
digit-blank b e = grind (arith, nat_tests)

digit-counts : (b : ℕ) → is_digit b ≡ true → (is_feed b || b == 35) ≡ false
digit-counts b e = grind (arith, nat_tests)

digit-in_line : (b : ℕ) → is_digit b ≡ true → is_in_line b ≡ true
digit-in_line b e = grind (arith, nat_tests)

digit-name_start : (b : ℕ) → is_digit b ≡ true → is_name_start b ≡ false
digit-name_start b e = grind (arith, nat_tests)

refuted : (text : List ℕ) → is_reserved text ≡ false → (b : Bool) → Decides b (text ≡ codes "var") → b ≡ false
refuted text e true same = absurd (let no : true ≡ false = sym (ap is_reserved (same.0 refl)) ∙ e in cc)
refuted text e false differs = refl

no_var : (text : List ℕ) → is_reserved text ≡ false → bytes_eq text (codes "var") ≡ false
no_var text e = refuted text e (bytes_eq text (codes "var")) (bytes_eq-Decides text (codes "var"))

name_is : (p : Bool) (text : List ℕ) → is_reserved text ≡ false → (p && is_claim_word text) ≡ false
    → name_piece p text ≡ name text
unfolding name_piece
name_is p text e free =
    ap (λ (x : Bool). cond x var (cond (is_word p text) (word text) (name text))) (no_var text e)
    ∙ ap (λ (x : Bool). cond (x || (p && is_claim_word text)) (word text) (name text)) e
    ∙ ap (λ (x : Bool). cond x (word text) (name text)) free

short : (n : ℕ) → n ≤ 64 → nat_lt 64 n ≡ false
short n le = grind (arith, nat_tests)

name_kind : (b n : ℕ) → is_name_start b ≡ true → n ≤ 64 → kind_of b n ≡ Name
name_kind b n e le =
    ap (λ (x : Bool). cond x (cond (nat_lt 64 n) Bad Name) (cond (is_digit b) Number (cond (n == 0) Bad Symbol))) e
    ∙ ap (λ (x : Bool). cond x Bad Name) (short n le)

-- a name, and no word in a text of this sort
pub record IsOwnName (p : Bool) (x : List ℕ) : Type 0 where
  pub name : IsName x
  pub free : (p && is_claim_word x) ≡ false

name-front : (p : Bool) (b : ℕ) (bs rest : List ℕ) → IsOwnName p (b ∷ bs) → prefix_len is_name_byte rest ≡ 0
    → Token-front p b bs rest Name
unfolding token_length piece_of
name-front p b bs rest own stops =
    let is = own.name in
    let begins : is_name_start b ≡ true = is.starts in
    let more : prefix_len is_name_byte (bs ++ rest)
    ≡ length bs = omega (
      arith,
      prefix_len-all is_name_byte bs rest
          (All-tail (λ b. IsTrue (is_name_byte b)) b bs is.goes_on),
      stops,
    ) in
    record {
      no_blank = name_start-blank b begins;
      counts = name_start-counts b begins;
      no_feed = (or_parts (is_feed b) (b == 35) (name_start-counts b begins)).0;
      within = prefix_len-all is_in_line (b ∷ bs) rest
          (All-weaker (λ b. IsTrue (is_name_byte b)) (λ b. IsTrue (is_in_line b)) name_byte-in_line
          (b ∷ bs) is.goes_on);
      long = ap (λ (x : Bool). cond x (1 + prefix_len is_name_byte (bs ++ rest))
          (cond (is_digit b) (1 + prefix_len is_digit (bs ++ rest)) (symbol_length b (bs ++ rest)))) begins
          ∙ omega (arith, more);
      shape = λ at. ap (λ (k : TokenKind). token_of k at (length (b ∷ bs)))
          (name_kind b (length (b ∷ bs)) begins is.short);
      goes_on = ap is_last (name_is p (b ∷ bs) is.free own.free);
    }

-- a name
pub Starts-name : (p : Bool) (x rest left : List ℕ) (ps : List Piece) → IsOwnName p x → prefix_len is_name_byte rest ≡ 0
    → Reads p rest left ps → Starts p (x ++ rest) left (name x ∷ ps)
unfolding piece_of
Starts-name p [] rest left ps own stops r = absurd (let no : false ≡ true = own.name.starts in cc)
Starts-name p (b ∷ bs) rest left ps own stops r =
    subst (λ (q : Piece). Starts p (b ∷ (bs ++ rest)) left (q ∷ ps)) (name_is p (b ∷ bs) own.name.free own.free)
    (Starts-token p b bs rest left Name ps (name-front p b bs rest own stops) r)

number_kind : (b n : ℕ) → is_digit b ≡ true → kind_of b n ≡ Number
number_kind b n e =
    ap (λ (x : Bool). cond x (cond (nat_lt 64 n) Bad Name) (cond (is_digit b) Number (cond (n == 0) Bad Symbol)))
    (digit-name_start b e)
    ∙ ap (λ (x : Bool). cond x Number (cond (n == 0) Bad Symbol)) e

number-front : (p : Bool) (b : ℕ) (bs rest : List ℕ) → All (λ d. IsTrue (is_digit d)) (b ∷ bs)
    → prefix_len is_digit rest ≡ 0
    → Token-front p b bs rest Number
unfolding token_length piece_of
number-front p b bs rest digits stops =
    let begins : is_digit b ≡ true = All-head (λ d. IsTrue (is_digit d)) b bs digits in
    let more : prefix_len is_digit (bs ++ rest)
    ≡ length bs = omega (
      arith,
      prefix_len-all is_digit bs rest (All-tail (λ d. IsTrue (is_digit d)) b bs digits),
      stops,
    ) in
    record {
      no_blank = digit-blank b begins;
      counts = digit-counts b begins;
      no_feed = (or_parts (is_feed b) (b == 35) (digit-counts b begins)).0;
      within = prefix_len-all is_in_line (b ∷ bs) rest
          (All-weaker (λ d. IsTrue (is_digit d)) (λ d. IsTrue (is_in_line d)) digit-in_line (b ∷ bs) digits);
      long = ap (λ (x : Bool). cond x (1 + prefix_len is_name_byte (bs ++ rest))
          (cond (is_digit b) (1 + prefix_len is_digit (bs ++ rest)) (symbol_length b (bs ++ rest))))
          (digit-name_start b begins)
          ∙ (ap (λ (x : Bool). cond x (1 + prefix_len is_digit (bs ++ rest)) (symbol_length b (bs ++ rest))) begins
          ∙ omega (arith, more));
      shape = λ at. ap (λ (k : TokenKind). token_of k at (length (b ∷ bs))) (number_kind b (length (b ∷ bs)) begins);
      goes_on = refl;
    }

digits_first : (p : Bool) (ds rest left : List ℕ) (ps : List Piece) → 0 < length ds → All (λ d. IsTrue (is_digit d)) ds
    → prefix_len is_digit rest ≡ 0 → Reads p rest left ps → Starts p (ds ++ rest) left (number (number_of ds) ∷ ps)
unfolding piece_of
digits_first p [] rest left ps some digits stops r = absurd (omega (arith, some))
digits_first p (b ∷ bs) rest left ps some digits stops r =
    Starts-token p b bs rest left Number ps (number-front p b bs rest digits stops) r

-- digits that are this number
pub record AreDigits (n : ℕ) (ds : List ℕ) : Type 0 where
  pub some : 0 < length ds
  pub digits : All (λ d. IsTrue (is_digit d)) ds
  pub value : number_of ds ≡ n

a_digit : (d : ℕ) → d < 10 → is_digit (48 + d) ≡ true
a_digit d lt = grind (arith, nat_tests)

pub AreDigits-decimal : (n : ℕ) → n < 2 ^ 64 → AreDigits n (decimal n)
AreDigits-decimal n small =
    decimal_by_steps AreDigits
    (λ n lt. record {
      some = omega arith;
      digits =
          All-cons (λ d. IsTrue (is_digit d)) (48 + n) [] (a_digit n lt) (All-nil (λ d. IsTrue (is_digit d)));
      value = omega arith;
    })
    (λ n ds _ front.
    record {
      some = omega (arith, length-append ds ((48 + n % 10) ∷ []));
      digits = All-push (λ d. IsTrue (is_digit d)) ds (48 + n % 10) front.digits (a_digit (n % 10) (omega arith));
      value = fold-append (λ n digit. 10 * n + (digit - 48)) 0 ds ((48 + n % 10) ∷ []) ∙ omega (arith, front.value);
    })
    n small

-- a number
pub Starts-number : (p : Bool) (n : ℕ) (rest left : List ℕ) (ps : List Piece) → n < 2 ^ 64
    → prefix_len is_digit rest ≡ 0
    → Reads p rest left ps → Starts p (decimal n ++ rest) left (number n ∷ ps)
Starts-number p n rest left ps small stops r =
    let are = AreDigits-decimal n small in
    subst (λ (m : ℕ). Starts p (decimal n ++ rest) left (number m ∷ ps)) are.value
    (digits_first p (decimal n) rest left ps are.some are.digits stops r)
