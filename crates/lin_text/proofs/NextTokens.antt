-- The token that is found is of its kind, and none is found just where none begins.
use Rattle.std.proofs.Common.{◌≡◌, ℕ, ◌+◌, ◌-◌, ◌<◌, ◌≤◌, zero, suc, Bool, true, false, cond, nat_lt, nat_eq, List, []}
use Rattle.std.proofs.Common.{◌∷◌, length, take, drop, All, IsTrue, refl, sym, ap, subst, ◌∙◌, arith, inl, inr}
use Rattle.std.specs.List.{prefix_len}
use borrow.Author.Tests.{ltb-true, ltb-false}
use Rattle.std.proofs.lemmas.Bool.{false≢true, eqb-true}
use Rattle.std.proofs.lemmas.Bool.Decides.{eqb_tells}
use Rattle.std.proofs.lemmas.List.{drop-drop}
use Rattle.lin_model.specs.Names.{is_name_start, is_name_byte, is_digit}
use Rattle.lin_text.specs.declared.token.Token.{Token}
use Rattle.lin_text.specs.declared.token.TokenKind.{TokenKind}
use Rattle.lin_text.specs.declared.token.TokenKind.TheVariants as kinds
use Rattle.lin_text.specs.Lines.{is_feed, is_blank}
use Rattle.lin_text.specs.Tokens.{IsNameForm, IsNumberForm, IsForm, IsLongest, token_length, symbol_length}
use Rattle.lin_text.specs.Tokens.{kind_of, nothing_at, token_of, token_here, token_from}
use Rattle.lin_text.specs.FoundLaws.{IsOver, BeginsNone, IsOfKind, TokensAreNext}
use Rattle.lin_text.proofs.Longest.{symbol_front, run_passes, takes_the_longest}
use Rattle.lin_text.proofs.SymbolForms.{start-no_digit, no_symbol}

-- there is one longest token
one_longest : (text : List ℕ) (n m : ℕ) → IsLongest text n → IsLongest text m → n ≡ m
one_longest text n m a b =
    elim (nat_lt n m) as (λ c. nat_lt n m ≡ c → n ≡ m) [
      | true ↦ λ e. absurd (a.longest m (ltb-true n m e) b.within b.form)
      | false ↦ λ e. elim (nat_lt m n) as (λ c. nat_lt m n ≡ c → n ≡ m) [
        | true ↦ λ f. absurd (b.longest n (ltb-true m n f) a.within a.form)
        | false ↦ λ f. let le : m ≤ n = ltb-false n m e in let ge : n ≤ m = ltb-false m n f in omega (arith, le, ge)
      ] refl
    ] refl

-- a longest token of at most 64 bytes, or one that is no name, isn't none
some_token : (text : List ℕ) (n : ℕ) → IsLongest text n → (IsNameForm (take n text) → n ≤ 64) → BeginsNone text → ⊥
some_token text n is short (inl none) = none n is.within is.form
some_token text n is short (inr (m, other, form, long)) =
    let same : n ≡ m = one_longest text n m is other in
    omega (arith, same, long, short (subst (λ (k : ℕ). IsNameForm (take k text)) (sym same) form))

-- which form the token has, by its first byte

name_form : (b : ℕ) (bs : List ℕ) (n : ℕ) → is_name_start b ≡ true → IsForm (take n (b ∷ bs)) → 0 < n
    → IsNameForm (take n (b ∷ bs))
name_form b bs zero start form some = absurd (omega (arith, some))
name_form b bs (suc n) start (inl form) some = form
name_form b bs (suc n) start (inr (inl form)) some =
    absurd (false≢true (sym (start-no_digit b start) ∙ form.digits 0 0 (omega arith)))
name_form b bs (suc n) start (inr (inr form)) some = absurd (no_symbol b (take n bs) (inl start) form)

number_form : (b : ℕ) (bs : List ℕ) (n : ℕ) → is_name_start b ≡ false → is_digit b ≡ true → IsForm (take n (b ∷ bs))
    → 0 < n → IsNumberForm (take n (b ∷ bs))
number_form b bs zero no_name digit form some = absurd (omega (arith, some))
number_form b bs (suc n) no_name digit (inl form) some = absurd (false≢true (sym no_name ∙ form.starts))
number_form b bs (suc n) no_name digit (inr (inl form)) some = form
number_form b bs (suc n) no_name digit (inr (inr form)) some = absurd (no_symbol b (take n bs) (inr digit) form)

no_name_form : (b : ℕ) (bs : List ℕ) (n : ℕ) → is_name_start b ≡ false → IsNameForm (take n (b ∷ bs)) → ⊥
no_name_form b bs zero no_name form = omega (arith, form.some)
no_name_form b bs (suc n) no_name form = false≢true (sym no_name ∙ form.starts)

positive : (n : ℕ) → nat_eq n 0 ≡ false → 0 < n
positive n e = elim (eqb_tells n 0) [
  | inl zero_is ↦ absurd (false≢true (sym e ∙ zero_is.0))
  | inr some ↦ omega (arith, some.1)
]

-- a token at a place, at the front of the bytes that stand there
record AtFront (rest : List ℕ) (at : ℕ) (t : Token) : Type 0 where
  from : t.from ≡ at
  order : t.from ≤ t.to
  kind : IsOfKind t.kind rest (t.to - t.from)
  over : IsOver rest → t.kind ≡ kinds.LineEnd
  none : ¬ IsOver rest → BeginsNone rest → t.kind ≡ kinds.Bad

not_over : (b : ℕ) (bs : List ℕ) → is_feed b ≡ false → ¬ IsOver (b ∷ bs)
not_over b bs no_feed (inl e) = cc
not_over b bs no_feed (inr (below, e)) =
    let same : b ≡ 10 = cc in false≢true (sym no_feed ∙ ap is_feed same)

module _ (at b : ℕ) (bs : List ℕ) (no_feed : is_feed b ≡ false) where
  abbrev text : List ℕ
  text = b ∷ bs

  bad : BeginsNone text → AtFront text at (nothing_at kinds.Bad at)
  bad none = record {
    from = refl;
    order = omega arith;
    kind = (omega arith, not_over b bs no_feed, none);
    over = λ o. absurd (not_over b bs no_feed o);
    none = λ _ _. refl;
  }

  taken : (n : ℕ) (kind : TokenKind) (t : Token) → t ≡ record { kind = kind; from = at; to = at + n }
      → IsOfKind kind text n → (BeginsNone text → ⊥) → AtFront text at t
  taken n kind t is of_kind some =
      subst (λ (u : Token). AtFront text at u) (sym is) (record {
        from = refl;
        order = omega arith;
        kind = subst (λ (m : ℕ). IsOfKind kind text m) (let same : n ≡ at + n - at = omega arith in same) of_kind;
        over = λ o. absurd (not_over b bs no_feed o);
        none = λ _ none. absurd (some none);
      })

  by_byte : (n : ℕ) → (0 < n → IsLongest text n) → (n ≡ 0 → (m : ℕ) → m ≤ length text → ¬ IsForm (take m text))
      → (s d : Bool) → is_name_start b ≡ s → is_digit b ≡ d → (s ≡ true → 0 < n) → (d ≡ true → 0 < n)
      → (long zero_long : Bool)
      → nat_lt 64 n ≡ long → nat_eq n 0 ≡ zero_long
      → AtFront text at (token_of (cond s (cond long kinds.Bad kinds.Name)
      (cond d kinds.Number (cond zero_long kinds.Bad kinds.Symbol))) at n)
  by_byte n longest none true d start digit some_s some_d true z long zero_is =
      let is = longest (some_s refl) in
      bad (inr (n, is, name_form b bs n start is.form (some_s refl), ltb-true 64 n long))
  by_byte n longest none true d start digit some_s some_d false z long zero_is =
      let is = longest (some_s refl) in
      let short : n ≤ 64 = ltb-false 64 n long in
      taken n kinds.Name _ refl (is, name_form b bs n start is.form (some_s refl), short)
      (some_token text n is (λ _. short))
  by_byte n longest none false true start digit some_s some_d l z long zero_is =
      let is = longest (some_d refl) in
      taken n kinds.Number _ refl (is, number_form b bs n start digit is.form (some_d refl))
      (some_token text n is (λ f. absurd (no_name_form b bs n start f)))
  by_byte n longest none false false start digit some_s some_d l true long zero_is =
      bad (inl (none (eqb-true n 0 zero_is)))
  by_byte n longest none false false start digit some_s some_d l false long zero_is =
      let is = longest (positive n zero_is) in
      taken n kinds.Symbol _ refl (is, (symbol_front b bs n start digit is.form).1)
      (some_token text n is (λ f. absurd (no_name_form b bs n start f)))

name_some : (b : ℕ) (bs : List ℕ) → is_name_start b ≡ true → 0 < token_length (b ∷ bs)
unfolding token_length
name_some b bs e =
    subst (λ (s : Bool). 0 < cond s (1 + prefix_len is_name_byte bs)
    (cond (is_digit b) (1 + prefix_len is_digit bs) (symbol_length b bs))) (sym e) (omega arith)

digit_some : (b : ℕ) (bs : List ℕ) → is_digit b ≡ true → 0 < token_length (b ∷ bs)
unfolding token_length
digit_some b bs e =
    elim (is_name_start b) as (λ s. 0 < cond s (1 + prefix_len is_name_byte bs)
    (cond (is_digit b) (1 + prefix_len is_digit bs) (symbol_length b bs))) [
      | true ↦ omega arith
      | false ↦ subst (λ (d : Bool). 0 < cond d (1 + prefix_len is_digit bs) (symbol_length b bs)) (sym e) (omega arith)
    ]

at_front : (at : ℕ) (rest : List ℕ) → AtFront rest at (token_here at rest)
unfolding token_here
at_front at [] = record {
  from = refl;
  order = omega arith;
  kind = (omega arith, inl refl);
  over = λ _. refl;
  none = λ some _. absurd (some (inl refl));
}
at_front at (b ∷ bs) =
    elim (is_feed b) as (λ f. is_feed b ≡ f → AtFront (b ∷ bs) at
    (cond f (nothing_at kinds.LineEnd at) (token_of (kind_of b (token_length (b ∷ bs))) at
    (token_length (b ∷ bs))))) [
      | true ↦ λ e. ends (is_line_feed e)
      | false ↦ λ e.
          let n : ℕ = token_length (b ∷ bs) in
          let l = takes_the_longest (b ∷ bs) in
          by_byte at b bs e n l.longest l.none (is_name_start b) (is_digit b) refl refl (name_some b bs)
          (digit_some b bs) (nat_lt 64 n) (nat_eq n 0) refl refl
    ] refl
  where
    is_line_feed : is_feed b ≡ true → b ≡ 10
    is_line_feed e = elim (eqb_tells b 10) [ inl y ↦ y.1 | inr n ↦ absurd (false≢true (sym n.0 ∙ e)) ]

    ends : b ≡ 10 → AtFront (b ∷ bs) at (nothing_at kinds.LineEnd at)
    ends e =
        let over : IsOver (b ∷ bs) = inr (bs, ap (λ (x : ℕ). x ∷ bs) e) in
        record {
          from = refl;
          order = omega arith;
          kind = (omega arith, over);
          over = λ _. refl;
          none = λ some _. absurd (some over);
        }

-- no blank stands behind a run of blanks
no_blank : (bytes : List ℕ) (b : ℕ) (bs : List ℕ) → drop (prefix_len is_blank bytes) bytes ≡ b ∷ bs
    → is_blank b ≡ false
no_blank [] b bs e = absurd (cc)
no_blank (x ∷ xs) b bs e =
    elim (is_blank x) as (λ c. is_blank x ≡ c → drop (cond c (1 + prefix_len is_blank xs) 0) (x ∷ xs) ≡ b ∷ bs
    → is_blank b ≡ false) [
      | true ↦ λ is f. no_blank xs b bs (ap (λ (n : ℕ). drop n (x ∷ xs))
          (let same : suc (prefix_len is_blank xs) ≡ 1 + prefix_len is_blank xs = omega arith in same) ∙ f)
      | false ↦ λ is f. let same : x ≡ b = cc in ap is_blank (sym same) ∙ is
    ] refl e

pub tokens_are_next : TokensAreNext
unfolding token_from
tokens_are_next bytes at =
    let blanks : ℕ = prefix_len is_blank (drop at bytes) in
    let from : ℕ = at + blanks in
    let t : Token = token_here from (drop from bytes) in
    let f = at_front from (drop from bytes) in
    let there : drop t.from bytes ≡ drop from bytes = ap (λ (m : ℕ). drop m bytes) f.from in
    let run : t.from - at ≡ blanks = omega (arith, f.from) in
    record {
      ahead = omega (arith, f.from);
      blanks = subst (λ (k : ℕ). All (λ b. IsTrue (is_blank b)) (take k (drop at bytes))) (sym run)
          (run_passes is_blank (drop at bytes));
      stops = λ b bs e. no_blank (drop at bytes) b bs (drop-drop blanks at bytes ∙ sym there ∙ e);
      order = f.order;
      kind = subst (λ (rest : List ℕ). IsOfKind t.kind rest (t.to - t.from)) (sym there) f.kind;
      over = λ o. f.over (subst IsOver there o);
      none = λ some none. f.none (λ o. some (subst IsOver (sym there) o)) (subst BeginsNone there none);
    }
