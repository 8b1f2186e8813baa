-- The bounds of a declaration, token by token.
use Rattle.std.proofs.Common.{◌≡◌, ℕ, ◌^◌, ◌<◌, ◌≤◌, min, Bool, true, false, cond, nat_lt, List, [], ◌∷◌, ◌++◌}
use Rattle.std.proofs.Common.{Some, None, refl, sym, ap, subst, ◌∙◌, arith, ℤ, pos, neg_ℤ, inl, inr}
use Rattle.std.specs.Prelude.{Ok, Err, MatchBool}
use borrow.Author.Tests.{ltb-true, ltb-false}
use Rattle.lin_text.specs.declared.fault.TextKind.TheVariants.{NumberTooLarge}
use Rattle.lin_text.specs.declared.class.Lexeme.{Lexeme}
use Rattle.lin_text.specs.Pieces.{Piece, name, number, minus, PlainToken, PlainLine, pieces, AreTokens, is_last}
use Rattle.lin_text.specs.Classes.{class_of, shown}
use Rattle.lin_text.specs.Grammar.{Integer, integer_pieces, integer_value}
use Rattle.lin_text.specs.Faults.{IsTooLarge, begins_variable}
use Rattle.lin_text.specs.Reading.{Read, lexeme_at, fault_at, refusal, refusal_kind, bound_by, bound_of, is_minus}
use Rattle.lin_text.specs.Reading.{integer_at, ◌>>=◌}
use Rattle.lin_text.proofs.Places.{Place, low, low_number, high, high_number, var_end, size, next}
use Rattle.lin_text.proofs.Passing.{At, At-next, IsRoom, not-nil, refused, small_rank, passed}
use Rattle.lin_text.proofs.Outcomes.{Token, token_of, Gets, Gets-one, Fails, Fails-one, Outcome, Outcome-after}
use Rattle.lin_text.proofs.Outcomes.{Outcome-map, Outcome-weaker}

abbrev pub is_number : Piece → Bool
is_number (number n) = true
is_number _ = false

abbrev pub is_minus_piece : Piece → Bool
is_minus_piece minus = true
is_minus_piece _ = false

-- where a bound begins, where one is behind its minus, and where one ends
pub record AreBoundPlaces (s m u : Place) : Type 0 where
  pub number_s : (n : ℕ) → next s (number n) ≡ Some u
  pub minus_s : next s minus ≡ Some m
  pub number_m : (n : ℕ) → next m (number n) ≡ Some u
  pub other_s : (q : Piece) → is_number q ≡ false → is_minus_piece q ≡ false → next s q ≡ None
  pub other_m : (q : Piece) → is_number q ≡ false → next m q ≡ None
  pub room_s : (l : Bool) → next s minus ≡ Some (size l 64) → ⊥
  pub room_m : (l : Bool) → next m minus ≡ Some (size l 64) → ⊥

other_low : (q : Piece) → is_number q ≡ false → is_minus_piece q ≡ false → next low q ≡ None
other_low (number n) e f = absurd (cc)
other_low minus e f = absurd (cc)
other_low _ e f = refl

other_low_number : (q : Piece) → is_number q ≡ false → next low_number q ≡ None
other_low_number (number n) e = absurd (cc)
other_low_number _ e = refl

other_high : (q : Piece) → is_number q ≡ false → is_minus_piece q ≡ false → next high q ≡ None
other_high (number n) e f = absurd (cc)
other_high minus e f = absurd (cc)
other_high _ e f = refl

other_high_number : (q : Piece) → is_number q ≡ false → next high_number q ≡ None
other_high_number (number n) e = absurd (cc)
other_high_number _ e = refl

pub low_places : AreBoundPlaces low low_number high
low_places = record {
  number_s = λ n. refl;
  minus_s = refl;
  number_m = λ n. refl;
  other_s = other_low;
  other_m = other_low_number;
  room_s = λ l e. cc;
  room_m = λ l e. cc;
}

pub high_places : AreBoundPlaces high high_number var_end
high_places = record {
  number_s = λ n. refl;
  minus_s = refl;
  number_m = λ n. refl;
  other_s = other_high;
  other_m = other_high_number;
  room_s = λ l e. cc;
  room_m = λ l e. cc;
}

-- what a bound's number means
abbrev pub IsBound : Place → ℤ → ℕ → List Piece → Place → Type 0
IsBound u z to ps s = (n : ℕ) × (ps ≡ number n ∷ []) × (z ≡ pos n) × (n ≤ 2 ^ 31) × (s ≡ u)

abbrev pub IsIntegerAt : Place → ℤ → ℕ → List Piece → Place → Type 0
IsIntegerAt u z to ps s = (i : Integer) × (ps ≡ integer_pieces i) × (z ≡ integer_value i) × (i.size ≤ 2 ^ 31) × (s ≡ u)

over_limit : (n : ℕ) → nat_lt (2 ^ 31) (min n (2 ^ 50)) ≡ true → 2 ^ 31 < n
over_limit n e = omega (arith, ltb-true (2 ^ 31) (min n (2 ^ 50)) e)

within_limit : (n : ℕ) → nat_lt (2 ^ 31) (min n (2 ^ 50)) ≡ false → n ≤ 2 ^ 31
within_limit n e = omega (arith, ltb-false (2 ^ 31) (min n (2 ^ 50)) e)

same_number : (n : ℕ) → n ≤ 2 ^ 31 → min n (2 ^ 50) ≡ n
same_number n le = omega arith

pub not_too_large : (front : List Piece) (n : ℕ) (rest : List Piece) → begins_variable front ≡ true → n ≤ 2 ^ 31
    → IsTooLarge front n rest → ⊥
not_too_large front n rest v le (inl big) =
    let lt : 2 ^ 31 < n = subst (λ (b : Bool). MatchBool b (2 ^ 31 < n) (2 ^ 40 < n)) v big in omega arith
not_too_large front n rest v le (inr big) = let lt : 2 ^ 31 < n = big.0 in omega arith

module _ (p : Bool) (bytes : List ℕ) (above : List PlainLine) (front : List Piece) (at : ℕ) (ts : List PlainToken)
    (some : front ≡ [] → ⊥) where
  abbrev pub room : (q : Piece) → IsRoom above front q
  room q = record { vars = λ e _. some e; atoms = λ e _ _. some e }

  abbrev pub refuse : (w : Place) → At true front w → (t : Token p bytes at ts) → next w t.token.piece ≡ None
      → Fails above front ts (refusal (shown t.token))
  refuse w here t none =
      Fails-one p bytes above true front at ts t (refusal_kind (class_of t.token.piece))
      (refused above true front w t.token.piece (pieces t.more) here (room t.token.piece) none)

  -- a number where a bound's may stand
  pub bound_out : (w u : Place) → At true front w → (t : Token p bytes at ts) → ((n : ℕ) → next w (number n) ≡ Some u)
      → (is_number t.token.piece ≡ false → next w t.token.piece ≡ None)
      → ((l : Bool) → next w minus ≡ Some (size l 64) → ⊥)
      → Outcome p bytes above true front ts (IsBound u) (bound_of (shown t.token))
  unfolding bound_of
  bound_out w u here t num other space = by_piece t.token.piece refl
    where
      by_number : (n : ℕ) → t.token.piece ≡ number n → (b : Bool) → nat_lt (2 ^ 31) (min n (2 ^ 50)) ≡ b
          → Outcome p bytes above true front ts (IsBound u)
          (cond b (Err (fault_at NumberTooLarge t.token.from)) (Ok (pos (min n (2 ^ 50)), t.token.to)))
      by_number n is true e =
          Fails-one p bytes above true front at ts t NumberTooLarge (record {
            stands = (
              n,
              is,
              inl (subst (λ (b : Bool). MatchBool b (2 ^ 31 < n) (2 ^ 40 < n)) (sym here.kind)
                  (over_limit n e)),
            );
            least = small_rank above true front w u t.token.piece (pieces t.more) here (room t.token.piece)
                (ap (next w) is ∙ num n) space;
          })
      by_number n is false e =
          let small = within_limit n e in (
            t.token.piece ∷ [],
            u,
            (n, ap (λ (q : Piece). q ∷ []) is, ap pos (same_number n small), small, refl),
            Gets-one p bytes above true front at ts t u
                (passed above true front w u t.token.piece (pieces t.more) here (room t.token.piece) (ap (next w) is
                ∙ num n) space
                (λ m same big. not_too_large front m (pieces t.more) here.kind (let eq : m ≡ n = cc in omega arith) big)
                (λ x same. let no : number n ≡ name x = sym is ∙ same in absurd (cc))
                (λ x same. let no : number n ≡ name x = sym is ∙ same in absurd (cc)))
                (At-next true front w u t.token.piece here (λ e _. some e) (ap (next w) is ∙ num n))
                (ap is_last is),
          )

      by_piece : (q : Piece) → t.token.piece ≡ q
          → Outcome p bytes above true front ts (IsBound u) (bound_by (class_of q) (shown t.token))
      by_piece (number n) is = by_number n is (nat_lt (2 ^ 31) (min n (2 ^ 50))) refl
      by_piece _ is = refuse w here t (other (ap is_number is))

-- an integer where one may stand
module _ (p : Bool) (bytes : List ℕ) (above : List PlainLine) (front : List Piece) (at : ℕ) (ts : List PlainToken)
    (some : front ≡ [] → ⊥) (s m u : Place) (places : AreBoundPlaces s m u) (here : At true front s) where
  by_lexeme : Lexeme → Read (ℤ × ℕ)
  by_lexeme l = cond (is_minus l.class) (bound_of (lexeme_at p bytes l.to) >>= λ n. Ok (neg_ℤ n.0, n.1)) (bound_of l)

  plain : (t : Token p bytes at ts) → is_minus_piece t.token.piece ≡ false
      → Outcome p bytes above true front ts (IsIntegerAt u) (bound_of (shown t.token))
  plain t no_minus =
      Outcome-weaker p bytes above true front ts (IsBound u) (IsIntegerAt u) (bound_of (shown t.token))
      (λ z to ps w b. (record { negative = false; size = b.0 }, b.1, b.2, b.3, b.4))
      (bound_out p bytes above front at ts some s u here t places.number_s
      (λ e. places.other_s t.token.piece e no_minus) places.room_s)

  sign_got : (t : Token p bytes at ts) → t.token.piece ≡ minus
      → Gets p bytes above true front ts t.token.to m (t.token.piece ∷ [])
  sign_got t is =
      Gets-one p bytes above true front at ts t m
      (passed above true front s m t.token.piece (pieces t.more) here
      (room p bytes above front at ts some t.token.piece) (ap (next s) is ∙ places.minus_s) places.room_s
      (λ n same. let no : minus ≡ number n = sym is ∙ same in absurd (cc))
      (λ x same. let no : minus ≡ name x = sym is ∙ same in absurd (cc))
      (λ x same. let no : minus ≡ name x = sym is ∙ same in absurd (cc)))
      (At-next true front s m t.token.piece here (λ e _. some e) (ap (next s) is ∙ places.minus_s))
      (ap is_last is)

  negated : (t : Token p bytes at ts) → t.token.piece ≡ minus
      → Outcome p bytes above true front ts (IsIntegerAt u)
      (bound_of (lexeme_at p bytes t.token.to) >>= λ n. Ok (neg_ℤ n.0, n.1))
  negated t is =
      let got = sign_got t is in
      let next_token = token_of p bytes t.token.to got.rest got.there in
      Outcome-after p bytes above true front at ts (IsIntegerAt u) t.token.to m (t.token.piece ∷ []) _ got
      (Outcome-map p bytes above true (front ++ t.token.piece ∷ []) got.rest (IsBound u)
      (λ z to qs w. IsIntegerAt u z to ((t.token.piece ∷ []) ++ qs) w) neg_ℤ
      (bound_of (lexeme_at p bytes t.token.to))
      (λ z to qs w b. (
        record { negative = true; size = b.0 },
        ap (λ (q : Piece). q ∷ qs) is
            ∙ ap (λ (rs : List Piece). minus ∷ rs) b.1,
        ap neg_ℤ b.2,
        b.3,
        b.4,
      ))
      (subst (λ (l : Lexeme). Outcome p bytes above true (front ++ t.token.piece ∷ []) got.rest (IsBound u)
      (bound_of l)) (sym next_token.shows)
      (bound_out p bytes above (front ++ t.token.piece ∷ []) t.token.to got.rest
      (not-nil front t.token.piece) m u got.place next_token places.number_m
      (λ e. places.other_m next_token.token.piece e) places.room_m)))

  by_piece : (t : Token p bytes at ts) → (q : Piece) → t.token.piece ≡ q
      → Outcome p bytes above true front ts (IsIntegerAt u) (by_lexeme (shown t.token))
  unfolding by_lexeme
  by_piece t minus is = subst (λ (b : Bool).
      Outcome p bytes above true front ts (IsIntegerAt u)
      (cond b (bound_of (lexeme_at p bytes t.token.to) >>= λ n. Ok (neg_ℤ n.0, n.1)) (bound_of (shown t.token))))
      (sym (ap (λ (q : Piece). is_minus (class_of q)) is)) (negated t is)
  by_piece t _ is = subst (λ (b : Bool). Outcome p bytes above true front ts (IsIntegerAt u)
      (cond b (bound_of (lexeme_at p bytes t.token.to) >>= λ n. Ok (neg_ℤ n.0, n.1)) (bound_of (shown t.token))))
      (sym (ap (λ (q : Piece). is_minus (class_of q)) is)) (plain t (ap is_minus_piece is))

  pub integer_out : AreTokens p bytes at ts → Outcome p bytes above true front ts (IsIntegerAt u)
      (integer_at p bytes at)
  unfolding integer_at by_lexeme
  integer_out are =
      let t = token_of p bytes at ts are in
      subst (λ (l : Lexeme). Outcome p bytes above true front ts (IsIntegerAt u) (by_lexeme l)) (sym t.shows)
      (by_piece t t.token.piece refl)
