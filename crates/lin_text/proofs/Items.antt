-- The items of a side: a quantity, behind a minus of its own or none.
use Rattle.std.proofs.Common.{◌≡◌, ℕ, ◌<◌, suc, Bool, true, false, cond, not, List, [], ◌∷◌, ◌++◌, Some, None, refl}
use Rattle.std.proofs.Common.{sym, ap, subst, ◌∙◌, arith, ◌*ℤ◌}
use Rattle.std.proofs.lemmas.Int.{ints}
use Rattle.lin_model.specs.Terms.{PlainTerm}
use Rattle.lin_text.specs.declared.class.Lexeme.{Lexeme}
use Rattle.lin_text.specs.Pieces.{Piece, name, number, minus, PlainToken, PlainLine, pieces, is_last}
use Rattle.lin_text.specs.Classes.{class_of, shown}
use Rattle.lin_text.specs.Grammar.{Item, quantity_size, item_pieces, signed, IsTerm, Naming}
use Rattle.lin_text.specs.Faults.{known}
use Rattle.lin_text.specs.Reading.{lexeme_at, is_minus, is_times, is_name_class, quantity_at, item_from}
use Rattle.lin_text.proofs.Places.{Place, item, size, after, next}
use Rattle.lin_text.proofs.Passing.{At, At-next, IsRoom, sign_passed}
use Rattle.lin_text.proofs.Outcomes.{Token, token_of, Gets-one, Outcome, Outcome-after, Outcome-weaker}
use Rattle.lin_text.proofs.Quantities.{IsQuantityAt, later_room, is_number, quantity_out}

-- which term of a side an item is
abbrev pub IsItemAt : Bool → List ℕ → Naming → Bool → Bool → ℕ → PlainTerm → ℕ → List Piece → Place → Type 0
IsItemAt p bytes names subtracted l k term to ps s =
    (i : Item) × (bare : Bool) × (ps ≡ item_pieces i) × IsTerm names subtracted i term × (s ≡ after l (suc k) bare)
    × (bare ≡ true → is_times (lexeme_at p bytes to).class ≡ false)

plain_factor : (a : Bool) (n : ℕ) → signed a n ≡ signed a 1 *ℤ signed false n
plain_factor true n = omega (arith, ints)
plain_factor false n = omega (arith, ints)

minus_factor : (a : Bool) (n : ℕ) → signed (not a) n ≡ signed a 1 *ℤ signed true n
minus_factor true n = omega (arith, ints)
minus_factor false n = omega (arith, ints)

other_item : (l : Bool) (k : ℕ) (q : Piece) → is_minus (class_of q) ≡ false → is_number q ≡ false
    → is_name_class (class_of q) ≡ false → next (item l k) q ≡ None
other_item l k minus e f g = absurd (cc)
other_item l k (number n) e f g = absurd (cc)
other_item l k (name x) e f g = absurd (cc)
other_item l k _ e f g = refl

other_size : (l : Bool) (k : ℕ) (q : Piece) → is_number q ≡ false → is_name_class (class_of q) ≡ false
    → next (size l k) q ≡ None
other_size l k (number n) f g = absurd (cc)
other_size l k (name x) f g = absurd (cc)
other_size l k _ f g = refl

not_full : (l : Bool) (k : ℕ) → k < 64 → (r : Bool) → next (item l k) minus ≡ Some (size r 64) → ⊥
not_full l k lt r e = let same : k ≡ 64 = cc in absurd (omega arith)

-- an item
module _ (p : Bool) (bytes : List ℕ) (above : List PlainLine) (front : List Piece) (at : ℕ) (ts : List PlainToken)
    (l : Bool) (k : ℕ) (few : k < 64) (here : At false front (item l k)) (subtracted : Bool) where
  abbrev Means : PlainTerm → ℕ → List Piece → Place → Type 0
  Means = IsItemAt p bytes (known above) subtracted l k

  negated_out : (t : Token p bytes at ts) → IsRoom above front t.token.piece → t.token.piece ≡ minus
      → Outcome p bytes above false front ts Means
      (quantity_at p bytes (known above) (not subtracted) (lexeme_at p bytes t.token.to))
  negated_out t room is =
      let first = Gets-one p bytes above false front at ts t (size l k)
      (sign_passed above false front (item l k) (size l k) t.token.piece (pieces t.more) here room
      (ap (next (item l k)) is) (not_full l k few)
      (λ m same. let no : minus ≡ number m = sym is ∙ same in cc)
      (λ x same. let no : minus ≡ name x = sym is ∙ same in cc))
      (At-next false front (item l k) (size l k) t.token.piece here room.vars (ap (next (item l k)) is))
      (ap is_last is) in
      let second = token_of p bytes t.token.to first.rest first.there in
      Outcome-after p bytes above false front at ts Means t.token.to (size l k) (t.token.piece ∷ []) _ first
      (Outcome-weaker p bytes above false (front ++ t.token.piece ∷ []) first.rest
      (IsQuantityAt p bytes (known above) (not subtracted) l k)
      (λ b to qs u. Means b to ((t.token.piece ∷ []) ++ qs) u) _
      (λ b to qs u m. (
        record { negative = true; quantity = m.0 },
        m.1,
        ap (λ (q : Piece). q ∷ qs) is
            ∙ ap (λ (rs : List Piece). minus ∷ rs) m.2,
        record { factor = m.3 ∙ minus_factor subtracted (quantity_size m.0); on = m.4; fits = m.5 },
        m.6,
        m.7,
      ))
      (subst (λ (x : Lexeme). Outcome p bytes above false (front ++ t.token.piece ∷ []) first.rest
      (IsQuantityAt p bytes (known above) (not subtracted) l k)
      (quantity_at p bytes (known above) (not subtracted) x)) (sym second.shows)
      (quantity_out p bytes above (front ++ t.token.piece ∷ []) t.token.to first.rest second second.on
      (later_room above front t.token.piece second.token.piece) (size l k) l k first.place (λ r e. cc)
      (not subtracted) (λ n. refl) (λ x. refl) (λ q same f g. other_size l k q f g))))

  plain_out : (t : Token p bytes at ts) → IsRoom above front t.token.piece → is_minus (class_of t.token.piece) ≡ false
      → Outcome p bytes above false front ts Means
      (quantity_at p bytes (known above) subtracted (shown t.token))
  plain_out t room no_minus =
      Outcome-weaker p bytes above false front ts (IsQuantityAt p bytes (known above) subtracted l k) Means
      (quantity_at p bytes (known above) subtracted (shown t.token))
      (λ b to qs u m. (
        record { negative = false; quantity = m.0 },
        m.1,
        m.2,
        record { factor = m.3 ∙ plain_factor subtracted (quantity_size m.0); on = m.4; fits = m.5 },
        m.6,
        m.7,
      ))
      (quantity_out p bytes above front at ts t t.on room (item l k) l k here (not_full l k few) subtracted (λ n. refl)
      (λ x. refl) (λ q same f g. other_item l k q (ap (λ (r : Piece). is_minus (class_of r)) (sym same)
      ∙ no_minus) f g))

  by_piece : (t : Token p bytes at ts) → IsRoom above front t.token.piece → (q : Piece) → t.token.piece ≡ q → (b : Bool)
      → is_minus (class_of q) ≡ b → Outcome p bytes above false front ts Means
      (cond b (quantity_at p bytes (known above) (not subtracted) (lexeme_at p bytes t.token.to))
      (quantity_at p bytes (known above) subtracted (shown t.token)))
  by_piece t room q is false e = plain_out t room (ap (λ (r : Piece). is_minus (class_of r)) is ∙ e)
  by_piece t room minus is true e = negated_out t room is
  by_piece t room _ is true e = absurd (cc)

  pub item_out : (t : Token p bytes at ts) → IsRoom above front t.token.piece
      → Outcome p bytes above false front ts Means (item_from p bytes (known above) subtracted (shown t.token))
  unfolding item_from
  item_out t room = by_piece t room t.token.piece refl (is_minus (class_of t.token.piece)) refl
