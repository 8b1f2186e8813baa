-- The quantity of an item, token by token: a number, a name, or a number times a name.
use Rattle.std.proofs.Common.{◌≡◌, ℕ, ◌^◌, ◌<◌, ◌≤◌, min, suc, Bool, true, false, cond, nat_lt, List, [], ◌∷◌}
use Rattle.std.proofs.Common.{◌++◌, Option, Some, None, refl, sym, ap, subst, ◌∙◌, arith, ℤ, inl, inr}
use Rattle.std.specs.Prelude.{Ok, Err, MatchBool, unsigned_abs}
use Rattle.std.proofs.lemmas.Int.{ints}
use borrow.Author.Tests.{ltb-true, ltb-false}
use Rattle.lin_model.specs.Terms.{PlainTerm, TermFits}
use Rattle.lin_text.specs.declared.fault.TextKind.TheVariants.{NumberTooLarge}
use Rattle.lin_text.specs.declared.class.Lexeme.{Lexeme}
use Rattle.lin_text.specs.Pieces.{Piece, name, number, minus, times, PlainToken, PlainLine, pieces, AreTokens, is_last}
use Rattle.lin_text.specs.Classes.{class_of, shown}
use Rattle.lin_text.specs.Grammar.{Quantity, constant, multiple, single, quantity_pieces, quantity_size, signed, IsOn}
use Rattle.lin_text.specs.Grammar.{Naming}
use Rattle.lin_text.specs.Faults.{IsTooLarge, begins_times, known}
use Rattle.lin_text.specs.Reading.{Read, lexeme_at, fault_at, is_times, is_name_class}
use Rattle.lin_text.specs.Reading.{variable_of, number_at, quantity_by, quantity_at}
use Rattle.lin_text.proofs.Places.{Place, size, after, factor, next}
use Rattle.lin_text.proofs.Passing.{At, At-next, IsRoom, NoFault, not-nil, small_rank, passed}
use Rattle.lin_text.proofs.Passing.{sign_passed}
use Rattle.lin_text.proofs.Outcomes.{Token, token_of, Gets, Gets-one, Fails, Fails-one, Outcome, Outcome-after}
use Rattle.lin_text.proofs.Outcomes.{Outcome-weaker}
use Rattle.lin_text.proofs.NamedItems.{IsNamed, name_out, refuse, variable_out}

-- a term's factor, and which quantity it is; behind a number alone no `*` comes
abbrev pub IsQuantityAt : Bool → List ℕ → Naming → Bool → Bool → ℕ → PlainTerm → ℕ → List Piece → Place → Type 0
IsQuantityAt p bytes names negative l n term to ps s =
    (q : Quantity) × (bare : Bool) × (ps ≡ quantity_pieces q) × (term.factor ≡ signed negative (quantity_size q))
    × IsOn names q term.var × TermFits term × (s ≡ after l (suc n) bare)
    × (bare ≡ true → is_times (lexeme_at p bytes to).class ≡ false)

fits_of : (f : ℤ) (v : Option ℕ) (negative : Bool) (n m : ℕ) → f ≡ signed negative n → n ≤ m → unsigned_abs f ≤ m
fits_of f v true n m e le = rw e (omega (arith, ints))
fits_of f v false n m e le = rw e (omega (arith, ints))

other_factor : (l : Bool) (n : ℕ) (q : Piece) → is_name_class (class_of q) ≡ false → next (factor l n) q ≡ None
other_factor l n (name x) e = absurd (cc)
other_factor l n _ e = refl

times-begins : (p : Bool) (bytes : List ℕ) (at : ℕ) (ts : List PlainToken) → AreTokens p bytes at ts
    → begins_times (pieces ts) ≡ is_times (lexeme_at p bytes at).class
times-begins p bytes at ts are =
    let t = token_of p bytes at ts are in
    ap (λ (us : List PlainToken). begins_times (pieces us)) t.split ∙ by_piece t.token.piece (pieces t.more)
    ∙ ap (λ (x : Lexeme). is_times x.class) (sym t.shows)
  where
    by_piece : (q : Piece) (qs : List Piece) → begins_times (q ∷ qs) ≡ is_times (class_of q)
    by_piece times qs = refl
    by_piece _ qs = refl

over_31 : (n : ℕ) → nat_lt (2 ^ 31) (min n (2 ^ 50)) ≡ true → 2 ^ 31 < n
over_31 n e = omega (arith, ltb-true (2 ^ 31) (min n (2 ^ 50)) e)

over_40 : (n : ℕ) → nat_lt (2 ^ 40) (min n (2 ^ 50)) ≡ true → 2 ^ 40 < n
over_40 n e = omega (arith, ltb-true (2 ^ 40) (min n (2 ^ 50)) e)

within_31 : (n : ℕ) → nat_lt (2 ^ 31) (min n (2 ^ 50)) ≡ false → n ≤ 2 ^ 31
within_31 n e = omega (arith, ltb-false (2 ^ 31) (min n (2 ^ 50)) e)

within_40 : (n : ℕ) → nat_lt (2 ^ 40) (min n (2 ^ 50)) ≡ false → n ≤ 2 ^ 40
within_40 n e = omega (arith, ltb-false (2 ^ 40) (min n (2 ^ 50)) e)

times-only : (q : Piece) → is_times (class_of q) ≡ true → q ≡ times
times-only times e = refl
times-only _ e = absurd (cc)

-- the line has begun
abbrev pub later_room : (above : List PlainLine) (front : List Piece) (q r : Piece) → IsRoom above (front ++ q ∷ []) r
later_room above front q r = record { vars = λ e _. not-nil front q e; atoms = λ e _ _. not-nil front q e }

-- a number where an item's may stand
module _ (p : Bool) (bytes : List ℕ) (above : List PlainLine) (front : List Piece) (at : ℕ) (ts : List PlainToken)
    (t : Token p bytes at ts) (room : IsRoom above front t.token.piece) (w : Place) (l : Bool) (k : ℕ)
    (here : At false front w) (n : ℕ) (is : t.token.piece ≡ number n)
    (some : next w (number n) ≡ Some (after l (suc k) true)) (space : (r : Bool) → next w minus ≡ Some (size r 64)
    → ⊥) (negative : Bool) where
  abbrev pub names : Naming
  names = known above

  abbrev pub capped : ℕ
  capped = min n (2 ^ 50)

  abbrev pub Goal : Read (PlainTerm × ℕ) → Type 0
  Goal r = Outcome p bytes above false front ts (IsQuantityAt p bytes names negative l k) r

  number_passed : (IsTooLarge front n (pieces t.more) → ⊥) → NoFault above front t.token.piece (pieces t.more)
  number_passed small =
      passed above false front w (after l (suc k) true) t.token.piece (pieces t.more) here room (ap (next w) is
      ∙ some) space
      (λ m same big. let eq : m ≡ n = (let e : number m ≡ number n = sym same ∙ is in cc) in
      small (subst (λ (i : ℕ). IsTooLarge front i (pieces t.more)) eq big))
      (λ x same. let no : number n ≡ name x = sym is ∙ same in absurd (cc))
      (λ x same. let no : number n ≡ name x = sym is ∙ same in absurd (cc))

  too_large : IsTooLarge front n (pieces t.more) → Fails above front ts (fault_at NumberTooLarge t.token.from)
  too_large big =
      Fails-one p bytes above false front at ts t NumberTooLarge (record {
        stands = (n, is, big);
        least = small_rank above false front w (after l (suc k) true) t.token.piece (pieces t.more) here room
            (ap (next w) is ∙ some) space;
      })

  got : (IsTooLarge front n (pieces t.more) → ⊥)
      → Gets p bytes above false front ts t.token.to (after l (suc k) true) (t.token.piece ∷ [])
  got small = Gets-one p bytes above false front at ts t (after l (suc k) true) (number_passed small)
      (At-next false front w (after l (suc k) true) t.token.piece here room.vars (ap (next w) is ∙ some))
      (ap is_last is)

  constant_out : is_times (lexeme_at p bytes t.token.to).class ≡ false → begins_times (pieces t.more) ≡ false
      → (b : Bool) → nat_lt (2 ^ 40) capped ≡ b
      → Goal (cond b (Err (fault_at NumberTooLarge t.token.from))
      (Ok (record { factor = signed negative capped; var = None }, t.token.to)))
  constant_out alone no_times true e =
      too_large (inl (subst (λ (b : Bool). MatchBool b (2 ^ 31 < n) (2 ^ 40 < n)) (sym here.kind) (over_40 n e)))
  constant_out alone no_times false e =
      let small = within_40 n e in
      let same : capped ≡ n = omega arith in (
        t.token.piece ∷ [],
        after l (suc k) true,
        (
          constant n,
          true,
          ap (λ (q : Piece). q ∷ []) is,
          ap (signed negative) same,
          refl,
          fits_of (signed negative capped) None negative capped (2 ^ 40) refl (omega arith),
          refl,
          λ _. alone,
        ),
        got (not_large small no_times),
      )
    where
      not_large : n ≤ 2 ^ 40 → begins_times (pieces t.more) ≡ false → IsTooLarge front n (pieces t.more) → ⊥
      not_large small alone (inl big) =
          let lt : 2 ^ 40 < n = subst (λ (b : Bool). MatchBool b (2 ^ 31 < n) (2 ^ 40 < n)) here.kind big in omega arith
      not_large small alone (inr big) = let no : false ≡ true = sym alone ∙ big.1 in absurd (cc)

  within_limit : n ≤ 2 ^ 31 → IsTooLarge front n (pieces t.more) → ⊥
  within_limit small (inl big) =
      let lt : 2 ^ 40 < n = subst (λ (b : Bool). MatchBool b (2 ^ 31 < n) (2 ^ 40 < n)) here.kind big in omega arith
  within_limit small (inr big) = let lt : 2 ^ 31 < n = big.0 in omega arith

  product_means : (x y : Piece) (term : PlainTerm) (to : ℕ) (ps : List Piece) (s : Place) → n ≤ 2 ^ 31 → x ≡ number n
      → y ≡ times → IsNamed names (signed negative capped) (after l (suc k) false) term to ps s
      → IsQuantityAt p bytes names negative l k term to ((x ∷ []) ++ ((y ∷ []) ++ ps)) s
  product_means x y term to ps s small isx isy m =
      let same : capped ≡ n = omega arith in (
        multiple n m.0,
        false,
        ap (λ (q : Piece). q ∷ y ∷ ps) isx ∙ ap (λ (q : Piece). number n ∷ q ∷ ps) isy
            ∙ ap (λ (qs : List Piece). number n ∷ times ∷ qs) m.2,
        ap (λ (u : PlainTerm). u.factor) m.3 ∙ ap (signed negative) same,
        (m.1, ap (λ (u : PlainTerm). u.var) m.3, m.4),
        subst (λ (u : PlainTerm). TermFits u) (sym m.3)
            (fits_of (signed negative capped) (Some m.1) negative capped (2 ^ 31) refl (omega arith)),
        m.5,
        λ e. absurd (cc),
      )

  product_out : is_times (lexeme_at p bytes t.token.to).class ≡ true → begins_times (pieces t.more) ≡ true → (b : Bool)
      → nat_lt (2 ^ 31) capped ≡ b → Goal (cond b (Err (fault_at NumberTooLarge t.token.from))
      (variable_of bytes names (lexeme_at p bytes (lexeme_at p bytes t.token.to).to) (signed negative capped)))
  product_out follows there true e = too_large (inr (over_31 n e, there))
  product_out follows there false e =
      let small = within_31 n e in
      let first = got (within_limit small) in
      let sign = token_of p bytes t.token.to first.rest first.there in
      let isy : sign.token.piece ≡ times = times-only sign.token.piece
      (ap (λ (x : Lexeme). is_times x.class) (sym sign.shows) ∙ follows) in
      let second = Gets-one p bytes above false (front ++ t.token.piece ∷ []) t.token.to first.rest sign
      (factor l (suc k))
      (sign_passed above false (front ++ t.token.piece ∷ []) (after l (suc k) true) (factor l (suc k)) sign.token.piece
      (pieces sign.more) first.place (later_room above front t.token.piece sign.token.piece)
      (ap (next (after l (suc k) true)) isy) (λ r no. cc)
      (λ m same. let no : times ≡ number m = sym isy ∙ same in cc)
      (λ x same. let no : times ≡ name x = sym isy ∙ same in cc))
      (At-next false (front ++ t.token.piece ∷ []) (after l (suc k) true)
      (factor l (suc k)) sign.token.piece first.place (λ no _. not-nil front t.token.piece no)
      (ap (next (after l (suc k) true)) isy))
      (ap is_last isy) in
      let named = token_of p bytes sign.token.to second.rest second.there in
      Outcome-after p bytes above false front at ts (IsQuantityAt p bytes names negative l k) t.token.to
      (after l (suc k) true) (t.token.piece ∷ []) _ first
      (Outcome-after p bytes above false (front ++ t.token.piece ∷ []) t.token.to first.rest
      (λ b to qs u. IsQuantityAt p bytes names negative l k b to ((t.token.piece ∷ []) ++ qs) u) sign.token.to
      (factor l (suc k)) (sign.token.piece ∷ []) _ second
      (Outcome-weaker p bytes above false ((front ++ t.token.piece ∷ []) ++ sign.token.piece ∷ []) second.rest
      (IsNamed names (signed negative capped) (after l (suc k) false))
      (λ b to qs u. IsQuantityAt p bytes names negative l k b to
      ((t.token.piece ∷ []) ++ ((sign.token.piece ∷ []) ++ qs)) u) _
      (λ b to qs u m. product_means t.token.piece sign.token.piece b to qs u small is isy m)
      (subst (λ (x : Lexeme). Outcome p bytes above false
      ((front ++ t.token.piece ∷ []) ++ sign.token.piece ∷ []) second.rest
      (IsNamed names (signed negative capped) (after l (suc k) false))
      (variable_of bytes names x (signed negative capped)))
      (sym named.shows ∙ ap (λ (x : Lexeme). lexeme_at p bytes x.to) (sym sign.shows))
      (variable_out p bytes above ((front ++ t.token.piece ∷ [])
      ++ sign.token.piece ∷ []) sign.token.to second.rest named
      (later_room above (front ++ t.token.piece ∷ []) sign.token.piece named.token.piece) (factor l (suc k))
      (after l (suc k) false) second.place (λ x. refl) (other_factor l (suc k)) (λ r no. cc)
      (signed negative capped)))))

  pub number_out : AreTokens p bytes t.token.to t.more → Goal (number_at p bytes names negative (shown t.token) capped)
  unfolding number_at
  number_out more =
      let same = times-begins p bytes t.token.to t.more more in
      elim (is_times (lexeme_at p bytes t.token.to).class) as (λ b. is_times (lexeme_at p bytes t.token.to).class ≡ b
      → Goal (cond b
      (cond (nat_lt (2 ^ 31) capped) (Err (fault_at NumberTooLarge t.token.from))
      (variable_of bytes names (lexeme_at p bytes (lexeme_at p bytes t.token.to).to) (signed negative capped)))
      (cond (nat_lt (2 ^ 40) capped) (Err (fault_at NumberTooLarge t.token.from))
      (Ok (record { factor = signed negative capped; var = None }, t.token.to))))) [
        | true ↦ λ e. product_out e (same ∙ e) (nat_lt (2 ^ 31) capped) refl
        | false ↦ λ e. constant_out e (same ∙ e) (nat_lt (2 ^ 40) capped) refl
      ] refl

abbrev pub is_number : Piece → Bool
is_number (number n) = true
is_number _ = false

-- an item without its minus
module _ (p : Bool) (bytes : List ℕ) (above : List PlainLine) (front : List Piece) (at : ℕ) (ts : List PlainToken)
    (t : Token p bytes at ts) (more : is_last t.token.piece ≡ false
    → AreTokens p bytes t.token.to t.more) (room : IsRoom above front t.token.piece) (w : Place) (l : Bool) (k : ℕ)
    (here : At false front w) (space : (r : Bool) → next w minus ≡ Some (size r 64) → ⊥) (negative : Bool) where
  quantity_by_out : ((n : ℕ) → next w (number n) ≡ Some (after l (suc k) true))
      → ((x : List ℕ) → next w (name x) ≡ Some (after l (suc k) false))
      → ((q : Piece) → t.token.piece ≡ q → is_number q ≡ false → is_name_class (class_of q) ≡ false → next w q ≡ None)
      → (q : Piece) → t.token.piece ≡ q → Outcome p bytes above false front ts
      (IsQuantityAt p bytes (known above) negative l k)
      (quantity_by (class_of q) p bytes (known above) negative (shown t.token))
  quantity_by_out num nam other (number n) is =
      number_out p bytes above front at ts t room w l k here n is (num n) space negative (more (ap is_last is))
  quantity_by_out num nam other (name x) is =
      Outcome-weaker p bytes above false front ts
      (IsNamed (known above) (signed negative 1) (after l (suc k) false))
      (IsQuantityAt p bytes (known above) negative l k)
      (variable_of bytes (known above) (shown t.token) (signed negative 1))
      (λ b to qs u m. (
        single m.0,
        false,
        m.2,
        ap (λ (v : PlainTerm). v.factor) m.3,
        (m.1, ap (λ (v : PlainTerm). v.var) m.3, m.4),
        subst (λ (v : PlainTerm). TermFits v) (sym m.3)
            (fits_of (signed negative 1) (Some m.1) negative 1 (2 ^ 31) refl (omega arith)),
        m.5,
        λ e. absurd (cc),
      ))
      (name_out p bytes above front at ts t room w (after l (suc k) false) here x is (nam x) space (signed negative 1))
  quantity_by_out num nam other q is =
      refuse p bytes above front at ts t room w here (ap (next w) is ∙ other q is refl refl)

  pub quantity_out : ((n : ℕ) → next w (number n) ≡ Some (after l (suc k) true))
      → ((x : List ℕ) → next w (name x) ≡ Some (after l (suc k) false))
      → ((q : Piece) → t.token.piece ≡ q → is_number q ≡ false → is_name_class (class_of q) ≡ false → next w q ≡ None)
      → Outcome p bytes above false front ts (IsQuantityAt p bytes (known above) negative l k)
      (quantity_at p bytes (known above) negative (shown t.token))
  unfolding quantity_at
  quantity_out num nam other = quantity_by_out num nam other t.token.piece refl
