-- The bounds of a declaration to the end of its line, token by token.
use Rattle.std.proofs.Common.{◌≡◌, ℕ, ◌^◌, ◌≤◌, Bool, true, false, cond, not, T, List, [], ◌∷◌, ◌++◌}
use Rattle.std.proofs.Common.{Some, None, refl, sym, ap, subst, ◌∙◌, append_assoc, arith, ◌⊎◌, ℤ, ◌<ℤ◌}
use Rattle.std.proofs.Common.{◌≤ℤ◌, inl, inr}
use Rattle.std.specs.Prelude.{Ok, Err, int_lt}
use Rattle.std.proofs.lemmas.Int.{ints}
use Rattle.std.proofs.lemmas.List.{map-append}
use Rattle.std.specs.Int.Signed.{lt_z_yes, lt_z_no}
use Rattle.lin_text.specs.declared.fault.TextKind.TheVariants.{EmptyRange}
use Rattle.lin_text.specs.declared.fault.TextKind.{TextKind}
use Rattle.lin_text.specs.declared.refusal.Fault.{Fault}
use Rattle.lin_text.specs.declared.class.Lexeme.{Lexeme}
use Rattle.lin_text.specs.Pieces.{Piece, var, name, number, minus, line_end, PlainToken, PlainLine, pieces, AreTokens}
use Rattle.lin_text.specs.Classes.{class_of}
use Rattle.lin_text.specs.Grammar.{Integer, sign, integer_pieces, integer_value}
use Rattle.lin_text.specs.Faults.{IsEmptyRange}
use Rattle.lin_text.specs.Reading.{Read, lexeme_at, fault_at, is_end_class, integer_at}
use Rattle.lin_text.specs.Reading.{range_at, end_at, ◌>>=◌}
use Rattle.lin_text.proofs.Places.{Place, low, low_number, high, high_number, var_end, next}
use Rattle.lin_text.proofs.Passing.{At, IsRoom, late_rank}
use Rattle.lin_text.proofs.Outcomes.{Passes, token_of, Fails, Fails-one, Fails-behind, Outcome}
use Rattle.lin_text.proofs.Bounds.{IsIntegerAt, integer_out, low_places, high_places, not_too_large}
use Rattle.lin_text.proofs.AtomLines.{LineOut, LineOut-behind, end_out}
use Rattle.lin_text.proofs.RangesRead.{range_reads}

pub var_room : (above : List PlainLine) (front : List Piece) (q : Piece) → (front ≡ [] → ⊥) → IsRoom above front q
var_room above front q some = record { vars = λ e _. some e; atoms = λ e _ _. some e }

-- what a range means of the tokens of a line from the lower bound on
abbrev pub IsRange : ℤ → ℤ → List Piece → Type 0
IsRange lo hi ps =
    (i : Integer) × (j : Integer) × (ps ≡ integer_pieces i ++ (integer_pieces j ++ line_end ∷ []))
    × (lo ≡ integer_value i) × (hi ≡ integer_value j) × (i.size ≤ 2 ^ 31) × (j.size ≤ 2 ^ 31)

-- the bounds and the end of the line are read, and the range isn't empty; or the first fault is behind the first token,
-- or the range is empty
abbrev pub RangeOut : {X : Type 0} → List PlainLine → List Piece → List PlainToken → (ℤ → ℤ → X → Type 0)
    → Read X → Type 0
RangeOut above front ts N (Ok x) = (lo : ℤ) × (hi : ℤ) × N lo hi x × IsRange lo hi (pieces ts) × (lo ≤ℤ hi)
    × Passes above front (pieces ts) [] × (IsEmptyRange (pieces ts) → ⊥)
RangeOut above front ts N (Err f) = (g : Fails above front ts f) × ((IsEmptyRange (pieces ts) → ⊥) ⊎ (g.used ≡ []))

range_by : {X : Type 0} → Bool → List ℕ → ℕ → (ℤ → ℤ → ℕ → Read X) → Read X
range_by p bytes at g =
    integer_at p bytes at >>= λ lo. integer_at p bytes lo.1 >>= λ hi.
    cond (int_lt hi.0 lo.0) (Err (fault_at EmptyRange (lexeme_at p bytes at).from)) (g lo.0 hi.0 hi.1)

abbrev ranged : Bool → Fault TextKind → ℤ → ℤ → ℕ → Read (ℤ × ℤ × ℕ)
ranged empty f lo hi to = cond empty (Err f) (Ok (lo, hi, to))

range_at-then : {X : Type 0} (p : Bool) (bytes : List ℕ) (at : ℕ) (g : ℤ → ℤ → ℕ → Read X)
    → (range_at p bytes at >>= λ r. g r.0 r.1 r.2) ≡ range_by p bytes at g
unfolding range_at range_by
range_at-then {X} p bytes at g =
    elim (integer_at p bytes at) as (λ r. ((r >>= λ lo. integer_at p bytes lo.1 >>= λ hi.
    ranged (int_lt hi.0 lo.0) (fault_at EmptyRange (lexeme_at p bytes at).from) lo.0 hi.0 hi.1) >>= λ r'.
    g r'.0 r'.1 r'.2) ≡ (r >>= λ lo. integer_at p bytes lo.1 >>= λ hi.
    cond (int_lt hi.0 lo.0) (Err (fault_at EmptyRange (lexeme_at p bytes at).from)) (g lo.0 hi.0 hi.1))) [
      | Err f ↦ refl
      | Ok lo ↦ elim (integer_at p bytes lo.1) as
          (λ r. ((r >>= λ hi. ranged (int_lt hi.0 lo.0)
          (fault_at EmptyRange (lexeme_at p bytes at).from) lo.0 hi.0 hi.1) >>= λ r'. g r'.0 r'.1 r'.2)
          ≡ (r >>= λ hi. cond (int_lt hi.0 lo.0) (Err (fault_at EmptyRange (lexeme_at p bytes at).from))
          (g lo.0 hi.0 hi.1))) [
            | Err f ↦ refl
            | Ok hi ↦ elim (int_lt hi.0 lo.0) as (λ b.
                (ranged b (fault_at EmptyRange (lexeme_at p bytes at).from) lo.0 hi.0 hi.1 >>= λ r'. g r'.0 r'.1 r'.2)
                ≡ cond b (Err (fault_at EmptyRange (lexeme_at p bytes at).from)) (g lo.0 hi.0 hi.1)) [
                  | true ↦ refl
                  | false ↦ refl
                ]
          ]
    ]

lt_true : (a b : ℤ) → int_lt a b ≡ true → a <ℤ b
lt_true a b e = lt_z_yes (subst T (sym e) tt)

lt_false : (a b : ℤ) → int_lt a b ≡ false → b ≤ℤ a
lt_false a b e = lt_z_no (subst (λ (c : Bool). T (not c)) (sym e) tt)

other_end : (q : Piece) → is_end_class (class_of q) ≡ false → next var_end q ≡ None
other_end line_end e = absurd (cc)
other_end _ e = refl

low_goes : (negative : Bool) (n : ℕ) (q : Piece) (qs rest : List Piece)
    → q ∷ qs ≡ (sign negative ++ number n ∷ []) ++ rest → (u : Place) × (next low q ≡ Some u)
low_goes true n q qs rest e = let is : q ≡ minus = cc in (low_number, ap (next low) is)
low_goes false n q qs rest e = let is : q ≡ number n = cc in (high, ap (next low) is)

low_small : (negative : Bool) (n : ℕ) (q : Piece) (qs rest : List Piece)
    → q ∷ qs ≡ (sign negative ++ number n ∷ []) ++ rest → (m : ℕ) → q ≡ number m → m ≡ n
low_small true n q qs rest e m is = let no : minus ≡ number m = cc in absurd (cc)
low_small false n q qs rest e m is = cc

left-nil : (xs ys : List Piece) → xs ++ ys ≡ [] → xs ≡ []
left-nil [] ys e = refl
left-nil (x ∷ xs) ys e = absurd (cc)

not_empty_range : (p : Bool) (bytes : List ℕ) (at : ℕ) (ts : List PlainToken) → AreTokens p bytes at ts
    → (lo hi : ℤ × ℕ) → integer_at p bytes at ≡ Ok lo → integer_at p bytes lo.1 ≡ Ok hi → int_lt hi.0 lo.0 ≡ false
    → IsEmptyRange (pieces ts) → ⊥
not_empty_range p bytes at ts are lo hi e1 e2 e h =
    let r = range_reads p bytes at ts are h in
    let first : Ok lo ≡ Ok (r.0, r.2) = sym e1 ∙ r.4 in
    let same : lo ≡ (r.0, r.2) = cc in
    let second : Ok hi ≡ Ok (r.1, r.3) = sym e2 ∙ ap (λ (y : ℤ × ℕ). integer_at p bytes y.1) same ∙ r.5 in
    let same_hi : hi ≡ (r.1, r.3) = cc in
    let lo_is : lo.0 ≡ r.0 = ap (λ (y : ℤ × ℕ). y.0) same in
    let hi_is : hi.0 ≡ r.1 = ap (λ (y : ℤ × ℕ). y.0) same_hi in
    let above : lo.0 ≤ℤ hi.0 = lt_false hi.0 lo.0 e in
    let below : hi.0 <ℤ lo.0 = subst (λ (z : ℤ). z <ℤ lo.0) (sym hi_is) (subst (λ (z : ℤ). r.1 <ℤ z) (sym lo_is) r.6) in
    absurd (omega (arith, ints, above, below))

-- two bounds to the end of the line
module _ {X : Type 0} (p : Bool) (bytes : List ℕ) (above : List PlainLine) (front : List Piece) (x : List ℕ)
    (starts : front ≡ var ∷ name x ∷ []) (at : ℕ) (ts : List PlainToken) (here : At true front low)
    (are : AreTokens p bytes at ts) (value : ℤ → ℤ → X) where
  some : front ≡ [] → ⊥
  some e = let no : var ∷ name x ∷ [] ≡ [] = sym starts ∙ e in cc

  abbrev ends_with : ℤ → ℤ → ℕ → Read X
  ends_with lo hi to = end_at p bytes to >>= λ _. Ok (value lo hi)

  abbrev Goal : Read X → Type 0
  Goal r = RangeOut above front ts (λ lo hi y. y ≡ value lo hi) r

  -- the range is empty
  empty_out : (lo hi : ℤ × ℕ) → (o : Outcome p bytes above true front ts (IsIntegerAt high) (Ok lo))
      → Outcome p bytes above true (front ++ o.0) o.3.rest (IsIntegerAt var_end) (Ok hi) → int_lt hi.0 lo.0 ≡ true
      → Goal (Err (fault_at EmptyRange (lexeme_at p bytes at).from))
  empty_out lo hi o u e =
      let t = token_of p bytes at ts are in
      let i = o.2.0 in
      let j = u.2.0 in
      let all : t.token.piece ∷ pieces t.more ≡ integer_pieces i ++ (integer_pieces j ++ pieces u.3.rest) =
      ap pieces (sym t.split) ∙ ap pieces o.3.split ∙ map-append (λ (y : PlainToken). y.piece) o.3.used o.3.rest
      ∙ ap (λ (qs : List Piece). qs ++ pieces o.3.rest) (o.3.are ∙ o.2.1)
      ∙ ap (λ (qs : List Piece). integer_pieces i ++ qs) (ap pieces u.3.split
      ∙ map-append (λ (y : PlainToken). y.piece) u.3.used u.3.rest
      ∙ ap (λ (qs : List Piece). qs ++ pieces u.3.rest) (u.3.are ∙ u.2.1)) in
      let goes = low_goes i.negative i.size t.token.piece (pieces t.more) (integer_pieces j ++ pieces u.3.rest) all in
      let below : integer_value j <ℤ integer_value i = subst (λ (z : ℤ). z <ℤ integer_value i) u.2.2
      (subst (λ (z : ℤ). hi.0 <ℤ z) o.2.2 (lt_true hi.0 lo.0 e)) in
      subst (λ (l : Lexeme). Goal (Err (fault_at EmptyRange l.from))) (sym t.shows) (
        Fails-one p bytes above true front at ts t EmptyRange (record {
          stands = (
            x,
            starts,
            record {
              lo = i;
              hi = j;
              more = pieces u.3.rest;
              written = all ∙ sym (append_assoc (integer_pieces i) (integer_pieces j) (pieces u.3.rest));
              lo_fits = o.2.3;
              hi_fits = u.2.3;
              empty = below;
            },
          );
          least = late_rank above true front low goes.0 t.token.piece (pieces t.more) here
              (var_room above front t.token.piece some) goes.1 (λ l no. cc)
              (λ n is big. not_too_large front n (pieces t.more) here.kind
              (let same = low_small i.negative i.size t.token.piece (pieces t.more)
              (integer_pieces j ++ pieces u.3.rest) all n is in subst (λ (m : ℕ). m ≤ 2 ^ 31) (sym same) o.2.3) big)
              (λ y is no. absurd (cc))
              (λ y is no. let f : var ∷ name x ∷ [] ≡ var ∷ [] = sym starts ∙ no in absurd (cc));
        }),
        inr refl,
      )

  -- the range isn't empty
  proper_out : (lo hi : ℤ × ℕ) → integer_at p bytes at ≡ Ok lo → integer_at p bytes lo.1 ≡ Ok hi
      → (o : Outcome p bytes above true front ts (IsIntegerAt high) (Ok lo))
      → Outcome p bytes above true (front ++ o.0) o.3.rest (IsIntegerAt var_end) (Ok hi) → int_lt hi.0 lo.0 ≡ false
      → Goal (ends_with lo.0 hi.0 hi.1)
  proper_out lo hi e1 e2 o u e =
      let here3 : At true ((front ++ o.0) ++ u.0) var_end = subst
      (λ (w : Place). At true ((front ++ o.0) ++ u.0) w) u.2.4 u.3.place in
      let t = token_of p bytes hi.1 u.3.rest u.3.there in
      let not_empty : IsEmptyRange (pieces ts) → ⊥ = not_empty_range p bytes at ts are lo hi e1 e2 e in
      elim (ends_with lo.0 hi.0 hi.1) as (λ r.
      LineOut above front ts (λ y ps. IsRange lo.0 hi.0 ps × (y ≡ value lo.0 hi.0)) r → Goal r) [
        | Ok y ↦ λ h. (lo.0, hi.0, h.0.1, h.0.0, lt_false hi.0 lo.0 e, h.1, not_empty)
        | Err f ↦ λ h. (h, inl not_empty)
      ]
      (LineOut-behind p bytes above true front at ts (λ y ps. IsRange lo.0 hi.0 ps
      × (y ≡ value lo.0 hi.0)) lo.1 o.1 o.0 _ o.3
      (LineOut-behind p bytes above true (front ++ o.0) lo.1 o.3.rest (λ y ps. IsRange lo.0 hi.0 (o.0 ++ ps)
      × (y ≡ value lo.0 hi.0)) hi.1 u.1 u.0 _ u.3
      (end_out p bytes above true ((front ++ o.0) ++ u.0) hi.1 u.3.rest t
      (var_room above ((front ++ o.0) ++ u.0) t.token.piece
      (λ f. some (left-nil front o.0 (left-nil (front ++ o.0) u.0 f)))) var_end here3 refl
      (λ no. other_end t.token.piece no) (λ l no. cc) (λ y ps. IsRange lo.0 hi.0 (o.0 ++ (u.0 ++ ps))
      × (y ≡ value lo.0 hi.0)) (value lo.0 hi.0) (
        (
          o.2.0,
          u.2.0,
          ap (λ (qs : List Piece). qs ++ (u.0 ++ line_end ∷ [])) o.2.1
              ∙ ap (λ (qs : List Piece). integer_pieces o.2.0 ++ (qs ++ line_end ∷ [])) u.2.1,
          o.2.2,
          u.2.2,
          o.2.3,
          u.2.3,
        ),
        refl,
      ))))

  first_fails : (f : Fault TextKind) → integer_at p bytes at ≡ Err f → IsEmptyRange (pieces ts) → ⊥
  first_fails f e h =
      let r = range_reads p bytes at ts are h in
      let no : Err f ≡ Ok (r.0, r.2) = sym e ∙ r.4 in
      absurd (cc)

  second_fails : (lo : ℤ × ℕ) (f : Fault TextKind) → integer_at p bytes at ≡ Ok lo → integer_at p bytes lo.1 ≡ Err f
      → IsEmptyRange (pieces ts) → ⊥
  second_fails lo f e1 e2 h =
      let r = range_reads p bytes at ts are h in
      let first : Ok lo ≡ Ok (r.0, r.2) = sym e1 ∙ r.4 in
      let same : lo ≡ (r.0, r.2) = cc in
      let no : Err f ≡ Ok (r.1, r.3) = sym e2 ∙ ap (λ (y : ℤ × ℕ). integer_at p bytes y.1) same ∙ r.5 in
      absurd (cc)

  second_out : (lo : ℤ × ℕ) → integer_at p bytes at ≡ Ok lo
      → (o : Outcome p bytes above true front ts (IsIntegerAt high) (Ok lo)) → (r : Read (ℤ × ℕ))
      → integer_at p bytes lo.1 ≡ r → Outcome p bytes above true (front ++ o.0) o.3.rest (IsIntegerAt var_end) r
      → Goal (r >>= λ hi. cond (int_lt hi.0 lo.0) (Err (fault_at EmptyRange (lexeme_at p bytes at).from))
      (ends_with lo.0 hi.0 hi.1))
  second_out lo e1 o (Err f) e2 u =
      (Fails-behind p bytes above true front at ts lo.1 o.1 o.0 f o.3 u, inl (second_fails lo f e1 e2))
  second_out lo e1 o (Ok hi) e2 u =
      elim (int_lt hi.0 lo.0) as (λ b. int_lt hi.0 lo.0 ≡ b
      → Goal (cond b (Err (fault_at EmptyRange (lexeme_at p bytes at).from)) (ends_with lo.0 hi.0 hi.1))) [
        | true ↦ λ e. empty_out lo hi o u e
        | false ↦ λ e. proper_out lo hi e1 e2 o u e
      ] refl

  first_out : (r : Read (ℤ × ℕ)) → integer_at p bytes at ≡ r
      → Outcome p bytes above true front ts (IsIntegerAt high) r
      → Goal (r >>= λ lo. integer_at p bytes lo.1 >>= λ hi.
      cond (int_lt hi.0 lo.0) (Err (fault_at EmptyRange (lexeme_at p bytes at).from)) (ends_with lo.0 hi.0 hi.1))
  first_out (Err f) e o = (o, inl (first_fails f e))
  first_out (Ok lo) e o =
      second_out lo e o (integer_at p bytes lo.1) refl
      (integer_out p bytes above (front ++ o.0) lo.1 o.3.rest
      (λ f. some (left-nil front o.0 f)) high high_number var_end high_places
      (subst (λ (w : Place). At true (front ++ o.0) w) o.2.4 o.3.place) o.3.there)

  pub range_out : Goal (range_at p bytes at >>= λ r. end_at p bytes r.2 >>= λ _. Ok (value r.0 r.1))
  unfolding range_by
  range_out =
      subst (λ (r : Read X). Goal r) (sym (range_at-then p bytes at ends_with))
      (first_out (integer_at p bytes at) refl (integer_out p bytes above front at ts some low low_number high low_places
      here are))
