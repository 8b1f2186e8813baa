-- A comparison to the end of its line, token by token.
use Rattle.std.proofs.Common.{◌≡◌, ℕ, Bool, true, false, cond, List, [], ◌∷◌, ◌++◌, Some, None, refl, sym, ap, subst}
use Rattle.std.proofs.Common.{◌∙◌, append_assoc}
use Rattle.std.specs.Prelude.{Ok, Err}
use Rattle.std.proofs.lemmas.List.{append-nil, map-append}
use Rattle.lin_model.specs.Terms.{PlainTerm}
use Rattle.lin_model.specs.declared.atom.Cmp.{Cmp}
use Rattle.lin_text.specs.declared.class.Lexeme.{Lexeme}
use Rattle.lin_text.specs.Pieces.{Piece, var, name, number, plus, minus, times, compare, line_end, PlainToken}
use Rattle.lin_text.specs.Pieces.{PlainLine, pieces, AreTokens, is_last, cmp_of}
use Rattle.lin_text.specs.Classes.{class_of, shown}
use Rattle.lin_text.specs.Grammar.{Side, side_pieces, IsExpr, Compares, Naming}
use Rattle.lin_text.specs.Faults.{atom_count, known}
use Rattle.lin_text.specs.Reading.{Read, lexeme_at, refusal, is_joint, is_times, is_end_class, end_at, comparison_by}
use Rattle.lin_text.specs.Reading.{comparison_at, side_from, atom_from, ◌>>=◌}
use Rattle.lin_text.specs.declared.class.Sign.{Sign}
use Rattle.lin_text.proofs.Places.{Place, item, after, size, done, next}
use Rattle.lin_text.proofs.Passing.{At, At-next, At-start, IsRoom, not-nil, refused, sign_passed}
use Rattle.lin_text.proofs.Outcomes.{Passes, Passes-append, Token, token_of, Gets, Gets-one, Fails, Fails-one}
use Rattle.lin_text.proofs.Outcomes.{Fails-behind, Outcome}
use Rattle.lin_text.proofs.NamedItems.{refuse}
use Rattle.lin_text.proofs.Sides.{IsWholeSide, side_out, right-nil, item_pieces-some}

-- what was read means N of all tokens of the line; else it is the first fault
abbrev pub LineOut : {X : Type 0} → List PlainLine → List Piece → List PlainToken → (X → List Piece → Type 0)
    → Read X → Type 0
LineOut above front ts N (Ok x) = N x (pieces ts) × Passes above front (pieces ts) []
LineOut above front ts N (Err f) = Fails above front ts f

-- behind tokens that were passed
pub LineOut-behind : {X : Type 0} (p : Bool) (bytes : List ℕ) (above : List PlainLine) (v : Bool) (front : List Piece)
    (at : ℕ) (ts : List PlainToken) (N : X → List Piece
    → Type 0) (a : ℕ) (s : Place) (ps : List Piece) (r : Read X) (got : Gets p bytes above v front ts a s ps)
    → LineOut above (front ++ ps) got.rest (λ x qs. N x (ps ++ qs)) r → LineOut above front ts N r
LineOut-behind {X} p bytes above v front at ts N a s ps (Ok y) got h =
    let all : pieces ts ≡ pieces got.used ++ pieces got.rest = ap pieces got.split
    ∙ map-append (λ (t : PlainToken). t.piece) got.used got.rest in (
      subst (λ (qs : List Piece). N y qs) (sym (all ∙ ap (λ (qs : List Piece). qs ++ pieces got.rest) got.are)) h.0,
      subst (λ (qs : List Piece). Passes above front qs []) (sym all)
          (Passes-append above front (pieces got.used) (pieces got.rest) []
          (subst (λ (qs : List Piece). Passes above front (pieces got.used) qs)
          (sym (append-nil (pieces got.rest))) got.passes)
          (subst (λ (f : List Piece). Passes above (front ++ f) (pieces got.rest) []) (sym got.are) h.1)),
    )
LineOut-behind p bytes above v front at ts N a s ps (Err f) got h =
    Fails-behind p bytes above v front at ts a s ps f got h

pub LineOut-then : {A X : Type 0} (p : Bool) (bytes : List ℕ) (above : List PlainLine) (v : Bool) (front : List Piece)
    (at : ℕ) (ts : List PlainToken) (M : A → ℕ → List Piece → Place → Type 0) (N : X → List Piece
    → Type 0) (r : Read (A × ℕ)) (g : A × ℕ → Read X) → Outcome p bytes above v front ts M r
    → ((a : A) (to : ℕ) (ps : List Piece) (s : Place) → M a to ps s → At v (front ++ ps) s → (rest : List PlainToken)
    → AreTokens p bytes to rest → LineOut above (front ++ ps) rest (λ x qs. N x (ps ++ qs)) (g (a, to)))
    → LineOut above front ts N (r >>= g)
LineOut-then p bytes above v front at ts M N (Err f) g o k = o
LineOut-then p bytes above v front at ts M N (Ok x) g o k =
    LineOut-behind p bytes above v front at ts N x.1 o.1 o.0 (g x) o.3
    (k x.0 x.1 o.0 o.1 o.2 o.3.place o.3.rest o.3.there)

-- the end of the line, where it may come
module _ (p : Bool) (bytes : List ℕ) (above : List PlainLine) (v : Bool) (front : List Piece) (at : ℕ)
    (ts : List PlainToken) (t : Token p bytes at ts) (room : IsRoom above front t.token.piece) (w : Place)
    (here : At v front w) (ends : next w line_end ≡ Some done) (other : is_end_class (class_of t.token.piece) ≡ false
    → next w t.token.piece ≡ None) (space : (l : Bool) → next w minus ≡ Some (size l 64) → ⊥) where
  end_by : {X : Type 0} (N : X → List Piece → Type 0) (x : X) → N x (line_end ∷ []) → (q : Piece) → t.token.piece ≡ q
      → LineOut above front ts N (cond (is_end_class (class_of q)) (Ok x) (Err (refusal (shown t.token))))
  end_by N x means line_end is =
      let alone : ts ≡ t.token ∷ [] = t.split ∙ ap (λ (us : List PlainToken). t.token ∷ us) (t.over (ap is_last is)) in
      let only : pieces ts ≡ t.token.piece ∷ [] = ap pieces alone in (
        subst (λ (qs : List Piece). N x qs) (sym (only ∙ ap (λ (q : Piece). q ∷ []) is)) means,
        subst (λ (qs : List Piece). Passes above front qs []) (sym only) (
          sign_passed above v front w done t.token.piece [] here room (ap (next w) is ∙ ends) space
              (λ n same. let no : line_end ≡ number n = sym is ∙ same in cc)
              (λ y same. let no : line_end ≡ name y = sym is ∙ same in cc),
          tt,
        ),
      )
  end_by N x means q is =
      Fails-one p bytes above v front at ts t _
      (refused above v front w t.token.piece (pieces t.more) here room
      (other (ap (λ (r : Piece). is_end_class (class_of r)) is)))

  pub end_out : {X : Type 0} (N : X → List Piece → Type 0) (x : X) → N x (line_end ∷ [])
      → LineOut above front ts N (end_at p bytes at >>= λ _. Ok x)
  unfolding end_at
  end_out N x means =
      subst (λ (l : Lexeme). LineOut above front ts N
      (cond (is_end_class l.class) (Ok tt) (Err (refusal l)) >>= λ _. Ok x)) (sym t.shows)
      (elim (is_end_class (class_of t.token.piece)) as
      (λ b. LineOut above front ts N (cond b (Ok x) (Err (refusal (shown t.token))))
      → LineOut above front ts N (cond b (Ok tt) (Err (refusal (shown t.token))) >>= λ _. Ok x)) [
        | true ↦ λ h. h
        | false ↦ λ h. h
      ] (end_by N x means t.token.piece refl))

-- what may follow a side
after-some : (v l : Bool) (k : ℕ) (bare : Bool) (front : List Piece) → At v front (after l k bare) → front ≡ [] → ⊥
after-some v l k bare front at e =
    let s = at.shape in
    item_pieces-some s.1.negative s.1.quantity (right-nil s.0 _ (sym s.5 ∙ e))

abbrev is_compare : Piece → Bool
is_compare (compare c) = true
is_compare _ = false

left_ends : (k : ℕ) (bare : Bool) (q : Piece) → is_joint (class_of q) ≡ false
    → (bare ≡ true → is_times (class_of q) ≡ false) → is_compare q ≡ false → next (after true k bare) q ≡ None
left_ends k bare plus j t c = absurd (cc)
left_ends k bare minus j t c = absurd (cc)
left_ends k true times j t c = let e : true ≡ false = t refl in absurd (cc)
left_ends k false times j t c = refl
left_ends k bare (compare o) j t c = absurd (cc)
left_ends k true _ j t c = refl
left_ends k false _ j t c = refl

right_ends : (k : ℕ) (bare : Bool) (q : Piece) → is_joint (class_of q) ≡ false
    → (bare ≡ true → is_times (class_of q) ≡ false) → is_end_class (class_of q) ≡ false
    → next (after false k bare) q ≡ None
right_ends k bare plus j t c = absurd (cc)
right_ends k bare minus j t c = absurd (cc)
right_ends k true times j t c = let e : true ≡ false = t refl in absurd (cc)
right_ends k false times j t c = refl
right_ends k bare line_end j t c = absurd (cc)
right_ends k true _ j t c = refl
right_ends k false _ j t c = refl

-- the sign of the comparison
module _ (p : Bool) (bytes : List ℕ) (above : List PlainLine) (front : List Piece) (at : ℕ) (ts : List PlainToken)
    (k : ℕ) (bare : Bool) (here : At false front (after true k bare)) (no_times : bare ≡ true
    → is_times (lexeme_at p bytes at).class ≡ false) (no_joint : is_joint (lexeme_at p bytes at).class ≡ false)
    (t : Token p bytes at ts) where
  abbrev pub IsSign : Cmp → ℕ → List Piece → Place → Type 0
  IsSign c to ps s = (o : Sign) × (c ≡ cmp_of o) × (ps ≡ compare o ∷ []) × (s ≡ item false 0)

  sign_room : IsRoom above front t.token.piece
  sign_room = record {
    vars = λ e _. after-some false true k bare front here e;
    atoms = λ e _ _. after-some false true k bare front here e;
  }

  sign_by : (q : Piece) → t.token.piece ≡ q → Outcome p bytes above false front ts IsSign
      (comparison_by (class_of q) (shown t.token))
  sign_by (compare c) is = (
    t.token.piece ∷ [],
    item false 0,
    (c, refl, ap (λ (r : Piece). r ∷ []) is, refl),
    Gets-one p bytes above false front at ts t (item false 0)
        (sign_passed above false front (after true k bare) (item false 0) t.token.piece (pieces t.more) here sign_room
        (ap (next (after true k bare)) is ∙ goes bare) (λ l e. cc)
        (λ n same. let no : compare c ≡ number n = sym is ∙ same in cc)
        (λ y same. let no : compare c ≡ name y = sym is ∙ same in cc))
        (At-next false front (after true k bare) (item false 0) t.token.piece here sign_room.vars
        (ap (next (after true k bare)) is ∙ goes bare))
        (ap is_last is),
  )
    where
      goes : (b : Bool) → next (after true k b) (compare c) ≡ Some (item false 0)
      goes true = refl
      goes false = refl
  sign_by q is =
      refuse p bytes above front at ts t sign_room (after true k bare) here
      (left_ends k bare t.token.piece (ap (λ (x : Lexeme). is_joint x.class) (sym t.shows) ∙ no_joint)
      (λ b. ap (λ (x : Lexeme). is_times x.class) (sym t.shows) ∙ no_times b) (ap is_compare is))

  pub sign_out : Outcome p bytes above false front ts IsSign (comparison_at p bytes at)
  unfolding comparison_at
  sign_out = subst (λ (x : Lexeme). Outcome p bytes above false front ts IsSign (comparison_by x.class x)) (sym t.shows)
      (sign_by t.token.piece refl)

atom_means : (names : Naming) (ls rs : List PlainTerm) (lps cps rps : List Piece) (c : Cmp) (o : Sign)
    (left right : Side) → c ≡ cmp_of o → lps ≡ side_pieces left → cps ≡ compare o ∷ [] → rps ≡ side_pieces right
    → IsExpr names left ls
    → IsExpr names right rs → Compares names (lps ++ (cps ++ (rps ++ line_end ∷ [])))
    (record { left = ls; cmp = c; right = rs })
atom_means names ls rs lps cps rps c o left right means l s r ml mr = record {
  left = left;
  sign = o;
  right = right;
  written =
      ap (λ (qs : List Piece). qs ++ (cps ++ (rps ++ line_end ∷ []))) l
      ∙ ap (λ (qs : List Piece). side_pieces left ++ (qs ++ (rps ++ line_end ∷ []))) s
      ∙ ap (λ (qs : List Piece). side_pieces left ++ (compare o ∷ (qs ++ line_end ∷ []))) r
      ∙ sym (append_assoc (side_pieces left) (compare o ∷ side_pieces right) (line_end ∷ []));
  means = means;
  left_terms = ml;
  right_terms = mr;
}

-- a comparison, from the start of its line
pub atom_out : (p : Bool) (bytes : List ℕ) (above : List PlainLine) (at : ℕ) (ts : List PlainToken)
    → (t : Token p bytes at ts) → (t.token.piece ≡ var → ⊥) → (atom_count above ≡ 256 → ⊥)
    → LineOut above [] ts (λ atom ps. Compares (known above) ps atom)
    (atom_from p bytes (known above) (shown t.token))
unfolding atom_from
atom_out p bytes above at ts t no_var few =
    LineOut-then p bytes above false [] at ts (IsWholeSide p bytes (known above) true)
    (λ atom ps. Compares (known above) ps atom) (side_from p bytes (known above) (shown t.token)) _
    (side_out p bytes above [] at ts true At-start t (record { vars = λ _ e. no_var e; atoms = λ _ _ e. few e }))
    (λ ls to1 lps s1 left place1 rest1 are1.
    let t1 = token_of p bytes to1 rest1 are1 in
    let here1 : At false ([] ++ lps) (after true left.1 left.2) = subst
    (λ (u : Place). At false ([] ++ lps) u) left.5 place1 in
    LineOut-then p bytes above false ([] ++ lps) to1 rest1
    (IsSign p bytes above ([] ++ lps) to1 rest1 left.1 left.2 here1 left.6 left.7 t1)
    (λ atom qs. Compares (known above) (lps ++ qs) atom) (comparison_at p bytes to1) _
    (sign_out p bytes above ([] ++ lps) to1 rest1 left.1 left.2 here1 left.6 left.7 t1)
    (λ c to2 cps s2 sign place2 rest2 are2.
    let t2 = token_of p bytes to2 rest2 are2 in
    let here2 : At false (([] ++ lps) ++ cps) (item false 0) = subst
    (λ (u : Place). At false (([] ++ lps) ++ cps) u) sign.3 place2 in
    LineOut-then p bytes above false (([] ++ lps) ++ cps) to2 rest2 (IsWholeSide p bytes (known above) false)
    (λ atom qs. Compares (known above) (lps ++ (cps ++ qs)) atom)
    (side_from p bytes (known above) (lexeme_at p bytes to2)) _
    (subst (λ (x : Lexeme). Outcome p bytes above false (([] ++ lps) ++ cps) rest2
    (IsWholeSide p bytes (known above) false) (side_from p bytes (known above) x)) (sym t2.shows)
    (side_out p bytes above (([] ++ lps) ++ cps) to2 rest2 false here2 t2
    (sign_behind above ([] ++ lps) cps sign.0 t2.token.piece sign.2)))
    (λ rs to3 rps s3 right place3 rest3 are3.
    let t3 = token_of p bytes to3 rest3 are3 in
    let front3 = (([] ++ lps) ++ cps) ++ rps in
    let here3 : At false front3 (after false right.1 right.2) = subst
    (λ (u : Place). At false front3 u) right.5 place3 in
    end_out p bytes above false front3 to3 rest3 t3
    (record {
      vars = λ e _. after-some false false right.1 right.2 front3 here3 e;
      atoms = λ e _ _. after-some false false right.1 right.2 front3 here3 e;
    })
    (after false right.1 right.2) here3 (ends right.1 right.2)
    (λ no_end. right_ends right.1 right.2 t3.token.piece (ap (λ (x : Lexeme). is_joint x.class) (sym t3.shows)
    ∙ right.7) (λ b. ap (λ (x : Lexeme). is_times x.class) (sym t3.shows) ∙ right.6 b) no_end)
    (λ l e. cc)
    (λ atom qs. Compares (known above) (lps ++ (cps ++ (rps ++ qs))) atom)
    (record { left = ls; cmp = c; right = rs })
    (atom_means (known above) ls rs lps cps rps c sign.0 left.0 right.0 sign.1 left.3 sign.2 right.3 left.4 right.4))))
  where
    ends : (k : ℕ) (bare : Bool) → next (after false k bare) line_end ≡ Some done
    ends k true = refl
    ends k false = refl

    sign_behind : (above : List PlainLine) (front cps : List Piece) (c : Sign) (q : Piece) → cps ≡ compare c ∷ []
        → IsRoom above (front ++ cps) q
    sign_behind above front cps c q e =
        record {
          vars = λ f _. not-nil front (compare c) (ap (λ (qs : List Piece). front ++ qs) (sym e) ∙ f);
          atoms = λ f _ _. not-nil front (compare c) (ap (λ (qs : List Piece). front ++ qs) (sym e) ∙ f);
        }
