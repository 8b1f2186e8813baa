-- A declaration to the end of its line: the name, and then its bounds.
use Rattle.std.proofs.Common.{◌≡◌, ℕ, ◌≤◌, Bool, true, false, cond, List, [], ◌∷◌, ◌++◌}
use Rattle.std.proofs.Common.{length, Option, Some, None, refl, sym, ap, subst, ◌∙◌, arith, ◌⊎◌, ℤ}
use Rattle.std.proofs.Common.{◌≤ℤ◌, inl, inr, position}
use Rattle.std.specs.Prelude.{Ok, Err, Contains, is_some, slice_range, bytes_eq}
use Rattle.std.proofs.lemmas.List.{append-nil, map-append, length-map}
use Rattle.lin_model.specs.Names.{IsName}
use Rattle.lin_text.specs.declared.fault.TextKind.TheVariants.{NameTwice}
use Rattle.lin_text.specs.declared.class.Lexeme.{Lexeme}
use Rattle.lin_text.specs.Pieces.{Piece, var, name, number, PlainToken, PlainLine, pieces, AreTokens}
use Rattle.lin_text.specs.Pieces.{is_last}
use Rattle.lin_text.specs.Classes.{class_of, shown}
use Rattle.lin_text.specs.Faults.{declared_names, IsEmptyRange}
use Rattle.lin_text.specs.Reading.{Read, fault_at, refusal, is_name_class, number_in}
use Rattle.lin_text.specs.Reading.{free_name_at, range_at, end_at, declaration_at}
use Rattle.lin_text.specs.Reading.{◌>>=◌}
use Rattle.lin_text.proofs.Places.{Place, var_name, low, next}
use Rattle.lin_text.proofs.Passing.{At, At-next, At-var, passed, twice_rank}
use Rattle.lin_text.proofs.Outcomes.{Passes, Token, token_of, Gets, Gets-one, Fails, Fails-one, Fails-behind}
use Rattle.lin_text.proofs.Bounds.{refuse}
use Rattle.lin_text.proofs.AtomLines.{LineOut-behind}
use Rattle.lin_text.proofs.NamedLemmas.{named-plain}
use Rattle.lin_text.proofs.PositionLemmas.{position-none, Contains-position, name-text}
use Rattle.lin_text.proofs.Ranges.{var_room, IsRange, RangeOut, range_out}

-- a name that isn't declared so far
abbrev pub IsFreeName : List ℕ → List (List ℕ) → ℕ → ℕ → List Piece → Place → Type 0
IsFreeName bytes names from to ps s = (x : List ℕ) × (ps ≡ name x ∷ []) × (x ≡ slice_range bytes from to)
    × (Contains names x → ⊥) × (s ≡ low) × IsName (slice_range bytes from to)

-- the name is read, or the fault is at the first token
abbrev pub FreeNameOut : Bool → List ℕ → List PlainLine → List PlainToken → Read (ℕ × ℕ) → Type 0
FreeNameOut p bytes above ts (Ok x) = (ps : List Piece) × (s : Place)
    × IsFreeName bytes (declared_names above) x.0 x.1 ps s × Gets p bytes above true (var ∷ []) ts x.1 s ps
FreeNameOut p bytes above ts (Err f) = (g : Fails above (var ∷ []) ts f) × (g.used ≡ [])

other_name : (q : Piece) → is_name_class (class_of q) ≡ false → next var_name q ≡ None
other_name (name x) e = absurd (cc)
other_name _ e = refl

module _ (p : Bool) (bytes : List ℕ) (above : List PlainLine) (at : ℕ) (ts : List PlainToken)
    (t : Token p bytes at ts) where
  names : List (List ℕ)
  names = declared_names above

  free_by : (x : List ℕ) → t.token.piece ≡ name x → (o : Option ℕ)
      → number_in (declared_names above) bytes (shown t.token) ≡ o
      → FreeNameOut p bytes above ts (cond (is_some o) (Err (fault_at NameTwice t.token.from))
      (Ok (t.token.from, t.token.to)))
  free_by x is (Some k) e =
      let there : position (bytes_eq x) (declared_names above)
      ≡ Some k = ap (λ (y : List ℕ). position (bytes_eq y) (declared_names above))
      (name-text p bytes at t.token x t.is is) ∙ e in (
        Fails-one p bytes above true (var ∷ []) at ts t NameTwice (record {
          stands = (x, is, refl, Contains-position x (declared_names above) k there);
          least = twice_rank above true (var ∷ []) var_name low t.token.piece (pieces t.more) At-var
              (var_room above (var ∷ []) t.token.piece (λ f. cc)) (ap (next var_name) is) (λ l f. cc)
              (λ n same. let no : name x ≡ number n = sym is ∙ same in cc) refl;
        }),
        refl,
      )
  free_by x is None e =
      let there : position (bytes_eq x) (declared_names above)
      ≡ None = ap (λ (y : List ℕ). position (bytes_eq y) (declared_names above))
      (name-text p bytes at t.token x t.is is) ∙ e in (
        t.token.piece ∷ [],
        low,
        (
          x,
          ap (λ (q : Piece). q ∷ []) is,
          name-text p bytes at t.token x t.is is,
          position-none x (declared_names above) there,
          refl,
          named-plain p bytes at t.token x t.is is,
        ),
        Gets-one p bytes above true (var ∷ []) at ts t low
            (passed above true (var ∷ []) var_name low t.token.piece (pieces t.more) At-var
            (var_room above (var ∷ []) t.token.piece (λ f. cc)) (ap (next var_name) is) (λ l f. cc)
            (λ n same. let no : name x ≡ number n = sym is ∙ same in absurd (cc))
            (λ y same f. absurd (cc))
            (λ y same _ there'. let eq : y ≡ x = (let no : name y ≡ name x = sym same ∙ is in cc) in
            position-none x (declared_names above) there
            (subst (λ (z : List ℕ). Contains (declared_names above) z) eq there')))
            (At-next true (var ∷ []) var_name low t.token.piece At-var (λ f _. absurd (cc)) (ap (next var_name) is))
            (ap is_last is),
      )

  free_piece : (q : Piece) → t.token.piece ≡ q
      → FreeNameOut p bytes above ts (cond (is_name_class (class_of q))
      (cond (is_some (number_in (declared_names above) bytes (shown t.token))) (Err (fault_at NameTwice t.token.from))
      (Ok (t.token.from, t.token.to))) (Err (refusal (shown t.token))))
  free_piece (name x) is = free_by x is (number_in (declared_names above) bytes (shown t.token)) refl
  free_piece q is = (
    refuse p bytes above (var ∷ []) at ts (λ f. cc) var_name At-var t (ap (next var_name) is
        ∙ other_name q refl),
    refl,
  )

  pub free_name_out : FreeNameOut p bytes above ts (free_name_at p bytes (declared_names above) at)
  unfolding free_name_at
  free_name_out =
      subst (λ (l : Lexeme). FreeNameOut p bytes above ts
      (cond (is_name_class l.class) (cond (is_some (number_in (declared_names above) bytes l))
      (Err (fault_at NameTwice l.from)) (Ok (l.from, l.to))) (Err (refusal l)))) (sym t.shows)
      (free_piece t.token.piece refl)

-- what a declaration means of the tokens behind the word
abbrev pub IsDeclared : List ℕ → List (List ℕ) → ℕ × ℕ × ℤ × ℤ → List Piece → Type 0
IsDeclared bytes names d ps =
    (x : List ℕ) × (qs : List Piece) × (ps ≡ name x ∷ qs) × (x ≡ slice_range bytes d.0 d.1) × (Contains names x → ⊥)
    × IsRange d.2 d.3 qs × (d.2 ≤ℤ d.3) × IsName (slice_range bytes d.0 d.1)

abbrev pub HasNoEmptyRange : List Piece → Type 0
HasNoEmptyRange ps = (x : List ℕ) (qs : List Piece) → ps ≡ name x ∷ qs → IsEmptyRange qs → ⊥

-- a declaration behind the word `var`: what it means, or its first fault
abbrev pub DeclarationOut : List ℕ → List PlainLine → List PlainToken → Read (ℕ × ℕ × ℤ × ℤ) → Type 0
DeclarationOut bytes above ts (Ok d) = IsDeclared bytes (declared_names above) d (pieces ts)
    × Passes above (var ∷ []) (pieces ts) [] × HasNoEmptyRange (pieces ts)
DeclarationOut bytes above ts (Err f) =
    (g : Fails above (var ∷ []) ts f) × (HasNoEmptyRange (pieces ts) ⊎ (length g.used ≤ 1))

tail_is : (x y : List ℕ) (ps qs rs : List Piece) → ps ≡ name x ∷ qs → ps ≡ name y ∷ rs → rs ≡ qs
tail_is x y ps qs rs e f = cc

declaration_rest : (p : Bool) (bytes : List ℕ) (above : List PlainLine) (at : ℕ) (ts : List PlainToken) (d : ℕ × ℕ)
    (o : FreeNameOut p bytes above ts (Ok d)) (r : Read (ℕ × ℕ × ℤ × ℤ))
    → RangeOut above ((var ∷ []) ++ o.0) o.3.rest (λ lo hi y. y ≡ (d.0, d.1, lo, hi)) r
    → DeclarationOut bytes above ts r
declaration_rest p bytes above at ts d o (Ok y) h =
    let x = o.2.0 in
    let all : pieces ts ≡ name x ∷ pieces o.3.rest =
    ap pieces o.3.split ∙ map-append (λ (t : PlainToken). t.piece) o.3.used o.3.rest
    ∙ ap (λ (qs : List Piece). qs ++ pieces o.3.rest) (o.3.are ∙ o.2.1) in
    let passes = LineOut-behind p bytes above true (var ∷ []) at ts
    (λ (_ : Unit {0}) (_ : List Piece). Unit {0}) d.1 o.1 o.0 (Ok tt) o.3 (tt, h.5) in
    let value : y ≡ (d.0, d.1, h.0, h.1) = h.2 in (
      subst (λ (z : ℕ × ℕ × ℤ × ℤ). IsDeclared bytes (declared_names above) z (pieces ts)) (sym value) (
        x,
        pieces o.3.rest,
        all,
        o.2.2,
        o.2.3,
        h.3,
        h.4,
        o.2.5,
      ),
      passes.1,
      λ z qs e. λ empty. h.6 (subst (λ (rs : List Piece). IsEmptyRange rs)
          (tail_is x z (pieces ts) (pieces o.3.rest) qs all e) empty),
    )
declaration_rest p bytes above at ts d o (Err f) h =
    let x = o.2.0 in
    let all : pieces ts ≡ name x ∷ pieces o.3.rest =
    ap pieces o.3.split ∙ map-append (λ (t : PlainToken). t.piece) o.3.used o.3.rest
    ∙ ap (λ (qs : List Piece). qs ++ pieces o.3.rest) (o.3.are ∙ o.2.1) in
    let one : length o.3.used ≡ 1 = sym (length-map o.3.used (λ (t : PlainToken). t.piece))
    ∙ ap length (o.3.are ∙ o.2.1) in (
      Fails-behind p bytes above true (var ∷ []) at ts d.1 o.1 o.0 f o.3 h.0,
      elim h.1 [
        | inl none ↦ inl (λ z qs e. λ empty. none
            (subst (λ (rs : List Piece). IsEmptyRange rs) (tail_is x z (pieces ts) (pieces o.3.rest) qs all e) empty))
        | inr nil ↦ inr (let count : length (o.3.used ++ h.0.used)
            ≡ 1 = ap (λ (us : List PlainToken). length (o.3.used ++ us)) nil ∙ ap length (append-nil o.3.used) ∙ one in
            omega arith)
      ],
    )

declaration_by : (p : Bool) (bytes : List ℕ) (above : List PlainLine) (at : ℕ) (ts : List PlainToken)
    (r : Read (ℕ × ℕ)) → FreeNameOut p bytes above ts r
    → DeclarationOut bytes above ts (r >>= λ name. range_at p bytes name.1 >>= λ range. end_at p bytes range.2 >>= λ _.
    Ok (name.0, name.1, range.0, range.1))
declaration_by p bytes above at ts (Err f) o = (o.0, inr (let nil : length o.0.used ≡ 0 = ap length o.1 in omega arith))
declaration_by p bytes above at ts (Ok d) o =
    declaration_rest p bytes above at ts d o _
    (range_out p bytes above ((var ∷ []) ++ o.0) o.2.0 (ap (λ (qs : List Piece). var ∷ qs) o.2.1) d.1 o.3.rest
    (subst (λ (w : Place). At true ((var ∷ []) ++ o.0) w) o.2.4 o.3.place) o.3.there (λ lo hi. (d.0, d.1, lo, hi)))

pub declaration_out : (p : Bool) (bytes : List ℕ) (above : List PlainLine) (at : ℕ) (ts : List PlainToken)
    → AreTokens p bytes at ts → DeclarationOut bytes above ts (declaration_at p bytes (declared_names above) at)
unfolding declaration_at
declaration_out p bytes above at ts are =
    declaration_by p bytes above at ts (free_name_at p bytes (declared_names above) at)
    (free_name_out p bytes above at ts (token_of p bytes at ts are))
