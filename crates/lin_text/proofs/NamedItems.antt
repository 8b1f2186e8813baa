-- A name where that of an item may stand.
use Rattle.std.proofs.Common.{◌≡◌, ℕ, Bool, true, false, cond, List, [], ◌∷◌}
use Rattle.std.proofs.Common.{Option, Some, None, refl, sym, ap, subst, ◌∙◌, ℤ}
use Rattle.std.specs.Prelude.{Err, Contains, slice_range}
use Rattle.lin_model.specs.Terms.{PlainTerm}
use Rattle.lin_text.specs.declared.fault.TextKind.TheVariants.{UnknownName}
use Rattle.lin_text.specs.Pieces.{Piece, name, number, minus, PlainToken, PlainLine, pieces, is_last}
use Rattle.lin_text.specs.Classes.{class_of, shown}
use Rattle.lin_text.specs.Grammar.{Naming}
use Rattle.lin_text.specs.Faults.{begins_variable, declared_names, known}
use Rattle.lin_text.specs.Reading.{refusal, refusal_kind, is_name_class}
use Rattle.lin_text.specs.Reading.{variable_by, variable_of}
use Rattle.lin_text.proofs.Places.{Place, size, next}
use Rattle.lin_text.proofs.Passing.{At, At-next, IsRoom, refused, name_rank, passed}
use Rattle.lin_text.proofs.Outcomes.{Token, Gets-one, Fails, Fails-one, Outcome}
use Rattle.lin_text.proofs.PositionLemmas.{position-none, Contains-position, name-text}

-- a name stands there, of a declared variable
abbrev pub IsNamed : Naming → ℤ → Place → PlainTerm → ℕ → List Piece → Place → Type 0
IsNamed names f u term to ps s = (x : List ℕ) × (k : ℕ) × (ps ≡ name x ∷ [])
    × (term ≡ record { factor = f; var = Some k }) × (names x ≡ Some k) × (s ≡ u)

module _ (p : Bool) (bytes : List ℕ) (above : List PlainLine) (front : List Piece) (at : ℕ) (ts : List PlainToken)
    (t : Token p bytes at ts) (room : IsRoom above front t.token.piece) where
  pub refuse : (w : Place) → At false front w → next w t.token.piece ≡ None
      → Fails above front ts (refusal (shown t.token))
  refuse w here none =
      Fails-one p bytes above false front at ts t (refusal_kind (class_of t.token.piece))
      (refused above false front w t.token.piece (pieces t.more) here room none)

  found : (w u : Place) → At false front w → (x : List ℕ) → t.token.piece ≡ name x → next w (name x) ≡ Some u
      → ((l : Bool) → next w minus ≡ Some (size l 64) → ⊥) → (f : ℤ) → (o : Option ℕ)
      → known above (slice_range bytes t.token.from t.token.to) ≡ o
      → Outcome p bytes above false front ts (IsNamed (known above) f u) (variable_by o (shown t.token) f)
  found w u here x is some space f None e =
      Fails-one p bytes above false front at ts t UnknownName (record {
        stands = (
          x,
          is,
          here.kind,
          position-none x (declared_names above)
              (ap (known above) (name-text p bytes at t.token x t.is is) ∙ e),
        );
        least = name_rank above false front w u t.token.piece (pieces t.more) here room (ap (next w) is ∙ some) space
            (λ n same. let no : name x ≡ number n = sym is ∙ same in cc);
      })
  found w u here x is some space f (Some k) e =
      let there : known above x ≡ Some k = ap (known above) (name-text p bytes at t.token x t.is is) ∙ e in (
        t.token.piece ∷ [],
        u,
        (x, k, ap (λ (q : Piece). q ∷ []) is, refl, there, refl),
        Gets-one p bytes above false front at ts t u
            (passed above false front w u t.token.piece (pieces t.more) here room (ap (next w) is ∙ some) space
            (λ n same. let no : name x ≡ number n = sym is ∙ same in absurd (cc))
            (λ y same _. let eq : x ≡ y = (let no : name x ≡ name y = sym is ∙ same in cc) in
            subst (λ (z : List ℕ). Contains (declared_names above) z) eq
            (Contains-position x (declared_names above) k there))
            (λ y same first. let no : true ≡ false = ap begins_variable (sym first) ∙ here.kind in absurd (cc)))
            (At-next false front w u t.token.piece here room.vars (ap (next w) is ∙ some))
            (ap is_last is),
      )

  pub name_out : (w u : Place) → At false front w → (x : List ℕ) → t.token.piece ≡ name x → next w (name x) ≡ Some u
      → ((l : Bool) → next w minus ≡ Some (size l 64) → ⊥) → (f : ℤ)
      → Outcome p bytes above false front ts (IsNamed (known above) f u)
      (variable_of bytes (known above) (shown t.token) f)
  unfolding variable_of
  name_out w u here x is some space f =
      subst (λ (b : Bool). Outcome p bytes above false front ts (IsNamed (known above) f u)
      (cond b (variable_by (known above (slice_range bytes t.token.from t.token.to)) (shown t.token) f)
      (Err (refusal (shown t.token)))))
      (sym (ap (λ (r : Piece). is_name_class (class_of r)) is)) (found w u here x is some space f _ refl)

  -- a name where one may stand
  pub variable_out : (w u : Place) → At false front w → ((x : List ℕ) → next w (name x) ≡ Some u)
      → ((q : Piece) → is_name_class (class_of q) ≡ false → next w q ≡ None)
      → ((l : Bool) → next w minus ≡ Some (size l 64) → ⊥) → (f : ℤ)
      → Outcome p bytes above false front ts (IsNamed (known above) f u)
      (variable_of bytes (known above) (shown t.token) f)
  unfolding variable_of
  variable_out w u here some other space f = by_piece t.token.piece refl
    where
      Goal : Bool → Type 0
      Goal b = Outcome p bytes above false front ts (IsNamed (known above) f u)
          (cond b (variable_by (known above (slice_range bytes t.token.from t.token.to)) (shown t.token) f)
          (Err (refusal (shown t.token))))

      by_piece : (q : Piece) → t.token.piece ≡ q → Goal (is_name_class (class_of t.token.piece))
      by_piece (name x) is = subst Goal (sym (ap (λ (r : Piece). is_name_class (class_of r)) is))
          (found w u here x is (some x) space f _ refl)
      by_piece q is = subst Goal (sym (ap (λ (r : Piece). is_name_class (class_of r)) is))
          (refuse w here (ap (next w) is ∙ other q refl))
