-- No fault stands in a line that compares.
use Rattle.std.proofs.Common.{◌≡◌, ℕ, ◌<◌, ◌≤◌, ◌^◌, Bool, true, false, List, [], ◌∷◌, ◌++◌, refl, sym, ap, subst, ◌∙◌}
use Rattle.std.proofs.Common.{arith, append_assoc, inl, inr}
use Rattle.std.specs.Prelude.{Contains, MatchBool}
use Rattle.lin_model.specs.declared.atom.Atom.{Atom}
use Rattle.lin_text.specs.declared.fault.TextKind.{TextKind}
use Rattle.lin_text.specs.declared.fault.TextKind.TheVariants.{Token, Syntax, NumberTooLarge, UnknownName, NameTwice}
use Rattle.lin_text.specs.declared.fault.TextKind.TheVariants.{EmptyRange, TooManyVars, TooManyAtoms, TooManyTerms}
use Rattle.lin_text.specs.declared.fault.TextKind.TheVariants.{NoMemory}
use Rattle.lin_text.specs.Pieces.{Piece, var, word, name, number, plus, minus, times, compare, bad, line_end, PlainLine}
use Rattle.lin_text.specs.Grammar.{number_among, comparison, Compares}
use Rattle.lin_text.specs.Faults.{begins_variable, declared_names, atom_count, Stands, known}
use Rattle.lin_text.proofs.NoFaultTokens.{Every-at, InComparison, Every-comparison}
use Rattle.lin_text.proofs.NoFaultSides.{no_full_side}
use Rattle.lin_text.proofs.NoFaultLines.{no_variable}
use Rattle.lin_text.proofs.PositionLemmas.{Contains-position}

-- a front begins with `var` where the whole does
pub front_variable : (front more : List Piece) → begins_variable front ≡ true → begins_variable (front ++ more) ≡ true
front_variable [] more e = absurd (cc)
front_variable (var ∷ front) more e = refl
front_variable (word w ∷ front) more e = absurd (cc)
front_variable (name w ∷ front) more e = absurd (cc)
front_variable (number w ∷ front) more e = absurd (cc)
front_variable (plus ∷ front) more e = absurd (cc)
front_variable (minus ∷ front) more e = absurd (cc)
front_variable (times ∷ front) more e = absurd (cc)
front_variable (compare w ∷ front) more e = absurd (cc)
front_variable (bad ∷ front) more e = absurd (cc)
front_variable (line_end ∷ front) more e = absurd (cc)

-- a number that fits is not too large
number_fits : (b : Bool) (n : ℕ) → n ≤ 2 ^ 40 → b ≡ false → MatchBool b (2 ^ 31 < n) (2 ^ 40 < n) → ⊥
number_fits true n le e large = absurd (cc)
number_fits false n le e large = absurd (omega arith)

module _ (above : List PlainLine) (names : List (List ℕ)) (front : List Piece) (p : Piece) (after : List Piece)
    (a : Atom) (c : Compares (number_among names) (front ++ p ∷ after) a) where
  -- nothing before the token begins with `var`
  plain_front : begins_variable front ≡ true → ⊥
  plain_front e =
      let t : true ≡ false = sym (front_variable front (p ∷ after) e) ∙ no_variable (number_among names)
      (front ++ p ∷ after) a c in
      absurd (cc)

  not_variable : (b : Bool) → begins_variable front ≡ b → b ≡ false
  not_variable true e = absurd (plain_front e)
  not_variable false e = refl

  -- the token itself, with those behind it
  sound : InComparison (number_among names) p after
  sound = Every-at (InComparison (number_among names)) front p after
      (Every-comparison (number_among names) (front ++ p ∷ after) a c)

  pub no_stand-compared : (kind : TextKind) → names ≡ declared_names above → atom_count above < 256
      → Stands above front p after kind → ⊥
  no_stand-compared TooManyVars known few (none, e, count) =
      let t : true ≡ false = sym (ap begins_variable (ap (λ (qs : List Piece). qs ++ p ∷ after) none
      ∙ ap (λ (q : Piece). q ∷ after) e)) ∙ no_variable (number_among names) (front ++ p ∷ after) a c in
      absurd (cc)
  no_stand-compared TooManyAtoms known few (none, begins, count) = absurd (omega (arith, few, count))
  no_stand-compared TooManyTerms known few (full, begins) = no_full_side (number_among names) front (p ∷ after) a c full
  no_stand-compared Token known few e = subst (λ (q : Piece). InComparison (number_among names) q after) e sound
  no_stand-compared Syntax known few h =
      h (record {
        line = comparison c.left c.sign c.right;
        more = after;
        written = sym c.written ∙ sym (append_assoc front (p ∷ []) after);
      })
  no_stand-compared NumberTooLarge known few (n, e, inl large) =
      let fits = subst (λ (q : Piece). InComparison (number_among names) q after) e sound in
      number_fits (begins_variable front) n fits.0 (not_variable (begins_variable front) refl) large
  no_stand-compared NumberTooLarge known few (n, e, inr (large, factor)) =
      let fits = subst (λ (q : Piece). InComparison (number_among names) q after) e sound in
      absurd (omega (arith, large, fits.1 factor))
  no_stand-compared UnknownName known few (x, e, no_var, unknown) =
      let there = subst (λ (q : Piece). InComparison (number_among names) q after) e sound in
      unknown (subst (λ (xs : List (List ℕ)). Contains xs x) known (Contains-position x names there.0 there.1))
  no_stand-compared NameTwice known few (x, e, f, twice) = plain_front (ap begins_variable f)
  no_stand-compared EmptyRange known few (x, f, empty) = plain_front (ap begins_variable f)
  no_stand-compared NoMemory known few h = h
