-- The bounds of chosen atoms, one atom of the key after another.
use Rattle.std.proofs.Common.{◌≡◌, ℕ, ◌+◌, ◌<◌, ◌≤◌, Bool, true, false, List, [], ◌∷◌, length, get_or, drop, ap, sym, ◌∙◌}
use Rattle.std.proofs.Common.{subst, drop_of_length-le, arith}
use Rattle.std.proofs.lemmas.List.{drop_more}
use Rattle.lin_model.specs.KeyAtom.{PlainKeyAtom}
use Rattle.refutation.specs.Bounds.{PlainBounds, lower_of, upper_of, lower_from, upper_from, tighter_lower}
use Rattle.refutation.specs.Bounds.{tighter_upper}
use Rattle.refutation.specs.Chosen.{chosen}
use Rattle.refutation.proofs.BoundsLemmas.{LeadTo, lead-on}

module _ (key : List PlainKeyAtom) (choice : List Bool) (one_each : length choice ≡ length key) where
  -- the chosen ones from a place on
  abbrev pub chosen_from : ℕ → List PlainKeyAtom
  chosen_from i = chosen (drop i key) (drop i choice)

  -- by the atom at the place and its flag
  from_place : (i : ℕ) (d : PlainKeyAtom) (e b : Bool) → i < length key → get_or choice i e ≡ b
      → chosen_from i ≡ chosen (get_or key i d ∷ drop (i + 1) key) (b ∷ drop (i + 1) choice)
  from_place i d e b lt is =
      ap (λ (atoms : List PlainKeyAtom). chosen atoms (drop i choice)) (drop_more key i d lt)
      ∙ ap (chosen (get_or key i d ∷ drop (i + 1) key)) (drop_more choice i e (omega (arith, lt, one_each)))
      ∙ ap (λ (flag : Bool). chosen (get_or key i d ∷ drop (i + 1) key) (flag ∷ drop (i + 1) choice)) is

  -- the atom at the place is taken
  pub lead-taken : (i : ℕ) (a : PlainKeyAtom) (e : Bool) (b b' after : PlainBounds) → i < length key
      → a ≡ get_or key i a → get_or choice i e ≡ true → after ≡ b'
      → ((v : ℕ) → v < 64 → lower_of b' v ≡ tighter_lower (lower_of b v) (lower_from a v))
      → ((v : ℕ) → v < 64 → upper_of b' v ≡ tighter_upper (upper_of b v) (upper_from a v))
      → LeadTo b (chosen_from i) (chosen key choice) → LeadTo after (chosen_from (i + 1)) (chosen key choice)
  lead-taken i a e b b' after lt at is same low high h =
      subst (λ (bs : PlainBounds). LeadTo bs (chosen_from (i + 1)) (chosen key choice)) (sym same)
      (lead-on b b' a (chosen_from i) (chosen_from (i + 1)) (chosen key choice)
      (from_place i a e true lt is ∙ ap (λ (x : PlainKeyAtom). x ∷ chosen_from (i + 1)) (sym at)) low high h)

  -- or passed over
  pub lead-passed : (i : ℕ) (d : PlainKeyAtom) (e : Bool) (b after : PlainBounds) → i < length key
      → get_or choice i e ≡ false → after ≡ b → LeadTo b (chosen_from i) (chosen key choice)
      → LeadTo after (chosen_from (i + 1)) (chosen key choice)
  lead-passed i d e b after lt is same h =
      subst (λ (bs : PlainBounds). LeadTo bs (chosen_from (i + 1)) (chosen key choice)) (sym same)
      (subst (λ (left : List PlainKeyAtom). LeadTo b left (chosen key choice)) (from_place i d e false lt is) h)

-- none is left
pub chosen-none : (key : List PlainKeyAtom) (choice : List Bool) (i : ℕ) → length key ≤ i
    → chosen (drop i key) (drop i choice) ≡ []
chosen-none key choice i le =
    ap (λ (atoms : List PlainKeyAtom). chosen atoms (drop i choice)) (drop_of_length-le key le)
