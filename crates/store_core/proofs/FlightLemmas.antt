-- Open flights: taking one out, and looking for one.
use Rattle.std.proofs.Common.{◌≡◌, ◌≢◌, ℕ, zero, suc, ◌+◌, ◌<◌, ◌≤◌, ◌==◌, not, Bool, true, false, cond, List, [], ◌∷◌, length}
use Rattle.std.proofs.Common.{get_or, arith, refl, sym, subst, ◌∙◌, inl, inr}
use Rattle.std.specs.List.{Any}
use Rattle.std.proofs.lemmas.Bool.{eqb-false}
use Rattle.std.proofs.lemmas.List.{get_or_default}
use Rattle.lin_model.specs.KeyAtom.{PlainKeyAtom}
use Rattle.lin_model.specs.Lists.{below_or_last}
use Rattle.cert_check.specs.declared.flight.Flight.{Flight}
use Rattle.cert_check.specs.Machine.{without}

-- what is left is no longer
shorter : (keep : Bool) (f : Flight) (fs rest : List Flight) → length rest ≤ length fs
    → length (cond keep (f ∷ rest) rest) ≤ length (f ∷ fs)
shorter true f fs rest le = omega (arith, le)
shorter false f fs rest le = omega (arith, le)

no_longer : (seat : ℕ) (fs : List Flight) → length (without seat fs) ≤ length fs
no_longer seat [] = omega arith
no_longer seat (f ∷ fs) = shorter (not (f.seat == seat)) f fs (without seat fs) (no_longer seat fs)

-- and shorter, where a flight of the seat stands in front
gone : (f : Flight) (fs rest : List Flight) (seat : ℕ) (own : Bool) → (f.seat == seat) ≡ own → f.seat ≡ seat
    → length rest ≤ length fs → length (cond (not own) (f ∷ rest) rest) + 1 ≤ length (f ∷ fs)
gone f fs rest seat true e same le = omega (arith, le)
gone f fs rest seat false e same le = absurd (omega (arith, eqb-false f.seat seat e, same))

-- or behind
shorter_behind : (keep : Bool) (f : Flight) (fs rest : List Flight) → length rest + 1 ≤ length fs
    → length (cond keep (f ∷ rest) rest) + 1 ≤ length (f ∷ fs)
shorter_behind true f fs rest le = omega (arith, le)
shorter_behind false f fs rest le = omega (arith, le)

pub fewer : (seat : ℕ) (fs : List Flight) → Any (λ f. f.seat ≡ seat) fs → length (without seat fs) + 1 ≤ length fs
fewer seat [] (k, f, lt, is, own) = absurd (omega (arith, lt))
fewer seat (f ∷ fs) (zero, g, lt, is, own) =
    gone f fs (without seat fs) seat (f.seat == seat) refl (subst (λ (h : Flight). h.seat ≡ seat) (sym is) own)
    (no_longer seat fs)
fewer seat (f ∷ fs) (suc k, g, lt, is, own) =
    shorter_behind (not (f.seat == seat)) f fs (without seat fs)
    (fewer seat fs (k, g, omega (arith, lt), is, own))

-- no flight so far is on the key
abbrev pub NoneOn : List Flight → List PlainKeyAtom → ℕ → Type 0
NoneOn fs key n = (k : ℕ) (d : Flight) → k < n → (get_or fs k d).key ≢ key

pub none_more : (fs : List Flight) (key : List PlainKeyAtom) (n : ℕ) (f : Flight) → NoneOn fs key n → n < length fs
    → f ≡ get_or fs n f → f.key ≢ key → NoneOn fs key (n + 1)
none_more fs key n f none lt is other k d below = elim (below_or_last k n below) [
  | inl before ↦ none k d before
  | inr last ↦ subst (λ (m : ℕ). (get_or fs m d).key ≢ key) (sym last)
      (subst (λ (g : Flight). g.key ≢ key) (is ∙ sym (get_or_default fs n d f lt)) other)
]
