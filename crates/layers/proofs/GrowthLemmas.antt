-- What adding an entry makes of layers is determined.
use Rattle.std.proofs.Common.{◌≡◌, ◌∙◌, ℕ, ◌+◌, ◌-◌, ◌*◌, ◌<◌, ◌≤◌, List, [], ◌∷◌, ◌++◌, length, take, drop, inl, inr, arith, sym, ap}
use Rattle.std.proofs.lemmas.Bool.{cases_order}
use Rattle.cert_check.specs.declared.entry.Entry.{Entry}
use Rattle.layers.specs.Halving.{AreGrown, GrowthIsDetermined}
use Rattle.layers.specs.Layers.{joined}

-- no more layers stay
no_more : (layers grown others : List (List Entry)) (e : Entry) (one : AreGrown layers e grown)
    (two : AreGrown layers e others) → one.kept < two.kept → ⊥
no_more layers grown others e one two more =
    let last : ℕ = two.kept - 1 in
    let is : last + 1 ≡ two.kept = omega (arith, more) in
    let behind = ap (λ (n : ℕ). length (joined (drop n layers))) is in
    let none : List Entry = [] in
    omega (
      arith,
      behind,
      two.long last none is,
      one.short last none (omega (arith, more, is)) (omega (arith, is, two.within)),
    )

pub one_growth : GrowthIsDetermined
one_growth layers grown others e one two = elim (cases_order one.kept two.kept) [
  | inl same ↦
      one.layers_are
      ∙ (ap (λ (n : ℕ). take n layers ++ (joined (drop n layers) ++ e ∷ []) ∷ []) same ∙ sym two.layers_are)
  | inr (inl more) ↦ absurd (no_more layers grown others e one two more)
  | inr (inr fewer) ↦ absurd (no_more layers others grown e two one fewer)
]
