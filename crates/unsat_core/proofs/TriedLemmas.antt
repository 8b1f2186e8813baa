-- Atoms that are tried in a row.
use Rattle.std.proofs.Common.{◌≡◌, ℕ, ◌+◌, ◌<◌, Bool, true, false, List, inl, inr, refl, sym, subst, ap, ◌∙◌, arith}
use Rattle.lin_model.specs.Lists.{below_or_last}
use Rattle.unsat_core.specs.Cores.{IsChosen, IsNeeded}
use Rattle.unsat_core.specs.Steps.{PlainRefuted, Suffices, IsLeftOut, Stays, Shrinks, AreTried, chosen_count}
use Rattle.unsat_core.proofs.WithoutLemmas.{chosen_count-without}

-- none is tried yet
pub AreTried-none : (r : PlainRefuted) (start : List Bool) → AreTried r start 0 start false
AreTried-none r start = record { same = refl; needed = λ i lt is. absurd (omega arith) }

-- whatever was tried, what is left will do
pub Suffices-tried : (r : PlainRefuted) (start : List Bool) (i : ℕ) (now : List Bool) (some : Bool) → Suffices r start
    → AreTried r start i now some → Suffices r now
Suffices-tried r start i now true s tried = tried.suffices
Suffices-tried r start i now false s tried = subst (λ (c : List Bool). Suffices r c) (sym tried.same) s

-- what is left is no more than at the start
fewer-tried : (r : PlainRefuted) (start : List Bool) (i : ℕ) (now : List Bool) (some : Bool)
    → AreTried r start i now some → chosen_count now < chosen_count start + 1
fewer-tried r start i now true tried = let fewer = tried.fewer in omega (arith, fewer)
fewer-tried r start i now false tried = let same : chosen_count now ≡ chosen_count start = ap chosen_count tried.same in
    omega (arith, same)

-- one more is left out
pub Shrinks-left_out : (r : PlainRefuted) (start : List Bool) (i : ℕ) (now : List Bool) (some : Bool)
    (after : List Bool) → AreTried r start i now some → IsLeftOut r now i after → Shrinks r start after
Shrinks-left_out r start i now some after tried left = record {
  suffices = left.suffices;
  fewer =
      let without_it : chosen_count after + 1 ≡ chosen_count now =
      ap (λ (c : List Bool). chosen_count c + 1) left.without_it ∙ chosen_count-without now i left.was_chosen in
      omega (arith, without_it, fewer-tried r start i now some tried);
}

-- one more stays
pub AreTried-stays : (r : PlainRefuted) (start : List Bool) (i : ℕ) (now : List Bool) (some : Bool)
    (after : List Bool) → AreTried r start i now some → Stays r now i after → AreTried r start (i + 1) after some
AreTried-stays r start i now true after tried stays =
    subst (λ (c : List Bool). Shrinks r start c) (sym stays.same) tried
AreTried-stays r start i now false after tried stays = record {
  same = stays.same ∙ tried.same;
  needed = λ k lt is. elim (below_or_last k i lt) [
    | inl before ↦ tried.needed k before is
    | inr same ↦
        subst (λ (n : ℕ). IsNeeded r.key r.tree start n) (sym same)
        (subst (λ (c : List Bool). IsChosen c i → IsNeeded r.key r.tree c i) tried.same stays.needed
        (subst (λ (n : ℕ). IsChosen start n) same is))
  ];
}
