-- What is reached as more sets are taken in, and when nothing more comes.
use Rattle.std.proofs.Common.{◌≡◌, ℕ, ◌+◌, ◌<◌, ◌≤◌, List, length, get_or, ◌⊎◌, inl, inr, arith, sym, subst}
use Rattle.std.specs.Prelude.{All}
use Rattle.std.proofs.lemmas.List.Elements.{at_read}
use borrow.Author.Count.{below_more}
use Rattle.slicer.specs.declared.var_set.VarSet.{VarSet}
use Rattle.slicer.specs.Linked.{alone, longer}
use Rattle.slicer.specs.VarSets.{Has, Meet, Includes, IsReached}
use Rattle.slicer.proofs.ChainLemmas.{kept_along}

-- each of the first sets that meets what was reached is taken in, and nothing else
pub record IsAbsorbed (sets : List VarSet) (reached : VarSet) (count : ℕ) (next : VarSet) : Type 0 where
  pub all : (k : ℕ) (set : VarSet) → k < count → Meet (get_or sets k set) reached → Includes (get_or sets k set) next
  pub only : (v : ℕ) → Has next v → IsReached sets reached v
  pub keeps : Includes reached next
  pub larger : reached.bits ≤ next.bits

pub IsAbsorbed-none : (sets : List VarSet) (reached : VarSet) → IsAbsorbed sets reached 0 reached
IsAbsorbed-none sets reached = record {
  all = λ k set lt. absurd (omega arith);
  only = λ v has. (v, has, alone);
  keeps = λ v has. has;
  larger = omega arith;
}

pub IsAbsorbed-more : (sets : List VarSet) (reached : VarSet) (i : ℕ) (next set result : VarSet) → i < length sets
    → set ≡ get_or sets i set → IsAbsorbed sets reached i next → (Meet set next → Includes set result)
    → ((v : ℕ) → Has result v → Has next v ⊎ (Meet set next × Has set v)) → Includes next result
    → next.bits ≤ result.bits → IsAbsorbed sets reached (i + 1) result
IsAbsorbed-more sets reached i next set result within is so_far takes only keeps larger = let TakesIn =
    λ (x : VarSet). Meet x reached → Includes x result in record {
      all = λ k d lt. below_more (λ (j : ℕ). TakesIn (get_or sets j d)) i
          (λ j l meet v has. keeps v (so_far.all j d l meet v has))
          (at_read sets TakesIn i set within is (λ meet. takes (meet.0, meet.1, so_far.keeps meet.0 meet.2)) d) k lt;
      only = λ v has. elim (only v has) [
        | inl earlier ↦ so_far.only v earlier
        | inr both ↦ (
            let first = so_far.only both.0.0 both.0.2 in
            (first.0, first.1, longer first.2 (i, set, within, sym is, (both.0.1, both.1)))
            )
      ];
      keeps = λ v has. keeps v (so_far.keeps v has);
      larger = let before = so_far.larger in omega arith;
    }

-- where each set that meets what is reached is in it, so is all that chains join to it
pub IsReached-closed : (sets : List VarSet) (first reached : VarSet)
    → All (λ set. Meet set reached → Includes set reached) sets → Includes first reached → (v : ℕ)
    → IsReached sets first v → Has reached v
IsReached-closed sets first reached closed keeps v chain =
    kept_along Has sets (λ n. Has reached n)
    (λ a b beside here.
    let set = beside.1 in
    let all : Meet (get_or sets beside.0 set) reached → Includes (get_or sets beside.0 set) reached =
    closed beside.0 set beside.2 in
    let takes : Meet set reached → Includes set reached =
    subst (λ (x : VarSet). Meet x reached → Includes x reached) beside.3 all in
    takes (a, beside.4.0, here) b beside.4.1)
    chain.2 (keeps chain.0 chain.1)
