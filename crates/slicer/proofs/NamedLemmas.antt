-- The variables that a growing side names, and the limits of their numbers.
use Rattle.std.proofs.Common.{◌≡◌, ◌↔◌, ℕ, ◌+◌, ◌<◌, ◌≤◌, List, [], ◌∷◌, ◌++◌, length, take, get_or, Option, Some, None}
use Rattle.std.proofs.Common.{◌⊎◌, inl, inr, arith, sym, subst, ap, ◌∙◌, append-nil}
use Rattle.std.specs.Prelude.{Contains, All}
use Rattle.std.specs.List.{cons_option}
use Rattle.std.proofs.lemmas.List.{take_more, get_or_default}
use Rattle.std.proofs.Math.ListN.{get_or-append}
use Rattle.std.proofs.Math.Seq.{get_or-append_seam}
use borrow.Author.Count.{below_more}
use Rattle.std.proofs.lemmas.List.Elements.{Contains-append_left, Contains-push, Contains-push_cases, filter_map-append}
use Rattle.lin_model.specs.Terms.{PlainTerm}
use Rattle.lin_model.specs.Conditions.{AtomNamesBelow}
use Rattle.lin_model.specs.declared.atom.Atom.{Atom}
use Rattle.lin_model.specs.Facts.{AtomNamesBelow-larger}
use Rattle.slicer.specs.declared.var_set.VarSet.{VarSet}
use Rattle.slicer.specs.Names.{side_vars}
use Rattle.slicer.specs.VarSets.{IsSetOf}

-- a list with what may be one more number
Contains-one_more : (xs : List ℕ) (more : Option ℕ) (v : ℕ)
    → Contains (xs ++ cons_option more []) v ↔ (Contains xs v ⊎ (more ≡ Some v))
Contains-one_more xs None v =
    (λ has. inl (rw append-nil at has), λ one. elim one [ inl has ↦ rw append-nil has | inr no_more ↦ absurd (cc) ])
Contains-one_more xs (Some w) v = (
  λ has. elim (Contains-push_cases xs w v has) [ inl earlier ↦ inl earlier | inr last ↦ inr (ap Some last) ],
  λ one. elim one [
    | inl earlier ↦ Contains-append_left xs (w ∷ []) v earlier
    | inr last ↦ let e : w ≡ v =
        cc in rw e (Contains-push xs v)
  ],
)

-- a side with one more term names that term's variable too
pub Contains-side_vars_more : (terms : List PlainTerm) (k : ℕ) (term : PlainTerm) (v : ℕ) → k < length terms
    → term ≡ get_or terms k term → Contains (side_vars (take (k + 1) terms)) v
    ↔ (Contains (side_vars (take k terms)) v ⊎ (term.var ≡ Some v))
Contains-side_vars_more terms k term v within is =
    let more : take (k + 1) terms ≡ take k terms ++ term ∷ [] =
    take_more terms k term within ∙ ap (λ (t : PlainTerm). take k terms ++ t ∷ []) (sym is) in
    let vars : side_vars (take (k + 1) terms) ≡ side_vars (take k terms) ++ cons_option term.var [] =
    ap side_vars more ∙ filter_map-append (λ (t : PlainTerm). t.var) (take k terms) (term ∷ []) in
    rw vars (Contains-one_more (side_vars (take k terms)) term.var v)

pub AtomsNameBelow-larger : (n m : ℕ) → n ≤ m → (atoms : List Atom) → All (AtomNamesBelow n) atoms
    → All (AtomNamesBelow m) atoms
AtomsNameBelow-larger n m le atoms below k d within = AtomNamesBelow-larger n m le (get_or atoms k d) (below k d within)

-- one more set behind those of the atoms so far
pub sets_more : (atoms : List Atom) (sets : List VarSet) (i : ℕ) (atom : Atom) (set : VarSet) → i < length atoms
    → atom ≡ get_or atoms i atom → length sets ≡ i
    → ((k : ℕ) (a : Atom) (s : VarSet) → k < i → IsSetOf (get_or atoms k a) (get_or sets k s)) → IsSetOf atom set
    → (k : ℕ) (a : Atom) (s : VarSet) → k < i + 1 → IsSetOf (get_or atoms k a) (get_or (sets ++ set ∷ []) k s)
sets_more atoms sets i atom set within is count so_far here k a s lt =
    below_more (λ (j : ℕ). IsSetOf (get_or atoms j a) (get_or (sets ++ set ∷ []) j s)) i
    (λ j before.
    let same = get_or-append sets (set ∷ []) s j (omega arith) in
    rw same (so_far j a s before))
    (
    let there : get_or atoms i a ≡ atom = sym (is ∙ get_or_default atoms i atom a within) in
    let last : get_or (sets ++ set ∷ []) i s ≡ set =
    subst (λ (n : ℕ). get_or (sets ++ set ∷ []) n s ≡ set) count (get_or-append_seam sets set [] s) in
    rw (there, last) here
    )
    k lt
