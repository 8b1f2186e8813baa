-- Choices that will do: the one to begin with, one atom less, and none that can go.
use Rattle.std.proofs.Common.{◌≡◌, ℕ, ◌<◌, Bool, false, Option, List, [], length, get_or, slice_get, inl, inr, pos}
use Rattle.std.proofs.Common.{sym, subst, ap, ◌∙◌, arith}
use Rattle.std.specs.Prelude.{◌↔◌, IsTrue, IfSome}
use Rattle.std.specs.Option.{IsSomeAnd}
use Rattle.std.proofs.lemmas.Bool.{both_ways, or_left, or_cases, or_parts}
use Rattle.std.proofs.lemmas.List.{length-set}
use Rattle.std.proofs.lemmas.Option.{slice_get-get_or}
use Rattle.lin_model.specs.declared.op.Op.TheVariants.{Le}
use Rattle.lin_model.specs.KeyAtom.{PlainKeyAtom}
use Rattle.refutation.specs.Chosen.{chosen_box, ClosesBox}
use Rattle.refutation.specs.Reading.{Refutes}
use Rattle.refutation.specs.Tree.{PlainTree}
use Rattle.unsat_core.specs.Cores.{HasNamed, IsChosen, IsLeast, IsNeeded, RefutesChosen, is_bound, without}
use Rattle.unsat_core.specs.Laws.{ChoicesAreClosedAlike, HasBounds, OthersCanGo}
use Rattle.unsat_core.specs.Named.{AreNamed}
use Rattle.unsat_core.specs.Renumbered.{names}
use Rattle.unsat_core.specs.Steps.{PlainRefuted, AddsBounds, Suffices}
use Rattle.unsat_core.proofs.WithoutLemmas.{chosen-within, chosen_before, chosen_after}

-- what stands for an atom where there is none
abbrev no_atom : PlainKeyAtom
no_atom = record { form = []; op = Le; constant = pos 0 }

-- ---- the choice to begin with

-- the atoms that the tree names are chosen
HasNamed-first : (key : List PlainKeyAtom) (tree : PlainTree) (flags choice : List Bool) → AreNamed key tree flags
    → AddsBounds key flags choice → HasNamed key tree choice
HasNamed-first key tree flags choice named first i lt is =
    first.each i no_atom lt
    ∙ or_left (get_or flags i false) (is_bound (get_or key i no_atom)) (named.each i lt ∙ is)

-- those that may give a bound are chosen
HasBounds-first : (key : List PlainKeyAtom) (flags choice : List Bool) → AddsBounds key flags choice
    → HasBounds key choice
HasBounds-first key flags choice first i lt out =
    subst (λ (o : Option PlainKeyAtom). IfSome o (λ a. is_bound a ≡ false))
    (sym (slice_get-get_or key i no_atom lt))
    (or_parts (get_or flags i false) (is_bound (get_or key i no_atom)) (sym (first.each i no_atom lt) ∙ out)).1

-- of those that the tree doesn't name no others are
bound-first : (key : List PlainKeyAtom) (tree : PlainTree) (flags choice : List Bool) → AreNamed key tree flags
    → AddsBounds key flags choice → (i : ℕ) → IsChosen choice i → names tree i ≡ false
    → IsSomeAnd (slice_get key i) (λ a. IsTrue (is_bound a))
bound-first key tree flags choice named first i is not_named =
    let within : i < length choice = chosen-within choice i is in
    let lt : i < length key = omega (arith, within, first.one_each) in
    subst (λ (o : Option PlainKeyAtom). IsSomeAnd o (λ a. IsTrue (is_bound a)))
    (sym (slice_get-get_or key i no_atom lt))
    (elim (or_cases (get_or flags i false) (is_bound (get_or key i no_atom)) (sym (first.each i no_atom lt) ∙ is)) [
      | inl raised ↦ absurd (both_ways (get_or flags i false) (named.each i lt ∙ not_named) raised)
      | inr bound ↦ bound
    ])

-- the named atoms and the bounds of a refuted key will do
pub Suffices-first : OthersCanGo → (r : PlainRefuted) (flags choice : List Bool)
    → Refutes r.key r.tree.nodes r.tree.terms → AreNamed r.key r.tree flags → AddsBounds r.key flags choice
    → Suffices r choice
Suffices-first others r flags choice refutes named first = record {
  one_each = first.one_each;
  has_named = HasNamed-first r.key r.tree flags choice named first;
  refutes = others r.key r.tree choice first.one_each (HasNamed-first r.key r.tree flags choice named first)
      (HasBounds-first r.key flags choice first) refutes;
  others_bound = bound-first r.key r.tree flags choice named first;
}

-- ---- one atom less

-- without an atom that the tree doesn't name, those that it names are chosen still
pub HasNamed-without : (key : List PlainKeyAtom) (tree : PlainTree) (choice : List Bool) (i : ℕ)
    → HasNamed key tree choice → names tree i ≡ false → HasNamed key tree (without choice i)
HasNamed-without key tree choice i has not_named j lt is =
    chosen_after choice i j
    (λ same. both_ways (names tree j) (ap (names tree) same ∙ not_named) is) (has j lt is)

-- where the tree refutes the others, they will do
pub Suffices-without : (r : PlainRefuted) (choice : List Bool) (i : ℕ) → Suffices r choice → names r.tree i ≡ false
    → RefutesChosen r.key r.tree (without choice i) → Suffices r (without choice i)
Suffices-without r choice i s not_named refutes = record {
  one_each = length-set choice i false ∙ s.one_each;
  has_named = HasNamed-without r.key r.tree choice i s.has_named not_named;
  refutes = refutes;
  others_bound = λ j is other. s.others_bound j (chosen_before choice i j is).1 other;
}

-- where it doesn't, the atom is needed
pub IsNeeded-bound : (r : PlainRefuted) (choice : List Bool) (i : ℕ) → Suffices r choice → IsChosen choice i
    → names r.tree i ≡ false → ¬ RefutesChosen r.key r.tree (without choice i) → IsNeeded r.key r.tree choice i
IsNeeded-bound r choice i s is not_named not_refuted =
    inr (record { bound = s.others_bound i is not_named; needed = not_refuted })

-- where each is needed, the choice is a least one
pub IsLeast-needed : (r : PlainRefuted) (choice : List Bool) → Suffices r choice
    → ((i : ℕ) → i < length choice → IsChosen choice i → IsNeeded r.key r.tree choice i)
    → IsLeast r.key r.tree choice
IsLeast-needed r choice s needed = record {
  one_each = s.one_each;
  named = s.has_named;
  refutes = s.refutes;
  needed = λ i is. needed i (chosen-within choice i is) is;
}

-- ---- what closes the box of the chosen bounds

-- an answer that says whether the tree closes the box says whether it refutes the choice
pub refutes-closes : ChoicesAreClosedAlike → (r : PlainRefuted) (choice : List Bool) → length choice ≡ length r.key
    → HasNamed r.key r.tree choice → (closed : Bool)
    → (IsTrue closed ↔ ClosesBox r.key (chosen_box r.key choice) r.tree.nodes r.tree.terms)
    → IsTrue closed ↔ RefutesChosen r.key r.tree choice
refutes-closes alike r choice one_each has closed says =
    let law = alike r.key r.tree choice one_each has in
    (λ is. law.1 (says.0 is), λ refutes. says.1 (law.0 refutes))
