-- Whether some atom that is asked implies another, looked for among those of its form.
use Rattle.std.proofs.Common.{◌≡◌, ℕ, ◌<◌, ◌≤◌, ◌∙◌, List, length, get_or, ap, sym, subst, arith}
use Rattle.std.specs.Prelude.{Any}
use Rattle.std.proofs.lemmas.List.{get_or_default}
use Rattle.lin_model.specs.KeyAtom.{PlainKeyAtom}
use Rattle.atom_implies.specs.Implies.{Implies}
use Rattle.key_tree.specs.declared.runs.Run.{Run}
use Rattle.key_tree.specs.Prints.{hash_of}
use Rattle.key_tree.specs.Asked.{no_atom}
use Rattle.key_tree.specs.Runs.{IsRunOf}
use Rattle.key_tree.specs.Laws.{PrintsAreRight}

-- one that does is found
pub one_implies : (asked : List PlainKeyAtom) (atom : PlainKeyAtom) (place : ℕ) → place < length asked
    → Implies (get_or asked place no_atom) atom → Any (λ b. Implies b atom) asked
one_implies asked atom place lt implies =
    (place, get_or asked place no_atom, lt, get_or_default asked place (get_or asked place no_atom) no_atom lt, implies)

-- where none of the run does, none does
pub none_implies : PrintsAreRight → (asked : List PlainKeyAtom) (atom : PlainKeyAtom) (hash n : ℕ) (run : Run)
    → hash ≡ hash_of atom.form → IsRunOf asked hash run
    → ((place : ℕ) → run.first ≤ place → place < n → ¬ Implies (get_or asked place no_atom) atom) → run.end ≤ n
    → ¬ Any (λ b. Implies b atom) asked
none_implies prints asked atom hash n run is is_run none all (place, b, lt, at, implies) =
    let there : get_or asked place no_atom ≡ b = get_or_default asked place no_atom b lt ∙ at in
    let same : hash_of (get_or asked place no_atom).form ≡ hash =
    ap (λ (a : PlainKeyAtom). hash_of a.form) there ∙ (prints.hash b atom implies ∙ sym is) in
    none place (is_run.first place no_atom lt same) (omega (arith, is_run.end place no_atom lt same, all))
    (subst (λ (a : PlainKeyAtom). Implies a atom) (sym there) implies)
