-- What follows from the definition of chosen atoms: for the proofs of the crates above.
use Rattle.std.proofs.Common.{Bool, true, false, List, [], ◌∷◌}
use Rattle.std.specs.List.{All}
use Rattle.std.proofs.lemmas.List.Elements.{All-nil, All-cons, All-head, All-tail}
use Rattle.lin_model.specs.KeyAtom.{PlainKeyAtom}
use Rattle.refutation.specs.Chosen.{chosen}

-- what holds of all atoms of a key holds of all chosen ones
pub All-chosen : (P : PlainKeyAtom → Type 0) (key : List PlainKeyAtom) (choice : List Bool) → All P key
    → All P (chosen key choice)
All-chosen P [] choice all = All-nil P
All-chosen P (a ∷ key) [] all = All-nil P
All-chosen P (a ∷ key) (true ∷ choice) all =
    All-cons P a (chosen key choice) (All-head P a key all) (All-chosen P key choice (All-tail P a key all))
All-chosen P (a ∷ key) (false ∷ choice) all = All-chosen P key choice (All-tail P a key all)
