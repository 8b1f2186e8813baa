use Rattle.refutation.specs.Box.{root_box}
use Rattle.refutation.proofs.ClosedBoxes.{closes-none, IsKey-narrow}
use Rattle.refutation.proofs.Points.{root_box-has}
use Rattle.refutation.proofs.laws.roots_of_models_stay_open.Goals as goal

pub returns : goal.returns
returns c =
    λ key leaf point is holds. closes-none key (root_box key) leaf point (IsKey-narrow key is) holds
    (root_box-has key point holds)
