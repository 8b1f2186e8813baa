-- The cut that the code gives.
use Rattle.refutation.specs.Cut.{PlainCut}
use Rattle.box_solver.specs.declared.tighter_side.TighterSide.{TighterSide}

-- a cut of the code as the pair that it stands for
abbrev pub plain_cut : TighterSide → PlainCut
plain_cut c = record { value = c.value; upper = c.upper }
