-- What a slice comes to.
use Rattle.lin_model.specs.Conditions.{PlainCondition}
use Rattle.slicer.specs.Slices.{PlainSlice}
use Rattle.canoniser.specs.declared.canonical.Canonical.{Canonical}
use Rattle.canoniser.specs.declared.canonical.Canonical.TheVariants.{False, Key}
use Rattle.canoniser.specs.Solutions.{IsFirstFalse, IsCanonised}

-- the first atom that no integers satisfy, where there is one; otherwise the key and the way back
abbrev pub Canonises : PlainCondition → PlainSlice → Canonical → Type 0
Canonises c s (False j) = IsFirstFalse c s j
Canonises c s (Key key back) = IsCanonised c s back key
