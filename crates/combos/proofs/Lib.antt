mod CornerLemmas
mod PairLemmas
mod UnitLemmas
mod WorthLemmas
mod Worked
