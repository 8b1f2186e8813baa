use Rattle.std.specs.Prelude.{ℕ, List}

-- a source in memory: the bytes left, the numbers of the calls that are to fail, the number of the next call, and
-- how many calls have failed
pub record MemSourceState : Type 0 where
  pub left : List ℕ
  pub failing : List ℕ
  pub calls : ℕ
  pub faults : ℕ
