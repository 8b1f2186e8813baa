use Rattle.std.specs.Prelude.{ℕ, ◌+◌, ◌-◌, ◌^◌, min, List}

-- a sink in memory: the bytes taken, the numbers of the calls that are to fail, the number of the next call, how many
-- of those listed were made, and for how many calls memory ran out
pub record MemSinkState : Type 0 where
  pub taken : List ℕ
  pub failing : List ℕ
  pub calls : ℕ
  pub listed : ℕ
  pub starved : ℕ

-- all its faults: the listed calls that were made, and the calls for which memory ran out
abbrev pub sink_faults : MemSinkState → ℕ
sink_faults sink = min (sink.listed + sink.starved) (2 ^ 64 - 1)
