mod FlightLemmas
mod TurnLemmas
mod SeenLemmas
mod ConditionLemmas
mod OneOfAKeyLemmas
mod ScheduleLemmas
mod Worked
mod OutcomeLemmas
