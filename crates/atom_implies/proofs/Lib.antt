mod TableLemmas
mod ImpliedLemmas
mod Worked
