mod Elements
mod TermLemmas
mod FormLemmas
mod OrderLemmas
mod KeyLemmas
mod Worked
mod SameTerms
