pub mod SumLemmas
pub mod FrontLemmas
pub mod RuleLemmas
pub mod TakingLemmas
pub mod GivingLemmas
pub mod SharingLemmas
pub mod EndLemmas
