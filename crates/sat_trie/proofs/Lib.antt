mod AnyLemmas
mod CoverLemmas
mod LeftLemmas
mod WantedLemmas
mod RestLemmas
mod BranchLemmas
mod WalkLemmas
