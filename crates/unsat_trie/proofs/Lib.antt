mod CoverLemmas
mod BranchLemmas
mod RunLemmas
