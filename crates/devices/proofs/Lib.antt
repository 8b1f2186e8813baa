mod Checks
mod PatchLemmas
mod StepLemmas
mod MomentLemmas
mod MemDiskLemmas
mod RememberLemmas
