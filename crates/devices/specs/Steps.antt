-- What a disk in memory did to its file, step by step, the last one first, and what a crash may leave of it. A list of
-- steps stands beside the file as it is after the last of them.
use Rattle.std.specs.Prelude.{◌≡◌, ◌==◌, ◌⊎◌, ℕ, ◌+◌, ◌≤◌, List, [], ◌∷◌, length, take, ⊤, Option, None, Some}
use Rattle.std.specs.Prelude.{find, if◌then◌else◌, nat_lt}
use Rattle.outside.specs.Counts.{raised}
use Rattle.outside.specs.Crash.{patched, Torn}
use Rattle.devices.specs.PastWrite.{PastWriteState}
use Rattle.devices.specs.declared.step.Step.{Step}
use Rattle.devices.specs.declared.step.Step.TheVariants.{Write, Sync}

-- the number of the call that took the step
abbrev pub call_of : Step → ℕ
call_of (Write write) = write.call
call_of (Sync call) = call

-- the file as it was before a write
abbrev pub before_write : PastWriteState → List ℕ → List ℕ
before_write write file = take write.len (patched file write.at write.overwritten)

-- the file as it was before the step
abbrev pub before_step : Step → List ℕ → List ℕ
before_step (Write write) file = before_write write file
before_step (Sync call) file = file

-- The images that a crash may leave. At first and after a sync it leaves the file. After a write it leaves the file, or
-- what it might have left before the write, torn in the range of the whole piece.
abbrev pub MayLeave : List ℕ → List Step → List ℕ → Type 0
MayLeave file [] image = image ≡ file
MayLeave file (Sync call ∷ older) image = image ≡ file
MayLeave file (Write write ∷ older) image = (image ≡ file)
    ⊎ ((from : List ℕ) × MayLeave (before_write write file) older from × Torn write.at (length write.piece) from image)

-- The images that a crash at some moment from t on might have left. A moment is the number of steps that were taken.
abbrev pub MightHaveLeft : List ℕ → List Step → ℕ → List ℕ → Type 0
MightHaveLeft file [] t image = (t ≤ 0) × MayLeave file [] image
MightHaveLeft file (step ∷ older) t image = ((t ≤ length (step ∷ older)) × MayLeave file (step ∷ older) image)
    ⊎ MightHaveLeft (before_step step file) older t image

-- the file at some moment, with the steps up to it
pub record Past : Type 0 where
  pub file : List ℕ
  pub steps : List Step

-- as the call of this number began: its own step and all later ones are taken back
abbrev pub began : List ℕ → List Step → ℕ → Past
began file [] call = record { file = file; steps = [] }
began file (step ∷ older) call =
    if nat_lt (call_of step) call then record { file = file; steps = step ∷ older }
    else began (before_step step file) older call

-- the step of this call, if it took one
abbrev pub step_in : List Step → ℕ → Option Step
step_in steps call = find (λ step. call_of step == call) steps

-- the length of the piece of a call that took this step
abbrev pub piece_of : Option Step → ℕ
piece_of None = 0
piece_of (Some (Sync call)) = 0
piece_of (Some (Write write)) = length write.piece

-- the file with the first bytes of the piece in place, if the step is a write
abbrev pub with_front : Option Step → ℕ → List ℕ → List ℕ
with_front None kept file = file
with_front (Some (Sync call)) kept file = file
with_front (Some (Write write)) kept file = patched file write.at (take kept write.piece)

-- the step, if it is a write, begins within the file
abbrev pub BeginsWithin : Option Step → List ℕ → Type 0
BeginsWithin None file = ⊤
BeginsWithin (Some (Sync call)) file = ⊤
BeginsWithin (Some (Write write)) file = write.at ≤ length file

-- The first number is that of an earlier call; calls past the end of the count share its last number.
abbrev pub IsEarlierCall : ℕ → ℕ → Type 0
IsEarlierCall call later = raised call ≤ later

-- each step was taken by an earlier call than the next one, and the last one by an earlier call than this
abbrev pub AreOrdered : ℕ → List Step → Type 0
AreOrdered call [] = ⊤
AreOrdered call (step ∷ older) = IsEarlierCall (call_of step) call × AreOrdered (call_of step) older

-- a write began within the file before it, and what it overwrote lies within the file after it
abbrev pub CanUndo : Step → List ℕ → Type 0
CanUndo (Sync call) file = ⊤
CanUndo (Write write) file = (write.at ≤ write.len) × (write.at + length write.overwritten ≤ length file)

-- each step can be undone, one after the other
abbrev pub CanUndoAll : List ℕ → List Step → Type 0
CanUndoAll file [] = ⊤
CanUndoAll file (step ∷ older) = CanUndo step file × CanUndoAll (before_step step file) older
