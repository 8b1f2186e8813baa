-- A disk in memory, and what it tells of the calls that were made.
use Rattle.std.specs.Prelude.{◌⊎◌, ℕ, ◌+◌, ◌-◌, ◌^◌, min, List, length, Option, Some, true}
use Rattle.outside.specs.States.{DiskState}
use Rattle.devices.specs.Steps.{MayLeave, MightHaveLeft, Past, began, step_in, with_front, piece_of}
use Rattle.devices.specs.declared.step.Step.{Step}

-- its content, its name, the steps that it took, the last one first, the numbers of the calls that are to fail, the
-- number of the next call, how many of those listed were made, and for how many calls memory ran out
pub record MemDiskState : Type 0 where
  pub bytes : List ℕ
  pub name : Option (List ℕ)
  pub steps : List Step
  pub failing : List ℕ
  pub calls : ℕ
  pub listed : ℕ
  pub starved : ℕ

-- what it tells as a disk: its content, and images that keep the rules
abbrev pub mem_disk : MemDiskState → DiskState
mem_disk disk = record {
  name = disk.name;
  content = Some disk.bytes;
  tells_images = true;
  keeps_rules = true;
  may_leave = MayLeave disk.bytes disk.steps;
  moment = length disk.steps;
  left_since = MightHaveLeft disk.bytes disk.steps;
  faults = min (disk.listed + disk.starved) (2 ^ 64 - 1);
}

-- the disk as the call of this number began
abbrev pub as_began : MemDiskState → ℕ → Past
as_began disk call = began disk.bytes disk.steps call

-- the length of the piece of this call, 0 if it is no write that was done
abbrev pub piece_in : MemDiskState → ℕ → ℕ
piece_in disk call = piece_of (step_in disk.steps call)

-- the file as this call began, with the first bytes of its piece in place if it is a write that was done
abbrev pub image_in : MemDiskState → ℕ → ℕ → List ℕ
image_in disk call kept = with_front (step_in disk.steps call) kept (as_began disk call).file

-- a crash may leave it at that moment
abbrev pub MayBeLeft : Past → List ℕ → Type 0
MayBeLeft past image = MayLeave past.file past.steps image

-- a crash within this call may leave it: as the call began, or as it ended
abbrev pub MayBeLeftWithin : MemDiskState → ℕ → List ℕ → Type 0
MayBeLeftWithin disk call image = MayBeLeft (as_began disk call) image ⊎ MayBeLeft (as_began disk (call + 1)) image
