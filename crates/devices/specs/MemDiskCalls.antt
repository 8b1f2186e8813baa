-- What the calls of a disk in memory do to it: `old` is the disk before a call, whose number is `old.calls`, and `new`
-- the disk after it.
use Rattle.std.specs.Prelude.{◌≡◌, ◌⊎◌, ℕ, ◌/◌, ◌<◌, ◌∷◌, List, length, take, Result, IsErr, OnOk, OnErr, Contains}
use Rattle.outside.specs.Counts.{raised, Rose, HasCause}
use Rattle.outside.specs.Crash.{patched, Torn}
use Rattle.devices.specs.PastWrite.{write_over}
use Rattle.devices.specs.Steps.{MayLeave, step_in}
use Rattle.devices.specs.MemDisk.{MemDiskState, mem_disk, as_began, piece_in, image_in}
use Rattle.devices.specs.declared.step.Step.TheVariants.{Write, Sync}

-- What each call does to the counts, and when it fails: exactly where it is listed or memory ran out in it.
pub record IsCounted {T : Type 0} {E : Type 0} (old new : MemDiskState) (result : Result T E) : Type 0 where
  pub cause : HasCause (mem_disk old).faults (mem_disk new).faults result
  pub failing : new.failing ≡ old.failing
  pub calls : new.calls ≡ raised old.calls
  pub listed : Contains old.failing old.calls → new.listed ≡ raised old.listed
  pub not_listed : ¬ Contains old.failing old.calls → new.listed ≡ old.listed
  pub starved : (new.starved ≡ old.starved) ⊎ (new.starved ≡ raised old.starved)
  pub listed_fails : Contains old.failing old.calls → IsErr result
  pub starved_fails : old.starved < new.starved → IsErr result
  pub else_succeeds : OnErr result (Contains old.failing old.calls ⊎ Rose old.starved new.starved)

-- the file is as it was, and so is what a crash may leave of it and might have left
pub record KeepsFile (old new : MemDiskState) : Type 0 where
  pub bytes : new.bytes ≡ old.bytes
  pub steps : new.steps ≡ old.steps

-- this call has no piece, and its image is the file as the call began
pub record HasNoPiece (old new : MemDiskState) : Type 0 where
  pub piece : old.calls < new.calls → piece_in new old.calls ≡ 0
  pub image : old.calls < new.calls → (kept : ℕ) → image_in new old.calls kept ≡ old.bytes

-- this call has this piece, and its images are the file as the call began, with a front of the piece from byte `at` on
pub record HasPiece (old new : MemDiskState) (at : ℕ) (bytes : List ℕ) : Type 0 where
  pub piece : old.calls < new.calls → piece_in new old.calls ≡ length bytes
  pub image : old.calls < new.calls → (kept : ℕ) → image_in new old.calls kept ≡ patched old.bytes at (take kept bytes)

-- The calls before are remembered as they were, and this one with the file as it began; it has no piece where it kept
-- the file. At the end of the count a call has no number of its own, and nothing is said of it.
pub record Remembers (old new : MemDiskState) : Type 0 where
  pub this : old.calls < new.calls → as_began new old.calls ≡ record { file = old.bytes; steps = old.steps }
  pub before : (call : ℕ) → call < old.calls → as_began new call ≡ as_began old call
  pub steps : (call : ℕ) → call < old.calls → step_in new.steps call ≡ step_in old.steps call
  pub no_piece : KeepsFile old new → HasNoPiece old new

-- The first `done` bytes of the piece are written from byte `at` on, and the call is remembered with its whole piece. A
-- crash leaves each image of before, torn in the range of the whole piece in any way.
pub record WritesFront (old new : MemDiskState) (at : ℕ) (piece : List ℕ) (done : ℕ) : Type 0 where
  pub bytes : new.bytes ≡ patched old.bytes at (take done piece)
  pub steps : new.steps ≡ Write (write_over old.bytes old.calls at piece done) ∷ old.steps
  pub leaves_all : (from image : List ℕ) → MayLeave old.bytes old.steps from → Torn at (length piece) from image
      → MayLeave new.bytes new.steps image
  pub has_piece : HasPiece old new at piece

-- How much of its piece a write puts in place: all of it after Ok, and half of it where the call is listed. Where memory
-- ran out the file is kept, listed or not.
pub record WritesPiece {T : Type 0} {E : Type 0} (old new : MemDiskState) (at : ℕ) (piece : List ℕ) (result : Result T E)
    : Type 0 where
  pub whole : OnOk result (WritesFront old new at piece (length piece))
  pub half : Contains old.failing old.calls → ¬ Rose old.starved new.starved
      → WritesFront old new at piece (length piece / 2)
  pub nothing : old.starved < new.starved → KeepsFile old new
  pub unlisted : ¬ Contains old.failing old.calls → OnErr result (KeepsFile old new)
  pub half_or_nothing : OnErr result (WritesFront old new at piece (length piece / 2) ⊎ KeepsFile old new)

-- All is on the disk: a crash leaves the file and nothing else. What it might have left before is remembered.
pub record Syncs (old new : MemDiskState) : Type 0 where
  pub bytes : new.bytes ≡ old.bytes
  pub steps : new.steps ≡ Sync old.calls ∷ old.steps
  pub no_piece : HasNoPiece old new

-- the disk with the first `done` bytes of the piece of this call written and remembered
abbrev pub after_write : MemDiskState → ℕ → ℕ → List ℕ → ℕ → MemDiskState
after_write disk call at piece done = record disk {
  bytes = patched disk.bytes at (take done piece);
  steps = Write (write_over disk.bytes call at piece done) ∷ disk.steps;
}

-- the disk with this call's sync remembered
abbrev pub after_sync : MemDiskState → ℕ → MemDiskState
after_sync disk call = record disk { steps = Sync call ∷ disk.steps }
