-- The definitions at small values.
use Rattle.std.proofs.Common.{◌≡◌, ℕ, [], ◌∷◌, None, Some, Ok, Err, inl, inr}
use Rattle.std.proofs.Common.{⊎_elim, refl, lit≤, arith}
use Rattle.outside.specs.Crash.{Torn}
use Rattle.devices.specs.PastWrite.{write_over}
use Rattle.devices.specs.Steps.{before_write, MightHaveLeft}
use Rattle.devices.specs.MemDisk.{MemDiskState, piece_in, image_in}
use Rattle.devices.specs.MemSink.{sink_faults}
use Rattle.devices.specs.StdEnds.{Takes}
use Rattle.devices.specs.declared.step.Step.TheVariants.{Write, Sync}

check_sink_faults : sink_faults (record { taken = []; failing = []; calls = 7; listed = 2; starved = 1 }) ≡ 3
check_sink_faults = refl

check_takes : Takes {A = ℕ} {F = ℕ} (Some (1 ∷ [])) (Some (1 ∷ 2 ∷ 3 ∷ [])) (2 ∷ 3 ∷ []) (Ok 0)
check_takes = refl

-- a write that failed after one byte of two
check_takes_front : Takes {A = ℕ} {F = ℕ} (Some (1 ∷ [])) (Some (1 ∷ 2 ∷ [])) (2 ∷ 3 ∷ []) (Err 0)
check_takes_front = record { front = 2 ∷ []; rest = 3 ∷ []; split = refl; appends = refl }

-- a write of two of five bytes over the file's last two, taken back
check_before_write :
    before_write (write_over (1 ∷ 2 ∷ 3 ∷ []) 1 1 (4 ∷ 5 ∷ 6 ∷ 7 ∷ 8 ∷ []) 2) (1 ∷ 4 ∷ 5 ∷ []) ≡ 1 ∷ 2 ∷ 3 ∷ []
check_before_write = refl

-- An empty disk whose call 1 is listed, after a write of 1, 2, 3 at 0, a write of 4, 5, 6, 7, 8 at 1 that failed, and a
-- sync.
abbrev synced_disk : MemDiskState
synced_disk = record {
  bytes = 1 ∷ 4 ∷ 5 ∷ [];
  name = None;
  steps =
      Sync 2 ∷ Write (write_over (1 ∷ 2 ∷ 3 ∷ []) 1 1 (4 ∷ 5 ∷ 6 ∷ 7 ∷ 8 ∷ []) 2)
      ∷ Write (write_over [] 0 0 (1 ∷ 2 ∷ 3 ∷ []) 3) ∷ [];
  failing = 1 ∷ [];
  calls = 3;
  listed = 1;
  starved = 0;
}

check_piece_in : piece_in synced_disk 1 ≡ 5
check_piece_in = refl

-- a sync has no piece
check_no_piece_in : piece_in synced_disk 2 ≡ 0
check_no_piece_in = refl

check_image_in : image_in synced_disk 1 3 ≡ 1 ∷ 4 ∷ 5 ∷ 6 ∷ []
check_image_in = refl

check_image_in_begun : image_in synced_disk 1 0 ≡ 1 ∷ 2 ∷ 3 ∷ []
check_image_in_begun = refl

check_image_in_sync : image_in synced_disk 2 0 ≡ 1 ∷ 4 ∷ 5 ∷ []
check_image_in_sync = refl

-- before the sync the file might have been lost, and after it only the content is left
check_might_have_left : MightHaveLeft synced_disk.bytes synced_disk.steps 2 []
check_might_have_left =
    let torn : Torn 0 3 [] [] = record { before = refl; after = refl; no_shorter = lit≤ tt; no_longer = lit≤ tt } in
    let torn_again : Torn 1 5 [] [] = record { before = refl; after = refl; no_shorter = lit≤ tt; no_longer = lit≤ tt } in
    inr (inl (lit≤ tt, inr ([], inr ([], refl, torn), torn_again)))

check_not_might_have_left : ¬ MightHaveLeft synced_disk.bytes synced_disk.steps 3 []
check_not_might_have_left left =
    ⊎_elim (λ synced. absurd (cc synced.1))
    (⊎_elim (λ written. absurd (omega (arith, written.0)))
    (⊎_elim (λ began. absurd (omega (arith, began.0))) (λ empty. absurd (omega (arith, empty.0))))) left
