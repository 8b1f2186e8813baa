-- What steps and their answers tell, on worked schedules. Seat 1 keeps the entry of a key while seat 2 waits for it, and
-- a restart comes when it is saved; and a restart comes while seat 1 has a flight.
use Rattle.std.proofs.Common.{◌≡◌, ℕ, Some, None, List, [], ◌∷◌, ◌++◌, refl, Vec, Global}
use Rattle.lin_model.specs.KeyAtom.{PlainKeyAtom}
use Rattle.cert_check.specs.declared.entry.Entry.{Entry}
use Rattle.cert_check.specs.declared.event.Event.TheVariants.{Begun, Ended as EndedSo}
use Rattle.cert_check.specs.declared.event.Ending.TheVariants.{Kept as KeptAt}
use Rattle.store_core.specs.declared.turns.Enter.TheVariants.{Newer, Joined, Began}
use Rattle.store_core.specs.declared.turns.How.TheVariants.{Kept, Failed}
use Rattle.store_core.specs.declared.schedule.Step.TheVariants.{Enter as EnterStep, End, Save, Restart}
use Rattle.store_core.specs.declared.schedule.Done.TheVariants.{Entered, Ended, Saved, Restarted, Idle}
use Rattle.store_core.specs.Histories.{History, told}

-- before any step
abbrev nothing : History
nothing = record { opening = []; events = []; saved = [] }

module _ (q : List PlainKeyAtom) (e : Entry) where
  -- seat 1 keeps the entry, seat 2 can't begin a flight, and the entry is saved
  check_saved : told nothing
      (EnterStep 1 q 0 ∷ EnterStep 2 q 0 ∷ End 1 (Kept e) ∷ EnterStep 2 q 0 ∷ EnterStep 2 q 1 ∷ End 2 Failed ∷ Save e ∷ [])
      (Entered Began ∷ Entered (Joined 1) ∷ Ended (Some 0) ∷ Entered Newer ∷ Idle ∷ Idle ∷ Saved ∷ [])
      ≡ record { opening = []; events = Begun 1 q 0 ∷ EndedSo 1 (KeptAt 0) ∷ []; saved = e ∷ [] }
  check_saved = refl

  -- a restart begins with it, and with more entries
  check_restarted : (more : Vec Entry Global) → told (record { opening = []; events = Begun 1 q 0 ∷ []; saved = e ∷ [] })
      (Restart more ∷ []) (Restarted ∷ [])
      ≡ record { opening = e ∷ more.items; events = []; saved = e ∷ more.items }
  check_restarted more = refl

  -- a restart closes the flight of seat 1, and what is not saved is gone
  check_closed : (more : Vec Entry Global) → told nothing
      (EnterStep 1 q 0 ∷ Restart more ∷ EnterStep 2 q 0 ∷ End 1 Failed ∷ End 2 (Kept e) ∷ EnterStep 3 q 1 ∷ [])
      (Entered Began ∷ Restarted ∷ Entered Began ∷ Idle ∷ Ended (Some 0) ∷ Idle ∷ [])
      ≡ record { opening = more.items; events = Begun 2 q 0 ∷ EndedSo 2 (KeptAt 0) ∷ []; saved = more.items }
  check_closed more = refl
