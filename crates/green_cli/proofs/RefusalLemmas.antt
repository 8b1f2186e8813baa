-- Calls that are refused.
use Rattle.std.proofs.Common.{◌≡◌, ◌≢◌, ◌⊎◌, ℕ, arith, sym, subst, ⊎_elim}
use Rattle.green_cli.specs.Call.{Call}
use Rattle.green_cli.specs.Statuses.{FaultIsWritten, IsEmpty, IsRefused, IsWrittenAs, status_of}
use Rattle.green_cli.specs.declared.fault.Fault.{Fault}
use Rattle.green_cli.specs.declared.fault.Fault.TheVariants.{Usage, Text, Read, Disk, NoMemory, NotJournal, TooLong}

-- what a fault is written as has a cause too, where want of memory has
cause_written : (cause : Fault → Type 0) (fault written : Fault) → cause NoMemory → cause fault
    → IsWrittenAs fault written → cause written
cause_written cause (Text fault) written memory reason is =
    ⊎_elim (λ text. subst cause (sym text.0) reason) (λ none. subst cause (sym none) memory) is
cause_written cause other written memory reason is = subst cause (sym is) reason

pub refused_by : {D : Type 0} (cause : Fault → Type 0) (call : Call D) (fault : Fault) → cause NoMemory → cause fault
    → FaultIsWritten fault call.sink call.status → IsEmpty call.report → IsRefused cause call
refused_by cause call fault memory reason writes nothing = record {
  fault = writes.written;
  reason = cause_written cause fault writes.written memory reason writes.for_it;
  writes = writes.writes;
  nothing = nothing;
}

-- no fault has the status of an unknown answer
pub fault_not_unknown : (fault : Fault) (status : ℕ) → status ≡ status_of fault → status ≢ 3
fault_not_unknown Usage status number e = omega (arith, number, e)
fault_not_unknown (Text fault) status number e = omega (arith, number, e)
fault_not_unknown Read status number e = omega (arith, number, e)
fault_not_unknown Disk status number e = omega (arith, number, e)
fault_not_unknown NoMemory status number e = omega (arith, number, e)
fault_not_unknown NotJournal status number e = omega (arith, number, e)
fault_not_unknown TooLong status number e = omega (arith, number, e)
