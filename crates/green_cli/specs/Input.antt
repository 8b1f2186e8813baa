-- What was read of a source. Of the bytes of one that tells none, nothing is said.
use Rattle.std.specs.Prelude.{◌≡◌, ◌≢◌, ℕ, ◌+◌, ◌≤◌, List, [], ◌++◌, length, Option, Some, None}
use Rattle.outside.specs.Counts.{Rose}
use Rattle.outside.specs.States.{SourceState}
use Rattle.lin_model.specs.Conditions.{PlainCondition}
use Rattle.lin_text.specs.declared.fault.SessionFault.{SessionFault}
use Rattle.lin_text.specs.declared.fault.SessionKind.TheVariants as kind
use Rattle.session_text.specs.Answers.{IsPlaced}
use Rattle.session_text.specs.Sessions.{SpellsSession}
use Rattle.green_cli.specs.Call.{Change}
use Rattle.green_cli.specs.declared.fault.Fault.{Fault}
use Rattle.green_cli.specs.declared.fault.Fault.TheVariants.{Text, Read, NoMemory, TooLong}

-- the most bytes of an input
abbrev pub max_input : ℕ
max_input = 16777216

-- these bytes were taken from the front of what was left
abbrev pub Consumes : Option (List ℕ) → Option (List ℕ) → List ℕ → Type 0
Consumes None new bytes = new ≡ None
Consumes (Some all) new bytes = (rest : List ℕ) × (all ≡ bytes ++ rest) × (new ≡ Some rest)

-- these bytes are all that was left, and no byte is left now
abbrev pub Drains : Option (List ℕ) → Option (List ℕ) → List ℕ → Type 0
Drains None new bytes = new ≡ None
Drains (Some all) new bytes = (all ≡ bytes) × (new ≡ Some [])

-- no read failed: the count of faults is as it was
abbrev pub NoReadFailed : Change SourceState → Type 0
NoReadFailed source = source.after.faults ≡ source.before.faults

-- no more than n bytes were taken
pub record TakesAtMost (n : ℕ) (source : Change SourceState) : Type 0 where
  pub bytes : List ℕ
  pub taken : Consumes source.before.left source.after.left bytes
  pub few : length bytes ≤ n

-- a read failed before the source gave too many bytes
pub record ReadFailed (source : Change SourceState) : Type 0 where
  pub rose : Rose source.before.faults source.after.faults
  pub short : TakesAtMost max_input source

-- all that was left was taken, no read failed, and it is these bytes, not too many
pub record WasRead (source : Change SourceState) (bytes : List ℕ) : Type 0 where
  pub whole : Drains source.before.left source.after.left bytes
  pub short : length bytes ≤ max_input
  pub unfailed : NoReadFailed source

-- the source gave one byte more than an input may have, and no read failed
pub record InputIsTooLong (source : Change SourceState) : Type 0 where
  pub bytes : List ℕ
  pub given : Consumes source.before.left source.after.left bytes
  pub long : length bytes ≡ max_input + 1
  pub unfailed : NoReadFailed source

-- Why an input can't be had. Want of memory needs no cause.
abbrev pub input_cause : Change SourceState → Fault → Type 0
input_cause source Read = ReadFailed source
input_cause source NoMemory = Unit {0}
input_cause source TooLong = InputIsTooLong source
input_cause source _ = ⊥

-- why a piece of an input can't be had: a read failed and took nothing, or memory ran out
abbrev pub PieceFails : Change SourceState → Fault → Type 0
PieceFails source Read = Rose source.before.faults source.after.faults × (source.after.left ≡ source.before.left)
PieceFails source NoMemory = Unit {0}
PieceFails source _ = ⊥

-- the source tells its bytes, and they are the text of a session, not too long
pub record GivesSession (source : SourceState) : Type 0 where
  pub bytes : List ℕ
  pub told : source.left ≡ Some bytes
  pub short : length bytes ≤ max_input
  pub session : List (List PlainCondition)
  pub spells : SpellsSession bytes session

-- the input, read to its end, spells this session
pub record InputWasRead (source : Change SourceState) (session : List (List PlainCondition)) : Type 0 where
  pub bytes : List ℕ
  pub read : WasRead source bytes
  pub spells : SpellsSession bytes session

-- the input, read to its end, spells some session
pub record SessionWasRead (source : Change SourceState) : Type 0 where
  pub session : List (List PlainCondition)
  pub input : InputWasRead source session

-- the input, read to its end, is no session, and this is its first fault; want of memory is none
pub record InputIsFaulty (source : Change SourceState) (fault : SessionFault) : Type 0 where
  pub bytes : List ℕ
  pub read : WasRead source bytes
  pub placed : IsPlaced bytes fault
  pub of_text : fault.kind ≢ kind.NoMemory

-- why a session can't be had
abbrev pub session_cause : Change SourceState → Fault → Type 0
session_cause source (Text fault) = InputIsFaulty source fault
session_cause source other = input_cause source other
