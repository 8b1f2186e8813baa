-- What asking a key does to a seat, and what its reply says.
use Rattle.std.specs.Prelude.{◌≡◌, ℕ, ◌≤◌, Option, Some, None, List, [], ◌∷◌, length}
use Rattle.std.specs.List.{All}
use Rattle.lin_model.specs.KeyAtom.{PlainKeyAtom}
use Rattle.lin_model.specs.Key.{IsKey}
use Rattle.refutation.specs.Boxed.{IsBoxed}
use Rattle.cert_check.specs.declared.reply.Reply.{Reply}
use Rattle.cert_check.specs.declared.reply.Reply.TheVariants.{Hit, Solved, Unkept, Spent}
use Rattle.cert_check.specs.declared.wrote.Wrote.{Wrote}
use Rattle.cert_check.specs.Decides.{IsChecked}
use Rattle.cert_check.specs.Machine.{Turn, kept, unkept, spent, max_entries}
use Rattle.cert_check.specs.Seats.{SeatState, SeatTerms, IsSound, entries_of}
use Rattle.cert_check.specs.Calls.{IsOffRightly, MakesCall, writes_by}
use Rattle.cert_check.specs.Replies.{Stands}

-- how many entries the reply says were seen
abbrev pub seen_in : Reply → ℕ
seen_in (Hit entry place n) = n
seen_in (Solved entry place n saved) = n
seen_in (Unkept entry n saved) = n
seen_in (Spent tree n) = n

-- the turn that ended the flight of a reply; a hit has none
abbrev pub end_of : ℕ → Reply → Option Turn
end_of seat (Hit entry place n) = None
end_of seat (Solved entry place n saved) = Some (kept seat place entry)
end_of seat (Unkept entry n saved) = Some (unkept seat)
end_of seat (Spent tree n) = Some (spent seat)

-- the writes of a reply
abbrev pub writes_of : ℕ → Reply → List Wrote
writes_of seat (Hit entry place n) = []
writes_of seat (Solved entry place n saved) = writes_by seat entry saved
writes_of seat (Unkept entry n saved) = writes_by seat entry saved
writes_of seat (Spent tree n) = []

-- a reply with an entry of its own flight says rightly whether it was saved at all
abbrev pub SavesRightly : SeatTerms → Reply → Type 0
SavesRightly terms (Hit entry place n) = Unit {0}
SavesRightly terms (Solved entry place n saved) = IsOffRightly terms saved
SavesRightly terms (Unkept entry n saved) = IsOffRightly terms saved
SavesRightly terms (Spent tree n) = Unit {0}

-- an open tree tells the entries that were seen when its flight began
abbrev pub TellsStart : ℕ → Reply → Type 0
TellsStart began (Hit entry place n) = Unit {0}
TellsStart began (Solved entry place n saved) = Unit {0}
TellsStart began (Unkept entry n saved) = Unit {0}
TellsStart began (Spent tree n) = began ≡ n

-- Asking the key with this budget made this reply, which stands for what the seat has then seen.
pub record Asks (budget : ℕ) (key : List PlainKeyAtom) (reply : Reply) (old new : SeatState) : Type 0 where
  pub began : ℕ
  pub call : MakesCall key began (end_of old.terms.number reply) (writes_of old.terms.number reply) (seen_in reply)
      old new
  pub start : TellsStart began reply
  pub stands : Stands new.log (entries_of new) old.terms.number budget key reply
  pub saves : SavesRightly old.terms reply

-- A seat of which any key can be asked: a sound one, over entries that are checked and not too many.
pub record IsReady (seat : SeatState) : Type 0 where
  pub sound : IsSound seat
  pub checked : All IsChecked (entries_of seat)
  pub few : length (entries_of seat) ≤ max_entries

-- some reply to the key is lawful, and leaves such a seat
pub record CanBeAsked (budget : ℕ) (key : List PlainKeyAtom) (seat : SeatState) : Type 0 where
  pub reply : Reply
  pub later : SeatState
  pub asks : Asks budget key reply seat later
  pub ready : IsReady later

-- each key that bounds its variables can be asked of each such seat
abbrev pub EachKeyCanBeAsked : ℕ → Type 0
EachKeyCanBeAsked budget = (key : List PlainKeyAtom) (seat : SeatState) → IsKey key → IsBoxed key → IsReady seat
    → CanBeAsked budget key seat

-- calls were made one after another, each with its own argument and answer
abbrev pub InTurn : {X Y S : Type 0} → (X → Y → S → S → Type 0) → List X → List Y → S → S → Type 0
InTurn Does [] [] old new = new ≡ old
InTurn Does [] (y ∷ ys) old new = ⊥
InTurn Does (x ∷ xs) [] old new = ⊥
InTurn {X} {Y} {S} Does (x ∷ xs) (y ∷ ys) old new = (mid : S) × Does x y old mid × InTurn Does xs ys mid new

-- the keys were asked in order, with these replies, and nothing else was
abbrev pub AsksAll : ℕ → List (List PlainKeyAtom) → List Reply → SeatState → SeatState → Type 0
AsksAll budget keys replies old new = InTurn (Asks budget) keys replies old new
