-- What is answered to a query, and when the answer is right.
use Rattle.std.specs.Prelude.{◌≡◌, ◌⊎◌, ℕ, ◌+◌, ◌<◌, ◌≤◌, ℤ, true, false, IsSomeAnd, Some, List, [], length, take}
use Rattle.std.specs.Prelude.{slice_index}
use Rattle.std.specs.List.{All, AllZip, slice_get}
use Rattle.lin_model.specs.Conditions.{PlainCondition, Holds, IsSatisfiable}
use Rattle.lin_model.specs.Key.{IsKey}
use Rattle.lin_model.specs.KeyAtom.{PlainKeyAtom}
use Rattle.lin_model.specs.Terms.{value_at}
use Rattle.slicer.specs.Slices.{PlainSlice, AreClasses}
use Rattle.canoniser.specs.Keys.{IsKeyOf}
use Rattle.canoniser.specs.Numbering.{order_of}
use Rattle.canoniser.specs.Solutions.{IsFalseAt}
use Rattle.refutation.specs.Boxed.{IsBoxed}
use Rattle.cert_check.specs.declared.reply.Reply.{Reply}
use Rattle.cert_check.specs.Asks.{AsksAll, SavesRightly}
use Rattle.cert_check.specs.Decides.{IsFirst}
use Rattle.cert_check.specs.Replies.{Stands, has_core, is_spent, point_in}
use Rattle.cert_check.specs.Runs.{AsksInVain, HasWritten}
use Rattle.cert_check.specs.Seats.{SeatState, entries_of}
use Rattle.pipeline.specs.declared.answers.Answer.{Answer}
use Rattle.pipeline.specs.declared.answers.Verdict.{Verdict}
use Rattle.pipeline.specs.declared.answers.Verdict.TheVariants.{Sat, UnsatAtom, UnsatSlice, Unknown}

-- ---- one slice

-- the key of the slice, which bounds each of its variables on both sides
pub record IsKeyToAsk (q : PlainCondition) (slice : PlainSlice) (key : List PlainKeyAtom) : Type 0 where
  pub is_key : IsKeyOf q slice key
  pub limits : IsKey key
  pub boxed : IsBoxed key

-- each variable has the value that the point has at the variable's number in the key
pub record GivesValues (order : List ℕ) (values point : List ℤ) : Type 0 where
  pub wide : length order ≤ length point
  pub each : (v : ℕ) → v < length order → value_at values (slice_index order v) ≡ value_at point v

-- the reply has a point, and the slice's variables have their values from it
abbrev pub IsGivenBy : PlainCondition → List ℤ → PlainSlice → Reply → Type 0
IsGivenBy q values slice reply = IsSomeAnd (point_in reply) (GivesValues (order_of q slice) values)

-- ---- a whole query

-- each atom is satisfied by some integers
abbrev pub NoneIsFalse : PlainCondition → Type 0
NoneIsFalse q = (j : ℕ) → ¬ IsFalseAt q j

-- the least atom that no integers satisfy
pub record IsLeastFalse (q : PlainCondition) (j : ℕ) : Type 0 where
  pub is_false : IsFalseAt q j
  pub least : (i : ℕ) → i < j → ¬ IsFalseAt q i

-- no reply has a core
abbrev pub NoneHasCore : List Reply → Type 0
NoneHasCore replies = All (λ reply. has_core reply ≡ false) replies

-- only the last reply may have one
abbrev pub OnlyLastHasCore : List Reply → Type 0
OnlyLastHasCore replies =
    (s : ℕ) → IsSomeAnd (slice_get replies s) (λ reply. has_core reply ≡ true) → length replies ≡ s + 1

-- values that make the query hold as written; each slice was asked, and gave its variables the values of its entry
pub record IsSat (q : PlainCondition) (classes : List PlainSlice) (values : List ℤ) (parts : List Reply) : Type 0 where
  pub none_false : NoneIsFalse q
  pub holds : Holds q values
  pub given : AllZip (IsGivenBy q values) classes parts

-- the least atom without an integer solution; nothing was asked
pub record IsUnsatAtom (q : PlainCondition) (j : ℕ) (parts : List Reply) : Type 0 where
  pub least : IsLeastFalse q j
  pub none_asked : parts ≡ []
  pub unsatisfiable : ¬ IsSatisfiable q

-- the slices were asked up to and with this one, the first whose reply has a core
pub record IsUnsatSlice (q : PlainCondition) (s : ℕ) (parts : List Reply) : Type 0 where
  pub none_false : NoneIsFalse q
  pub asked : length parts ≡ s + 1
  pub before : NoneHasCore (take s parts)
  pub last : IsSomeAnd (slice_get parts s) (λ reply. has_core reply ≡ true)
  pub unsatisfiable : ¬ IsSatisfiable q

-- all slices were asked, no reply has a core, and this is the first whose reply has an open tree
pub record IsUnknown (q : PlainCondition) (classes : List PlainSlice) (s : ℕ) (parts : List Reply) : Type 0 where
  pub none_false : NoneIsFalse q
  pub asked : length parts ≡ length classes
  pub no_core : NoneHasCore parts
  pub first : IsFirst (λ reply. is_spent reply ≡ true) parts (Some s)

-- what each verdict says
abbrev pub IsRightVerdict : PlainCondition → List PlainSlice → Verdict → List Reply → Type 0
IsRightVerdict q classes (Sat values) parts = IsSat q classes values parts
IsRightVerdict q classes (UnsatAtom j) parts = IsUnsatAtom q j parts
IsRightVerdict q classes (UnsatSlice s) parts = IsUnsatSlice q s parts
IsRightVerdict q classes (Unknown s) parts = IsUnknown q classes s parts

-- An answer over the slices with variables, in their order: one reply for each of the first of them, which stands, as
-- `Standing` says, for the key of the slice; and a right verdict.
pub record IsRightAnswer (Standing : List PlainKeyAtom → Reply → Type 0) (q : PlainCondition) (answer : Answer) : Type 0
  where
    pub classes : List PlainSlice
    pub are : AreClasses q classes
    pub keys : List (List PlainKeyAtom)
    pub keyed : AllZip (IsKeyToAsk q) (take (length answer.parts) classes) keys
    pub stand : AllZip Standing keys answer.parts
    pub verdict : IsRightVerdict q classes answer.verdict answer.parts

-- ---- a query that was answered

-- it stands for what the seat has seen
abbrev pub StandsAt : ℕ → SeatState → List PlainKeyAtom → Reply → Type 0
StandsAt budget seat key reply = Stands seat.log (entries_of seat) seat.terms.number budget key reply

-- The query was answered rightly, and the seat is left just as by the asks of the answer's parts, in order.
pub record AnswersQuery (budget : ℕ) (q : PlainCondition) (answer : Answer) (old new : SeatState) : Type 0 where
  pub right : IsRightAnswer (StandsAt budget new) q answer
  pub asks : AsksAll budget right.keys answer.parts old new

-- a front of the query's slices, and their keys
pub record AreFirstKeys (q : PlainCondition) (keys : List (List PlainKeyAtom)) : Type 0 where
  pub classes : List PlainSlice
  pub are : AreClasses q classes
  pub keyed : AllZip (IsKeyToAsk q) (take (length keys) classes) keys

-- Nothing is asked after a core: where a key was asked in vain no reply has one.
pub record StopsAtCore (replies : List Reply) (mid new : SeatState) : Type 0 where
  pub only_last : OnlyLastHasCore replies
  pub no_more : (new ≡ mid) ⊎ NoneHasCore replies

-- Memory ran out: before anything was asked, or while slices were asked in order. Where some atom is satisfied by no
-- integers nothing was asked.
pub record AnswersInVain (budget : ℕ) (q : PlainCondition) (old new : SeatState) : Type 0 where
  pub none_false : (new ≡ old) ⊎ NoneIsFalse q
  pub keys : List (List PlainKeyAtom)
  pub first : AreFirstKeys q keys
  pub asks : AsksInVain budget keys old new
  pub stops : StopsAtCore asks.replies asks.mid new

-- An answer that is right, with the writes of the journal: what its parts say of their saves is so.
pub record IsRightWithSaves (budget : ℕ) (seat : SeatState) (q : PlainCondition) (answer : Answer) : Type 0 where
  pub right : IsRightAnswer (StandsAt budget seat) q answer
  pub save : All (SavesRightly seat.terms) answer.parts
  pub written : All (HasWritten seat) answer.parts
