-- That a file of bytes recovers to some list, and that its run ends for one reason.
use Rattle.std.proofs.Common.{◌≡◌, ◌⊎◌, inl, inr, ⊎_elim, ℕ, zero, suc, ◌+◌, ◌<◌, ◌≤◌, Option, None, Some, Result, Ok, Err, List, [], ◌∷◌, ◌++◌, length, take, drop, refl, sym, ap, ◌∙◌, subst, arith}
use Rattle.std.proofs.Common.{append_assoc, length-take}
use Rattle.std.proofs.lemmas.Bool.{cases_lt}
use Rattle.std.proofs.lemmas.List.{append_cancel_left, get_or-append-add, get_or-take, get_or_past}
use Rattle.std.proofs.lemmas.List.Elements.{All-nil, All-cons}
use Rattle.std.specs.List.{All}
use Rattle.cert_check.specs.declared.entry.Entry.{Entry}
use Rattle.entry_codec.specs.declared.fault.FrameEnd.{FrameEnd}
use Rattle.entry_codec.specs.declared.fault.FrameEnd.TheVariants as ends
use Rattle.entry_codec.specs.Answers.{BytesHaveOneAnswer, EndsExcludeFrames, FramesAreChecked, IsFrameAnswer, IsFrameEnd}
use Rattle.entry_codec.specs.Answers.{OneFrameStands}
use Rattle.entry_codec.specs.Frames.{IsFrame, frame_of}
use Rattle.entry_codec.specs.Grammar.{IsBytes}
use Rattle.journal.specs.declared.limits.TheConstants.{HEADER, MAX_FILE, MAX_ENTRIES}
use Rattle.journal.specs.declared.recovered.Stop.{Stop}
use Rattle.journal.specs.declared.recovered.Stop.TheVariants.{Frame, TooMany}
use Rattle.journal.specs.Files.{IsStorable, end_of, frames_of}
use Rattle.journal.specs.Laws.{HasRun, OneRecoveryIsRight, SomeListIsRecovered}
use Rattle.journal.specs.Reading.{IsStopAt}
use Rattle.journal.specs.Recovery.{LeavesRest, NoFrame, StopsFor}
use Rattle.journal.proofs.HeaderLemmas.{begun_journal, cases_unbegun}
use Rattle.journal.proofs.RunLemmas.{begun_front, counted_begun, one_list}
use Rattle.journal.proofs.ScanLemmas.{stops_at}

-- ---- bytes

IsBytes-behind : (front rest bytes : List ℕ) → bytes ≡ front ++ rest → IsBytes bytes → IsBytes rest
IsBytes-behind front rest bytes e are k =
    let all : IsBytes (front ++ rest) = subst IsBytes e are in
    rw get_or-append-add at (all (length front + k))

IsBytes-take : (n : ℕ) (bytes : List ℕ) → IsBytes bytes → IsBytes (take n bytes)
IsBytes-take n bytes are k = elim (cases_lt k n) [
  | inl lt ↦ rw (get_or-take n bytes k 0 lt) (are k)
  | inr le ↦ rw (get_or_past (take n bytes) k 0 (omega (arith, length-take n bytes))) (omega arith)
]

-- ---- a run of at most so many frames

-- no frame stands in front of the bytes, for this reason
record IsEnded (bytes : List ℕ) : Type 0 where
  end : FrameEnd
  is : IsFrameEnd bytes end

-- a frame stands in front of the bytes
record HasFront (bytes : List ℕ) : Type 0 where
  entry : Entry
  taken : ℕ
  is : IsFrame bytes entry taken

-- the run has as many entries as may be, or ends for a reason
abbrev Ends : ℕ → List Entry → List ℕ → Type 0
Ends most entries rest = (length entries ≡ most) ⊎ ((length entries < most) × IsEnded rest)

record IsRunOf (most : ℕ) (bytes : List ℕ) : Type 0 where
  entries : List Entry
  rest : List ℕ
  spelled : bytes ≡ frames_of entries ++ rest
  each : All IsStorable entries
  few : length entries ≤ most
  ends : Ends most entries rest

front_or_end : (bytes : List ℕ) (a : Result (Entry × ℕ) FrameEnd) → IsFrameAnswer bytes a
    → HasFront bytes ⊎ IsEnded bytes
front_or_end bytes (Ok found) is = inl (record { entry = found.0; taken = found.1; is = is })
front_or_end bytes (Err end) is = inr (record { end = end; is = is })

-- ---- why the run ends

stop_for : FrameEnd → Option Stop
stop_for ends.Ended = None
stop_for ends.Short = Some (Frame ends.Short)
stop_for ends.TooLong = Some (Frame ends.TooLong)
stop_for (ends.BadBody place) = Some (Frame (ends.BadBody place))
stop_for (ends.Uncertified refused) = Some (Frame (ends.Uncertified refused))
stop_for ends.NoMemory = Some (Frame ends.NoMemory)

stop_for-is : (end : FrameEnd) → IsStopAt end (stop_for end)
unfolding stop_for
stop_for-is ends.Ended = refl
stop_for-is ends.Short = (refl, λ same. cc)
stop_for-is ends.TooLong = (refl, λ same. cc)
stop_for-is (ends.BadBody place) = (refl, λ same. cc)
stop_for-is (ends.Uncertified refused) = (refl, λ same. cc)
stop_for-is ends.NoMemory = (refl, λ same. cc)

record HasStop (entries : List Entry) (rest : List ℕ) : Type 0 where
  stop : Option Stop
  stops : StopsFor entries rest stop

full_stop : (entries : List Entry) (rest : List ℕ) → length entries ≡ MAX_ENTRIES → HasStop entries rest
full_stop entries [] full = record { stop = None; stops = refl }
full_stop entries (b ∷ rest) full = record { stop = Some TooMany; stops = (λ none. cc, full) }

stop_of : (entries : List Entry) (rest : List ℕ) → Ends MAX_ENTRIES entries rest → HasStop entries rest
stop_of entries rest (inl full) = full_stop entries rest full
stop_of entries rest (inr less) = record {
  stop = stop_for less.1.end;
  stops = stops_at entries rest less.1.end (stop_for less.1.end) less.0 less.1.is (stop_for-is less.1.end);
}

module _ (one : BytesHaveOneAnswer) (exclude : EndsExcludeFrames) (checked : FramesAreChecked) where
  run_more : (most : ℕ) (bytes : List ℕ) (front : HasFront bytes) → IsRunOf most front.is.begins.rest
      → IsRunOf (suc most) bytes
  run_more most bytes front run = record {
    entries = front.entry ∷ run.entries;
    rest = run.rest;
    spelled = front.is.begins.spelled ∙ ap (λ (l : List ℕ). frame_of front.entry ++ l) run.spelled
        ∙ sym (append_assoc (frame_of front.entry) (frames_of run.entries) run.rest);
    each = All-cons IsStorable front.entry run.entries
        (record { fits = front.is.begins.fits; checked = checked bytes front.entry front.taken front.is }) run.each;
    few = omega (arith, run.few);
    ends = ⊎_elim (λ full. inl (omega (arith, full))) (λ less. inr (omega (arith, less.0), less.1)) run.ends;
  }

  run_none : (most : ℕ) (bytes : List ℕ) → IsEnded bytes → IsRunOf (suc most) bytes
  run_none most bytes ended = record {
    entries = [];
    rest = bytes;
    spelled = refl;
    each = All-nil IsStorable;
    few = omega arith;
    ends = inr (omega arith, ended);
  }

  run : (most : ℕ) (bytes : List ℕ) → IsBytes bytes → IsRunOf most bytes
  run zero bytes are = record {
    entries = [];
    rest = bytes;
    spelled = refl;
    each = All-nil IsStorable;
    few = omega arith;
    ends = inl refl;
  }
  run (suc most) bytes are = elim (front_or_end bytes (one bytes are).answer (one bytes are).is) [
    | inl front ↦ run_more most bytes front (run most front.is.begins.rest (
        IsBytes-behind (frame_of front.entry) front.is.begins.rest bytes front.is.begins.spelled are
        ))
    | inr ended ↦ run_none most bytes ended
  ]

  longest : (entries : List Entry) (rest : List ℕ) → Ends MAX_ENTRIES entries rest
      → (length entries ≡ MAX_ENTRIES) ⊎ NoFrame rest
  longest entries rest (inl full) = inl full
  longest entries rest (inr less) = inr (λ e taken. exclude rest e taken less.1.end less.1.is)

  -- what a file with the header recovers to
  begun_run : (file : List ℕ) → take (length HEADER) file ≡ HEADER
      → IsRunOf MAX_ENTRIES (drop (length HEADER) (take MAX_FILE file)) → HasRun file
  begun_run file header run =
      let stop : HasStop run.entries run.rest = stop_of run.entries run.rest run.ends in record {
        entries = run.entries;
        rest = run.rest;
        leaves = inr (record {
          parts = record { spelled = counted_begun file header ∙ ap (λ (l : List ℕ). HEADER ++ l) run.spelled };
          each = run.each;
          few = run.few;
          longest = longest run.entries run.rest run.ends;
        });
        stop = stop.stop;
        stops = stop.stops;
      }

  pub some_list : SomeListIsRecovered
  some_list file are own = elim (cases_unbegun file) [
    | inl unbegun ↦ record {
      entries = [];
      rest = [];
      leaves = inl (record { unbegun = unbegun; no_entry = refl; no_rest = refl });
      stop = None;
      stops = refl;
    }
    | inr begun ↦
        let header = begun_front file own begun in
        let whole : List ℕ = take MAX_FILE file in
        begun_run file header (run MAX_ENTRIES (drop (length HEADER) whole) (
        IsBytes-behind HEADER (drop (length HEADER) whole) whole (counted_begun file header) (IsBytes-take MAX_FILE file are)
        ))
  ]

-- ---- one reason

same_rest : (file : List ℕ) (entries : List Entry) (rest others : List ℕ) → LeavesRest file entries rest
    → LeavesRest file entries others → rest ≡ others
same_rest file entries rest others (inl nothing) (inl none) = nothing.no_rest ∙ sym none.no_rest
same_rest file entries rest others (inl nothing) (inr journal) =
    absurd (begun_journal file entries others journal.parts nothing.unbegun)
same_rest file entries rest others (inr journal) (inl nothing) =
    absurd (begun_journal file entries rest journal.parts nothing.unbegun)
same_rest file entries rest others (inr journal) (inr other) =
    append_cancel_left (frames_of entries) rest others (
    append_cancel_left HEADER (frames_of entries ++ rest) (frames_of entries ++ others)
    (sym journal.parts.spelled ∙ other.parts.spelled)
    )

IsBytes-left : (file : List ℕ) (entries : List Entry) (rest : List ℕ) → IsBytes file → LeavesRest file entries rest
    → IsBytes rest
IsBytes-left file entries rest are (inl nothing) = subst IsBytes (sym nothing.no_rest) (λ k. omega arith)
IsBytes-left file entries rest are (inr journal) =
    IsBytes-behind (frames_of entries) rest (frames_of entries ++ rest) refl (
    IsBytes-behind HEADER (frames_of entries ++ rest) (take MAX_FILE file) journal.parts.spelled
    (IsBytes-take MAX_FILE file are)
    )

module _ (one : BytesHaveOneAnswer) where
  same_end : (rest : List ℕ) (end other : FrameEnd) → IsBytes rest → IsFrameEnd rest end → IsFrameEnd rest other
      → end ≡ other
  same_end rest end other are is also =
      let same = (one rest are).alone (Err end) is ∙ sym ((one rest are).alone (Err other) also) in cc

  same_stop : (entries : List Entry) (rest : List ℕ) (a b : Option Stop) → IsBytes rest → StopsFor entries rest a
      → StopsFor entries rest b → a ≡ b
  same_stop entries rest None None are first second = refl
  same_stop entries rest None (Some TooMany) are first second = absurd (second.0 first)
  same_stop entries rest None (Some (Frame end)) are first second = absurd (second.0 first)
  same_stop entries rest (Some TooMany) None are first second = absurd (first.0 second)
  same_stop entries rest (Some TooMany) (Some TooMany) are first second = refl
  same_stop entries rest (Some TooMany) (Some (Frame end)) are first second =
      absurd (omega (arith, first.1, second.1))
  same_stop entries rest (Some (Frame end)) None are first second = absurd (first.0 second)
  same_stop entries rest (Some (Frame end)) (Some TooMany) are first second =
      absurd (omega (arith, first.1, second.1))
  same_stop entries rest (Some (Frame end)) (Some (Frame other)) are first second =
      ap (λ (e : FrameEnd). Some (Frame e)) (same_end rest end other are first.2 second.2)

  pub one_recovery : OneFrameStands → OneRecoveryIsRight
  one_recovery stands file found other are is also =
      let items : found.entries.items ≡ other.entries.items =
      one_list stands file found.entries.items other.entries.items (is.rest, is.entries) (also.rest, also.entries) in
      let leaves : LeavesRest file other.entries.items is.rest =
      subst (λ (l : List Entry). LeavesRest file l is.rest) items is.entries in
      let rest : is.rest ≡ also.rest =
      same_rest file other.entries.items is.rest also.rest leaves also.entries in
      let stopped : StopsFor other.entries.items also.rest found.stopped =
      subst (λ (l : List ℕ). StopsFor other.entries.items l found.stopped) rest
      (subst (λ (l : List Entry). StopsFor l is.rest found.stopped) items is.stopped) in
      record {
        entries = items;
        end = is.end ∙ ap (λ (l : List Entry). end_of l) items ∙ sym also.end;
        stopped = same_stop other.entries.items also.rest found.stopped other.stopped
            (IsBytes-left file other.entries.items also.rest are also.entries) stopped also.stopped;
      }
