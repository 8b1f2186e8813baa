-- Reading a file frame by frame: what holds between two frames, and where the run ends.
use Rattle.std.proofs.Common.{◌≡◌, ◌≢◌, ◌⊎◌, ◌↔◌, inl, inr, ℕ, ◌+◌, ◌<◌, ◌≤◌, Bool, true, false, Option, None, Some, Result, Ok, Err, List, [], ◌∷◌, ◌++◌, length, drop, IsTrue, refl, sym, ap, ◌∙◌, subst, arith}
use Rattle.std.proofs.Common.{append_assoc, length-append, drop_at, drop-drop}
use Rattle.std.proofs.lemmas.Bool.{false≢true}
use Rattle.std.proofs.lemmas.List.Elements.{All-nil, All-append, All-cons}
use Rattle.std.specs.Bool.{then_some}
use Rattle.std.specs.Int.{w32, to_le_bytes}
use Rattle.std.specs.List.{All}
use Rattle.std.specs.Option.{IfSome}
use Rattle.cert_check.specs.declared.entry.Entry.{Entry}
use Rattle.entry_codec.specs.declared.fault.FrameEnd.{FrameEnd}
use Rattle.entry_codec.specs.declared.fault.FrameEnd.TheVariants as ends
use Rattle.entry_codec.specs.Answers.{EndsExcludeFrames, IsFrameAnswer, IsFrameEnd}
use Rattle.entry_codec.specs.Frames.{IsFrame, frame_of, framed}
use Rattle.entry_codec.specs.Numbers.{long}
use Rattle.outside.specs.Runs.{OnlyLooks}
use Rattle.outside.specs.States.{DiskState}
use Rattle.journal.specs.declared.limits.TheConstants.{HEADER, MAX_FILE, MAX_ENTRIES}
use Rattle.journal.specs.declared.recovered.Recovered.{Recovered}
use Rattle.journal.specs.declared.recovered.StartFault.{StartFault}
use Rattle.journal.specs.declared.recovered.StartFault.TheVariants as faults
use Rattle.journal.specs.declared.recovered.Stop.{Stop}
use Rattle.journal.specs.declared.recovered.Stop.TheVariants.{TooMany}
use Rattle.journal.specs.Files.{GoesOnWith, IsStorable, counted, end_of, frames_of}
use Rattle.journal.specs.Reading.{HasHeader, IsRead, IsStopAt, MayBeRead, rest_at}
use Rattle.journal.specs.Opening.{start_cause}
use Rattle.journal.specs.Recovery.{IsForeign, IsInOrder, IsRecovered, MayStop, NoFrame, StopsFor}
use Rattle.journal.proofs.FileLemmas.{end-push, front-push, some_bytes}
use Rattle.journal.proofs.RunLemmas.{counted_begun}

-- what was read up to this place: these entries, so many
pub record IsRun (content : Option (List ℕ)) (at : ℕ) (entries : List Entry) (count : ℕ) : Type 0 where
  pub end : at ≡ end_of entries
  pub each : All IsStorable entries
  pub many : length entries ≡ count
  pub short : at ≤ MAX_FILE
  pub parts : IfSome content (λ file. HasHeader file → GoesOnWith file entries (rest_at at file))

pub IsRun-begun : (content : Option (List ℕ)) → IsRun content (length HEADER) [] 0
IsRun-begun content = record {
  end = refl;
  each = All-nil IsStorable;
  many = refl;
  short = omega arith;
  parts = by_content content;
}
  where
    by_content : (content : Option (List ℕ))
        → IfSome content (λ file. HasHeader file → GoesOnWith file [] (rest_at (length HEADER) file))
    by_content None = tt
    by_content (Some file) = λ header. record { spelled = counted_begun file header }

-- the bytes behind one frame more
parts_more : (file : List ℕ) (at : ℕ) (entries : List Entry) (e : Entry) (taken : ℕ)
    → GoesOnWith file entries (rest_at at file) → IsFrame (rest_at at file) e taken
    → GoesOnWith file (entries ++ e ∷ []) (rest_at (at + taken) file)
parts_more file at entries e taken parts frame =
    let begins = frame.begins in
    let rest : rest_at (at + taken) file ≡ begins.rest =
    sym (drop-drop taken at (counted file)) ∙ ap (drop taken) begins.spelled
    ∙ drop_at (frame_of e) begins.rest taken (sym begins.all) in
    record {
      spelled = parts.spelled
          ∙ ap (λ (l : List ℕ). HEADER ++ (frames_of entries ++ l)) begins.spelled
          ∙ sym (append_assoc HEADER (frames_of entries) (frame_of e ++ begins.rest))
          ∙ sym (append_assoc (HEADER ++ frames_of entries) (frame_of e) begins.rest)
          ∙ ap (λ (l : List ℕ). l ++ begins.rest) (sym (front-push entries e))
          ∙ append_assoc HEADER (frames_of (entries ++ e ∷ [])) begins.rest
          ∙ ap (λ (l : List ℕ). HEADER ++ (frames_of (entries ++ e ∷ []) ++ l)) (sym rest);
    }

pub IsRun-more : (content : Option (List ℕ)) (at : ℕ) (entries : List Entry) (count : ℕ) (e : Entry) (taken : ℕ)
    → IsRun content at entries count → IsRead at e taken → IfSome content (λ file. IsFrame (rest_at at file) e taken)
    → IsRun content (at + taken) (entries ++ e ∷ []) (count + 1)
IsRun-more content at entries count e taken run read stands = record {
  end = omega (arith, run.end, read.all, end-push entries e);
  each = All-append IsStorable entries (e ∷ []) run.each (All-cons IsStorable e [] read.storable (All-nil IsStorable));
  many = omega (arith, run.many, length-append entries (e ∷ []));
  short = read.within;
  parts = by_content content run.parts stands;
}
  where
    by_content : (content : Option (List ℕ))
        → IfSome content (λ file. HasHeader file → GoesOnWith file entries (rest_at at file))
        → IfSome content (λ file. IsFrame (rest_at at file) e taken)
        → IfSome content (λ file. HasHeader file → GoesOnWith file (entries ++ e ∷ []) (rest_at (at + taken) file))
    by_content None parts frame = tt
    by_content (Some file) parts frame = λ header. parts_more file at entries e taken (parts header) frame

-- ---- where no frame stands

-- of no bytes only one end is right
end_of_none : (end : FrameEnd) → IsFrameEnd [] end → end ≡ ends.Ended
unfolding long
end_of_none ends.Ended is = refl
end_of_none ends.Short is = absurd (elim is [
  | inl below ↦ below.some refl
  | inr cut ↦ omega (arith, ap length cut.begins.spelled, length-append (to_le_bytes w32 cut.said) cut.rest)
])
end_of_none ends.TooLong is =
    absurd (omega (arith, ap length is.begins.spelled, length-append (to_le_bytes w32 is.said) is.rest))
end_of_none (ends.BadBody place) is =
    absurd (
    omega (
      arith,
      ap length is.framed,
      length-append (framed is.content) is.rest,
      length-append (to_le_bytes w32 (length is.content)) is.content,
    )
    )
end_of_none (ends.Uncertified refused) is =
    absurd (
    omega (
      arith,
      ap length is.begins.spelled,
      length-append (frame_of is.entry) is.begins.rest,
      some_bytes is.entry,
    )
    )
end_of_none ends.NoMemory is = absurd is

pub stops_at : (entries : List Entry) (rest : List ℕ) (end : FrameEnd) (stop : Option Stop) → length entries < MAX_ENTRIES
    → IsFrameEnd rest end → IsStopAt end stop → StopsFor entries rest stop
stops_at entries rest end None few is stops = subst (IsFrameEnd rest) stops is
stops_at entries rest end (Some stop) few is stops =
    subst (λ (s : Stop). StopsFor entries rest (Some s)) (sym stops.0) (
      (λ none. stops.1 (end_of_none end (subst (λ (l : List ℕ). IsFrameEnd l end) none is))),
      few,
      is,
    )

may_stop : (entries : List Entry) (end : FrameEnd) (stop : Option Stop) → length entries < MAX_ENTRIES
    → end ≢ ends.NoMemory → IsStopAt end stop → MayStop entries stop
may_stop entries end None few some stops = tt
may_stop entries end (Some stop) few some stops =
    subst (λ (s : Stop). MayStop entries (Some s)) (sym stops.0) (few, stops.1, some)

module _ (content : Option (List ℕ)) (found : Recovered) (count : ℕ)
    (run : IsRun content found.end_at found.entries.items count) where
  in_order : count ≤ MAX_ENTRIES → MayStop found.entries.items found.stopped → IsInOrder found
  in_order few stop = record {
    storable = record {
      each = run.each;
      few = omega (arith, run.many, few);
      short = omega (arith, run.end, run.short);
    };
    end = run.end;
    stop = stop;
  }

  recovered : (file : List ℕ) → count ≤ MAX_ENTRIES → GoesOnWith file found.entries.items (rest_at found.end_at file)
      → (length found.entries.items ≡ MAX_ENTRIES) ⊎ NoFrame (rest_at found.end_at file)
      → StopsFor found.entries.items (rest_at found.end_at file) found.stopped → IsRecovered file found
  recovered file few parts longest stopped = record {
    rest = rest_at found.end_at file;
    entries = inr (record {
      parts = parts;
      each = run.each;
      few = omega (arith, run.many, few);
      longest = longest;
    });
    end = run.end;
    stopped = stopped;
  }

  -- the run ended where no frame stands
  pub in_order_end : (end : FrameEnd) → count < MAX_ENTRIES → end ≢ ends.NoMemory → IsStopAt end found.stopped
      → IsInOrder found
  in_order_end end few some stops =
      in_order (omega (arith, few))
      (may_stop found.entries.items end found.stopped (omega (arith, run.many, few)) some stops)

  pub recovered_end : EndsExcludeFrames → (end : FrameEnd) → count < MAX_ENTRIES
      → IfSome content (λ file. IsFrameEnd (rest_at found.end_at file) end) → IsStopAt end found.stopped
      → IfSome content (λ file. HasHeader file → IsRecovered file found)
  recovered_end exclude end few stands stops = by_content content run.parts stands
    where
      by_content : (content : Option (List ℕ))
          → IfSome content (λ file. HasHeader file → GoesOnWith file found.entries.items (rest_at found.end_at file))
          → IfSome content (λ file. IsFrameEnd (rest_at found.end_at file) end)
          → IfSome content (λ file. HasHeader file → IsRecovered file found)
      by_content None parts is = tt
      by_content (Some file) parts is = λ header.
          recovered file (omega (arith, few)) (parts header)
          (inr (λ e taken. exclude (rest_at found.end_at file) e taken end is))
          (stops_at found.entries.items (rest_at found.end_at file) end found.stopped (omega (arith, run.many, few)) is stops)

-- ---- where there are as many entries as may be

-- whether bytes follow
abbrev pub stop_if : Bool → Option Stop
stop_if more = then_some more TooMany

full_stops : (entries : List Entry) (rest : List ℕ) (more : Bool) → length entries ≡ MAX_ENTRIES
    → (IsTrue more ↔ (rest ≢ [])) → StopsFor entries rest (stop_if more)
full_stops entries rest true full says = (says.0 refl, full)
full_stops entries [] false full says = refl
full_stops entries (b ∷ rest) false full says = absurd (false≢true (says.1 (λ none. cc)))

full_may : (entries : List Entry) (more : Bool) → length entries ≡ MAX_ENTRIES → MayStop entries (stop_if more)
full_may entries true full = full
full_may entries false full = tt

module _ (content : Option (List ℕ)) (found : Recovered)
    (run : IsRun content found.end_at found.entries.items MAX_ENTRIES) (more : Bool)
    (stops : found.stopped ≡ stop_if more) where
  pub in_order_full : IsInOrder found
  in_order_full =
      in_order content found MAX_ENTRIES run (omega arith)
      (subst (MayStop found.entries.items) (sym stops) (full_may found.entries.items more run.many))

  pub recovered_full : IfSome content (λ file. IsTrue more ↔ (rest_at found.end_at file ≢ []))
      → IfSome content (λ file. HasHeader file → IsRecovered file found)
  recovered_full says = by_content content run.parts says
    where
      by_content : (content : Option (List ℕ))
          → IfSome content (λ file. HasHeader file → GoesOnWith file found.entries.items (rest_at found.end_at file))
          → IfSome content (λ file. IsTrue more ↔ (rest_at found.end_at file ≢ []))
          → IfSome content (λ file. HasHeader file → IsRecovered file found)
      by_content None parts is = tt
      by_content (Some file) parts is = λ header.
          recovered content found MAX_ENTRIES run file (omega arith) (parts header) (inl run.many)
          (subst (StopsFor found.entries.items (rest_at found.end_at file)) (sym stops)
          (full_stops found.entries.items (rest_at found.end_at file) more run.many is))

-- ---- what one read says

-- what was said of a disk holds of the one before, where it was only looked at
pub said_before : (old new : Option (List ℕ)) (P : List ℕ → Type 0) → new ≡ old → IfSome new P → IfSome old P
said_before old new P same is = subst (λ (content : Option (List ℕ)). IfSome content P) same is

module _ (old new : DiskState) (looks : OnlyLooks old new) (at : ℕ) (entries : List Entry) (count : ℕ)
    (run : IsRun old.content at entries count) (answer : Result (Entry × ℕ) FrameEnd) (read : MayBeRead at answer)
    (stands : IfSome new.content (λ file. IsFrameAnswer (rest_at at file) answer)) where
  pub IsRun-read : (items : List Entry) (e : Entry) (taken : ℕ) → answer ≡ Ok (e, taken) → items ≡ entries ++ e ∷ []
      → IsRun old.content (at + taken) items (count + 1)
  IsRun-read items e taken is pushed =
      subst (λ (l : List Entry). IsRun old.content (at + taken) l (count + 1)) (sym pushed) (
      IsRun-more old.content at entries count e taken run (subst (MayBeRead at) is read)
      (said_before old.content new.content (λ file. IsFrame (rest_at at file) e taken) looks.content
      (subst (λ (a : Result (Entry × ℕ) FrameEnd). IfSome new.content (λ file. IsFrameAnswer (rest_at at file) a)) is stands))
      )

  pub end_read : (end : FrameEnd) → answer ≡ Err end
      → (end ≢ ends.NoMemory) × IfSome old.content (λ file. IsFrameEnd (rest_at at file) end)
  end_read end is = (
    subst (MayBeRead at) is read,
    said_before old.content new.content (λ file. IsFrameEnd (rest_at at file) end) looks.content
        (subst (λ (a : Result (Entry × ℕ) FrameEnd). IfSome new.content (λ file. IsFrameAnswer (rest_at at file) a)) is stands),
  )

-- the cause of a fault, since a disk that was only looked at
pub cause_since : (old mid new : DiskState) → OnlyLooks old mid → (fault : StartFault) → start_cause mid new fault
    → start_cause old new fault
cause_since old mid new looks faults.Disk rose = omega (arith, rose, looks.faults)
cause_since old mid new looks faults.NotJournal foreign = said_before old.content mid.content IsForeign looks.content foreign
cause_since old mid new looks faults.NoMemory none = tt
