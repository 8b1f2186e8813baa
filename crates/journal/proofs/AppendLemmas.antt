-- A journal after an append.
use Rattle.std.proofs.Common.{◌≡◌, ◌≢◌, ℕ, ◌+◌, ◌-◌, ◌^◌, ◌<◌, ◌≤◌, false, List, [], ◌∷◌, ◌++◌, length, min, refl, sym, ap, ◌∙◌, subst, arith, IsTrue}
use Rattle.std.proofs.Common.{append_assoc, append-nil, length-append}
use Rattle.std.proofs.lemmas.List.Elements.{All-push}
use Rattle.std.specs.Option.{IfSome}
use Rattle.cert_check.specs.declared.entry.Entry.{Entry}
use Rattle.cert_check.specs.declared.saved.Saved.{Saved}
use Rattle.cert_check.specs.declared.saved.Saved.TheVariants as outcome
use Rattle.cert_check.specs.declared.wrote.Wrote.{Wrote}
use Rattle.cert_check.specs.declared.wrote.Wrote.TheVariants.{At, Fault, Full}
use Rattle.cert_check.specs.Calls.{writes_by}
use Rattle.entry_codec.specs.Frames.{frame_of}
use Rattle.outside.specs.Crash.{IsConsistent, IsWithin, TearsAt, WritesAt, patched}
use Rattle.outside.specs.Runs.{IsSettled, LeavesOnly, IsTornFrom}
use Rattle.outside.specs.RunFacts.{LeavesOnly-weaker, LeavesOnly-now}
use Rattle.outside.specs.States.{DiskState}
use Rattle.journal.specs.declared.limits.TheConstants.{MAX_FILE, MAX_ENTRIES}
use Rattle.journal.specs.Appends.{Appends, SavesAs}
use Rattle.journal.specs.Files.{IsStorable, AreStorable, BeginsWith, HasJust, end_of}
use Rattle.journal.specs.Journals.{PlainJournal, list_of, saved_in, faults_in, IsInPlace, IsWhole, IsKept, KeepsJournal, HasNumbers}
use Rattle.journal.specs.Saving.{Saves, TearsAtMost}
use Rattle.journal.specs.Puts.{Puts}
use Rattle.journal.proofs.ContentLemmas.{content_written, content_torn, content_weaker}
use Rattle.journal.proofs.FileLemmas.{end-push, long-begins, BeginsWith-torn, BeginsWith-patched, HasJust-patched}
use Rattle.journal.proofs.SavingLemmas.{synced_has}
use Rattle.journal.proofs.WroteLemmas.{saved_in-push, faults_in-push, AreInPlace-push}

-- the journal with another disk, and one more write
abbrev pub noted : {D : Type 0} → PlainJournal D → D → Wrote → PlainJournal D
noted old disk write = record old { disk = disk; wrotes = old.wrotes ++ write ∷ [] }

-- what is kept, where the list is known
pub IsKept-by : {D : Type 0} (state : D → DiskState) (journal : PlainJournal D) (list : List Entry)
    → list_of journal ≡ list → AreStorable list
    → IfSome (state journal.disk).content (λ file. BeginsWith file list)
    → (IsSettled (state journal.made) → (image : List ℕ) → (state journal.disk).may_leave image → BeginsWith image list)
    → (IsWhole state journal → IfSome (state journal.disk).content (λ file. HasJust file list))
    → (IsWhole state journal → IsSettled (state journal.made) → (image : List ℕ)
    → (state journal.disk).may_leave image → HasJust image list)
    → IsKept state journal
IsKept-by state journal list is storable content images whole whole_images = record {
  storable = subst AreStorable (sym is) storable;
  content = subst (λ (l : List Entry). IfSome (state journal.disk).content (λ file. BeginsWith file l)) (sym is) content;
  images = λ settled image left. subst (BeginsWith image) (sym is) (images settled image left);
  whole = λ whole'.
      subst (λ (l : List Entry). IfSome (state journal.disk).content (λ file. HasJust file l)) (sym is) (whole whole');
  whole_images = λ whole' settled image left.
      subst (HasJust image) (sym is) (whole_images whole' settled image left);
}

-- no fault more is counted
fewer : (made faults new before now most : ℕ) → new ≡ faults → min (made + faults) most ≤ before → before ≤ now
    → min (made + new) most ≤ now
fewer made faults new before now most is least later = omega arith

-- one fault more is counted, where the count rose
more : (made faults new before now most : ℕ) → new ≡ faults + 1 → min (made + faults) most ≤ before
    → min (before + 1) most ≤ now → min (made + new) most ≤ now
more made faults new before now most is least rose = omega arith

module _ {D : Type 0} (state : D → DiskState) (consistent : (disk : D) → IsConsistent (state disk))
    (old : PlainJournal D) (on : old.off ≡ false) (keeps : KeepsJournal state old) (seat : ℕ) (entry : Entry)
    (storable : IsStorable entry) (disk : D) where
  abbrev kept : IsKept state old
  kept = keeps.how.1 on

  -- ---- lists

  list-at : (at : ℕ) → list_of (noted old disk (At seat at entry)) ≡ list_of old ++ entry ∷ []
  unfolding saved_in
  list-at at =
      ap (λ (l : List Entry). old.opening ++ l) (saved_in-push old.wrotes (At seat at entry))
      ∙ sym (append_assoc old.opening (saved_in old.wrotes) (entry ∷ []))

  list-same : (write : Wrote) → saved_in (write ∷ []) ≡ [] → list_of (noted old disk write) ≡ list_of old
  list-same write none =
      ap (λ (l : List Entry). old.opening ++ l) (
      saved_in-push old.wrotes write ∙ ap (λ (l : List Entry). saved_in old.wrotes ++ l) none
      ∙ append-nil (saved_in old.wrotes)
      )

  list-fault : list_of (noted old disk (Fault seat)) ≡ list_of old
  unfolding saved_in
  list-fault = list-same (Fault seat) refl

  list-full : list_of (noted old disk (Full seat entry)) ≡ list_of old
  unfolding saved_in
  list-full = list-same (Full seat entry) refl

  faults-at : (at : ℕ) → faults_in (old.wrotes ++ At seat at entry ∷ []) ≡ faults_in old.wrotes
  unfolding faults_in
  faults-at at = omega (arith, faults_in-push old.wrotes (At seat at entry))

  faults-fault : faults_in (old.wrotes ++ Fault seat ∷ []) ≡ faults_in old.wrotes + 1
  unfolding faults_in
  faults-fault = faults_in-push old.wrotes (Fault seat)

  faults-full : faults_in (old.wrotes ++ Full seat entry ∷ []) ≡ faults_in old.wrotes
  unfolding faults_in
  faults-full = omega (arith, faults_in-push old.wrotes (Full seat entry))

  -- a journal that is whole after a write was whole before it
  whole_before : (write : Wrote) → (faults_in (old.wrotes ++ write ∷ []) ≡ 0 → faults_in old.wrotes ≡ 0)
      → IsWhole state (noted old disk write) → IsWhole state old
  whole_before write fewer whole = record { made = whole.made; no_fault = fewer whole.no_fault }

  rules : IsSettled (state old.made) → IsTrue (state old.disk).keeps_rules
  rules settled = keeps.rules ∙ settled.rules

  -- a journal with one more write, by what it is to keep
  keeps_noted : (write : Wrote) → (state disk).name ≡ (state old.disk).name
      → (state disk).tells_images ≡ (state old.disk).tells_images
      → (state disk).keeps_rules ≡ (state old.disk).keeps_rules
      → min ((state old.made).faults + faults_in (old.wrotes ++ write ∷ [])) (2 ^ 64 - 1) ≤ (state disk).faults
      → IsInPlace (list_of old) write → IsKept state (noted old disk write)
      → KeepsJournal state (noted old disk write)
  keeps_noted write name telling rules' faults here is_kept = record {
    name = name ∙ keeps.name;
    telling = telling ∙ keeps.telling;
    rules = rules' ∙ keeps.rules;
    faults = faults;
    placed = AreInPlace-push old.opening old.wrotes write keeps.placed here;
    how = (λ off. absurd (cc (on, off)), λ still_on. is_kept);
  }

  -- ---- where there was room

  module _ (few : length (list_of old) < MAX_ENTRIES) (short : end_of (list_of old) + length (frame_of entry) ≤ MAX_FILE)
    where
      room_behind : AreStorable (list_of old ++ entry ∷ [])
      room_behind = record {
        each = All-push IsStorable (list_of old) entry kept.storable.each storable;
        few = omega (arith, few, length-append (list_of old) (entry ∷ []));
        short = omega (arith, short, end-push (list_of old) entry);
      }

      begins_at : (file : List ℕ) → BeginsWith file (list_of old)
          → BeginsWith (patched file (end_of (list_of old)) (frame_of entry)) (list_of old ++ entry ∷ [])
      begins_at file begins = BeginsWith-patched file (list_of old) entry short begins

      just_at : (file : List ℕ) → HasJust file (list_of old)
          → HasJust (patched file (end_of (list_of old)) (frame_of entry)) (list_of old ++ entry ∷ [])
      just_at file just = HasJust-patched file (list_of old) entry short just

      -- the entry was saved
      kept_at : (at : ℕ) → Saves (end_of (list_of old)) (frame_of entry) (state old.disk) (state disk)
          → (state disk).keeps_rules ≡ (state old.disk).keeps_rules → IsKept state (noted old disk (At seat at entry))
      kept_at at saves rules' =
          let list = list_of old ++ entry ∷ [] in
          let before = whole_before (At seat at entry) (λ none. sym (faults-at at) ∙ none) in
          let content = content_written (state old.disk).content (state disk).content (end_of (list_of old)) (frame_of entry)
          (λ file. BeginsWith file (list_of old)) (λ file. BeginsWith file list) saves.written kept.content begins_at in
          let just = λ (whole : IsWhole state (noted old disk (At seat at entry))).
          content_written (state old.disk).content (state disk).content (end_of (list_of old)) (frame_of entry)
          (λ file. HasJust file (list_of old)) (λ file. HasJust file list) saves.written (kept.whole (before whole))
          just_at in
          IsKept-by state (noted old disk (At seat at entry)) list (list-at at) room_behind content
          (λ settled image left.
          synced_has (state disk).content (state disk).may_leave (λ file. BeginsWith file list)
          ((consistent disk).tells_content (rules' ∙ rules settled)) (saves.durable (rules settled)) content image left)
          just
          (λ whole settled image left.
          synced_has (state disk).content (state disk).may_leave (λ file. HasJust file list)
          ((consistent disk).tells_content (rules' ∙ rules settled)) (saves.durable (rules settled)) (just whole) image
          left)

  -- ---- what a crash leaves

  begins_torn : (n : ℕ) → IsSettled (state old.made) → (image : List ℕ)
      → IsTornFrom (state old.disk) (end_of (list_of old)) n image → BeginsWith image (list_of old)
  begins_torn n settled image torn =
      BeginsWith-torn torn.0 image (list_of old) n kept.storable.short (kept.images settled torn.0 torn.1) torn.2

  survives : (n : ℕ) → TearsAtMost (end_of (list_of old)) n (state old.disk) (state disk) → IsSettled (state old.made)
      → LeavesOnly (state old.disk) (state disk) (λ image. BeginsWith image (list_of old))
  survives n at_most settled =
      LeavesOnly-weaker (state old.disk) (state disk) (IsTornFrom (state old.disk) (end_of (list_of old)) n)
      (λ image. BeginsWith image (list_of old)) (at_most.any_moment (rules settled)) (begins_torn n settled)

  -- the disk failed
  kept_fault : (n : ℕ) → TearsAt (state old.disk).content (state disk).content (end_of (list_of old)) n
      → TearsAtMost (end_of (list_of old)) n (state old.disk) (state disk)
      → IsKept state (noted old disk (Fault seat))
  kept_fault n torn at_most =
      let some = λ (whole : IsWhole state (noted old disk (Fault seat))).
      let no : ⊥ = omega (arith, whole.no_fault, faults-fault) in no in
      IsKept-by state (noted old disk (Fault seat)) (list_of old) list-fault kept.storable
      (content_torn (state old.disk).content (state disk).content (end_of (list_of old)) n
      (λ file. BeginsWith file (list_of old)) (λ file. BeginsWith file (list_of old)) torn kept.content
      (λ file image tears begins. BeginsWith-torn file image (list_of old) n kept.storable.short begins tears))
      (λ settled image left.
      LeavesOnly-now (state old.disk) (state disk) (λ image. BeginsWith image (list_of old)) (consistent disk)
      (survives n at_most settled) image left)
      (λ whole. absurd (some whole))
      (λ whole settled image left. absurd (some whole))

  -- there was no room
  kept_full : disk ≡ old.disk → IsKept state (noted old disk (Full seat entry))
  kept_full same =
      let before = whole_before (Full seat entry) (λ none. sym faults-full ∙ none) in
      let back = λ (image : List ℕ) (left : (state disk).may_leave image).
      subst (λ (d : D). (state d).may_leave image) same left in
      IsKept-by state (noted old disk (Full seat entry)) (list_of old) list-full kept.storable
      (subst (λ (d : D). IfSome (state d).content (λ file. BeginsWith file (list_of old))) (sym same) kept.content)
      (λ settled image left. kept.images settled image (back image left))
      (λ whole.
      subst (λ (d : D). IfSome (state d).content (λ file. HasJust file (list_of old))) (sym same)
      (kept.whole (before whole)))
      (λ whole settled image left. kept.whole_images (before whole) settled image (back image left))

  -- ---- what was put, as the answer says

  keeps_by : (write : Wrote) → TearsAtMost (end_of (list_of old)) (length (frame_of entry)) (state old.disk) (state disk)
      → min ((state old.made).faults + faults_in (old.wrotes ++ write ∷ [])) (2 ^ 64 - 1) ≤ (state disk).faults
      → IsInPlace (list_of old) write → IsKept state (noted old disk write) → KeepsJournal state (noted old disk write)
  keeps_by write at_most faults here is_kept =
      keeps_noted write at_most.same.name at_most.same.telling at_most.same.rules faults here is_kept

  -- the journal keeps what it keeps
  pub keeps_after : (saved : Saved) (write : Wrote) → writes_by seat entry saved ≡ write ∷ []
      → Puts state (end_of (list_of old)) (length (list_of old)) (frame_of entry) old.disk disk saved
      → KeepsJournal state (noted old disk write)
  keeps_after (outcome.At at) write is puts =
      let e : At seat at entry ≡ write = cc in
      let keeps_it = keeps_by (At seat at entry) puts.at_most
      (fewer _ _ _ _ _ _ (faults-at at) keeps.faults puts.at_most.same.faults) puts.how.here
      (kept_at puts.how.room.few puts.how.room.short at puts.how.saves puts.at_most.same.rules) in
      subst (λ (w : Wrote). KeepsJournal state (noted old disk w)) e keeps_it
  keeps_after outcome.Fault write is puts =
      let e : Fault seat ≡ write = cc in
      let keeps_it = keeps_by (Fault seat) puts.at_most
      (more _ _ _ _ _ _ faults-fault keeps.faults puts.how.rose) tt
      (kept_fault (length (frame_of entry)) puts.how.torn puts.at_most) in
      subst (λ (w : Wrote). KeepsJournal state (noted old disk w)) e keeps_it
  keeps_after outcome.Full write is puts =
      let e : Full seat entry ≡ write = cc in
      let keeps_it = keeps_by (Full seat entry) puts.at_most
      (fewer _ _ _ _ _ _ faults-full keeps.faults puts.at_most.same.faults) puts.how.0 (kept_full puts.how.1) in
      subst (λ (w : Wrote). KeepsJournal state (noted old disk w)) e keeps_it
  keeps_after outcome.Off write is puts = absurd puts.how

  saves_as : (saved : Saved) (write : Wrote)
      → Puts state (end_of (list_of old)) (length (list_of old)) (frame_of entry) old.disk disk saved
      → SavesAs state entry old (noted old disk write) saved
  saves_as (outcome.At at) write puts = record {
    room = record { on = on; few = puts.how.room.few; short = puts.how.room.short };
    place = puts.how.here;
    written = subst
        (λ (n : ℕ). WritesAt (state old.disk).content (state disk).content n (frame_of entry)) (sym puts.how.here)
        puts.how.saves.written;
  }
  saves_as outcome.Fault write puts = record {
    room = record { on = on; few = puts.how.room.few; short = puts.how.room.short };
    rose = puts.how.rose;
    torn = puts.how.torn;
  }
  saves_as outcome.Full write puts = record { on = on; no_room = puts.how.0; untouched = puts.how.1 }
  saves_as outcome.Off write puts = absurd puts.how

  -- and it was appended so
  pub appends_after : (saved : Saved) (write : Wrote) → writes_by seat entry saved ≡ write ∷ []
      → Puts state (end_of (list_of old)) (length (list_of old)) (frame_of entry) old.disk disk saved
      → Appends state seat entry old (noted old disk write) saved
  appends_after saved write is puts = record {
    same = refl;
    wrotes = ap (λ (more : List Wrote). old.wrotes ++ more) (sym is);
    how = saves_as saved write puts;
    survives = λ still_on settled. survives (length (frame_of entry)) puts.at_most settled;
  }

  -- ---- its numbers

  pub numbers_at : (at end count : ℕ) (write : Wrote) → writes_by seat entry (outcome.At at) ≡ write ∷ []
      → HasNumbers old end count
      → HasNumbers (noted old disk write) (end + length (frame_of entry)) (count + 1)
  numbers_at at end count write is numbers =
      let e : At seat at entry ≡ write = cc in
      let now : HasNumbers (noted old disk (At seat at entry)) (end + length (frame_of entry)) (count + 1) = record {
        end = λ still_on.
            ap (λ (n : ℕ). n + length (frame_of entry)) (numbers.end on)
            ∙ sym (end-push (list_of old) entry) ∙ ap end_of (sym (list-at at));
        len = omega (
          arith,
          numbers.len,
          ap length (list-at at),
          length-append (list_of old) (entry ∷ []),
        );
      } in
      subst (λ (w : Wrote). HasNumbers (noted old disk w) (end + length (frame_of entry)) (count + 1)) e now

  numbers_same : (end count : ℕ) (write : Wrote) → list_of (noted old disk write) ≡ list_of old
      → HasNumbers old end count → HasNumbers (noted old disk write) end count
  numbers_same end count write same numbers = record {
    end = λ still_on. numbers.end on ∙ ap end_of (sym same);
    len = numbers.len ∙ ap length (sym same);
  }

  pub numbers_else : (saved : Saved) (end count : ℕ) (write : Wrote) → ((at : ℕ) → saved ≢ outcome.At at)
      → writes_by seat entry saved ≡ write ∷ [] → HasNumbers old end count → HasNumbers (noted old disk write) end count
  numbers_else (outcome.At at) end count write other is numbers = absurd (other at refl)
  numbers_else outcome.Fault end count write other is numbers =
      let e : Fault seat ≡ write = cc in
      subst (λ (w : Wrote). HasNumbers (noted old disk w) end count) e
      (numbers_same end count (Fault seat) list-fault numbers)
  numbers_else outcome.Full end count write other is numbers =
      let e : Full seat entry ≡ write = cc in
      subst (λ (w : Wrote). HasNumbers (noted old disk w) end count) e
      (numbers_same end count (Full seat entry) list-full numbers)
  numbers_else outcome.Off end count write other is numbers = absurd (omega (arith, ap length is))

-- all of that, of the journal with these writes
pub record IsAppended {D : Type 0} (state : D → DiskState) (old : PlainJournal D) (at count : ℕ) (seat : ℕ)
    (entry : Entry) (disk : D) (wrotes : List Wrote) (saved : Saved) : Type 0
  where
    pub keeps : KeepsJournal state (record old { disk = disk; wrotes = wrotes })
    pub appends : Appends state seat entry old (record old { disk = disk; wrotes = wrotes }) saved
    pub numbers_at : (place n : ℕ) → saved ≡ outcome.At place → n ≡ length (frame_of entry)
        → HasNumbers (record old { disk = disk; wrotes = wrotes }) (at + n) (count + 1)
    pub numbers_else : ((place : ℕ) → saved ≢ outcome.At place)
        → HasNumbers (record old { disk = disk; wrotes = wrotes }) at count

pub appended : {D : Type 0} (state : D → DiskState) → ((disk : D) → IsConsistent (state disk))
    → (old : PlainJournal D) (at count : ℕ) → old.off ≡ false → KeepsJournal state old → HasNumbers old at count
    → (seat : ℕ) (entry : Entry) → IsStorable entry → (disk : D) (frame : List ℕ) → frame ≡ frame_of entry
    → (saved : Saved) → Puts state at count frame old.disk disk saved
    → (write : Wrote) → writes_by seat entry saved ≡ write ∷ []
    → (wrotes : List Wrote) → wrotes ≡ old.wrotes ++ write ∷ []
    → IsAppended state old at count seat entry disk wrotes saved
appended state consistent old at count on keeps numbers seat entry storable disk frame is_frame saved puts write is wrotes
    is_more =
    let frame_puts = subst (λ (f : List ℕ). Puts state at count f old.disk disk saved) is_frame puts in
    let end_puts =
    subst (λ (n : ℕ). Puts state n count (frame_of entry) old.disk disk saved) (numbers.end on) frame_puts in
    let list_puts = subst
    (λ (n : ℕ). Puts state (end_of (list_of old)) n (frame_of entry) old.disk disk saved) numbers.len end_puts in
    let after : IsAppended state old at count seat entry disk (old.wrotes ++ write ∷ []) saved = record {
      keeps = keeps_after state consistent old on keeps seat entry storable disk saved write is list_puts;
      appends = appends_after state consistent old on keeps seat entry storable disk saved write is list_puts;
      numbers_at = λ place n is_at is_long.
          subst (λ (m : ℕ). HasNumbers (noted old disk write) (at + m) (count + 1)) (sym is_long)
          (numbers_at state consistent old on keeps seat entry storable disk place at count write
          (subst (λ (s : Saved). writes_by seat entry s ≡ write ∷ []) is_at is) numbers);
      numbers_else = λ other.
          numbers_else state consistent old on keeps seat entry storable disk saved at count write other is numbers;
    } in
    subst (λ (w : List Wrote). IsAppended state old at count seat entry disk w saved) (sym is_more) after

-- an append of the journal before that led to the journal after
pub Appends-seen : {D : Type 0} {state : D → DiskState} {seat : ℕ} {entry : Entry} {inside old new seen : PlainJournal D}
    {saved : Saved} → inside ≡ old → seen ≡ new → Appends state seat entry inside new saved
    → Appends state seat entry old seen saved
Appends-seen {state = state} {seat = seat} {entry = entry} {old = old} {new = new} {saved = saved} before after appends =
    subst (λ j. Appends state seat entry old j saved) (sym after)
    (subst (λ j. Appends state seat entry j new saved) before appends)

-- the list's end lies within the file
pub end_within : {D : Type 0} (state : D → DiskState) (journal : PlainJournal D) (at count : ℕ) → journal.off ≡ false
    → KeepsJournal state journal → HasNumbers journal at count → IsWithin (state journal.disk).content at
end_within state journal at count on keeps numbers =
    let kept = keeps.how.1 on in
    content_weaker (state journal.disk).content (λ file. BeginsWith file (list_of journal)) (λ file. at ≤ length file)
    kept.content
    (λ file begins. omega (arith, numbers.end on, long-begins file (list_of journal) kept.storable.short begins))
