-- What a journal that was closed leaves of the file that it was opened on.
use Rattle.std.proofs.Common.{◌≡◌, ◌≢◌, ◌⊎◌, inl, inr, ⊎_elim, ℕ, ◌+◌, ◌-◌, ◌<◌, ◌≤◌, ◌^◌, min, Bool, true, false, List, [], ◌∷◌, ◌++◌}
use Rattle.std.proofs.Common.{length, take, drop, get_or, Option, None, Some, refl, sym, ap, ◌∙◌, subst, arith}
use Rattle.std.proofs.Common.{length-append, append_assoc, append-nil}
use Rattle.std.proofs.lemmas.Bool.{false≢true}
use Rattle.std.proofs.lemmas.List.{drop_more, take-append-drop}
use Rattle.std.proofs.lemmas.List.Elements.{All-contains_itself}
use Rattle.std.specs.List.{All, Contains}
use Rattle.std.specs.Option.{IfSome}
use Rattle.clap.specs.Words.{Text}
use Rattle.cert_check.specs.declared.entry.Entry.{Entry}
use Rattle.cert_check.specs.declared.wrote.Wrote.{Wrote}
use Rattle.cert_check.specs.declared.wrote.Wrote.TheVariants.{At, Fault, Full}
use Rattle.outside.specs.Runs.{IsSettled}
use Rattle.outside.specs.States.{DiskState}
use Rattle.journal.specs.Files.{AreStorable, BeginsWith}
use Rattle.journal.specs.Journals.{IsKept, JournalOrigin, KeepsJournal, PlainJournal, faults_in, list_of, origin_of, saved_in}
use Rattle.journal.specs.Laws.{FramesStand, FrontsAreRecovered, NoRoomStays, OneListIsRecovered}
use Rattle.journal.specs.Recovery.{HoldsAtLeast, RecoversTo}
use Rattle.green_cli.specs.Ends.{Closes}
use Rattle.green_cli.specs.Opened.{IsFileOpened}
use Rattle.green_cli.specs.Saves.{HasFrame, HoldsSaved, IsRightlyFull, OldEntriesSurvive, SavesSurvive, entries_saved}
use Rattle.green_cli.specs.Saves.{writes_in}
use Rattle.green_cli.specs.declared.outcome.Report.{Report}
use Rattle.green_cli.specs.declared.store.Opened.{Opened}
use Rattle.green_cli.proofs.StoreLemmas.{saved_none}

-- a list that contains an item, in two parts
split_at : {X : Type 0} (xs : List X) (x : X) → Contains xs x → (before behind : List X) × (xs ≡ before ++ x ∷ behind)
split_at {X} xs x there =
    let k = there.0 in (
      take k xs,
      drop (k + 1) xs,
      sym (take-append-drop k xs)
          ∙ ap (λ (l : List X). take k xs ++ l)
          (drop_more xs k x there.1 ∙ ap (λ (y : X). y ∷ drop (k + 1) xs) there.2),
    )

saved_in-append : (before behind : List Wrote) → saved_in (before ++ behind) ≡ saved_in before ++ saved_in behind
unfolding saved_in
saved_in-append [] behind = refl
saved_in-append (At seat at entry ∷ before) behind = ap (λ (l : List Entry). entry ∷ l) (saved_in-append before behind)
saved_in-append (Fault seat ∷ before) behind = saved_in-append before behind
saved_in-append (Full seat entry ∷ before) behind = saved_in-append before behind

-- a list that holds some entries holds each front of them
held_front : (file : List ℕ) (front behind : List Entry) → HoldsAtLeast file (front ++ behind) → HoldsAtLeast file front
held_front file front behind holds = record {
  own = holds.own;
  begins = λ entries recovers.
      let rest = holds.begins entries recovers in
      (behind ++ rest.0, rest.1 ∙ append_assoc front behind rest.0);
}

-- the file of a journal that was opened on it and was closed
module _ {D : Type 0} (state : D → DiskState) (name : Text) (disk : D) (opened : Opened D)
    (is : IsFileOpened state name disk opened) (journal : PlainJournal D) (after : D)
    (closes : Closes state opened journal after) where
  abbrev opening : List Entry
  opening = opened.recovered.entries.items

  off_is : journal.off ≡ false
  off_is = ap (λ (o : JournalOrigin D). o.off) closes.origin ∙ is.on

  made_is : journal.made ≡ opened.journal.made
  made_is = ap (λ (o : JournalOrigin D). o.made) closes.origin

  opening_is : journal.opening ≡ opening
  opening_is =
      ap (λ (o : JournalOrigin D). o.opening) closes.origin
      ∙ sym (is.started.list
      ∙ (ap (λ (ws : List Wrote). opened.journal.opening ++ saved_in ws) is.started.no_writes
      ∙ (ap (λ (l : List Entry). opened.journal.opening ++ l) saved_none ∙ append-nil opened.journal.opening)))

  kept : IsKept state journal
  kept = closes.kept.how.1 off_is

  settled_made : IsSettled (state disk) → IsSettled (state journal.made)
  settled_made settled = subst (λ (d : D). IsSettled (state d)) (sym made_is) (is.settled settled)

  begins : IsSettled (state disk) → (image : List ℕ) → (state after).may_leave image
      → BeginsWith image (list_of journal)
  begins settled image left =
      kept.images (settled_made settled) image
      (subst (λ (d : D). (state d).may_leave image) closes.closed left)

  pub named_after : (state after).name ≡ Some name
  named_after =
      ap (λ (d : D). (state d).name) closes.closed
      ∙ (closes.kept.name ∙ (ap (λ (d : D). (state d).name) made_is ∙ is.named))

  holds_list : FrontsAreRecovered → IsSettled (state disk) → (image : List ℕ) → (state after).may_leave image
      → HoldsAtLeast image (opening ++ saved_in journal.wrotes)
  holds_list fronts settled image left =
      subst (λ (es : List Entry). HoldsAtLeast image (es ++ saved_in journal.wrotes)) opening_is
      (fronts image (list_of journal) kept.storable (begins settled image left))

  pub old_kept : FrontsAreRecovered → OneListIsRecovered → OldEntriesSurvive (state disk) (state after)
  old_kept fronts one settled = by_content (state disk).content is.began.recovered
    where
      by_content : (content : Option (List ℕ)) → IfSome content (λ file. RecoversTo file opening)
          → IfSome content (λ file. (entries : List Entry) → RecoversTo file entries → (image : List ℕ)
          → (state after).may_leave image → HoldsAtLeast image entries)
      by_content None recovered = tt
      by_content (Some file) recovered = λ entries recovers image left.
          subst (HoldsAtLeast image) (one file opening entries recovered recovers)
          (held_front image opening (saved_in journal.wrotes) (holds_list fronts settled image left))

  faults_counted : min ((state disk).faults + faults_in journal.wrotes) (2 ^ 64 - 1) ≤ (state after).faults
  faults_counted = omega (
    arith,
    closes.kept.faults,
    is.faults,
    ap (λ (d : D). (state d).faults) made_is,
    ap (λ (d : D). (state d).faults) closes.closed,
  )

  -- the frame of each entry that was saved
  frame_there : FramesStand → (image : List ℕ) → BeginsWith image (list_of journal) → (w : Wrote)
      → Contains journal.wrotes w → HasFrame image w
  frame_there frames image starts (At seat at entry) there =
      frames journal.opening journal.wrotes image seat at entry closes.kept.placed kept.storable starts there
  frame_there frames image starts (Fault seat) there = tt
  frame_there frames image starts (Full seat entry) there = tt

  -- and no room for those that weren't for want of it
  full_there : NoRoomStays → (w : Wrote) → Contains journal.wrotes w
      → IsRightlyFull (opening ++ saved_in journal.wrotes) w
  full_there stays (At seat at entry) there = tt
  full_there stays (Fault seat) there = tt
  full_there stays (Full seat entry) there =
      let parts = split_at journal.wrotes (Full seat entry) there in
      let none = closes.kept.placed parts.0 (Full seat entry) parts.1 parts.2 in
      let list : journal.opening ++ saved_in journal.wrotes
      ≡ (journal.opening ++ saved_in parts.0) ++ saved_in (Full seat entry ∷ parts.1) =
      ap (λ (ws : List Wrote). journal.opening ++ saved_in ws) parts.2
      ∙ (ap (λ (l : List Entry). journal.opening ++ l) (saved_in-append parts.0 (Full seat entry ∷ parts.1))
      ∙ sym (append_assoc journal.opening (saved_in parts.0) (saved_in (Full seat entry ∷ parts.1)))) in
      let few = subst (λ (es : List Entry). AreStorable es) list kept.storable in
      subst (λ (es : List Entry). IsRightlyFull (es ++ saved_in journal.wrotes) (Full seat entry)) opening_is
      (subst (λ (es : List Entry). IsRightlyFull es (Full seat entry)) (sym list)
      (stays (journal.opening ++ saved_in parts.0) (saved_in (Full seat entry ∷ parts.1)) entry few.few none))

  pub saves_survive : FrontsAreRecovered → FramesStand → NoRoomStays → (report : Report)
      → journal.wrotes ≡ writes_in report → SavesSurvive opening report (state disk) (state after)
  saves_survive fronts frames stays report wrote = record {
    images = λ settled image left. record {
      entries = subst (λ (ws : List Wrote). HoldsAtLeast image (opening ++ saved_in ws)) wrote
          (holds_list fronts settled image left);
      frames = subst (All (HasFrame image)) wrote (λ k d within.
          frame_there frames image (begins settled image left) _ (All-contains_itself journal.wrotes k d within));
    };
    faults = subst (λ (ws : List Wrote). min ((state disk).faults + faults_in ws) (2 ^ 64 - 1) ≤ (state after).faults)
        wrote faults_counted;
    full = subst (λ (ws : List Wrote). All (IsRightlyFull (opening ++ saved_in ws)) ws) wrote (λ k d within.
        full_there stays _ (All-contains_itself journal.wrotes k d within));
  }
