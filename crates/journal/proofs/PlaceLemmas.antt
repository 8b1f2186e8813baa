-- Where the frames of the entries stand that were saved.
use Rattle.std.proofs.Common.{◌≡◌, inl, inr, ⊎_elim, ℕ, ◌+◌, ◌<◌, ◌≤◌, List, [], ◌∷◌, ◌++◌, length, take, drop, get_or, refl, sym, ap, ◌∙◌, subst, arith}
use Rattle.std.proofs.Common.{append_assoc, length-append, take-append-drop, take_at, drop_at}
use Rattle.std.proofs.lemmas.Grind.{flat_map-append}
use Rattle.std.proofs.lemmas.List.{take-take, drop-take, drop_more}
use Rattle.cert_check.specs.declared.entry.Entry.{Entry}
use Rattle.cert_check.specs.declared.wrote.Wrote.{Wrote}
use Rattle.cert_check.specs.declared.wrote.Wrote.TheVariants.{At, Fault, Full}
use Rattle.entry_codec.specs.Frames.{frame_of}
use Rattle.journal.specs.declared.limits.TheConstants.{HEADER, MAX_FILE}
use Rattle.journal.specs.Files.{AreStorable, BeginsWith, end_of, frames_of}
use Rattle.journal.specs.Journals.{saved_in}
use Rattle.journal.specs.Laws.{FramesStand, NoRoomStays}
use Rattle.journal.proofs.FileLemmas.{front_of, length-front, take-begins}

-- the end behind more entries
end-append : (before behind : List Entry) → end_of (before ++ behind) ≡ end_of before + length (frames_of behind)
end-append before behind =
    omega (
      arith,
      ap length (flat_map-append frame_of before behind),
      length-append (frames_of before) (frames_of behind),
    )

pub no_room : NoRoomStays
no_room before behind entry few none = ⊎_elim
    (λ past. inl (omega (arith, past, end-append before behind)))
    (λ full. inr (omega (arith, full, few, length-append before behind)))
    none

saved_in-append : (before behind : List Wrote) → saved_in (before ++ behind) ≡ saved_in before ++ saved_in behind
unfolding saved_in
saved_in-append [] behind = refl
saved_in-append (At seat at entry ∷ before) behind = ap (λ (l : List Entry). entry ∷ l) (saved_in-append before behind)
saved_in-append (Fault seat ∷ before) behind = saved_in-append before behind
saved_in-append (Full seat entry ∷ before) behind = saved_in-append before behind

-- the entry of a write stands among those that were saved, behind those before it
saved_split : (opening : List Entry) (before : List Wrote) (seat at : ℕ) (entry : Entry) (behind : List Wrote)
    → opening ++ saved_in (before ++ At seat at entry ∷ behind)
    ≡ (opening ++ saved_in before) ++ entry ∷ saved_in behind
unfolding saved_in
saved_split opening before seat at entry behind =
    ap (λ (l : List Entry). opening ++ l) (saved_in-append before (At seat at entry ∷ behind))
    ∙ sym (append_assoc opening (saved_in before) (entry ∷ saved_in behind))

-- a list that contains an item, in two parts
split_at : {X : Type 0} (xs : List X) (x : X) (k : ℕ) → k < length xs → get_or xs k x ≡ x
    → (before behind : List X) × (xs ≡ before ++ x ∷ behind)
split_at {X} xs x k within here = (
  take k xs,
  drop (k + 1) xs,
  sym (take-append-drop k xs)
      ∙ ap (λ (l : List X). take k xs ++ l)
      (drop_more xs k x within ∙ ap (λ (y : X). y ∷ drop (k + 1) xs) here),
)

-- the frame stands behind those before it
frame_at : (file : List ℕ) (before : List Entry) (entry : Entry) (behind : List Entry)
    → end_of (before ++ entry ∷ behind) ≤ MAX_FILE → BeginsWith file (before ++ entry ∷ behind)
    → take (length (frame_of entry)) (drop (end_of before) file) ≡ frame_of entry
frame_at file before entry behind short begins =
    let all = before ++ entry ∷ behind in
    let n = length (frame_of entry) in
    let is : take (end_of all) file ≡ front_of before ++ (frame_of entry ++ frames_of behind) =
    take-begins file all short begins
    ∙ ap (λ (l : List ℕ). HEADER ++ l) (flat_map-append frame_of before (entry ∷ behind))
    ∙ sym (append_assoc HEADER (frames_of before) (frame_of entry ++ frames_of behind)) in
    let long : end_of all ≡ end_of before + (n + length (frames_of behind)) =
    omega (arith, end-append before (entry ∷ behind), length-append (frame_of entry) (frames_of behind)) in
    let inner : take (n + length (frames_of behind)) (drop (end_of before) file) ≡ frame_of entry ++ frames_of behind =
    sym (drop-take (end_of before) (n + length (frames_of behind)) file)
    ∙ ap (λ (m : ℕ). drop (end_of before) (take m file)) (sym long)
    ∙ ap (drop (end_of before)) is
    ∙ drop_at (front_of before) (frame_of entry ++ frames_of behind) (end_of before) (length-front before) in
    sym (take-take n (n + length (frames_of behind)) (drop (end_of before) file) (omega arith))
    ∙ ap (take n) inner ∙ take_at (frame_of entry) (frames_of behind) n refl

pub frames_of_saved : FramesStand
frames_of_saved opening wrotes file seat at entry placed storable begins contains =
    let parts = split_at wrotes (At seat at entry) contains.0 contains.1 contains.2 in
    let place = placed parts.0 (At seat at entry) parts.1 parts.2 in
    let list = ap (λ (w : List Wrote). opening ++ saved_in w) parts.2 ∙ saved_split opening parts.0 seat at entry parts.1 in
    let stored = subst AreStorable list storable in
    let starts = subst (BeginsWith file) list begins in
    subst (λ (p : ℕ). take (length (frame_of entry)) (drop p file) ≡ frame_of entry) (sym place)
    (frame_at file (opening ++ saved_in parts.0) entry (saved_in parts.1) stored.short starts)
