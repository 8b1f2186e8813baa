-- Runs of frames: what one front of a file says of another, where no two entries stand in front of the same bytes.
use Rattle.std.proofs.Common.{◌≡◌, ◌⊎◌, inl, inr, ⊎_elim, ℕ, ◌+◌, ◌≤◌, List, [], ◌∷◌, ◌++◌, length, take, drop, refl, sym, ap, ◌∙◌, subst, arith}
use Rattle.std.proofs.Common.{append_assoc, append-nil, length-append, take-append-drop}
use Rattle.std.proofs.lemmas.Bool.{cases_lt}
use Rattle.std.proofs.lemmas.List.{append_cancel_left, take-take}
use Rattle.std.proofs.lemmas.List.Elements.{All-head, All-tail}
use Rattle.std.specs.List.{All}
use Rattle.cert_check.specs.declared.entry.Entry.{Entry}
use Rattle.entry_codec.specs.Answers.{OneFrameStands}
use Rattle.entry_codec.specs.Frames.{IsFrame, frame_of}
use Rattle.journal.specs.declared.limits.TheConstants.{HEADER, MAX_FILE, MAX_ENTRIES}
use Rattle.journal.specs.Files.{GoesOnWith, IsStorable, frames_of}
use Rattle.journal.specs.Laws.{OneListIsRecovered, FrontsAreRecovered, JustTheseAreRecovered, KeptEntriesAreHeld}
use Rattle.journal.specs.Recovery.{IsForeign, IsJournal, IsUnbegun, NoFrame, RecoversTo}
use Rattle.journal.proofs.HeaderLemmas.{NoFrame-none, begun_journal, cases_header, unbegun_only}

-- the frame of an entry that can be stored stands in front of whatever follows
pub IsFrame-stored : (e : Entry) (rest : List ℕ) → IsStorable e → IsFrame (frame_of e ++ rest) e (length (frame_of e))
IsFrame-stored e rest stored = record {
  begins = record { fits = stored.fits; rest = rest; spelled = refl; all = refl };
  evidence = stored.checked.evidence;
}

-- the frames of one entry and more, and then some bytes
frames_split : (e : Entry) (es : List Entry) (rest : List ℕ)
    → frames_of (e ∷ es) ++ rest ≡ frame_of e ++ (frames_of es ++ rest)
frames_split e es rest = append_assoc (frame_of e) (frames_of es) rest

pub just_these : JustTheseAreRecovered
just_these file entries storable just = (
  [],
  inr (record { parts = just; each = storable.each; few = storable.few; longest = inr NoFrame-none }),
)

-- what recovers to something is not foreign
pub IsOwn-journal : (file : List ℕ) (entries : List Entry) (rest : List ℕ) → GoesOnWith file entries rest → ¬ IsForeign file
IsOwn-journal file entries rest parts foreign =
    foreign.other (
    sym (take-take (length HEADER) MAX_FILE file (omega arith))
    ∙ ap (λ (l : List ℕ). take (length HEADER) l) parts.spelled
    )

pub IsOwn-recovered : (file : List ℕ) (entries : List Entry) → RecoversTo file entries → ¬ IsForeign file
IsOwn-recovered file entries recovers foreign = elim recovers.1 [
  | inl nothing ↦ omega (arith, nothing.unbegun.short, foreign.long)
  | inr journal ↦ IsOwn-journal file entries recovers.0 journal.parts foreign
]

module _ (one : OneFrameStands) where
  -- a run that goes on as far as it can begins with each other run
  front_run : (most done : ℕ) (front entries : List Entry) (more rest : List ℕ)
      → frames_of front ++ more ≡ frames_of entries ++ rest → All IsStorable front → All IsStorable entries
      → done + length front ≤ most → (done + length entries ≡ most) ⊎ NoFrame rest
      → (behind : List Entry) × (entries ≡ front ++ behind)
  front_run most done [] entries more rest same stored others few longest = (entries, refl)
  front_run most done (f ∷ front) [] more rest same stored others few longest = elim longest [
    | inl full ↦ absurd (omega (arith, full, few))
    | inr none ↦ absurd (
        none f (length (frame_of f)) (
        subst (λ (bytes : List ℕ). IsFrame bytes f (length (frame_of f))) (sym (frames_split f front more) ∙ same)
        (IsFrame-stored f (frames_of front ++ more) (All-head IsStorable f front stored))
        )
        )
  ]
  front_run most done (f ∷ front) (e ∷ entries) more rest same stored others few longest =
      let spelled = sym (frames_split f front more) ∙ same ∙ frames_split e entries rest in
      let first = subst (λ (bytes : List ℕ). IsFrame bytes f (length (frame_of f))) spelled
      (IsFrame-stored f (frames_of front ++ more) (All-head IsStorable f front stored)) in
      let second = IsFrame-stored e (frames_of entries ++ rest) (All-head IsStorable e entries others) in
      let is : f ≡ e = (one (frame_of e ++ (frames_of entries ++ rest)) f e (length (frame_of f)) (length (frame_of e)) first second).0 in
      let behind = append_cancel_left (frame_of e) (frames_of front ++ more) (frames_of entries ++ rest)
      (ap (λ (x : Entry). frame_of x ++ (frames_of front ++ more)) (sym is) ∙ spelled) in
      let next = front_run most (done + 1) front entries more rest behind (All-tail IsStorable f front stored)
      (All-tail IsStorable e entries others) (omega (arith, few))
      (⊎_elim (λ full. inl (omega (arith, full))) (λ none. inr none) longest) in
      (next.0, ap (λ (x : Entry). x ∷ entries) (sym is) ∙ ap (λ (l : List Entry). f ∷ l) next.1)

  -- of a file
  front_of_journal : (file : List ℕ) (front entries : List Entry) (more rest : List ℕ) → GoesOnWith file front more
      → All IsStorable front → length front ≤ MAX_ENTRIES → IsJournal file entries rest
      → (behind : List Entry) × (entries ≡ front ++ behind)
  front_of_journal file front entries more rest parts stored few journal =
      let same = append_cancel_left HEADER (frames_of front ++ more) (frames_of entries ++ rest)
      (sym parts.spelled ∙ journal.parts.spelled) in
      front_run MAX_ENTRIES 0 front entries more rest same stored journal.each (omega (arith, few))
      (⊎_elim (λ full. inl (omega (arith, full))) (λ none. inr none) journal.longest)

  pub fronts : FrontsAreRecovered
  fronts file front storable begins = record {
    own = IsOwn-journal file front begins.0 begins.1;
    begins = λ entries recovers. elim recovers.1 [
      | inl nothing ↦ absurd (begun_journal file front begins.0 begins.1 nothing.unbegun)
      | inr journal ↦ front_of_journal file front entries begins.0 recovers.0 begins.1 storable.each storable.few journal
    ];
  }

  -- two lists of which each begins with the other are one
  both_fronts : (xs ys : List Entry) → ((behind : List Entry) × (ys ≡ xs ++ behind))
      → ((behind : List Entry) × (xs ≡ ys ++ behind)) → xs ≡ ys
  both_fronts xs ys first second =
      let none : length second.0 ≤ 0 =
      omega (
        arith,
        ap length first.1,
        ap length second.1,
        length-append xs first.0,
        length-append ys second.0,
      ) in
      second.1 ∙ ap (λ (l : List Entry). ys ++ l) (nothing second.0 none) ∙ append-nil ys
    where
      nothing : (l : List Entry) → length l ≤ 0 → l ≡ []
      nothing [] none = refl
      nothing (x ∷ l) none = absurd (omega (arith, none))

  pub one_list : OneListIsRecovered
  one_list file entries others first second = elim first.1 [
    | inl nothing ↦ nothing.no_entry ∙ sym (unbegun_only file others nothing.unbegun second)
    | inr journal ↦ elim second.1 [
      | inl nothing ↦ absurd (begun_journal file entries first.0 journal.parts nothing.unbegun)
      | inr other ↦ both_fronts entries others
          (front_of_journal file entries others first.0 second.0 journal.parts journal.each journal.few other)
          (front_of_journal file others entries second.0 first.0 other.parts other.each other.few journal)
    ]
  ]

  pub kept_entries : KeptEntriesAreHeld
  kept_entries file image entries recovers keeps =
      let there = keeps entries recovers in
      record {
        own = IsOwn-recovered image entries there;
        begins = λ others other. ([], one_list image others entries other there ∙ sym (append-nil entries));
      }

-- what a file that was begun begins with
pub begun_front : (file : List ℕ) → ¬ IsForeign file → ¬ IsUnbegun file → take (length HEADER) file ≡ HEADER
begun_front file own begun = elim (cases_lt (length HEADER) (length file)) [
  | inl long ↦ elim (cases_header (take (length HEADER) file)) [
    | inl is ↦ is
    | inr other ↦ absurd (own (record { long = long; other = other }))
  ]
  | inr short ↦ elim (cases_header file) [
    | inl is ↦ ap (λ (f : List ℕ). take (length HEADER) f) is
    | inr other ↦ absurd (begun (record { short = short; other = other }))
  ]
]

pub counted_begun : (file : List ℕ) → take (length HEADER) file ≡ HEADER
    → take MAX_FILE file ≡ HEADER ++ drop (length HEADER) (take MAX_FILE file)
counted_begun file is =
    sym (take-append-drop (length HEADER) (take MAX_FILE file))
    ∙ ap (λ (l : List ℕ). l ++ drop (length HEADER) (take MAX_FILE file))
    (take-take (length HEADER) MAX_FILE file (omega arith) ∙ is)
