-- Files that aren't begun, and the header alone.
use Rattle.std.proofs.Common.{◌≡◌, ◌≢◌, ◌⊎◌, inl, inr, ℕ, ◌≤◌, List, [], ◌++◌, length, refl, sym, ap, ◌∙◌, subst, arith}
use Rattle.std.proofs.Common.{length-append, take_all}
use Rattle.std.proofs.lemmas.Bool.{cases_Bool, cases_lt, false≢true}
use Rattle.std.proofs.lemmas.List.{drop_all}
use Rattle.std.proofs.lemmas.List.Elements.{All-nil}
use Rattle.std.proofs.lemmas.Slice.Eq.{bytes_eq-Decides}
use Rattle.std.specs.Str.{bytes_eq}
use Rattle.cert_check.specs.declared.entry.Entry.{Entry}
use Rattle.entry_codec.specs.Frames.{frame_of}
use Rattle.outside.specs.Crash.{Torn, patched}
use Rattle.journal.specs.declared.limits.TheConstants.{HEADER, MAX_FILE}
use Rattle.journal.specs.Files.{IsStorable, GoesOnWith, frames_of}
use Rattle.journal.specs.Laws.{FileLimitsAreFixed}
use Rattle.journal.specs.Recovery.{IsUnbegun, KeepsEntries, NoFrame, RecoversTo}
use Rattle.journal.proofs.FileLemmas.{some_bytes}

pub cases_header : (file : List ℕ) → (file ≡ HEADER) ⊎ (file ≢ HEADER)
cases_header file =
    let decides = bytes_eq-Decides file HEADER in
    elim (cases_Bool (bytes_eq file HEADER)) [
      | inl same ↦ inl (decides.0 same)
      | inr differ ↦ inr (λ is. absurd (false≢true (sym differ ∙ decides.1 is)))
    ]

-- a file was begun or not
pub cases_unbegun : (file : List ℕ) → IsUnbegun file ⊎ (¬ IsUnbegun file)
cases_unbegun file = elim (cases_lt (length HEADER) (length file)) [
  | inl long ↦ inr (λ unbegun. omega (arith, unbegun.short, long))
  | inr short ↦ elim (cases_header file) [
    | inl is ↦ inr (λ unbegun. unbegun.other is)
    | inr other ↦ inl (record { short = short; other = other })
  ]
]

-- no frame stands in front of nothing
pub NoFrame-none : NoFrame []
NoFrame-none e taken frame =
    omega (
      arith,
      ap length frame.begins.spelled,
      length-append (frame_of e) frame.begins.rest,
      some_bytes e,
    )

pub recovers_unbegun : (file : List ℕ) → IsUnbegun file → RecoversTo file []
recovers_unbegun file unbegun = ([], inl (record { unbegun = unbegun; no_entry = refl; no_rest = refl }))

pub parts_header : GoesOnWith HEADER [] []
parts_header = record { spelled = refl }

pub recovers_header : RecoversTo HEADER []
recovers_header = (
  [],
  inr (record { parts = parts_header; each = All-nil IsStorable; few = omega arith; longest = inr NoFrame-none }),
)

-- a file with the header was begun
pub begun_journal : (file : List ℕ) (entries : List Entry) (rest : List ℕ) → GoesOnWith file entries rest
    → ¬ IsUnbegun file
begun_journal file entries rest parts unbegun =
    let whole : file ≡ HEADER ++ (frames_of entries ++ rest) =
    sym (take_all MAX_FILE file (omega (arith, unbegun.short))) ∙ parts.spelled in
    let none : frames_of entries ++ rest ≡ [] =
    nothing (frames_of entries ++ rest)
    (omega (arith, ap length whole, length-append HEADER (frames_of entries ++ rest), unbegun.short)) in
    unbegun.other (whole ∙ ap (λ (l : List ℕ). HEADER ++ l) none)
  where
    nothing : (l : List ℕ) → length l ≤ 0 → l ≡ []
    nothing l none = drop_all 0 l none

-- so one that wasn't has no entries
pub unbegun_only : (file : List ℕ) (entries : List Entry) → IsUnbegun file → RecoversTo file entries → entries ≡ []
unbegun_only file entries unbegun recovers = elim recovers.1 [
  | inl nothing ↦ nothing.no_entry
  | inr journal ↦ absurd (begun_journal file entries recovers.0 journal.parts unbegun)
]

-- a crash while the header is written leaves a file without entries
pub KeepsEntries-torn : (file image : List ℕ) → IsUnbegun file → Torn 0 (length HEADER) file image
    → KeepsEntries file image
KeepsEntries-torn file image unbegun torn entries recovers =
    subst (RecoversTo image) (sym (unbegun_only file entries unbegun recovers)) (
    elim (cases_header image) [
      | inl is ↦ subst (λ (i : List ℕ). RecoversTo i []) (sym is) recovers_header
      | inr other ↦ recovers_unbegun image (record {
        short = omega (arith, torn.no_longer, unbegun.short);
        other = other;
      })
    ]
    )

-- the header over a file that wasn't begun is the header alone
pub patched-unbegun : (file : List ℕ) → IsUnbegun file → patched file 0 HEADER ≡ HEADER
patched-unbegun file unbegun = ap (λ (l : List ℕ). HEADER ++ l) (drop_all (length HEADER) file unbegun.short)

pub limits : FileLimitsAreFixed
limits = record { header = refl; file = refl; entries = refl; store = refl }
