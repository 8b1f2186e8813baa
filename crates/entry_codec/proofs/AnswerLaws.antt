-- What stands in front of some bytes: of all answers one is right.
use Rattle.std.proofs.Common.{◌≡◌, ℕ, ◌+◌, ◌-◌, List, length, Result, Ok, Err, ◌⊎◌, inl, inr}
use Rattle.std.proofs.Common.{refl, sym, ap, subst, ◌∙◌, arith}
use Rattle.std.specs.Int.{w32, to_le_bytes}
use Rattle.std.proofs.lemmas.List.{length-append}
use Rattle.refutation.specs.Laws.{EachTreeHasOneAnswer}
use Rattle.cert_check.specs.declared.entry.Entry.{Entry}
use Rattle.cert_check.specs.declared.refused.Refused.{Refused}
use Rattle.cert_check.specs.Decides.{HasEvidence}
use Rattle.entry_codec.specs.declared.fault.FrameEnd.{FrameEnd}
use Rattle.entry_codec.specs.declared.fault.FrameEnd.TheVariants.{Ended, Short, TooLong, BadBody, Uncertified, NoMemory}
use Rattle.entry_codec.specs.Grammar.{IsBytes}
use Rattle.entry_codec.specs.Bodies.{body_bytes}
use Rattle.entry_codec.specs.EntryReading.{entry_in}
use Rattle.entry_codec.specs.Frames.{frame_of, BeginsWithFrame, IsFrame, IsBadAt}
use Rattle.entry_codec.specs.Frames.{IsRefusal}
use Rattle.entry_codec.specs.Answers.{IsFrameEnd, IsFrameAnswer, HasOneFrameAnswer}
use Rattle.entry_codec.specs.FrameReading.{content_in, frame_in}
use Rattle.entry_codec.proofs.Bytes.{ok_is}
use Rattle.entry_codec.proofs.FrontLaws.{HasContent, front_of, content_ended, content_short, content_too_long}
use Rattle.entry_codec.proofs.FrontLaws.{content_whole}
use Rattle.entry_codec.proofs.EntryLaws.{entry_in-again, entry_in-faulty, entry_in-only, entry_in-within}
use Rattle.entry_codec.proofs.SpelledBytes.{body_is_bytes}
use Rattle.entry_codec.proofs.FrameLaws.{content_bytes, frame_without, frame_in-entry, frame_in-fault}
use Rattle.entry_codec.proofs.FrameLaws.{frame_in-begins}
use Rattle.entry_codec.proofs.RefusalLaws

-- ---- frames

-- the length of a frame
length-frame : (e : Entry) → length (frame_of e) ≡ 4 + length (body_bytes e)
length-frame e = length-append (to_le_bytes w32 (length (body_bytes e))) (body_bytes e)

-- the body of a frame that stands in front
begun_content : (bytes : List ℕ) (e : Entry) (taken : ℕ) → BeginsWithFrame bytes e taken
    → content_in bytes ≡ Ok (body_bytes e)
begun_content bytes e taken begins =
    content_whole bytes (body_bytes e)
    (record { rest = begins.rest; framed = begins.spelled; within = begins.fits.short })

-- it is read
pub begun_read : (bytes : List ℕ) (e : Entry) (taken : ℕ) → BeginsWithFrame bytes e taken
    → frame_in bytes ≡ Ok (e, taken)
begun_read bytes e taken begins =
    frame_in-entry bytes (body_bytes e) e (begun_content bytes e taken begins)
    (entry_in-again e begins.fits.grammar)
    ∙ ap (λ (n : ℕ). Ok (e, n)) (sym (begins.all ∙ length-frame e))

-- an entry and a length that are read are the ones
read_is : (bytes : List ℕ) (e other : Entry) (taken count : ℕ) → frame_in bytes ≡ Ok (e, taken)
    → frame_in bytes ≡ Ok (other, count) → (e ≡ other) × (taken ≡ count)
read_is bytes e other taken count first second =
    let same = ok_is {E = FrameEnd} (e, taken) (other, count) (sym first ∙ second) in
    (ap (λ (x : Entry × ℕ). x.0) same, ap (λ (x : Entry × ℕ). x.1) same)

pub one_frame : (bytes : List ℕ) (e other : Entry) (taken count : ℕ) → IsFrame bytes e taken
    → IsFrame bytes other count → (e ≡ other) × (taken ≡ count)
one_frame bytes e other taken count first second =
    read_is bytes e other taken count (begun_read bytes e taken first.begins) (begun_read bytes other count second.begins)

-- ---- bodies at fault

-- the place of a fault is read, where the body is bytes
bad_read : (bytes : List ℕ) (place : ℕ) (h : IsBadAt bytes place) → IsBytes h.content
    → frame_in bytes ≡ Err (BadBody place)
bad_read bytes place h are =
    let found = content_whole bytes h.content (record { rest = h.rest; framed = h.framed; within = h.within }) in
    let left = entry_in-only h.content h.left are h.fault in
    let place_is : 4 + length h.content - h.left ≡ place = omega (arith, h.here) in
    frame_in-fault bytes h.content h.left found left ∙ ap (λ (n : ℕ). Err (BadBody n)) place_is

-- a frame's body isn't at fault
begun_not_bad : (bytes : List ℕ) (e : Entry) (taken place : ℕ) → BeginsWithFrame bytes e taken → ¬ IsBadAt bytes place
begun_not_bad bytes e taken place begins h =
    let found = content_whole bytes h.content (record { rest = h.rest; framed = h.framed; within = h.within }) in
    let same : h.content ≡ body_bytes e =
    ok_is {E = FrameEnd} h.content (body_bytes e) (sym found ∙ begun_content bytes e taken begins) in
    let are : IsBytes h.content = subst IsBytes (sym same) (body_is_bytes e begins.fits.grammar) in
    let bad = bad_read bytes place h are in
    let good = begun_read bytes e taken begins in
    absurd (cc)

module _ (law : EachTreeHasOneAnswer) where
  pub ends_exclude : (bytes : List ℕ) (e : Entry) (taken : ℕ) (end : FrameEnd) → IsFrameEnd bytes end
      → ¬ IsFrame bytes e taken
  ends_exclude bytes e taken Ended end is =
      let none = content_ended bytes end in let some = begun_content bytes e taken is.begins in absurd (cc)
  ends_exclude bytes e taken Short end is =
      let none = content_short bytes end in let some = begun_content bytes e taken is.begins in absurd (cc)
  ends_exclude bytes e taken TooLong end is =
      let none = content_too_long bytes end in let some = begun_content bytes e taken is.begins in absurd (cc)
  ends_exclude bytes e taken (BadBody place) end is = begun_not_bad bytes e taken place is.begins end
  ends_exclude bytes e taken (Uncertified refused) end is =
      let same = read_is bytes end.entry e end.taken taken (begun_read bytes end.entry end.taken end.begins)
      (begun_read bytes e taken is.begins) in
      RefusalLaws.refused_has_none law e refused (subst (λ (f : Entry). IsRefusal f refused) same.0 end.refusal)
      is.evidence
  ends_exclude bytes e taken NoMemory end is = end

  -- ---- one answer

  -- the evidence of what was read is refused
  record IsRefusedAnswer (found : Entry × ℕ) (a : Result (Entry × ℕ) FrameEnd) : Type 0 where
    refused : Refused
    refusal : IsRefusal found.0 refused
    is : a ≡ Err (Uncertified refused)

  -- what is answered of an entry that was read
  abbrev Judged : Entry × ℕ → Result (Entry × ℕ) FrameEnd → Type 0
  Judged found a = (HasEvidence found.0 × (a ≡ Ok found)) ⊎ IsRefusedAnswer found a

  -- two answers of it are the same
  judged_same : (found : Entry × ℕ) (a b : Result (Entry × ℕ) FrameEnd) → Judged found a → Judged found b → a ≡ b
  judged_same found a b (inl first) (inl second) = first.1 ∙ sym second.1
  judged_same found a b (inl first) (inr second) =
      absurd (RefusalLaws.refused_has_none law found.0 second.refused second.refusal first.0)
  judged_same found a b (inr first) (inl second) =
      absurd (RefusalLaws.refused_has_none law found.0 first.refused first.refusal second.0)
  judged_same found a b (inr first) (inr second) =
      first.is ∙ ap (λ (r : Refused). Err (Uncertified r))
      (RefusalLaws.refused_once law found.0 first.refused second.refused first.refusal second.refusal) ∙ sym second.is

  -- no entry was read
  record IsEndAnswer (bytes : List ℕ) (a : Result (Entry × ℕ) FrameEnd) : Type 0 where
    end : FrameEnd
    read : frame_in bytes ≡ Err end
    is : a ≡ Err end

  -- an entry was read
  record IsReadAnswer (bytes : List ℕ) (a : Result (Entry × ℕ) FrameEnd) : Type 0 where
    found : Entry × ℕ
    read : frame_in bytes ≡ Ok found
    judged : Judged found a

  -- what was read where an answer is right
  answer_read : (bytes : List ℕ) → IsBytes bytes → (a : Result (Entry × ℕ) FrameEnd) → IsFrameAnswer bytes a
      → IsEndAnswer bytes a ⊎ IsReadAnswer bytes a
  answer_read bytes are (Ok found) is = inr (record {
    found = found;
    read = begun_read bytes found.0 found.1 is.begins;
    judged = inl (is.evidence, refl);
  })
  answer_read bytes are (Err Ended) is =
      inl (record { end = Ended; read = frame_without bytes Ended (content_ended bytes is); is = refl })
  answer_read bytes are (Err Short) is =
      inl (record { end = Short; read = frame_without bytes Short (content_short bytes is); is = refl })
  answer_read bytes are (Err TooLong) is =
      inl (record { end = TooLong; read = frame_without bytes TooLong (content_too_long bytes is); is = refl })
  answer_read bytes are (Err (BadBody place)) is =
      let h : HasContent bytes is.content = record { rest = is.rest; framed = is.framed; within = is.within } in
      inl (record {
        end = BadBody place;
        read = bad_read bytes place is (content_bytes bytes is.content are h);
        is = refl;
      })
  answer_read bytes are (Err (Uncertified refused)) is = inr (record {
    found = (is.entry, is.taken);
    read = begun_read bytes is.entry is.taken is.begins;
    judged = inr (record { refused = refused; refusal = is.refusal; is = refl });
  })
  answer_read bytes are (Err NoMemory) is = absurd is

  -- at most one answer is right
  pub one_answer : (bytes : List ℕ) → IsBytes bytes → (a b : Result (Entry × ℕ) FrameEnd) → IsFrameAnswer bytes a
      → IsFrameAnswer bytes b → a ≡ b
  one_answer bytes are a b first second = both (answer_read bytes are a first) (answer_read bytes are b second)
    where
      both : IsEndAnswer bytes a ⊎ IsReadAnswer bytes a → IsEndAnswer bytes b ⊎ IsReadAnswer bytes b → a ≡ b
      both (inl p) (inl q) = let same = sym p.read ∙ q.read in let ends : p.end ≡ q.end = cc in p.is ∙ ap Err ends ∙ sym q.is
      both (inl p) (inr q) = let same = sym p.read ∙ q.read in absurd (cc)
      both (inr p) (inl q) = let same = sym p.read ∙ q.read in absurd (cc)
      both (inr p) (inr q) =
          let same = ok_is {E = FrameEnd} p.found q.found (sym p.read ∙ q.read) in
          judged_same q.found a b (subst (λ (f : Entry × ℕ). Judged f a) same p.judged) q.judged

  -- some answer is right of a body that was read
  answer_of_body : (bytes content : List ℕ) → IsBytes bytes → HasContent bytes content → (r : Result Entry ℕ)
      → entry_in content ≡ r → (a : Result (Entry × ℕ) FrameEnd) × IsFrameAnswer bytes a
  answer_of_body bytes content are h (Ok e) is =
      let begins = frame_in-begins bytes content e are (content_whole bytes content h) is in
      elim (RefusalLaws.checks_or_refused law e begins.fits.grammar) [
        | inl evidence ↦ (Ok (e, 4 + length content), record { begins = begins; evidence = evidence })
        | inr refused ↦ (
          Err (Uncertified refused.0),
          record {
            entry = e;
            taken = 4 + length content;
            begins = begins;
            refusal = refused.1;
          },
        )
      ]
  answer_of_body bytes content are h (Err left) is =
      let are_content = content_bytes bytes content are h in
      let within = entry_in-within content left are_content is in (
        Err (BadBody (4 + length content - left)),
        record {
          content = content;
          rest = h.rest;
          framed = h.framed;
          within = h.within;
          left = left;
          fault = entry_in-faulty content left are_content is;
          here = omega arith;
        },
      )

  -- some answer is right
  some_answer : (bytes : List ℕ) → IsBytes bytes → (a : Result (Entry × ℕ) FrameEnd) × IsFrameAnswer bytes a
  some_answer bytes are = elim (front_of bytes are) [
    | inl none ↦ (Err Ended, none)
    | inr (inl short) ↦ (Err Short, short)
    | inr (inr (inl long)) ↦ (Err TooLong, long)
    | inr (inr (inr h)) ↦ answer_of_body bytes h.0 are h.1 (entry_in h.0) refl
  ]

  pub has_one_answer : (bytes : List ℕ) → IsBytes bytes → HasOneFrameAnswer bytes
  has_one_answer bytes are =
      let some = some_answer bytes are in
      record {
        answer = some.0;
        is = some.1;
        alone = λ other right. one_answer bytes are other some.0 right some.1;
      }
