-- Reading the frame in front of some bytes.
use Rattle.std.proofs.Common.{◌≡◌, ℕ, ◌+◌, ◌-◌, ◌≤◌, List, ◌++◌, length, Result, Ok, Err, inl, inr}
use Rattle.std.proofs.Common.{refl, sym, ap, subst, ◌∙◌}
use Rattle.std.specs.Int.{w32, to_le_bytes}
use Rattle.std.proofs.lemmas.List.{length-append}
use Rattle.cert_check.specs.declared.entry.Entry.{Entry}
use Rattle.entry_codec.specs.declared.fault.FrameEnd.{FrameEnd}
use Rattle.entry_codec.specs.declared.fault.FrameEnd.TheVariants.{Ended, Short, TooLong, BadBody, Uncertified, NoMemory}
use Rattle.entry_codec.specs.declared.limits.TheConstants.{MAX_BODY}
use Rattle.entry_codec.specs.Grammar.{IsBytes}
use Rattle.entry_codec.specs.Bodies.{body_bytes, entry_of}
use Rattle.entry_codec.specs.BodyReading.{body_in}
use Rattle.entry_codec.specs.EntryReading.{entry_in}
use Rattle.entry_codec.specs.Frames.{framed, BeginsWithFrame, IsBadAt}
use Rattle.entry_codec.specs.Answers.{IsFrameEnd, EndsFrame}
use Rattle.entry_codec.specs.FrameReading.{content_in, found_in, frame_in}
use Rattle.entry_codec.specs.Ends.{IsFaultAt, EndsBody, EndsCheck}
use Rattle.entry_codec.proofs.Bytes.{IsBytes-behind, IsBytes-front, ok_is, both_ok, one_failed}
use Rattle.entry_codec.proofs.FrontLaws.{HasContent, front_of, content_ended, content_short, content_too_long}
use Rattle.entry_codec.proofs.FrontLaws.{content_whole}
use Rattle.entry_codec.proofs.EntryLaws.{entry_in-is, entry_in-takes, entry_in-faulty}

-- ---- the body in front

-- a body that is read stands in front
pub content_in-takes : (bytes content : List ℕ) → IsBytes bytes → content_in bytes ≡ Ok content
    → HasContent bytes content
content_in-takes bytes content are is = elim (front_of bytes are) [
  | inl none ↦ absurd (let e = content_ended bytes none in cc)
  | inr (inl short) ↦ absurd (let e = content_short bytes short in cc)
  | inr (inr (inl long)) ↦ absurd (let e = content_too_long bytes long in cc)
  | inr (inr (inr h)) ↦
      let same = ok_is {E = FrameEnd} h.0 content (sym (content_whole bytes h.0 h.1) ∙ is) in
      subst (λ (c : List ℕ). HasContent bytes c) same h.1
]

-- its bytes are bytes
pub content_bytes : (bytes content : List ℕ) → IsBytes bytes → HasContent bytes content → IsBytes content
content_bytes bytes content are h =
    IsBytes-behind (to_le_bytes w32 (length content)) content (framed content) refl
    (IsBytes-front (framed content) h.rest bytes h.framed are)

-- an end that is told is right
pub content_in-ends : (bytes : List ℕ) (end : FrameEnd) → IsBytes bytes → content_in bytes ≡ Err end
    → IsFrameEnd bytes end
content_in-ends bytes end are is = elim (front_of bytes are) [
  | inl none ↦ of Ended (content_ended bytes none) none
  | inr (inl short) ↦ of Short (content_short bytes short) short
  | inr (inr (inl long)) ↦ of TooLong (content_too_long bytes long) long
  | inr (inr (inr h)) ↦ absurd (let e = content_whole bytes h.0 h.1 in cc)
]
  where
    of : (other : FrameEnd) → content_in bytes ≡ Err other → IsFrameEnd bytes other → IsFrameEnd bytes end
    of other e right =
        let same : other ≡ end = cc in
        subst (λ (f : FrameEnd). IsFrameEnd bytes f) same right

-- ---- the frame in front

-- what was read of the body makes what was read of the frame
frame_with : (bytes content : List ℕ) → content_in bytes ≡ Ok content
    → frame_in bytes ≡ found_in (length content) (body_in content)
unfolding frame_in
frame_with bytes content is = rw is refl

-- no body, no frame
pub frame_without : (bytes : List ℕ) (end : FrameEnd) → content_in bytes ≡ Err end → frame_in bytes ≡ Err end
unfolding frame_in
frame_without bytes end is = rw is refl

-- an entry that was read of the body
pub frame_in-entry : (bytes content : List ℕ) (e : Entry) → content_in bytes ≡ Ok content → entry_in content ≡ Ok e
    → frame_in bytes ≡ Ok (e, 4 + length content)
frame_in-entry bytes content e found is =
    let s = both_ok (body_in content) (λ b. Ok (entry_of b)) e (sym (entry_in-is content) ∙ is) in
    let same : entry_of s.value ≡ e = ok_is {E = ℕ} (entry_of s.value) e s.then in
    frame_with bytes content found ∙ ap (found_in (length content)) s.first
    ∙ ap (λ (f : Entry). Ok (f, 4 + length content)) same

-- a fault of the body
pub frame_in-fault : (bytes content : List ℕ) (left : ℕ) → content_in bytes ≡ Ok content → entry_in content ≡ Err left
    → frame_in bytes ≡ Err (BadBody (4 + length content - left))
frame_in-fault bytes content left found is =
    elim (one_failed (body_in content) (λ b. Ok (entry_of b)) left (sym (entry_in-is content) ∙ is)) [
      | inl first ↦ frame_with bytes content found ∙ ap (found_in (length content)) first
      | inr s ↦ absurd (let never : (let one : Result Entry ℕ = Ok (entry_of s.value) in one) ≡ Err left = s.then in cc)
    ]

-- a frame whose evidence may not check
pub frame_in-begins : (bytes content : List ℕ) (e : Entry) → IsBytes bytes → content_in bytes ≡ Ok content
    → entry_in content ≡ Ok e → BeginsWithFrame bytes e (4 + length content)
frame_in-begins bytes content e are found is =
    let h = content_in-takes bytes content are found in
    let read = entry_in-takes content e (content_bytes bytes content are h) is in
    let same : content ≡ body_bytes e = read.spelled in
    record {
      fits = record { grammar = read.grammar; short = subst (λ (c : List ℕ). length c ≤ MAX_BODY) same h.within };
      rest = h.rest;
      spelled = h.framed ∙ ap (λ (c : List ℕ). framed c ++ h.rest) same;
      all =
          ap (λ (c : List ℕ). 4 + length c) same
          ∙ sym (length-append (to_le_bytes w32 (length (body_bytes e))) (body_bytes e));
    }

-- the place of a fault of the body
pub frame_in-bad : (bytes content : List ℕ) (place : ℕ) → IsBytes bytes → content_in bytes ≡ Ok content
    → IsFaultAt content place → IsBadAt bytes place
frame_in-bad bytes content place are found fault =
    let h = content_in-takes bytes content are found in
    record {
      content = content;
      rest = h.rest;
      framed = h.framed;
      within = h.within;
      left = fault.left;
      fault = entry_in-faulty content fault.left (content_bytes bytes content are h) fault.read;
      here = fault.here;
    }

-- ---- what is answered

-- the body is at fault
pub ends_body : (bytes content : List ℕ) (end : FrameEnd) → IsBytes bytes → content_in bytes ≡ Ok content
    → EndsBody content end → EndsFrame bytes end
ends_body bytes content Ended are found end = absurd end
ends_body bytes content Short are found end = absurd end
ends_body bytes content TooLong are found end = absurd end
ends_body bytes content (BadBody place) are found end = inr (frame_in-bad bytes content place are found end)
ends_body bytes content (Uncertified refused) are found end = absurd end
ends_body bytes content NoMemory are found end = inl refl

-- the evidence is refused
pub ends_check : (bytes content : List ℕ) (e : Entry) (end : FrameEnd) → IsBytes bytes → content_in bytes ≡ Ok content
    → entry_in content ≡ Ok e → EndsCheck e end → EndsFrame bytes end
ends_check bytes content e Ended are found is end = absurd end
ends_check bytes content e Short are found is end = absurd end
ends_check bytes content e TooLong are found is end = absurd end
ends_check bytes content e (BadBody place) are found is end = absurd end
ends_check bytes content e (Uncertified refused) are found is end = inr (record {
  entry = e;
  taken = 4 + length content;
  begins = frame_in-begins bytes content e are found is;
  refusal = end;
})
ends_check bytes content e NoMemory are found is end = inl refl
