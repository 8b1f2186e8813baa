-- What was read of a file, and what stands in front of it.
use Rattle.std.proofs.Common.{◌≡◌, ◌≢◌, inl, inr, ℕ, ◌+◌, ◌-◌, ◌<◌, ◌≤◌, leb, Bool, true, false, cond, eqb, get_or, List, [], ◌∷◌, ◌++◌, length, min, take, drop, Option, None, Some, refl, sym, ap, ◌∙◌, subst, arith}
use Rattle.std.proofs.Common.{append_assoc, append-nil, length-append, length-take, length-drop, take-append-drop, take_at, take_all, take-take}
use Rattle.std.proofs.lemmas.Bool.{cases_Bool, cases_lt, leb-true, leb-false, false≢true}
use Rattle.std.proofs.lemmas.Slice.Eq.{bytes_eq-Decides}
use Rattle.std.specs.Cmp.Lexicographic.{pointwise}
use Rattle.std.specs.List.{starts_with}
use Rattle.std.proofs.lemmas.List.{drop-take, take_min}
use Rattle.std.proofs.lemmas.Nat.{from_le_bytes-to_le_bytes_4}
use Rattle.std.specs.Int.{w32, to_le_bytes, from_le_bytes}
use Rattle.std.specs.Option.{IfSome}
use Rattle.cert_check.specs.declared.entry.Entry.{Entry}
use Rattle.entry_codec.specs.declared.fault.FrameEnd.{FrameEnd}
use Rattle.entry_codec.specs.declared.fault.FrameEnd.TheVariants as ends
use Rattle.entry_codec.specs.declared.limits.TheConstants.{MAX_BODY}
use Rattle.entry_codec.specs.Answers.{EndsFrame, IsFrameEnd}
use Rattle.entry_codec.specs.Frames.{IsFrame, IsShort, BeginsWithFrame, frame_of, framed}
use Rattle.entry_codec.specs.Grammar.{Begins}
use Rattle.entry_codec.specs.Numbers.{long}
use Rattle.outside.specs.Crash.{ReadsAt}
use Rattle.journal.specs.declared.limits.TheConstants.{HEADER, MAX_FILE}
use Rattle.journal.specs.Reading.{HasHeader, HoldsFrame, IsWholeSize, rest_at}
use Rattle.journal.specs.Recovery.{IsForeign, IsUnbegun}

-- ---- a part of the bytes that count

-- a front of a front
take-both : (n m : ℕ) (xs : List ℕ) → take n (take m xs) ≡ take (min n m) xs
take-both n m xs = elim (cases_lt m n) [
  | inl shorter ↦
      let few : length (take m xs) ≤ n = omega (arith, shorter, length-take m xs) in
      let least : min n m ≡ m = omega (arith, shorter) in
      take_all n (take m xs) few ∙ ap (λ (k : ℕ). take k xs) (sym least)
  | inr longer ↦
      let least : min n m ≡ n = omega (arith, longer) in
      take-take n m xs longer ∙ ap (λ (k : ℕ). take k xs) (sym least)
]

-- what a read gives of the bytes that count
pub filled : (file buf : List ℕ) (at n m got : ℕ) → at ≤ MAX_FILE → m ≡ min n (MAX_FILE - at) → length buf ≡ m
    → got ≡ min (length buf) (length file - at) → take got buf ≡ take got (drop at file)
    → take got buf ≡ take n (rest_at at file)
filled file buf at n m got within is len many same =
    let least : got ≡ min m (length (drop at file)) = omega (arith, many, len, length-drop at file) in
    let whole : at + (MAX_FILE - at) ≡ MAX_FILE = omega (arith, within) in
    same ∙ ap (λ (k : ℕ). take k (drop at file)) least ∙ take_min m (drop at file)
    ∙ ap (λ (k : ℕ). take k (drop at file)) is
    ∙ sym (take-both n (MAX_FILE - at) (drop at file))
    ∙ ap (take n) (sym (drop-take at (MAX_FILE - at) file) ∙ ap (λ (k : ℕ). drop at (take k file)) whole)

pub filled_content : (content : Option (List ℕ)) (buf items : List ℕ) (at n m got : ℕ) → at ≤ MAX_FILE
    → m ≡ min n (MAX_FILE - at) → length buf ≡ m → ReadsAt content at buf got → items ≡ take got buf
    → IfSome content (λ file. items ≡ take n (rest_at at file))
filled_content None buf items at n m got within is len reads cut = tt
filled_content (Some file) buf items at n m got within is len reads cut =
    cut ∙ filled file buf at n m got within is len reads.0 reads.1

-- ---- how much of a frame is worth reading

pub IsWholeSize-few : (front : List ℕ) → length front < 4 → IsWholeSize front 4
unfolding long
IsWholeSize-few front few = record {
  some = omega arith;
  within = omega arith;
  said = λ n behind begins within.
      absurd (omega (arith, few, ap length begins.spelled, length-append (to_le_bytes w32 n) behind));
}

pub IsWholeSize-said : (front : List ℕ) (n size : ℕ) → n ≡ from_le_bytes w32 (take 4 front)
    → size ≡ cond (leb n MAX_BODY) (4 + n) 4 → IsWholeSize front size
unfolding long
IsWholeSize-said front n size is here = elim (cases_Bool (leb n MAX_BODY)) [
  | inl small ↦
      let sized : size ≡ 4 + n = here ∙ ap (λ (b : Bool). cond b (4 + n) 4) small in
      let within : n ≤ MAX_BODY = leb-true n MAX_BODY small in
      record {
        some = omega (arith, sized);
        within = omega (arith, sized, within);
        said = λ m behind begins few. omega (arith, sized, same m behind begins);
      }
  | inr large ↦
      let sized : size ≡ 4 = here ∙ ap (λ (b : Bool). cond b (4 + n) 4) large in
      let beyond : MAX_BODY < n = leb-false n MAX_BODY large in
      record {
        some = omega (arith, sized);
        within = omega (arith, sized);
        said = λ m behind begins few. absurd (omega (arith, beyond, few, same m behind begins));
      }
]
  where
    same : (m : ℕ) (behind : List ℕ) → Begins long front m behind → n ≡ m
    same m behind begins =
        is ∙ ap (λ (f : List ℕ). from_le_bytes w32 (take 4 f)) begins.spelled
        ∙ ap (from_le_bytes w32) (take_at (to_le_bytes w32 m) behind 4 refl)
        ∙ from_le_bytes-to_le_bytes_4 m begins.may

-- ---- what stands in front of the buffer stands in front of all

BeginsWithFrame-more : (bytes more : List ℕ) (e : Entry) (taken : ℕ) → BeginsWithFrame bytes e taken
    → BeginsWithFrame (bytes ++ more) e taken
BeginsWithFrame-more bytes more e taken begins = record {
  fits = begins.fits;
  rest = begins.rest ++ more;
  spelled = ap (λ (l : List ℕ). l ++ more) begins.spelled ∙ append_assoc (frame_of e) begins.rest more;
  all = begins.all;
}

module _ (bytes others : List ℕ) (holds : HoldsFrame bytes others) where
  abbrev more : List ℕ
  more = drop holds.size others

  whole : bytes ++ more ≡ others
  whole = ap (λ (l : List ℕ). l ++ more) holds.front ∙ take-append-drop holds.size others

  -- a buffer with fewer bytes than were worth reading has all
  cut : length bytes < holds.size → others ≡ bytes
  cut few =
      let short : length others ≤ holds.size = omega (arith, few, ap length holds.front, length-take holds.size others) in
      sym (holds.front ∙ take_all holds.size others short)

  pub frame_more : (e : Entry) (taken : ℕ) → IsFrame bytes e taken → IsFrame others e taken
  frame_more e taken frame = record {
    begins = subst (λ (l : List ℕ). BeginsWithFrame l e taken) whole (BeginsWithFrame-more bytes more e taken frame.begins);
    evidence = frame.evidence;
  }

  -- the length in front is that of all
  size_of_cut : (n : ℕ) (rest : List ℕ) → Begins long bytes n rest → n ≤ MAX_BODY → holds.size ≡ 4 + n
  unfolding long
  size_of_cut n rest begins within =
      let front : take 4 others ≡ to_le_bytes w32 n =
      ap (take 4) (sym whole ∙ ap (λ (l : List ℕ). l ++ more) begins.spelled ∙ append_assoc (to_le_bytes w32 n) rest more)
      ∙ take_at (to_le_bytes w32 n) (rest ++ more) 4 refl in
      holds.is_size.said n [] (record {
        may = begins.may;
        spelled = front ∙ sym (append-nil (to_le_bytes w32 n));
      }) within

  short_more : IsShort bytes → IsShort others
  unfolding long
  short_more short = elim short [
    | inl below ↦ subst IsShort (sym (cut (omega (arith, below.few, holds.is_size.some)))) (inl below)
    | inr shorter ↦
        let size = size_of_cut shorter.said shorter.rest shorter.begins shorter.within in
        let len = ap length shorter.begins.spelled ∙ length-append (to_le_bytes w32 shorter.said) shorter.rest in
        subst IsShort (sym (cut (omega (arith, size, len, shorter.fewer)))) (inr shorter)
  ]

  pub end_more : (end : FrameEnd) → IsFrameEnd bytes end → IsFrameEnd others end
  unfolding long
  end_more ends.Ended none =
      let few : length bytes < holds.size = omega (arith, ap length none, holds.is_size.some) in
      cut few ∙ none
  end_more ends.Short short = short_more short
  end_more ends.TooLong long = record {
    said = long.said;
    rest = long.rest ++ more;
    begins = record {
      may = long.begins.may;
      spelled = sym whole ∙ ap (λ (l : List ℕ). l ++ more) long.begins.spelled
          ∙ append_assoc (to_le_bytes w32 long.said) long.rest more;
    };
    beyond = long.beyond;
  }
  end_more (ends.BadBody place) bad = record {
    content = bad.content;
    rest = bad.rest ++ more;
    framed = sym whole ∙ ap (λ (l : List ℕ). l ++ more) bad.framed ∙ append_assoc (framed bad.content) bad.rest more;
    within = bad.within;
    left = bad.left;
    fault = bad.fault;
    here = bad.here;
  }
  end_more (ends.Uncertified refused) un = record {
    entry = un.entry;
    taken = un.taken;
    begins = subst (λ (l : List ℕ). BeginsWithFrame l un.entry un.taken) whole
        (BeginsWithFrame-more bytes more un.entry un.taken un.begins);
    refusal = un.refusal;
  }
  end_more ends.NoMemory none = none

-- an end that isn't want of memory is right
pub said_end : (bytes : List ℕ) (end told : FrameEnd) → EndsFrame bytes end → (told ≡ end) × (end ≢ ends.NoMemory)
    → IsFrameEnd bytes told
said_end bytes end told is says = elim is [
  | inl none ↦ absurd (says.1 none)
  | inr right ↦ subst (IsFrameEnd bytes) (sym says.0) right
]

-- ---- whether the file was begun

-- whether bytes start with the header
abbrev bytes_starts : List ℕ → Bool
bytes_starts bytes = starts_with eqb bytes HEADER

decides : (front : List ℕ) → (pointwise eqb HEADER front ≡ true → HEADER ≡ front) × (HEADER ≡ front → pointwise eqb HEADER front ≡ true)
decides front = bytes_eq-Decides HEADER front

-- the first bytes of a file, of which at most 9 were read
front_read : (file buf : List ℕ) (got : ℕ) → length buf ≡ 9 → ReadsAt (Some file) 0 buf got
    → take 8 (take got buf) ≡ take 8 file
front_read file buf got len reads =
    let many : got ≡ min 9 (length file) = omega (arith, reads.0, len) in
    ap (take 8) (reads.1 ∙ ap (λ (k : ℕ). take k file) many ∙ take_min 9 file) ∙ take-take 8 9 file (omega arith)

module _ (buf : List ℕ) (got : ℕ) (len : length buf ≡ 9) where
  pub begun_read : (content : Option (List ℕ)) → ReadsAt content 0 buf got → bytes_starts (take got buf) ≡ true
      → IfSome content HasHeader
  begun_read None reads starts = tt
  begun_read (Some file) reads starts =
      sym (front_read file buf got len reads) ∙ sym ((decides (take 8 (take got buf))).0 starts)

  pub foreign_read : (content : Option (List ℕ)) → ReadsAt content 0 buf got → bytes_starts (take got buf) ≡ false
      → 8 < got → IfSome content IsForeign
  foreign_read None reads starts many = tt
  foreign_read (Some file) reads starts many = record {
    long = omega (arith, reads.0, many);
    other = λ is.
        false≢true (sym starts ∙ (decides (take 8 (take got buf))).1 (sym (front_read file buf got len reads ∙ is)));
  }

  pub unbegun_read : (content : Option (List ℕ)) → ReadsAt content 0 buf got → bytes_starts (take got buf) ≡ false
      → got ≤ 8 → IfSome content IsUnbegun
  unbegun_read None reads starts few = tt
  unbegun_read (Some file) reads starts few = record {
    short = omega (arith, reads.0, len, few);
    other = λ is.
        false≢true (
        sym starts
        ∙ (decides (take 8 (take got buf))).1 (sym (front_read file buf got len reads ∙ ap (take 8) is))
        );
  }

-- ---- the first four bytes

pub whole_said : (front : List ℕ) (n size : ℕ) → 4 ≤ length front
    → n ≡ from_le_bytes w32 (get_or front 0 0 ∷ get_or front 1 0 ∷ get_or front 2 0 ∷ get_or front 3 0 ∷ [])
    → size ≡ cond (leb n MAX_BODY) (4 + n) 4 → IsWholeSize front size
whole_said [] n size enough is here = absurd (omega (arith, enough))
whole_said (a ∷ []) n size enough is here = absurd (omega (arith, enough))
whole_said (a ∷ b ∷ []) n size enough is here = absurd (omega (arith, enough))
whole_said (a ∷ b ∷ d ∷ []) n size enough is here = absurd (omega (arith, enough))
whole_said (a ∷ b ∷ d ∷ e ∷ front) n size enough is here = IsWholeSize-said (a ∷ b ∷ d ∷ e ∷ front) n size is here
