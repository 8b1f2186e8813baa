-- Files that begin with a header and frames, when they are torn or patched behind these.
use Rattle.std.proofs.Common.{◌≡◌, ℕ, ◌+◌, ◌<◌, ◌≤◌, List, [], ◌∷◌, ◌++◌, length, take, drop, min, sym, ap, ◌∙◌, subst, arith}
use Rattle.std.proofs.Common.{append_assoc, append-nil, length-append, length-take, take-append-drop, take_at, take_all}
use Rattle.std.proofs.lemmas.List.{take-take, drop_all, flat_map_more}
use Rattle.std.specs.Int.{w32, to_le_bytes}
use Rattle.cert_check.specs.declared.entry.Entry.{Entry}
use Rattle.entry_codec.specs.Bodies.{body_bytes}
use Rattle.entry_codec.specs.Frames.{frame_of}
use Rattle.outside.specs.Crash.{Torn, patched}
use Rattle.journal.specs.declared.limits.TheConstants.{HEADER, MAX_FILE}
use Rattle.journal.specs.Files.{frames_of, end_of, BeginsWith, HasJust}

-- the header and the frames of these entries
abbrev pub front_of : List Entry → List ℕ
front_of entries = HEADER ++ frames_of entries

pub length-front : (entries : List Entry) → length (front_of entries) ≡ end_of entries
length-front entries = length-append HEADER (frames_of entries)

-- one entry more
pub front-push : (entries : List Entry) (e : Entry) → front_of (entries ++ e ∷ []) ≡ front_of entries ++ frame_of e
front-push entries e = sym (flat_map_more frame_of HEADER entries e)

pub end-push : (entries : List Entry) (e : Entry) → end_of (entries ++ e ∷ []) ≡ end_of entries + length (frame_of e)
end-push entries e =
    sym (length-front (entries ++ e ∷ [])) ∙ ap length (front-push entries e)
    ∙ length-append (front_of entries) (frame_of e)
    ∙ ap (λ (n : ℕ). n + length (frame_of e)) (length-front entries)

-- a frame has bytes
pub some_bytes : (e : Entry) → 4 ≤ length (frame_of e)
some_bytes e = omega (arith, length-append (to_le_bytes w32 (length (body_bytes e))) (body_bytes e))

-- ---- what the file begins with, by its first bytes

pub take-begins : (file : List ℕ) (entries : List Entry) → end_of entries ≤ MAX_FILE → BeginsWith file entries
    → take (end_of entries) file ≡ front_of entries
take-begins file entries short begins =
    sym (take-take (end_of entries) MAX_FILE file short)
    ∙ ap (take (end_of entries)) (begins.1.spelled ∙ sym (append_assoc HEADER (frames_of entries) begins.0))
    ∙ take_at (front_of entries) begins.0 (end_of entries) (length-front entries)

pub BeginsWith-take : (file : List ℕ) (entries : List Entry) → end_of entries ≤ MAX_FILE
    → take (end_of entries) file ≡ front_of entries → BeginsWith file entries
BeginsWith-take file entries short is =
    let rest = drop (end_of entries) (take MAX_FILE file) in (
      rest,
      record {
        spelled = sym (take-append-drop (end_of entries) (take MAX_FILE file))
            ∙ ap (λ (front : List ℕ). front ++ rest) (take-take (end_of entries) MAX_FILE file short ∙ is)
            ∙ append_assoc HEADER (frames_of entries) rest;
      },
    )

-- it has the bytes that it begins with
pub long-begins : (file : List ℕ) (entries : List Entry) → end_of entries ≤ MAX_FILE → BeginsWith file entries
    → end_of entries ≤ length file
long-begins file entries short begins =
    omega (arith, ap length (take-begins file entries short begins), length-take (end_of entries) file, length-front entries)

-- ---- files that have just these

pub counted-just : (file : List ℕ) (entries : List Entry) → HasJust file entries → take MAX_FILE file ≡ front_of entries
counted-just file entries just = just.spelled ∙ ap (λ (rest : List ℕ). HEADER ++ rest) (append-nil (frames_of entries))

pub HasJust-counted : (file : List ℕ) (entries : List Entry) → take MAX_FILE file ≡ front_of entries → HasJust file entries
HasJust-counted file entries is =
    record { spelled = is ∙ ap (λ (rest : List ℕ). HEADER ++ rest) (sym (append-nil (frames_of entries))) }

pub file-just : (file : List ℕ) (entries : List Entry) → end_of entries < MAX_FILE → HasJust file entries
    → file ≡ front_of entries
file-just file entries short just =
    let whole = counted-just file entries just in
    let within : length file ≤ MAX_FILE =
    omega (arith, ap length whole, length-take MAX_FILE file, length-front entries) in
    sym (take_all MAX_FILE file within) ∙ whole

pub HasJust-front : (entries : List Entry) → end_of entries ≤ MAX_FILE → HasJust (front_of entries) entries
HasJust-front entries short =
    HasJust-counted (front_of entries) entries
    (take_all MAX_FILE (front_of entries) (omega (arith, length-front entries)))

-- ---- torn and patched behind its entries

pub BeginsWith-torn : (file torn : List ℕ) (entries : List Entry) (n : ℕ) → end_of entries ≤ MAX_FILE
    → BeginsWith file entries → Torn (end_of entries) n file torn → BeginsWith torn entries
BeginsWith-torn file torn entries n short begins tears =
    let long = long-begins file entries short begins in
    let here : end_of entries ≡ min (end_of entries) (length file) = omega (arith, long) in
    BeginsWith-take torn entries short (
    ap (λ (m : ℕ). take m torn) here ∙ tears.before ∙ take-begins file entries short begins
    )

-- the front of a patched file
patched-front : (file : List ℕ) (entries : List Entry) (e : Entry)
    → take (end_of entries) file ≡ front_of entries
    → patched file (end_of entries) (frame_of e)
    ≡ front_of (entries ++ e ∷ []) ++ drop (end_of entries + length (frame_of e)) file
patched-front file entries e is =
    let rest = drop (end_of entries + length (frame_of e)) file in
    ap (λ (front : List ℕ). front ++ frame_of e ++ rest) is
    ∙ ap (λ (front : List ℕ). front ++ rest) (sym (front-push entries e))

pub BeginsWith-patched : (file : List ℕ) (entries : List Entry) (e : Entry)
    → end_of entries + length (frame_of e) ≤ MAX_FILE → BeginsWith file entries
    → BeginsWith (patched file (end_of entries) (frame_of e)) (entries ++ e ∷ [])
BeginsWith-patched file entries e short begins =
    let is = take-begins file entries (omega (arith, short)) begins in
    let more : end_of (entries ++ e ∷ []) ≤ MAX_FILE = omega (arith, short, end-push entries e) in
    BeginsWith-take (patched file (end_of entries) (frame_of e)) (entries ++ e ∷ []) more (
    ap (take (end_of (entries ++ e ∷ []))) (patched-front file entries e is)
    ∙ take_at (front_of (entries ++ e ∷ [])) (drop (end_of entries + length (frame_of e)) file)
    (end_of (entries ++ e ∷ [])) (length-front (entries ++ e ∷ []))
    )

pub HasJust-patched : (file : List ℕ) (entries : List Entry) (e : Entry)
    → end_of entries + length (frame_of e) ≤ MAX_FILE → HasJust file entries
    → HasJust (patched file (end_of entries) (frame_of e)) (entries ++ e ∷ [])
HasJust-patched file entries e short just =
    let whole = file-just file entries (omega (arith, short, some_bytes e)) just in
    let long : length file ≤ end_of entries = omega (arith, ap length whole, length-front entries) in
    let is = take_all (end_of entries) file long ∙ whole in
    let more : end_of (entries ++ e ∷ []) ≤ MAX_FILE = omega (arith, short, end-push entries e) in
    subst (λ (f : List ℕ). HasJust f (entries ++ e ∷ [])) (sym (
    patched-front file entries e is
    ∙ ap (λ (rest : List ℕ). front_of (entries ++ e ∷ []) ++ rest)
    (drop_all (end_of entries + length (frame_of e)) file (omega (arith, long)))
    ∙ append-nil (front_of (entries ++ e ∷ []))
    )) (HasJust-front (entries ++ e ∷ []) more)
