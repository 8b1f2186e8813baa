-- What stands in front of some bytes: nothing, a front of a frame, a length beyond the limit, or a whole body.
use Rattle.std.proofs.Common.{◌≡◌, ℕ, ◌+◌, ◌<◌, ◌≤◌, Bool, true, false, cond, eqb, ltb, List, [], ◌∷◌, ◌++◌, length, take}
use Rattle.std.proofs.Common.{drop, Result, Ok, Err, ◌⊎◌, inl, inr, refl, sym, ap, subst, ◌∙◌, arith, append_assoc}
use Rattle.std.specs.Int.{w32, from_le_bytes, to_le_bytes}
use Rattle.std.proofs.lemmas.Bool.{cases_lt, le-ltb, lt-ltb}
use Rattle.std.proofs.lemmas.Bool.Decides.{nat_tests}
use Rattle.std.proofs.lemmas.List.{take-append-drop, length-append, length-take, take_at}
use Rattle.entry_codec.specs.declared.fault.FrameEnd.TheVariants.{Ended, Short, TooLong}
use Rattle.entry_codec.specs.declared.limits.TheConstants.{MAX_BODY}
use Rattle.entry_codec.specs.Grammar.{IsBytes, Begins}
use Rattle.entry_codec.specs.Numbers.{long}
use Rattle.entry_codec.specs.NumberReading.{long_at}
use Rattle.entry_codec.specs.Frames.{framed, IsBelowLength, IsCutShort, IsShort, IsTooLong}
use Rattle.entry_codec.specs.FrameReading.{content_of, content_in}
use Rattle.entry_codec.proofs.Bytes.{ok_is}
use Rattle.entry_codec.proofs.PartLaws.{read_where}
use Rattle.entry_codec.proofs.NumberLaws.{Reads-long}

-- a whole body within the limit
pub record HasContent (bytes content : List ℕ) : Type 0 where
  pub rest : List ℕ
  pub framed : bytes ≡ framed content ++ rest
  pub within : length content ≤ MAX_BODY

-- ---- the length in front

-- the number that the first four bytes are
abbrev said_in : List ℕ → ℕ
said_in bytes = from_le_bytes w32 (take 4 bytes)

-- it stands in front, where there are so many bytes
said_begins : (bytes : List ℕ) → IsBytes bytes → 4 ≤ length bytes → Begins long bytes (said_in bytes) (drop 4 bytes)
unfolding long_at
said_begins bytes are le =
    let found : long_at bytes ≡ Ok (said_in bytes, drop 4 bytes) =
    ap (λ (b : Bool). cond b (Err (length bytes)) (Ok (said_in bytes, drop 4 bytes))) (le-ltb _ _ le) in
    let t = Reads-long.takes bytes (said_in bytes) (drop 4 bytes) are found in
    subst (λ (n : ℕ). Begins long bytes n (drop 4 bytes)) (sym t.is) t.begins

-- what stands in front as a length
record IsSaid (bytes : List ℕ) (said : ℕ) (rest : List ℕ) : Type 0 where
  number : said_in bytes ≡ said
  behind : drop 4 bytes ≡ rest
  enough : 4 ≤ length bytes

length-long : (n : ℕ) (rest : List ℕ) → length (to_le_bytes w32 n ++ rest) ≡ 4 + length rest
length-long n rest = length-append (to_le_bytes w32 n) rest

is_said : (bytes : List ℕ) (said : ℕ) (rest : List ℕ) → Begins long bytes said rest → IsSaid bytes said rest
unfolding long long_at
is_said bytes said rest begins =
    let found : long_at bytes ≡ Ok (said, rest) = read_where long (λ n. n) long_at Reads-long bytes said rest begins in
    let le : 4 ≤ length bytes = omega (arith, ap length begins.spelled, length-long said rest) in
    let same : (let one : Result (ℕ × List ℕ) ℕ = Ok (said_in bytes, drop 4 bytes) in one) ≡ Ok (said, rest) =
    sym (ap (λ (b : Bool). cond b (Err (length bytes)) (Ok (said_in bytes, drop 4 bytes))) (le-ltb _ _ le)) ∙ found in
    let whole = ok_is {E = ℕ} (said_in bytes, drop 4 bytes) (said, rest) same in
    record {
      number = ap (λ (x : ℕ × List ℕ). x.0) whole;
      behind = ap (λ (x : ℕ × List ℕ). x.1) whole;
      enough = le;
    }

-- ---- what is answered for each front

pub content_ended : (bytes : List ℕ) → bytes ≡ [] → content_in bytes ≡ Err Ended
unfolding content_in
content_ended bytes none = ap content_in none

-- no byte is none
not_empty : (n : ℕ) → 0 < n → eqb n 0 ≡ false
not_empty n lt = grind (arith, nat_tests)

-- with a length in front
content_said : (bytes : List ℕ) (said : ℕ) (rest : List ℕ) → Begins long bytes said rest
    → content_in bytes ≡ content_of said rest
unfolding content_in
content_said bytes said rest begins =
    let s = is_said bytes said rest begins in
    let some : eqb (length bytes) 0 ≡ false = not_empty (length bytes) (omega (arith, s.enough)) in
    let long_enough : ltb (length bytes) 4 ≡ false = le-ltb _ _ s.enough in
    rw (some, long_enough, s.number, s.behind) refl

pub content_too_long : (bytes : List ℕ) → IsTooLong bytes → content_in bytes ≡ Err TooLong
content_too_long bytes h =
    content_said bytes h.said h.rest h.begins
    ∙ (let over : ltb MAX_BODY h.said ≡ true = lt-ltb _ _ h.beyond in rw over refl)

content_cut_short : (bytes : List ℕ) → IsCutShort bytes → content_in bytes ≡ Err Short
content_cut_short bytes h =
    let not_over : ltb MAX_BODY h.said ≡ false = le-ltb _ _ h.within in
    let few : ltb (length h.rest) h.said ≡ true = lt-ltb _ _ h.fewer in
    content_said bytes h.said h.rest h.begins ∙ rw (not_over, few) refl

content_below_length : (bytes : List ℕ) → IsBelowLength bytes → content_in bytes ≡ Err Short
unfolding content_in
content_below_length [] h = absurd (h.some refl)
content_below_length (b ∷ bytes) h =
    let some : eqb (length (b ∷ bytes)) 0 ≡ false = not_empty (length (b ∷ bytes)) (omega arith) in
    let few : ltb (length (b ∷ bytes)) 4 ≡ true = lt-ltb _ _ h.few in
    rw (some, few) refl

pub content_short : (bytes : List ℕ) → IsShort bytes → content_in bytes ≡ Err Short
content_short bytes h = elim h [ inl below ↦ content_below_length bytes below | inr cut ↦ content_cut_short bytes cut ]

pub content_whole : (bytes content : List ℕ) → HasContent bytes content → content_in bytes ≡ Ok content
unfolding long
content_whole bytes content h =
    let begins : Begins long bytes (length content) (content ++ h.rest) = record {
      may = omega (arith, h.within);
      spelled = h.framed ∙ append_assoc (to_le_bytes w32 (length content)) content h.rest;
    } in
    let not_over : ltb MAX_BODY (length content) ≡ false = le-ltb _ _ h.within in
    let enough : ltb (length (content ++ h.rest)) (length content) ≡ false =
    le-ltb _ _ (omega (arith, length-append content h.rest)) in
    content_said bytes (length content) (content ++ h.rest) begins
    ∙ rw (not_over, enough, take_at content h.rest (length content) refl) refl

-- ---- one of them stands there

-- the content of a length that is within the limit and doesn't say too much
whole_content : (bytes : List ℕ) (said : ℕ) (rest : List ℕ) → Begins long bytes said rest → said ≤ MAX_BODY
    → said ≤ length rest → HasContent bytes (take said rest)
unfolding long
whole_content bytes said rest begins within enough =
    let len : length (take said rest) ≡ said = omega (arith, length-take said rest) in
    record {
      rest = drop said rest;
      framed =
          begins.spelled ∙ ap (λ (r : List ℕ). to_le_bytes w32 said ++ r) (sym (take-append-drop said rest))
          ∙ sym (append_assoc (to_le_bytes w32 said) (take said rest) (drop said rest))
          ∙ ap (λ (n : ℕ). (to_le_bytes w32 n ++ take said rest) ++ drop said rest) (sym len);
      within = omega (arith, len);
    }

-- what may stand in front
abbrev pub Front : List ℕ → Type 0
Front bytes = (bytes ≡ []) ⊎ (IsShort bytes ⊎ (IsTooLong bytes ⊎ ((content : List ℕ) × HasContent bytes content)))

-- with a length
front_said : (bytes : List ℕ) (said : ℕ) (rest : List ℕ) → Begins long bytes said rest → Front bytes
front_said bytes said rest begins =
    elim (cases_lt MAX_BODY said) [
      | inl over ↦ inr (inr (inl (record { said = said; rest = rest; begins = begins; beyond = over })))
      | inr within ↦ elim (cases_lt (length rest) said) [
        | inl fewer ↦ inr (inl (inr (record {
          said = said;
          rest = rest;
          begins = begins;
          within = within;
          fewer = fewer;
        })))
        | inr enough ↦ inr (inr (inr (take said rest, whole_content bytes said rest begins within enough)))
      ]
    ]

pub front_of : (bytes : List ℕ) → IsBytes bytes → Front bytes
front_of [] are = inl refl
front_of (b ∷ bytes) are =
    elim (cases_lt (length (b ∷ bytes)) 4) [
      | inl few ↦ inr (inl (inl (record { some = λ none. absurd (cc); few = few })))
      | inr enough ↦
          front_said (b ∷ bytes) (said_in (b ∷ bytes)) (drop 4 (b ∷ bytes)) (said_begins (b ∷ bytes) are enough)
    ]
