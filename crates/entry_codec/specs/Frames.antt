-- Frames, and what stands in front of some bytes: of these cases exactly one.
use Rattle.std.specs.Prelude.{◌≡◌, ◌≢◌, ◌⊎◌, ℕ, ◌+◌, ◌<◌, ◌≤◌, List, [], ◌++◌, length}
use Rattle.std.specs.Int.{w32, to_le_bytes}
use Rattle.cert_check.specs.declared.entry.Entry.{Entry}
use Rattle.cert_check.specs.declared.entry.Entry.TheVariants.{Sat, Unsat}
use Rattle.cert_check.specs.declared.refused.Refused.{Refused}
use Rattle.cert_check.specs.Decides.{HasEvidence}
use Rattle.cert_check.specs.Refusals.{IsPointRefusal, IsTreeRefusal}
use Rattle.entry_codec.specs.declared.limits.TheConstants.{MAX_BODY, MAX_NODES}
use Rattle.entry_codec.specs.Grammar.{Begins, IsFaultOfWhole}
use Rattle.entry_codec.specs.Numbers.{long}
use Rattle.entry_codec.specs.Bodies.{body, body_bytes, IsInGrammar}

-- ---- frames of entries

-- a body behind its length
abbrev pub framed : List ℕ → List ℕ
framed bytes = to_le_bytes w32 (length bytes) ++ bytes

-- the frame of an entry
abbrev pub frame_of : Entry → List ℕ
frame_of e = framed (body_bytes e)

-- how many nodes the tree of an entry has: none where it has a point
abbrev pub node_count_of : Entry → ℕ
node_count_of (Sat e) = 0
node_count_of (Unsat e) = length e.tree.nodes

-- the entry isn't too large for a frame
pub record IsSmallEnough (e : Entry) : Type 0 where
  pub few : node_count_of e ≤ MAX_NODES
  pub short : length (body_bytes e) ≤ MAX_BODY

-- the entry fits a frame: it is in the grammar, and its body isn't too long
pub record FitsFrame (e : Entry) : Type 0 where
  pub grammar : IsInGrammar e
  pub short : length (body_bytes e) ≤ MAX_BODY

-- the frame of an entry that fits a frame stands in front of the bytes, in so many of them
pub record BeginsWithFrame (bytes : List ℕ) (e : Entry) (taken : ℕ) : Type 0 where
  pub fits : FitsFrame e
  pub rest : List ℕ
  pub spelled : bytes ≡ frame_of e ++ rest
  pub all : taken ≡ length (frame_of e)

-- ---- what stands in front

-- a frame of an entry whose evidence checks
pub record IsFrame (bytes : List ℕ) (e : Entry) (taken : ℕ) : Type 0 where
  pub begins : BeginsWithFrame bytes e taken
  pub evidence : HasEvidence e

-- some bytes, but fewer than a length has
pub record IsBelowLength (bytes : List ℕ) : Type 0 where
  pub some : bytes ≢ []
  pub few : length bytes < 4

-- a length within the limit, with fewer bytes behind it than it says
pub record IsCutShort (bytes : List ℕ) : Type 0 where
  pub said : ℕ
  pub rest : List ℕ
  pub begins : Begins long bytes said rest
  pub within : said ≤ MAX_BODY
  pub fewer : length rest < said

-- a front of a frame
abbrev pub IsShort : List ℕ → Type 0
IsShort bytes = IsBelowLength bytes ⊎ IsCutShort bytes

-- a length beyond the limit
pub record IsTooLong (bytes : List ℕ) : Type 0 where
  pub said : ℕ
  pub rest : List ℕ
  pub begins : Begins long bytes said rest
  pub beyond : MAX_BODY < said

-- a whole body within the limit, which is at fault at this byte, counted from the frame's first
pub record IsBadAt (bytes : List ℕ) (place : ℕ) : Type 0 where
  pub content : List ℕ
  pub rest : List ℕ
  pub framed : bytes ≡ framed content ++ rest
  pub within : length content ≤ MAX_BODY
  pub left : ℕ
  pub fault : IsFaultOfWhole body content left
  pub here : place + left ≡ 4 + length content

-- why the evidence of an entry doesn't check
abbrev pub IsRefusal : Entry → Refused → Type 0
IsRefusal (Sat e) refused = IsPointRefusal e.key e.point refused
IsRefusal (Unsat e) refused = IsTreeRefusal e.key e.tree refused

-- a frame in the grammar, whose evidence is refused for this
pub record IsUncertified (bytes : List ℕ) (refused : Refused) : Type 0 where
  pub entry : Entry
  pub taken : ℕ
  pub begins : BeginsWithFrame bytes entry taken
  pub refusal : IsRefusal entry refused
