-- Lists of entries in layers, and the first entry from a place on that decides a key.
use Rattle.std.specs.Prelude.{ℕ, ◌<◌, ◌≤◌, Option, Some, None, IsSomeAnd, List, [], ◌∷◌, ◌++◌, length, take}
use Rattle.std.specs.Prelude.{slice_index_or}
use Rattle.std.specs.List.{slice_get}
use Rattle.lin_model.specs.KeyAtom.{PlainKeyAtom}
use Rattle.cert_check.specs.declared.entry.Entry.{Entry}
use Rattle.cert_check.specs.Decides.{Decides, NoneDecides, IsFirstDeciding}

-- the entries of the layers, one layer behind the other
abbrev pub joined : List (List Entry) → List Entry
joined [] = []
joined (layer ∷ layers) = layer ++ joined layers

-- all entries in one layer, where there are any
abbrev pub one_layer : List Entry → List (List Entry)
one_layer [] = []
one_layer (e ∷ es) = (e ∷ es) ∷ []

-- the entry decides a key that none of these entries decides
pub record DecidesMore (entries : List Entry) (e : Entry) : Type 0 where
  pub key : List PlainKeyAtom
  pub decides : Decides e key
  pub undecided : NoneDecides entries key

-- none of the entries from place n up to place m, which is at most their number, decides the key
abbrev pub NoneBetween : List Entry → List PlainKeyAtom → ℕ → ℕ → Type 0
NoneBetween entries q n m = (k : ℕ) (d : Entry) → n ≤ k → k < m → ¬ Decides (slice_index_or entries k d) q

-- the entry at this place, which is n or later, decides the key, and none from n on before it does
pub record IsFirstAtFrom (n : ℕ) (entries : List Entry) (q : List PlainKeyAtom) (place : ℕ) : Type 0 where
  pub from : n ≤ place
  pub here : IsSomeAnd (slice_get entries place) (λ e. Decides e q)
  pub before : NoneBetween entries q n place

-- the least place from n on of an entry that decides the key, or none
abbrev pub IsFirstFrom : ℕ → List Entry → List PlainKeyAtom → Option ℕ → Type 0
IsFirstFrom n entries q None = NoneBetween entries q n (length entries)
IsFirstFrom n entries q (Some place) = IsFirstAtFrom n entries q place

-- where none of the first n entries decides a key, the first from n on is the first of all
abbrev pub LaterFirstsAreFirst : Type 0
LaterFirstsAreFirst = (n : ℕ) (entries : List Entry) (q : List PlainKeyAtom) (place : Option ℕ)
    → NoneDecides (take n entries) q → IsFirstFrom n entries q place → IsFirstDeciding entries q place
