-- Which keys an entry decides (after GreenTrie), and the first entry of a list that decides a key.
use Rattle.std.specs.Prelude.{ℕ, Option, Some, None, IsSomeAnd, List, take}
use Rattle.std.specs.List.{All, slice_get}
use Rattle.lin_model.specs.KeyAtom.{PlainKeyAtom}
use Rattle.lin_model.specs.Key.{IsKey}
use Rattle.atom_implies.specs.Implies.{Covers}
use Rattle.cert_check.specs.declared.entry.Entry.{Entry}
use Rattle.cert_check.specs.declared.entry.Entry.TheVariants.{Sat, Unsat}
use Rattle.cert_check.specs.Entries.{IsSatisfied, IsRefuted}

-- the key of an entry
abbrev pub key_of : Entry → List PlainKeyAtom
key_of (Sat e) = e.key
key_of (Unsat e) = e.key

-- the point satisfies the key, or the tree refutes it
abbrev pub HasEvidence : Entry → Type 0
HasEvidence (Sat e) = IsSatisfied e
HasEvidence (Unsat e) = IsRefuted e

-- a key with evidence that checks
pub record IsChecked (e : Entry) : Type 0 where
  pub key : IsKey (key_of e)
  pub evidence : HasEvidence e

-- A satisfiable key decides each key that it covers; a core decides each key that covers it.
abbrev pub Decides : Entry → List PlainKeyAtom → Type 0
Decides (Sat e) q = Covers e.key q
Decides (Unsat e) q = Covers q e.key

-- something holds of what stands at this place, and of nothing before it
pub record IsFirstAt {X : Type 0} (P : X → Type 0) (xs : List X) (i : ℕ) : Type 0 where
  pub here : IsSomeAnd (slice_get xs i) P
  pub before : All (λ x. ¬ P x) (take i xs)

-- the first place where it holds, or none
abbrev pub IsFirst : {X : Type 0} → (X → Type 0) → List X → Option ℕ → Type 0
IsFirst P xs None = All (λ x. ¬ P x) xs
IsFirst P xs (Some i) = IsFirstAt P xs i

-- the least place of an entry that decides the key, or none
abbrev pub IsFirstDeciding : List Entry → List PlainKeyAtom → Option ℕ → Type 0
IsFirstDeciding entries q place = IsFirst (λ e. Decides e q) entries place

-- none of the entries decides the key
abbrev pub NoneDecides : List Entry → List PlainKeyAtom → Type 0
NoneDecides entries q = All (λ e. ¬ Decides e q) entries
