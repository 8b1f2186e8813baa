-- Lists that keep some atoms of another.
use Rattle.std.specs.Prelude.{◌≡◌, ℕ, ◌<◌, List, length, slice_index_or}
use Rattle.lin_model.specs.declared.form.FormTerm.{FormTerm}
use Rattle.lin_model.specs.KeyAtom.{PlainKeyAtom}

-- the atoms of the first list stand in the second in the same order, each at this place
pub record IsPartOf (part whole : List PlainKeyAtom) : Type 0 where
  pub place : ℕ → ℕ
  pub within : (k : ℕ) → k < length part → place k < length whole
  pub ascends : (i j : ℕ) → i < j → j < length part → place i < place j
  pub same : (k : ℕ) (d : PlainKeyAtom) → k < length part → slice_index_or part k d ≡ slice_index_or whole (place k) d

-- atoms of one form stand beside one another: what stands between two of them has their form
abbrev pub StandTogether : List PlainKeyAtom → Type 0
StandTogether atoms = (i j k : ℕ) (d : PlainKeyAtom) → i < j → j < k → k < length atoms
    → (slice_index_or atoms i d).form ≡ (slice_index_or atoms k d).form
    → (slice_index_or atoms j d).form ≡ (slice_index_or atoms k d).form

-- the atoms of this form stand at the end: what stands behind one of them has the form too
abbrev pub StandAtEnd : List FormTerm → List PlainKeyAtom → Type 0
StandAtEnd form atoms =
    (i j : ℕ) (d : PlainKeyAtom) → i < j → j < length atoms → (slice_index_or atoms i d).form ≡ form
    → (slice_index_or atoms j d).form ≡ form
