-- How the reading of a tree ends, whichever boxes it begins with.
use Rattle.std.specs.Prelude.{◌≡◌, ◌≢◌, ◌⊎◌, ℕ, [], length}
use Rattle.refutation.specs.Reading.{TreeReading}

-- each node is read, every box is closed, and no term is to spare
pub record ClosesAll (r : TreeReading) : Type 0 where
  pub no_rest : r.rest ≡ []
  pub no_terms : r.terms ≡ []
  pub no_boxes : r.boxes ≡ []

-- node i, counted from 0, finds an undecided box and may not stand there, and is the first such node
pub record StopsAt (r : TreeReading) (i : ℕ) : Type 0 where
  pub before : length r.met ≡ i
  pub some_rest : r.rest ≢ []
  pub some_boxes : r.boxes ≢ []

-- each node is read, and some box is still undecided
pub record LeavesBoxes (r : TreeReading) : Type 0 where
  pub no_rest : r.rest ≡ []
  pub some_boxes : r.boxes ≢ []

-- every box is closed, and nodes or terms are still to come
pub record LeavesMore (r : TreeReading) : Type 0 where
  pub no_boxes : r.boxes ≡ []
  pub some_left : (r.rest ≢ []) ⊎ (r.terms ≢ [])
