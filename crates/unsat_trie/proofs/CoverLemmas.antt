-- Covering of one atom and of the rest.
use Rattle.std.proofs.Common.{List, [], ◌∷◌}
use Rattle.std.specs.Prelude.{Any}
use Rattle.std.proofs.lemmas.List.Elements.{All-nil, All-cons, All-head, All-tail}
use Rattle.lin_model.specs.KeyAtom.{PlainKeyAtom}
use Rattle.atom_implies.specs.Implies.{Covers, Implies}

module _ (asked : List PlainKeyAtom) where
  -- nothing is covered
  pub covers_nil : Covers asked []
  covers_nil = All-nil (λ (b : PlainKeyAtom). Any (λ a. Implies a b) asked)

  module _ (atom : PlainKeyAtom) (rest : List PlainKeyAtom) where
    -- an implied atom before a covered list
    pub covers_cons : Any (λ a. Implies a atom) asked → Covers asked rest → Covers asked (atom ∷ rest)
    covers_cons = All-cons (λ (b : PlainKeyAtom). Any (λ a. Implies a b) asked) atom rest

    -- the first of a covered list is implied
    pub implied_from_covers : Covers asked (atom ∷ rest) → Any (λ a. Implies a atom) asked
    implied_from_covers = All-head (λ (b : PlainKeyAtom). Any (λ a. Implies a b) asked) atom rest

    -- the rest is covered
    pub rest_from_covers : Covers asked (atom ∷ rest) → Covers asked rest
    rest_from_covers = All-tail (λ (b : PlainKeyAtom). Any (λ a. Implies a b) asked) atom rest
