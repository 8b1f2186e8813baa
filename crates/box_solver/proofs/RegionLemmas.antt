-- Regions that grow at their ends, and the trail in them.
use Rattle.std.proofs.Common.{◌≡◌, ℕ, ◌+◌, ◌-◌, ◌*◌, ◌<◌, ◌≤◌, List, [], ◌∷◌, ◌++◌, length, refl, ap, sym, ◌∙◌, subst}
use Rattle.std.proofs.Common.{append_assoc, arith}
use Rattle.std.proofs.lemmas.List.{append-nil, length-append}
use Rattle.tree_pool.specs.Region.{WasPopped}
use Rattle.refutation.specs.declared.leaf.LeafTerm.{LeafTerm}
use Rattle.refutation.specs.declared.node.Node.{Node}
use Rattle.box_solver.specs.Region.{PlainTreeRegion, TrailItem, Adds, MovesTrail, HasRoomFor}

pub adds-adds : (a b c : PlainTreeRegion) (nodes more : List Node) (terms terms' : List LeafTerm) → Adds a b nodes terms
    → Adds b c more terms' → Adds a c (nodes ++ more) (terms ++ terms')
adds-adds a b c nodes more terms terms' f g = record {
  nodes_after = g.nodes_after ∙ ap (λ (xs : List Node). xs ++ more) f.nodes_after ∙ append_assoc a.nodes nodes more;
  terms_after = g.terms_after ∙ ap (λ (xs : List LeafTerm). xs ++ terms') f.terms_after
      ∙ append_assoc a.terms terms terms';
  nodes_less = omega (arith, length-append nodes more, f.nodes_less, g.nodes_less);
  terms_less = omega (arith, length-append terms terms', f.terms_less, g.terms_less);
}

-- and a third that has nothing of its own
pub adds-same : (a b c : PlainTreeRegion) (nodes : List Node) (terms : List LeafTerm) → Adds a b nodes terms
    → Adds b c [] [] → Adds a c nodes terms
adds-same a b c nodes terms f g = record {
  nodes_after = g.nodes_after ∙ append-nil b.nodes ∙ f.nodes_after;
  terms_after = g.terms_after ∙ append-nil b.terms ∙ f.terms_after;
  nodes_less = omega (arith, f.nodes_less, g.nodes_less);
  terms_less = omega (arith, f.terms_less, g.terms_less);
}

-- nothing was added so far
pub adds-none : (a : PlainTreeRegion) → Adds a a [] []
adds-none a = record {
  nodes_after = sym (append-nil a.nodes);
  terms_after = sym (append-nil a.terms);
  nodes_less = omega arith;
  terms_less = omega arith;
}

-- a node that was pushed
pub pushed-adds : (a b : PlainTreeRegion) (node : Node) → 0 < a.spare_nodes
    → b ≡ record a { nodes = a.nodes ++ node ∷ []; spare_nodes = a.spare_nodes - 1 } → Adds a b (node ∷ []) []
pushed-adds a b node room is =
    subst (λ (r : PlainTreeRegion). Adds a r (node ∷ []) []) (sym is) (record {
      nodes_after = refl;
      terms_after = (adds-none a).terms_after;
      nodes_less = omega arith;
      terms_less = omega arith;
    })

-- ---- the trail

-- an item off the trail adds nothing
pub popped-adds : (b c : PlainTreeRegion) (item : TrailItem) → WasPopped item b c → Adds b c [] []
popped-adds b c item p =
    subst (λ (r : PlainTreeRegion). Adds b r [] []) (sym p.rest) (record {
      nodes_after = (adds-none b).nodes_after;
      terms_after = (adds-none b).terms_after;
      nodes_less = omega arith;
      terms_less = omega arith;
    })

pub moves-popped : (a b c : PlainTreeRegion) (item : TrailItem) → MovesTrail a b → WasPopped item b c → MovesTrail a c
moves-popped a b c item h p =
    let longer = ap length p.trail in
    record {
      adds_none = adds-same a b c [] [] h.adds_none (popped-adds b c item p);
      shorter = omega (arith, h.shorter, longer);
      room = omega (arith, h.room, longer, p.spare_trail);
    }

-- ---- room

-- a leaf is a node and eight terms at most
pub room-closed : (splits boxes boxes' : ℕ) (a b : PlainTreeRegion) (nodes : List Node) (terms : List LeafTerm)
    → HasRoomFor splits boxes a → Adds a b nodes terms → length nodes ≡ 1 → length terms ≤ 8
    → boxes ≡ boxes' + 1 → a.spare_trail ≤ b.spare_trail → HasRoomFor splits boxes' b
room-closed splits boxes boxes' a b nodes terms room adds one few less trail = record {
  nodes = omega (arith, room.nodes, adds.nodes_less);
  terms = omega (arith, room.terms, adds.terms_less);
  trail = omega (arith, room.trail);
}

-- a split is a node and an item of the trail
pub room-split : (splits splits' boxes boxes' : ℕ) (a b : PlainTreeRegion) (node : Node)
    → HasRoomFor splits boxes a → Adds a b (node ∷ []) [] → splits ≡ splits' + 1 → boxes' ≡ boxes + 1
    → b.spare_trail + 1 ≡ a.spare_trail → HasRoomFor splits' boxes' b
room-split splits splits' boxes boxes' a b node room adds less more trail = record {
  nodes = omega (arith, room.nodes, adds.nodes_less);
  terms = omega (arith, room.terms, adds.terms_less);
  trail = omega (arith, room.trail);
}
