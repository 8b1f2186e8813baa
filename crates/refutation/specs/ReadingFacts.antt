-- A reading, one node after another: for the proofs of the crates above.
use Rattle.std.proofs.Common.{◌≡◌, Bool, Option, Some, None, List, [], ◌∷◌, ◌++◌, refl, ap}
use Rattle.std.specs.Option.{option_map_or}
use Rattle.lin_model.specs.KeyAtom.{PlainKeyAtom}
use Rattle.refutation.specs.declared.leaf.LeafTerm.{LeafTerm}
use Rattle.refutation.specs.declared.node.Node.{Node}
use Rattle.refutation.specs.Box.{PlainBox}
use Rattle.refutation.specs.Reading.{Treated, treated, nothing_read, behind, read_over}

-- a node that treats the first box is read, and the reading goes on with the boxes that it leaves
pub read-some : (may_leave : Bool) (key : List PlainKeyAtom) (node : Node) (nodes : List Node) (terms : List LeafTerm)
    (box : PlainBox) (boxes : List PlainBox) (r : Treated) → treated may_leave key box node terms ≡ Some r
    → read_over may_leave key (node ∷ nodes) terms (box ∷ boxes)
    ≡ behind node box (read_over may_leave key nodes r.terms (r.boxes ++ boxes))
unfolding read_over
read-some may_leave key node nodes terms box boxes r is =
    ap (λ (o : Option Treated). option_map_or
    (λ (t : Treated). behind node box (read_over may_leave key nodes t.terms (t.boxes ++ boxes))) o
    (nothing_read (node ∷ nodes) terms (box ∷ boxes))) is

-- a node that may not stand at the first box ends it
pub read-none : (may_leave : Bool) (key : List PlainKeyAtom) (node : Node) (nodes : List Node) (terms : List LeafTerm)
    (box : PlainBox) (boxes : List PlainBox) → treated may_leave key box node terms ≡ None
    → read_over may_leave key (node ∷ nodes) terms (box ∷ boxes) ≡ nothing_read (node ∷ nodes) terms (box ∷ boxes)
unfolding read_over
read-none may_leave key node nodes terms box boxes is =
    ap (λ (o : Option Treated). option_map_or
    (λ (t : Treated). behind node box (read_over may_leave key nodes t.terms (t.boxes ++ boxes))) o
    (nothing_read (node ∷ nodes) terms (box ∷ boxes))) is

-- what the first node leaves, and the reading behind it
pub record FirstIsRead (may_leave : Bool) (key : List PlainKeyAtom) (node : Node) (nodes : List Node)
    (terms : List LeafTerm) (box : PlainBox) (boxes : List PlainBox) : Type 0 where
  pub after : Treated
  pub is : treated may_leave key box node terms ≡ Some after
  pub then_rest : read_over may_leave key (node ∷ nodes) terms (box ∷ boxes)
      ≡ behind node box (read_over may_leave key nodes after.terms (after.boxes ++ boxes))
  pub rest_read : (read_over may_leave key nodes after.terms (after.boxes ++ boxes)).rest ≡ []

-- where each node is read, so is the first
pub first_is_read : (may_leave : Bool) (key : List PlainKeyAtom) (node : Node) (nodes : List Node)
    (terms : List LeafTerm)
    (box : PlainBox) (boxes : List PlainBox) → (read_over may_leave key (node ∷ nodes) terms (box ∷ boxes)).rest ≡ []
    → FirstIsRead may_leave key node nodes terms box boxes
unfolding read_over
first_is_read may_leave key node nodes terms box boxes h = by_treated (treated may_leave key box node terms) refl h
  where
    by_treated : (o : Option Treated) → treated may_leave key box node terms ≡ o
        → (option_map_or (λ (t : Treated). behind node box (read_over may_leave key nodes t.terms (t.boxes ++ boxes))) o
        (nothing_read (node ∷ nodes) terms (box ∷ boxes))).rest ≡ []
        → FirstIsRead may_leave key node nodes terms box boxes
    by_treated None is none = absurd (cc)
    by_treated (Some r) is none =
        record {
          after = r;
          is = is;
          then_rest = read-some may_leave key node nodes terms box boxes r is;
          rest_read = none;
        }
