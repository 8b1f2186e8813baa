-- Each tree has just one answer.
use Rattle.std.proofs.Common.{◌≡◌, ℕ, Result, Ok, Err, List, [], ◌∷◌, length, inl, inr, ⊎_elim, refl, ap, sym}
use Rattle.lin_model.specs.KeyAtom.{PlainKeyAtom}
use Rattle.refutation.specs.declared.fault.TreeFault.{TreeFault}
use Rattle.refutation.specs.declared.fault.TreeFault.TheVariants.{NodeFails, TreeEnds, TreeGoesOn, NoMemory}
use Rattle.refutation.specs.declared.leaf.LeafTerm.{LeafTerm}
use Rattle.refutation.specs.declared.node.Node.{Node}
use Rattle.refutation.specs.Box.{PlainBox}
use Rattle.refutation.specs.Laws.{IsTreeAnswer, HasOneTreeAnswer}
use Rattle.refutation.specs.Reading.{TreeReading, strict_reading}

-- by the nodes that were not read, the boxes and terms left, and the number of nodes that were read
answer : List Node → List PlainBox → List LeafTerm → ℕ → Result (Unit {0}) TreeFault
answer [] [] [] n = Ok tt
answer [] [] (t ∷ terms) n = Err TreeGoesOn
answer [] (box ∷ boxes) terms n = Err TreeEnds
answer (node ∷ nodes) [] terms n = Err TreeGoesOn
answer (node ∷ nodes) (box ∷ boxes) terms n = Err (NodeFails n)

-- the parts of a reading
record Stops (r : TreeReading) (nodes : List Node) (boxes : List PlainBox) (terms : List LeafTerm) : Type 0 where
  rest : r.rest ≡ nodes
  boxes_left : r.boxes ≡ boxes
  terms_left : r.terms ≡ terms

-- that answer is right
right : (key : List PlainKeyAtom) (nodes : List Node) (terms : List LeafTerm) (rest : List Node) (boxes : List PlainBox)
    (left : List LeafTerm)
    → Stops (strict_reading key nodes terms) rest boxes left
    → IsTreeAnswer key nodes terms (answer rest boxes left (length (strict_reading key nodes terms).met))
unfolding answer
right key nodes terms [] [] [] s = record { no_rest = s.rest; no_terms = s.terms_left; no_boxes = s.boxes_left }
right key nodes terms [] [] (t ∷ left) s =
    record { no_boxes = s.boxes_left; some_left = inr (λ e. let is = s.terms_left in absurd (cc)) }
right key nodes terms [] (box ∷ boxes) left s =
    record { no_rest = s.rest; some_boxes = λ e. let is = s.boxes_left in absurd (cc) }
right key nodes terms (node ∷ rest) [] left s =
    record { no_boxes = s.boxes_left; some_left = inl (λ e. let is = s.rest in absurd (cc)) }
right key nodes terms (node ∷ rest) (box ∷ boxes) left s =
    record {
      before =
          refl;
      some_rest = λ e. let is = s.rest in absurd (cc);
      some_boxes = λ e. let is = s.boxes_left in absurd (cc);
    }

-- and no other
alone : (key : List PlainKeyAtom) (nodes : List Node) (terms : List LeafTerm) (rest : List Node) (boxes : List PlainBox)
    (left : List LeafTerm)
    (other : Result (Unit {0}) TreeFault) → Stops (strict_reading key nodes terms) rest boxes left
    → IsTreeAnswer key nodes terms other
    → other ≡ answer rest boxes left (length (strict_reading key nodes terms).met)
unfolding answer
alone key nodes terms [] [] [] (Ok u) s h = refl
alone key nodes terms [] [] (t ∷ left) (Ok u) s h = let is = s.terms_left in let no_terms = h.no_terms in absurd (cc)
alone key nodes terms [] (box ∷ boxes) left (Ok u) s h =
    let is = s.boxes_left in let no_boxes = h.no_boxes in absurd (cc)
alone key nodes terms (node ∷ rest) boxes left (Ok u) s h = let is = s.rest in let no_rest = h.no_rest in absurd (cc)
alone key nodes terms [] boxes left (Err (NodeFails i)) s h = absurd (h.some_rest s.rest)
alone key nodes terms (node ∷ rest) [] left (Err (NodeFails i)) s h = absurd (h.some_boxes s.boxes_left)
alone key nodes terms (node ∷ rest) (box ∷ boxes) left (Err (NodeFails i)) s h =
    ap (λ (n : ℕ). Err (NodeFails n)) (sym h.before)
alone key nodes terms [] [] left (Err TreeEnds) s h = absurd (h.some_boxes s.boxes_left)
alone key nodes terms [] (box ∷ boxes) left (Err TreeEnds) s h = refl
alone key nodes terms (node ∷ rest) boxes left (Err TreeEnds) s h =
    let is = s.rest in let no_rest = h.no_rest in absurd (cc)
alone key nodes terms [] [] [] (Err TreeGoesOn) s h =
    absurd (⊎_elim (λ some. some s.rest) (λ some. some s.terms_left) h.some_left)
alone key nodes terms [] [] (t ∷ left) (Err TreeGoesOn) s h = refl
alone key nodes terms rest (box ∷ boxes) left (Err TreeGoesOn) s h =
    let is = s.boxes_left in let no_boxes = h.no_boxes in absurd (cc)
alone key nodes terms (node ∷ rest) [] left (Err TreeGoesOn) s h = refl
alone key nodes terms rest boxes left (Err NoMemory) s h = absurd h

pub one_answer : (key : List PlainKeyAtom) (nodes : List Node) (terms : List LeafTerm)
    → HasOneTreeAnswer key nodes terms
one_answer key nodes terms =
    let r = strict_reading key nodes terms in
    let s : Stops r r.rest r.boxes r.terms = record { rest = refl; boxes_left = refl; terms_left = refl } in
    record {
      answer = answer r.rest r.boxes r.terms (length r.met);
      is = right key nodes terms r.rest r.boxes r.terms s;
      alone = λ other h. alone key nodes terms r.rest r.boxes r.terms other s h;
    }
