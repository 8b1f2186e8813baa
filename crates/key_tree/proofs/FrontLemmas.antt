-- The longest front of a list of atoms that has a place.
use Rattle.std.proofs.Common.{◌≡◌, ℕ, ◌+◌, ◌<◌, ◌≤◌, List, [], ◌∷◌, ◌++◌, length, get_or, take, ap, sym, subst, ◌∙◌, arith}
use Rattle.std.proofs.lemmas.List.{get_or_default, take_more, take_all}
use Rattle.lin_model.specs.KeyAtom.{PlainKeyAtom}
use Rattle.key_tree.specs.declared.kid.Kid.{Kid}
use Rattle.key_tree.specs.declared.front.Front.{Front}
use Rattle.key_tree.specs.Tree.{PlainTree, IsTree, way_to, place_at}
use Rattle.key_tree.specs.Growth.{IsFront, IsKidFor, IsPositionFor}
use Rattle.key_tree.proofs.WayLemmas.{way_to_root}
use Rattle.key_tree.proofs.PlaceLemmas.{root_within, kid_way}
use Rattle.key_tree.proofs.SearchLemmas.{kid_is_within}

-- so many of the atoms are the way to a place
pub record IsFrontSoFar (tree : PlainTree) (atoms : List PlainKeyAtom) (place len : ℕ) : Type 0 where
  pub within : place < length tree.places
  pub way : way_to tree place ≡ take len atoms

-- none of them is the way to the root
pub front_starts : (tree : PlainTree) (atoms : List PlainKeyAtom) → IsTree tree → IsFrontSoFar tree atoms 0 0
front_starts tree atoms is = record { within = root_within tree is; way = way_to_root tree }

-- with the next atom they are the way to its kid
pub front_more : (tree : PlainTree) (atoms : List PlainKeyAtom) (place len k : ℕ) (kids : List Kid) (d : Kid)
    (atom : PlainKeyAtom) → IsTree tree → IsFrontSoFar tree atoms place len → kids ≡ (place_at tree place).kids
    → IsKidFor tree place k atom → len < length atoms → atom ≡ get_or atoms len atom
    → IsFrontSoFar tree atoms (get_or kids k d).place (len + 1)
front_more tree atoms place len k kids d atom is so_far same kid lt at =
    let there : k < length kids = subst (λ (ks : List Kid). k < length ks) (sym same) kid.within in
    let same_way : way_to tree (get_or kids k d).place ≡ way_to tree place ++ atom ∷ [] =
    ap (λ (ks : List Kid). way_to tree (get_or ks k d).place) same
    ∙ (kid_way tree is place k d so_far.within kid.within
    ∙ ap (λ (a : PlainKeyAtom). way_to tree place ++ a ∷ []) (kid.is d)) in
    record {
      within = kid_is_within tree place k kids d is so_far.within same there;
      way = same_way ∙ (ap (λ (way : List PlainKeyAtom). way ++ atom ∷ []) so_far.way
          ∙ (ap (λ (a : PlainKeyAtom). take len atoms ++ a ∷ []) at ∙ sym (take_more atoms len atom lt)));
    }

-- where no kid has the next atom, the front is found
pub front_stops : (tree : PlainTree) (atoms : List PlainKeyAtom) (place len at : ℕ) (atom : PlainKeyAtom)
    → IsFrontSoFar tree atoms place len → IsPositionFor tree place at atom → len < length atoms
    → atom ≡ get_or atoms len atom → IsFront tree atoms (record { place = place; len = len; at = at })
front_stops tree atoms place len at atom so_far position lt is = record {
  within = so_far.within;
  short = omega arith;
  way = so_far.way;
  next = λ d _. subst (λ (a : PlainKeyAtom). IsPositionFor tree place at a)
      (is ∙ get_or_default atoms len atom d lt) position;
}

-- all atoms are a front
pub front_ends : (tree : PlainTree) (atoms : List PlainKeyAtom) (place len : ℕ) → IsFrontSoFar tree atoms place len
    → len ≡ length atoms → IsFront tree atoms (record { place = place; len = len; at = 0 })
front_ends tree atoms place len so_far all = record {
  within = so_far.within;
  short = omega arith;
  way = so_far.way;
  next = λ d lt. absurd (omega (arith, lt, all));
}

-- a front that has all atoms is the way to its place
pub whole_way : (tree : PlainTree) (atoms : List PlainKeyAtom) (front : Front) → IsFront tree atoms front
    → length atoms ≤ front.len → way_to tree front.place ≡ atoms
whole_way tree atoms front is all = is.way ∙ take_all front.len atoms all
