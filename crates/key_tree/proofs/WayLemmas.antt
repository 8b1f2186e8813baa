-- Ways: how many there are, that those there stay, and what each is made of.
use Rattle.std.proofs.Common.{◌≡◌, ℕ, zero, suc, ◌+◌, ◌<◌, ◌≤◌, List, [], ◌∷◌, ◌++◌, length, get_or, ◌∙◌, refl, sym, ap}
use Rattle.std.proofs.Common.{arith}
use Rattle.std.proofs.lemmas.List.{length_push, get_or_append_left, get_or_push}
use Rattle.lin_model.specs.KeyAtom.{PlainKeyAtom}
use Rattle.key_tree.specs.declared.branch.Branch.{Branch}
use Rattle.key_tree.specs.Tree.{PlainTree, ways_from, way_to, branch_to, no_branch}

-- the way that a branch leads to
abbrev pub next_way : List (List PlainKeyAtom) → Branch → List PlainKeyAtom
next_way ways b = get_or ways b.from [] ++ b.atom ∷ []

-- there is one way more for each branch
pub length-ways_from : (ways : List (List PlainKeyAtom)) (bs : List Branch)
    → length (ways_from ways bs) ≡ length ways + length bs
unfolding ways_from
length-ways_from ways [] = omega arith
length-ways_from ways (b ∷ bs) =
    let rest = length-ways_from (ways ++ next_way ways b ∷ []) bs in
    let more = length_push ways (next_way ways b) in
    omega arith

-- branches in two parts
pub ways_from-append : (ways : List (List PlainKeyAtom)) (bs cs : List Branch)
    → ways_from ways (bs ++ cs) ≡ ways_from (ways_from ways bs) cs
unfolding ways_from
ways_from-append ways [] cs = refl
ways_from-append ways (b ∷ bs) cs = ways_from-append (ways ++ next_way ways b ∷ []) bs cs

-- one branch more at the end
pub ways_from-push : (ways : List (List PlainKeyAtom)) (bs : List Branch) (b : Branch)
    → ways_from ways (bs ++ b ∷ []) ≡ ways_from ways bs ++ next_way (ways_from ways bs) b ∷ []
unfolding ways_from
ways_from-push ways bs b = ways_from-append ways bs (b ∷ [])

-- the ways that are there stay
pub ways_stay : (ways : List (List PlainKeyAtom)) (bs : List Branch) (i : ℕ) → i < length ways
    → get_or (ways_from ways bs) i [] ≡ get_or ways i []
unfolding ways_from
ways_stay ways [] i lt = refl
ways_stay ways (b ∷ bs) i lt =
    ways_stay (ways ++ next_way ways b ∷ []) bs i (let more = length_push ways (next_way ways b) in omega arith)
    ∙ get_or_append_left ways (next_way ways b ∷ []) [] i lt

-- the way that a branch made is the one that it comes from, and its atom
pub way_made : (ways : List (List PlainKeyAtom)) (bs : List Branch) (k n : ℕ) (d : Branch) → k < length bs
    → n ≡ length ways + k → (get_or bs k d).from < n
    → get_or (ways_from ways bs) n [] ≡ next_way (ways_from ways bs) (get_or bs k d)
unfolding ways_from
way_made ways [] k n d lt is from = absurd (omega (arith, lt))
way_made ways (b ∷ bs) zero n d lt is from =
    let size = length_push ways (next_way ways b) in
    let made : get_or (ways_from (ways ++ next_way ways b ∷ []) bs) n [] ≡ next_way ways b =
    ways_stay (ways ++ next_way ways b ∷ []) bs n (omega arith)
    ∙ get_or_push ways (next_way ways b) [] n (omega arith) in
    let old : get_or (ways_from (ways ++ next_way ways b ∷ []) bs) b.from [] ≡ get_or ways b.from [] =
    ways_stay ways (b ∷ bs) b.from (omega arith) in
    made ∙ ap (λ (way : List PlainKeyAtom). way ++ b.atom ∷ []) (sym old)
way_made ways (b ∷ bs) (suc k) n d lt is from =
    let size = length_push ways (next_way ways b) in
    way_made (ways ++ next_way ways b ∷ []) bs k n d (omega arith) (omega arith) from

-- the root stands for no atom
pub way_to_root : (tree : PlainTree) → way_to tree 0 ≡ []
way_to_root tree = ways_stay ([] ∷ []) tree.branches 0 (omega arith)

-- each other place has the way that its branch comes from, and the branch's atom
pub way_to_place : (tree : PlainTree) (p : ℕ) → 0 < p → p ≤ length tree.branches → (branch_to tree p).from < p
    → way_to tree p ≡ way_to tree (branch_to tree p).from ++ (branch_to tree p).atom ∷ []
way_to_place tree zero some within older = absurd (omega arith)
way_to_place tree (suc k) some within older =
    way_made ([] ∷ []) tree.branches k (suc k) no_branch (omega arith) (omega arith) older

-- the ways to old places stay when branches are added at the end
pub old_ways_stay : (bs cs : List Branch) (i : ℕ) → i ≤ length bs
    → get_or (ways_from ([] ∷ []) (bs ++ cs)) i [] ≡ get_or (ways_from ([] ∷ []) bs) i []
old_ways_stay bs cs i within =
    ap (λ (ways : List (List PlainKeyAtom)). get_or ways i []) (ways_from-append ([] ∷ []) bs cs)
    ∙ ways_stay (ways_from ([] ∷ []) bs) cs i
    (let size = length-ways_from ([] ∷ []) bs in omega arith)
