-- Reading a tree node by node: the terms of all combinations are one list.
use Rattle.std.proofs.Common.{◌≡◌, ℕ, zero, suc, ◌+◌, ◌-◌, ◌<◌, ◌≤◌, List, [], ◌∷◌, ◌++◌, length, map, Ok, Err, refl, sym, ap, subst, ◌∙◌, arith, append_assoc}
use Rattle.std.specs.List.{flat_map}
use Rattle.std.proofs.lemmas.List.{append-nil, length-append, map-append}
use Rattle.std.proofs.lemmas.List.Concat.{flat_map-append}
use Rattle.refutation.specs.declared.leaf.LeafTerm.{LeafTerm}
use Rattle.refutation.specs.declared.node.Node.{Node}
use Rattle.refutation.specs.Tree.{PlainTree}
use Rattle.entry_codec.specs.Reading.{Read, ◌>>=◌, mapped_at, pushed_at, repeat, list_at}
use Rattle.entry_codec.specs.Nodes.{TreeNode, split, ne_split, combo, fixed, empty, node_of, terms_of, tree_of}
use Rattle.entry_codec.specs.declared.fault.ReadFault.{ReadFault}
use Rattle.entry_codec.specs.Gives.{Fails}
use Rattle.entry_codec.specs.FieldReading.{leaf_count_at}
use Rattle.entry_codec.specs.NodeReading.{leaf_term_at, leaf_terms_at, node_at}
use Rattle.entry_codec.specs.TreeReading.{own_terms_at, terms_with, parted, node_behind}
use Rattle.entry_codec.proofs.Bytes.{ok_is, step_on}
use Rattle.entry_codec.proofs.LoopLemmas.{fails_on, seen, fails_before, goes_on, ends, is_done}

-- ---- items behind others

-- an item behind those before it
abbrev push : {A : Type 0} → List A → A × List ℕ → Read (List A)
push before x = Ok (before ++ x.0 ∷ [], x.1)

-- items that don't look at those before them are read behind others as they are read alone
pub repeat-behind : {A : Type 0} (item : List ℕ → Read A) (n : ℕ) (before some : List A) (bytes : List ℕ)
    → repeat (pushed_at (λ b. item)) n (before ++ some) bytes
    ≡ mapped_at (λ xs. before ++ xs) (repeat (pushed_at (λ b. item)) n some) bytes
unfolding repeat
repeat-behind item zero before some bytes = refl
repeat-behind {A} item (suc n) before some bytes =
    by_item (item bytes) (λ x. repeat-behind item n before (some ++ x.0 ∷ []) x.1)
  where
    by_item : (r : Read A)
        → ((x : A × List ℕ) → repeat (pushed_at (λ b. item)) n (before ++ (some ++ x.0 ∷ [])) x.1
        ≡ mapped_at (λ xs. before ++ xs) (repeat (pushed_at (λ b. item)) n (some ++ x.0 ∷ [])) x.1)
        → ((r >>= push (before ++ some)) >>= λ x. repeat (pushed_at (λ b. item)) n x.0 x.1)
        ≡ (((r >>= push some) >>= λ x. repeat (pushed_at (λ b. item)) n x.0 x.1) >>= seen (λ xs. before ++ xs))
    by_item (Ok x) others =
        ap (λ (xs : List A). repeat (pushed_at (λ b. item)) n xs x.1) (append_assoc before some (x.0 ∷ [])) ∙ others x
    by_item (Err left) others = refl

-- as many are read as should be
pub repeat-length : {A : Type 0} (item : List ℕ → Read A) (n : ℕ) (some : List A) (bytes : List ℕ) (xs : List A)
    (rest : List ℕ) → repeat (pushed_at (λ b. item)) n some bytes ≡ Ok (xs, rest) → length xs ≡ length some + n
unfolding repeat
repeat-length item zero some bytes xs rest e =
    let same = ok_is {E = ℕ} (some, bytes) (xs, rest) e in
    omega (arith, ap (λ (x : List _ × List ℕ). length x.0) same)
repeat-length {A} item (suc n) some bytes xs rest e =
    by_item (item bytes) e (λ x is. repeat-length item n (some ++ x.0 ∷ []) x.1 xs rest is)
  where
    by_item : (r : Read A)
        → ((r >>= push some) >>= λ x. repeat (pushed_at (λ b. item)) n x.0 x.1) ≡ Ok (xs, rest)
        → ((x : A × List ℕ) → repeat (pushed_at (λ b. item)) n (some ++ x.0 ∷ []) x.1 ≡ Ok (xs, rest)
        → length xs ≡ length (some ++ x.0 ∷ []) + n) → length xs ≡ length some + suc n
    by_item (Ok x) is others = omega (arith, others x is, length-append some (x.0 ∷ []))
    by_item (Err left) is others = absurd (cc)

-- ---- the terms of one combination

-- the number of the terms, and these terms behind those before
abbrev owned : List LeafTerm → List LeafTerm → ℕ × List LeafTerm
owned before own = (length own, before ++ own)

-- the number is at fault
pub own_terms-count : (before : List LeafTerm) (bytes : List ℕ) (fault : ReadFault) → Fails fault (leaf_count_at bytes)
    → Fails fault (own_terms_at before bytes)
unfolding own_terms_at leaf_terms_at
own_terms-count before bytes fault fails =
    fails_on (leaf_terms_at bytes) (seen (owned before)) fault (fails_on (leaf_count_at bytes) _ fault fails)

-- the terms behind others are those that stand there
terms-behind : (count : ℕ) (before : List LeafTerm) (rest : List ℕ)
    → repeat (pushed_at (λ b. leaf_term_at)) count before rest
    ≡ (list_at (λ b. leaf_term_at) count rest >>= seen (λ own. before ++ own))
terms-behind count before rest =
    ap (λ (ts : List LeafTerm). repeat (pushed_at (λ b. leaf_term_at)) count ts rest) (sym (append-nil before))
    ∙ repeat-behind leaf_term_at count before [] rest

-- what is read where the number is known
own_terms-rest : (before : List LeafTerm) (bytes : List ℕ) (count : ℕ) (rest : List ℕ)
    → leaf_count_at bytes ≡ Ok (count, rest)
    → own_terms_at before bytes ≡ (list_at (λ b. leaf_term_at) count rest >>= seen (owned before))
unfolding own_terms_at leaf_terms_at
own_terms-rest before bytes count rest is =
    ap (λ (r : Read (List LeafTerm)). r >>= seen (owned before))
    (step_on (leaf_count_at bytes) (λ n. list_at (λ b. leaf_term_at) n.0 n.1) (count, rest) is)

-- a term is at fault
pub own_terms-term : (before : List LeafTerm) (bytes : List ℕ) (count : ℕ) (rest : List ℕ) (fault : ReadFault)
    → leaf_count_at bytes ≡ Ok (count, rest)
    → Fails fault (repeat (pushed_at (λ b. leaf_term_at)) count before rest) → Fails fault (own_terms_at before bytes)
own_terms-term before bytes count rest fault is fails =
    let alone : Fails fault (list_at (λ b. leaf_term_at) count rest) =
    fails_before (list_at (λ b. leaf_term_at) count rest) (λ own. before ++ own) fault
    (subst (λ (r : Read (List LeafTerm)). Fails fault r) (terms-behind count before rest) fails) in
    subst (λ (r : Read (ℕ × List LeafTerm)). Fails fault r) (sym (own_terms-rest before bytes count rest is))
    (fails_on (list_at (λ b. leaf_term_at) count rest) (seen (owned before)) fault alone)

-- the same parts
pairs_same : (n m : ℕ) (xs ys : List LeafTerm) (rest after : List ℕ) → n ≡ m → xs ≡ ys → rest ≡ after
    → (let one : (ℕ × List LeafTerm) × List ℕ = ((n, xs), rest) in one) ≡ ((m, ys), after)
pairs_same n m xs ys rest after same others behind = cc

-- all terms are there
pub own_terms-read : (before : List LeafTerm) (bytes : List ℕ) (count : ℕ) (rest : List ℕ) (all : List LeafTerm)
    (after : List ℕ) → leaf_count_at bytes ≡ Ok (count, rest)
    → repeat (pushed_at (λ b. leaf_term_at)) count before rest ≡ Ok (all, after)
    → own_terms_at before bytes ≡ Ok ((count, all), after)
own_terms-read before bytes count rest all after is read =
    own_terms-rest before bytes count rest is
    ∙ by_list (list_at (λ b. leaf_term_at) count rest) (repeat-length leaf_term_at count [] rest)
    (sym (terms-behind count before rest) ∙ read)
  where
    by_list : (r : Read (List LeafTerm))
        → ((own : List LeafTerm) (behind : List ℕ) → r ≡ Ok (own, behind) → length own ≡ 0 + count)
        → (r >>= seen (λ own. before ++ own)) ≡ Ok (all, after) → (r >>= seen (owned before)) ≡ Ok ((count, all), after)
    by_list (Ok x) many e =
        let len : length x.0 ≡ count = omega (arith, many x.0 x.1 refl) in
        let same = ok_is {E = ℕ} (before ++ x.0, x.1) (all, after) e in
        ap Ok (pairs_same (length x.0) count (before ++ x.0) all x.1 after len
        (ap (λ (y : List LeafTerm × List ℕ). y.0) same) (ap (λ (y : List LeafTerm × List ℕ). y.1) same))
    by_list (Err left) many e = absurd (cc)

-- ---- nodes behind others

-- the tree with one more node, whose terms are among those given
abbrev pub grown : PlainTree → Node × List LeafTerm → PlainTree
grown tree x = record { nodes = tree.nodes ++ x.0 ∷ []; terms = x.1 }

-- two trees of the same nodes and terms
tree_is : (ns ms : List Node) (ts us : List LeafTerm) → ns ≡ ms → ts ≡ us
    → (let t : PlainTree = record { nodes = ns; terms = ts } in t) ≡ record { nodes = ms; terms = us }
tree_is ns ms ts us same others = cc

-- one more node is read
abbrev pub grown_at : PlainTree → List ℕ → Read PlainTree
grown_at tree = mapped_at (grown tree) (node_behind tree.terms)

-- the terms with those of one more node
terms_with-append : (before : List LeafTerm) (whole : TreeNode) → terms_with before whole ≡ before ++ terms_of whole
terms_with-append before (split var at) = sym (append-nil before)
terms_with-append before (ne_split atom) = sym (append-nil before)
terms_with-append before (combo own) = refl
terms_with-append before (fixed atom) = sym (append-nil before)
terms_with-append before empty = sym (append-nil before)

-- the tree of one more node
grown-tree : (some : List TreeNode) (whole : TreeNode)
    → grown (tree_of some) (parted (flat_map terms_of some) whole) ≡ tree_of (some ++ whole ∷ [])
grown-tree some whole =
    let nodes : map node_of some ++ node_of whole ∷ [] ≡ map node_of (some ++ whole ∷ []) =
    sym (map-append node_of some (whole ∷ [])) in
    let terms : terms_with (flat_map terms_of some) whole ≡ flat_map terms_of (some ++ whole ∷ []) =
    terms_with-append (flat_map terms_of some) whole
    ∙ ap (λ (ts : List LeafTerm). flat_map terms_of some ++ ts) (sym (append-nil (terms_of whole)))
    ∙ sym (flat_map-append terms_of some (whole ∷ [])) in
    tree_is _ _ _ _ nodes terms

-- nodes read into a tree are those that are read with their terms
pub grown-nodes : (n : ℕ) (some : List TreeNode) (bytes : List ℕ)
    → repeat grown_at n (tree_of some) bytes ≡ mapped_at tree_of (repeat (pushed_at (λ b. node_at)) n some) bytes
unfolding repeat node_behind
grown-nodes zero some bytes = refl
grown-nodes (suc n) some bytes = by_node (node_at bytes) (λ x. grown-nodes n (some ++ x.0 ∷ []) x.1)
  where
    by_node : (r : Read TreeNode)
        → ((x : TreeNode × List ℕ) → repeat grown_at n (tree_of (some ++ x.0 ∷ [])) x.1
        ≡ mapped_at tree_of (repeat (pushed_at (λ b. node_at)) n (some ++ x.0 ∷ [])) x.1)
        → (((r >>= seen (parted (flat_map terms_of some))) >>= seen (grown (tree_of some))) >>= λ x. repeat grown_at n x.0 x.1)
        ≡ (((r >>= push some) >>= λ x. repeat (pushed_at (λ b. node_at)) n x.0 x.1) >>= seen tree_of)
    by_node (Ok x) others =
        ap (λ (t : PlainTree). repeat grown_at n t x.1) (grown-tree some x.0) ∙ others x
    by_node (Err left) others = refl

-- ---- the loop over nodes

-- the tree of these nodes and terms
abbrev tree : List Node → List LeafTerm → PlainTree
tree nodes terms = record { nodes = nodes; terms = terms }

-- all nodes, read into a tree
abbrev all_grown : ℕ → List ℕ → Read PlainTree
all_grown count bytes = repeat grown_at count (tree [] []) bytes

-- one more node
pub grown-goes_on : (count i : ℕ) (nodes : List Node) (terms : List LeafTerm) (node : Node) (more : List LeafTerm)
    (rest after : List ℕ) (total : Read PlainTree) → i < count → node_behind terms rest ≡ Ok ((node, more), after)
    → repeat grown_at (count - i) (tree nodes terms) rest ≡ total
    → repeat grown_at (count - (i + 1)) (tree (nodes ++ node ∷ []) more) after ≡ total
grown-goes_on count i nodes terms node more rest after total lt is so_far =
    goes_on grown_at count i (tree nodes terms) (tree (nodes ++ node ∷ []) more) rest after total lt
    (step_on (node_behind terms rest) (seen (grown (tree nodes terms))) ((node, more), after) is) so_far

-- the tree of all nodes is that of the nodes as they are read with their terms
trees_same : (count : ℕ) (bytes : List ℕ) → all_grown count bytes ≡ mapped_at tree_of (list_at (λ b. node_at) count) bytes
trees_same count bytes = grown-nodes count [] bytes

-- a node that failed
pub grown-ends : (fault : ReadFault) (count i : ℕ) (nodes : List Node) (terms : List LeafTerm) (rest bytes : List ℕ)
    → i < count → Fails fault (node_behind terms rest)
    → repeat grown_at (count - i) (tree nodes terms) rest ≡ all_grown count bytes
    → Fails fault (mapped_at tree_of (list_at (λ b. node_at) count) bytes)
grown-ends fault count i nodes terms rest bytes lt fails so_far =
    ends grown_at fault count i (tree nodes terms) rest _ lt
    (fails_on (node_behind terms rest) (seen (grown (tree nodes terms))) fault fails) (so_far ∙ trees_same count bytes)

-- no node more
pub grown-is_done : (count i : ℕ) (nodes : List Node) (terms : List LeafTerm) (rest bytes : List ℕ) → count ≤ i
    → repeat grown_at (count - i) (tree nodes terms) rest ≡ all_grown count bytes
    → mapped_at tree_of (list_at (λ b. node_at) count) bytes ≡ Ok (tree nodes terms, rest)
grown-is_done count i nodes terms rest bytes le so_far =
    is_done grown_at count i (tree nodes terms) rest _ le (so_far ∙ trees_same count bytes)
