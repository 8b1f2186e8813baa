-- From what a search came to, to evidence.
use Rattle.std.proofs.Common.{◌≡◌, ◌∙◌, ℕ, ◌+◌, ◌-◌, ◌*◌, ℤ, List, [], ◌++◌, length, take, ap, refl, sym, subst, arith}
use Rattle.lin_model.specs.Key.{IsKey}
use Rattle.lin_model.specs.KeyAtom.{PlainKeyAtom}
use Rattle.refutation.specs.Reading.{Refutes}
use Rattle.refutation.specs.Tree.{PlainTree}
use Rattle.unsat_core.specs.Cores.{IsCoreOf}
use Rattle.unsat_core.specs.Renumbered.{renumbered}
use Rattle.refutation.specs.declared.leaf.LeafTerm.{LeafTerm}
use Rattle.refutation.specs.declared.node.Node.{Node}
use Rattle.box_solver.specs.Answer.{Answers, IsAnswer, IsRefutingTree}
use Rattle.box_solver.specs.Region.{Adds, PlainTreeRegion, TrailItem}
use Rattle.box_solver.specs.declared.found.Found.{Found}
use Rattle.cert_check.specs.declared.entry.Entry.{Entry}
use Rattle.cert_check.specs.declared.entry.Entry.TheVariants.{Sat, Unsat}
use Rattle.cert_check.specs.Decides.{Decides, IsChecked}
use Rattle.cert_check.specs.Laws.{EntriesDecideTheirKeys}
use Rattle.cert_check.specs.Shrunk.{IsShrunk}
use Rattle.shared_store.specs.Solving.{IsBlank, HoldsTree, IsEntryFor, IsModelWithin}

-- the entry of a key and a model to which a search came
pub entry_by_model : EntriesDecideTheirKeys → (budget : ℕ) (key : List PlainKeyAtom) (point : List ℤ) → IsKey key
    → IsModelWithin budget key point → IsEntryFor budget key (Sat (record { key = key; point = point }))
entry_by_model law budget key point is within = record {
  checked = record { key = is; evidence = record { one_each = within.tree.one_each; holds = within.tree.holds } };
  decides = law (Sat (record { key = key; point = point }));
  found = (refl, within);
}

-- the tree of a core refutes it
pub core_refuted : (key : List PlainKeyAtom) (tree : PlainTree) (core : List PlainKeyAtom) (core_tree : PlainTree)
    → IsCoreOf key tree core core_tree → Refutes core core_tree.nodes core_tree.terms
core_refuted key tree core core_tree is =
    subst (λ (t : PlainTree). Refutes core t.nodes t.terms) (sym is.adjusted)
    (subst (λ (atoms : List PlainKeyAtom). Refutes atoms (renumbered is.choice tree).nodes
    (renumbered is.choice tree).terms) (sym is.atoms) is.least.refutes)

-- the entry of a core of a key, by a tree that a search built
pub entry_by_core : (budget : ℕ) (key : List PlainKeyAtom) (tree : PlainTree) (entry : Entry)
    → IsShrunk key tree entry → IsChecked entry → Decides entry key → IsRefutingTree key budget tree.nodes tree.terms
    → IsEntryFor budget key entry
entry_by_core budget key tree (Sat e) shrunk checked decides refuting = absurd shrunk
entry_by_core budget key tree (Unsat e) shrunk checked decides refuting = record {
  checked = checked;
  decides = decides;
  found = record { nodes = tree.nodes; terms = tree.terms; tree = refuting; core = shrunk };
}

-- what was added to a blank region is all that it has
nodes_of_blank : (budget : ℕ) (old new : PlainTreeRegion) (nodes : List Node) (terms : List LeafTerm)
    → IsBlank budget old → Adds old new nodes terms → new.nodes ≡ nodes
nodes_of_blank budget old new nodes terms blank adds =
    adds.nodes_after ∙ ap (λ (t : PlainTreeRegion). t.nodes ++ nodes) blank

terms_of_blank : (budget : ℕ) (old new : PlainTreeRegion) (nodes : List Node) (terms : List LeafTerm)
    → IsBlank budget old → Adds old new nodes terms → new.terms ≡ terms
terms_of_blank budget old new nodes terms blank adds =
    adds.terms_after ∙ ap (λ (t : PlainTreeRegion). t.terms ++ terms) blank

-- so the answer is that of the region
pub answer_of_blank : (key : List PlainKeyAtom) (budget : ℕ) (old new : PlainTreeRegion) (found : Found)
    → IsBlank budget old → Answers key budget old new found → IsAnswer key budget found new.nodes new.terms
answer_of_blank key budget old new found blank answers =
    subst (λ (ns : List Node). IsAnswer key budget found ns new.terms)
    (sym (nodes_of_blank budget old new answers.nodes answers.terms blank answers.adds))
    (subst (λ (ts : List LeafTerm). IsAnswer key budget found answers.nodes ts)
    (sym (terms_of_blank budget old new answers.nodes answers.terms blank answers.adds)) answers.answer)

-- and its tree stands there
pub tree_of_blank : (key : List PlainKeyAtom) (budget : ℕ) (old new : PlainTreeRegion) (found : Found)
    → IsBlank budget old → Answers key budget old new found → HoldsTree budget new
tree_of_blank key budget old new found blank answers =
    let nodes = nodes_of_blank budget old new answers.nodes answers.terms blank answers.adds in
    let terms = terms_of_blank budget old new answers.nodes answers.terms blank answers.adds in
    record {
      nodes = omega
          (arith, answers.adds.nodes_less, ap (length {A = Node}) nodes, ap (λ (r : PlainTreeRegion). r.spare_nodes) blank);
      terms = omega (
        arith,
        answers.adds.terms_less,
        ap (length {A = LeafTerm}) terms,
        ap (λ (r : PlainTreeRegion). r.spare_terms) blank,
      );
      no_trail = answers.no_trail;
      spare_trail = answers.spare_trail ∙ ap (λ (r : PlainTreeRegion). r.spare_trail) blank;
    }

-- a region by its parts
abbrev region_of : List Node → List LeafTerm → List TrailItem → ℕ → ℕ → ℕ → PlainTreeRegion
region_of nodes terms trail spare_nodes spare_terms spare_trail = record {
  nodes = nodes;
  terms = terms;
  trail = trail;
  spare_nodes = spare_nodes;
  spare_terms = spare_terms;
  spare_trail = spare_trail;
}

-- cut back to where nothing stood, it is blank again
pub blank_again : (budget : ℕ) (r : PlainTreeRegion) (n t : ℕ) → n ≡ 0 → t ≡ 0 → HoldsTree budget r → IsBlank budget
    (record r {
      nodes = take n r.nodes;
      terms = take t r.terms;
      spare_nodes = r.spare_nodes + (length r.nodes - n);
      spare_terms = r.spare_terms + (length r.terms - t);
    })
blank_again budget r n t no_nodes no_terms h =
    ap (λ m. region_of (take m r.nodes) (take t r.terms) r.trail (r.spare_nodes + (length r.nodes - n))
    (r.spare_terms + (length r.terms - t)) r.spare_trail) no_nodes
    ∙ ap (λ m. region_of [] (take m r.terms) r.trail (r.spare_nodes + (length r.nodes - n))
    (r.spare_terms + (length r.terms - t)) r.spare_trail) no_terms
    ∙ ap (λ (us : List TrailItem). region_of [] [] us (r.spare_nodes + (length r.nodes - n))
    (r.spare_terms + (length r.terms - t)) r.spare_trail) h.no_trail
    ∙ ap (λ m. region_of [] [] [] m (r.spare_terms + (length r.terms - t)) r.spare_trail) spare_nodes
    ∙ ap (λ m. region_of [] [] [] (2 * budget + 1) m r.spare_trail) spare_terms
    ∙ ap (region_of [] [] [] (2 * budget + 1) (8 * (budget + 1))) h.spare_trail
  where
    spare_nodes : r.spare_nodes + (length r.nodes - n) ≡ 2 * budget + 1
    spare_nodes = omega (arith, no_nodes, h.nodes)

    spare_terms : r.spare_terms + (length r.terms - t) ≡ 8 * (budget + 1)
    spare_terms = omega (arith, no_terms, h.terms)
