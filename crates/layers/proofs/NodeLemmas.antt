-- The nodes of layers, one after another, and the steps that a search through them takes.
use Rattle.std.proofs.Common.{◌≡◌, ℕ, ◌+◌, ◌*◌, ◌-◌, ◌<◌, ◌≤◌, ◌∙◌, List, [], ◌∷◌, length, take, drop, get_or}
use Rattle.std.proofs.Common.{arith, refl, sym, ap, subst, add-mul}
use Rattle.std.proofs.lemmas.List.{drop_more, length-take, get_or-take}
use Rattle.std.proofs.Math.Seq.{drop-length}
use Rattle.std.proofs.Math.Nat.{mul-le-mul_right}
use Rattle.lin_model.specs.KeyAtom.{PlainKeyAtom}
use Rattle.cert_check.specs.declared.entry.Entry.{Entry}
use Rattle.cert_check.specs.Decides.{Decides, NoneDecides}
use Rattle.layers.specs.Layers.{joined}
use Rattle.layers.specs.Tries.{LayerHasNodes, LayersHaveNodes}
use Rattle.layers.proofs.JoinLemmas.{at_layer, both_short}
use Rattle.layers.proofs.FirstLemmas.{none_at}

-- behind the last layer there is none
nothing_left : (layers : List (List Entry)) (i : ℕ) → length layers ≤ i → i ≤ length layers → drop i layers ≡ []
nothing_left layers i last within =
    let end : i ≡ length layers = omega arith in
    ap (λ (j : ℕ). drop j layers) end ∙ drop-length layers

-- the nodes of the layers that were searched, and those to come: the steps so far are at most so many at each of the first
pub record Spent (layers : List (List Entry)) (i nodes each before steps : ℕ) : Type 0 where
  pub done : ℕ
  pub left : ℕ
  pub to_come : LayersHaveNodes (drop i layers) left
  pub together : nodes ≡ done + left
  pub cost : steps ≤ before + done * each

-- before the first layer
pub spent_none : (layers : List (List Entry)) (nodes each steps : ℕ) → LayersHaveNodes layers nodes
    → Spent layers 0 nodes each steps steps
spent_none layers nodes each steps have = record {
  done = 0;
  left = nodes;
  to_come = have;
  together = omega arith;
  cost = omega arith;
}

-- one layer more
pub spent_more : (layers : List (List Entry)) (i nodes each before mid after : ℕ) (layer it : List Entry)
    → i < length layers → layer ≡ get_or layers i layer → it ≡ layer → Spent layers i nodes each before mid
    → ((here : ℕ) → LayerHasNodes it here → after ≤ mid + here * each) → Spent layers (i + 1) nodes each before after
spent_more layers i nodes each before mid after layer it lt is read spent steps =
    let parts : LayersHaveNodes (layer ∷ drop (i + 1) layers) spent.left =
    subst (λ (ls : List (List Entry)). LayersHaveNodes ls spent.left)
    (drop_more layers i layer lt ∙ ap (λ (l : List Entry). l ∷ drop (i + 1) layers) (sym is)) spent.to_come in
    let here = steps parts.0 (subst (λ (l : List Entry). LayerHasNodes l parts.0) (sym read) parts.2) in
    record {
      done = spent.done + parts.0;
      left = parts.1;
      to_come = parts.3;
      together = omega (arith, spent.together, parts.4);
      cost = omega (arith, spent.cost, here, add-mul spent.done parts.0 each);
    }

-- what was spent is no more than at all nodes
pub spent_in_all : (layers : List (List Entry)) (i nodes each before after : ℕ) → Spent layers i nodes each before after
    → after ≤ before + nodes * each
spent_in_all layers i nodes each before after spent =
    let fewer : spent.done ≤ nodes = omega (arith, spent.together) in
    omega (arith, spent.cost, mul-le-mul_right each fewer)

-- the nodes so far with those of one layer, and those to come
pub nodes_more : (layers : List (List Entry)) (i done here : ℕ) (layer it : List Entry) → i < length layers
    → layer ≡ get_or layers i layer → it ≡ layer → LayerHasNodes it here
    → ((left : ℕ) → LayersHaveNodes (drop i layers) left → LayersHaveNodes layers (done + left))
    → (left : ℕ) → LayersHaveNodes (drop (i + 1) layers) left → LayersHaveNodes layers (done + here + left)
nodes_more layers i done here layer it lt is read has rest left to_come =
    subst (LayersHaveNodes layers) (let same : done + (here + left) ≡ done + here + left = omega arith in same)
    (rest (here + left) (subst (λ (ls : List (List Entry)). LayersHaveNodes ls (here + left))
    (sym (drop_more layers i layer lt ∙ ap (λ (l : List Entry). l ∷ drop (i + 1) layers) (sym is)))
    (here, left, subst (λ (l : List Entry). LayerHasNodes l here) read has, to_come, refl)))

-- behind the last layer nothing is to come
pub nodes_all : (layers : List (List Entry)) (i done : ℕ) → length layers ≤ i → i ≤ length layers
    → ((left : ℕ) → LayersHaveNodes (drop i layers) left → LayersHaveNodes layers (done + left)) → LayersHaveNodes layers done
nodes_all layers i done last within rest =
    subst (LayersHaveNodes layers) (let same : done + 0 ≡ done = omega arith in same)
    (rest 0 (subst (λ (ls : List (List Entry)). LayersHaveNodes ls 0) (sym (nothing_left layers i last within)) refl))

-- where none of all entries before a place decides, none of a layer's does that stand before it
pub none_before : (layers : List (List Entry)) (i start n m : ℕ) (layer it : List Entry) (q : List PlainKeyAtom)
    → i < length layers → layer ≡ get_or layers i layer → it ≡ layer → start ≡ length (joined (take i layers))
    → m ≡ n - start → NoneDecides (take n (joined layers)) q → NoneDecides (take m it) q
none_before layers i start n m layer it q lt is read front m_is none k d within decides =
    let in_it : k < length it = omega (arith, length-take m it) in
    let before : k < m = omega (arith, length-take m it) in
    let in_layer : k < length layer = omega (arith, ap (λ (es : List Entry). length es) read) in
    let there : get_or (joined layers) (start + k) d ≡ get_or layer k d =
    ap (λ (j : ℕ). get_or (joined layers) (j + k) d) front ∙ at_layer layers i layer lt is k d in_layer in
    let short = both_short layers i layer lt is in
    none_at n (joined layers) q none (start + k) d (omega arith) (omega arith)
    (subst (λ (e : Entry). Decides e q) (sym there)
    (subst (λ (es : List Entry). Decides (get_or es k d) q) read
    (subst (λ (e : Entry). Decides e q) (get_or-take m it k d before) decides)))
