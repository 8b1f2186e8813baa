-- Loops that write what a file recovers to.
use Rattle.std.proofs.Common.{◌≡◌, ℕ, ◌+◌, ◌<◌, List, [], ◌++◌, length, drop, take, get_or, ℤ, ap, refl, codes, decimal}
use Rattle.std.proofs.Common.{◌∙◌, append_assoc, Result, Ok, Err}
use Rattle.std.specs.Prelude.{OnOk}
use Rattle.lin_text.specs.Spelling.{integer, line}
use Rattle.refutation.specs.declared.leaf.LeafTerm.{LeafTerm}
use Rattle.refutation.specs.declared.node.Node.{Node}
use Rattle.cert_check.specs.declared.entry.Entry.{Entry}
use Rattle.green_cli.specs.DumpText.{entries_text, entry_text, node_text, nodes_text, own_terms, point_text}
use Rattle.green_cli.proofs.TextLemmas.{drop_at}

pub point_step : (values : List ℤ) (i : ℕ) (value : ℤ) → i < length values → value ≡ get_or values i value
    → point_text i (drop i values) ≡ (codes " v" ++ decimal i ++ codes "=" ++ integer value)
    ++ point_text (i + 1) (drop (i + 1) values)
unfolding point_text
point_step values i value within is = rw (drop_at values i value within is) refl

pub point_end : (var : ℕ) (values : List ℤ) → values ≡ [] → point_text var values ≡ []
unfolding point_text
point_end var values e = ap (point_text var) e

pub entries_step : (es : List Entry) (i : ℕ) (e : Entry) → i < length es → e ≡ get_or es i e
    → entries_text i (drop i es) ≡ entry_text i e ++ entries_text (i + 1) (drop (i + 1) es)
unfolding entries_text
entries_step es i e within is = rw (drop_at es i e within is) refl

pub entries_end : (place : ℕ) (es : List Entry) → es ≡ [] → entries_text place es ≡ []
unfolding entries_text
entries_end place es e = ap (entries_text place) e

-- the line of a node whose own terms these are
abbrev pub node_line : Node → List LeafTerm → List ℕ
node_line node terms = line (codes "node " ++ node_text node terms)

pub nodes_step : (nodes : List Node) (terms : List LeafTerm) (i : ℕ) (node : Node) → i < length nodes
    → node ≡ get_or nodes i node → nodes_text (drop i nodes) terms
    ≡ node_line node (take (own_terms node) terms) ++ nodes_text (drop (i + 1) nodes) (drop (own_terms node) terms)
unfolding nodes_text
nodes_step nodes terms i node within is = rw (drop_at nodes i node within is) refl

-- two texts in a row, where the second call answers with the whole
pub on_ok_joined : {T E : Type 0} (r : Result T E) (out mid end front back : List ℕ) → mid ≡ out ++ front
    → OnOk r (end ≡ mid ++ back) → OnOk r (end ≡ out ++ (front ++ back))
on_ok_joined (Ok t) out mid end front back first second =
    second ∙ (ap (λ (xs : List ℕ). xs ++ back) first ∙ append_assoc out front back)
on_ok_joined (Err e) out mid end front back first second = tt

pub nodes_end : (nodes : List Node) (terms : List LeafTerm) → nodes ≡ [] → nodes_text nodes terms ≡ []
unfolding nodes_text
nodes_end nodes terms e = ap (λ (ns : List Node). nodes_text ns terms) e
