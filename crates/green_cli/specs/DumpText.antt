-- The text of what a file recovers to.
use Rattle.std.specs.Prelude.{◌≢◌, ℕ, ◌+◌, ℤ, Option, Some, None, List, [], ◌∷◌, ◌++◌, take, drop, decimal, codes, flat_map}
use Rattle.lin_model.specs.KeyAtom.{PlainKeyAtom}
use Rattle.lin_text.specs.KeyAtoms.{key_atom_text}
use Rattle.lin_text.specs.Spelling.{line, integer}
use Rattle.refutation.specs.declared.leaf.LeafTerm.{LeafTerm}
use Rattle.refutation.specs.declared.leaf.On.{On}
use Rattle.refutation.specs.declared.leaf.On.TheVariants.{Atom as OnAtom, Side as OnSide}
use Rattle.refutation.specs.declared.node.Node.{Node}
use Rattle.refutation.specs.declared.node.Node.TheVariants.{Split, NeSplit, Combo, Fixed, Empty, Left}
use Rattle.cert_check.specs.declared.entry.Entry.{Entry}
use Rattle.cert_check.specs.declared.entry.Entry.TheVariants.{Sat, Unsat}
use Rattle.cert_check.specs.declared.refused.Refused.{Refused}
use Rattle.cert_check.specs.declared.refused.Refused.TheVariants.{PointFails, NodeFails, TreeEnds, TreeGoesOn}
use Rattle.entry_codec.specs.declared.fault.FrameEnd.TheVariants.{Ended, Short, TooLong, BadBody, Uncertified, NoMemory}
use Rattle.journal.specs.declared.recovered.Recovered.{Recovered}
use Rattle.journal.specs.declared.recovered.Stop.{Stop}
use Rattle.journal.specs.declared.recovered.Stop.TheVariants.{Frame, TooMany}

-- ---- nodes

-- what a term is on: an atom or a side, with its number from 0
unfoldable pub on_text : On → List ℕ
on_text (OnAtom number) = codes "a" ++ decimal number
on_text (OnSide number) = codes "s" ++ decimal number

-- a term of a combination
unfoldable pub term_text : LeafTerm → List ℕ
term_text t = codes " " ++ integer t.factor ++ codes "*" ++ on_text t.on

-- a node; a combination with its own terms
unfoldable pub node_text : Node → List LeafTerm → List ℕ
node_text (Split var at) terms = codes "split v" ++ decimal var ++ codes " " ++ integer at
node_text (NeSplit atom) terms = codes "nesplit a" ++ decimal atom
node_text (Combo count) terms = codes "combo" ++ flat_map term_text terms
node_text (Fixed atom) terms = codes "fixed a" ++ decimal atom
node_text Empty terms = codes "empty"
node_text Left terms = codes "left"

-- how many terms are a node's own
abbrev pub own_terms : Node → ℕ
own_terms (Combo count) = count
own_terms _ = 0

-- the nodes of a tree, a line each; each combination takes the terms that come next
unfoldable pub nodes_text : List Node → List LeafTerm → List ℕ
nodes_text [] terms = []
nodes_text (node ∷ nodes) terms =
    line (codes "node " ++ node_text node (take (own_terms node) terms)) ++ nodes_text nodes (drop (own_terms node) terms)

-- ---- entries

-- the values of a point, those of `v0`, `v1` and so on; the first of these is of this variable
unfoldable pub point_text : ℕ → List ℤ → List ℕ
point_text var [] = []
point_text var (value ∷ values) =
    codes " v" ++ decimal var ++ codes "=" ++ integer value ++ point_text (var + 1) values

-- an atom, behind a word
abbrev pub atom_line : List ℕ → PlainKeyAtom → List ℕ
atom_line word a = line (word ++ codes " " ++ key_atom_text a)

-- an entry, with its place
unfoldable pub entry_text : ℕ → Entry → List ℕ
entry_text place (Sat e) =
    line (codes "entry " ++ decimal place ++ codes " sat" ++ point_text 0 e.point)
    ++ flat_map (atom_line (codes "key")) e.key
entry_text place (Unsat e) =
    line (codes "entry " ++ decimal place ++ codes " unsat")
    ++ flat_map (atom_line (codes "core")) e.key ++ nodes_text e.tree.nodes e.tree.terms

-- entries, the first of them at this place
unfoldable pub entries_text : ℕ → List Entry → List ℕ
entries_text place [] = []
entries_text place (e ∷ es) = entry_text place e ++ entries_text (place + 1) es

-- ---- the end

-- why evidence is refused; atoms and nodes count from 0
unfoldable pub refused_text : Refused → List ℕ
refused_text (PointFails atom) = codes "point " ++ decimal atom
refused_text (NodeFails node) = codes "node " ++ decimal node
refused_text TreeEnds = codes "tree-ends"
refused_text TreeGoesOn = codes "tree-goes-on"

-- why the entries end before the file does
unfoldable pub stop_text : Stop → List ℕ
stop_text (Frame Ended) = []
stop_text (Frame Short) = codes "short"
stop_text (Frame TooLong) = codes "too-long"
stop_text (Frame (BadBody place)) = codes "bad-body " ++ decimal place
stop_text (Frame (Uncertified refused)) = codes "uncertified " ++ refused_text refused
stop_text (Frame NoMemory) = []
stop_text TooMany = codes "too-many"

-- the last line: where the entries end, and why, if the file goes on
unfoldable pub end_text : ℕ → Option Stop → List ℕ
end_text at None = line (codes "end " ++ decimal at)
end_text at (Some stop) = line (codes "stopped " ++ decimal at ++ codes " " ++ stop_text stop)

-- the whole text
unfoldable pub dump_text : Recovered → List ℕ
dump_text found =
    line (codes "green dump 1") ++ entries_text 0 found.entries.items ++ end_text found.end_at found.stopped

-- a reason that a file can have: bytes that stand there aren't none, and want of memory is no reason
abbrev pub IsReason : Option Stop → Type 0
IsReason stopped = (stopped ≢ Some (Frame Ended)) × (stopped ≢ Some (Frame NoMemory))
