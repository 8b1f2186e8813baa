-- Some reply to each key is what an ask of a ready seat promises, and leaves such a seat.
use Rattle.std.proofs.Common.{inl, inr, ℕ, Option, Some}
use Rattle.std.proofs.Common.{None, List, length, arith, sym, subst}
use Rattle.std.proofs.lemmas.Bool.{cases_lt}
use Rattle.lin_model.specs.KeyAtom.{PlainKeyAtom}
use Rattle.lin_model.specs.Key.{IsKey}
use Rattle.refutation.specs.declared.leaf.LeafTerm.{LeafTerm}
use Rattle.refutation.specs.declared.node.Node.{Node}
use Rattle.refutation.specs.Boxed.{IsBoxed}
use Rattle.refutation.specs.Tree.{PlainTree}
use Rattle.box_solver.specs.declared.found.Found.{Found}
use Rattle.box_solver.specs.declared.found.Found.TheVariants.{Model, Refuted, Spent as SearchSpent}
use Rattle.box_solver.specs.Answer.{IsAnswer, IsRefutingTree}
use Rattle.box_solver.specs.Laws.{EachHasAnswer}
use Rattle.cert_check.specs.declared.entry.Entry.{Entry}
use Rattle.cert_check.specs.declared.entry.Entry.TheVariants.{Sat, Unsat}
use Rattle.cert_check.specs.Asks.{IsReady}
use Rattle.cert_check.specs.Decides.{NoneDecides, IsFirstDeciding}
use Rattle.cert_check.specs.Laws.{EntriesDecideTheirKeys, FirstPlacesExist}
use Rattle.cert_check.specs.Machine.{max_entries}
use Rattle.cert_check.specs.Shrunk.{ShrunkEntriesDecide}
use Rattle.cert_check.specs.Seats.{SeatState, entries_of}
use Rattle.unsat_core.specs.Laws.{ChosenAreKeys, RefutedKeysHaveCores}
use Rattle.shared_store.specs.Laws.{CanBeSolved, KeysCanBeAsked, KeysCanBeSolved}
use Rattle.shared_store.specs.Solving.{IsEntryFor}
use Rattle.shared_store.proofs.SolvingLemmas.{core_refuted, entry_by_core, entry_by_model}
use Rattle.shared_store.proofs.ReadyLemmas.{by_hit, by_keeping, by_spending, without_room}

-- what the crates below promise
pub record Laws : Type 0 where
  pub own : EntriesDecideTheirKeys
  pub answers : EachHasAnswer
  pub firsts : FirstPlacesExist
  pub cores : RefutedKeysHaveCores
  pub chosen : ChosenAreKeys
  pub shrunk : ShrunkEntriesDecide

module _ (budget : ℕ) (key : List PlainKeyAtom) (seat : SeatState) (ready : IsReady seat) where
  -- where no entry decides the key
  module _ (none : NoneDecides (entries_of seat) key) where
    -- an entry that decides it is kept or turned away
    by_entry : (entry : Entry) → IsEntryFor budget key entry → CanBeSolved budget key seat
    by_entry entry for_key = elim (cases_lt (length (entries_of seat)) max_entries) [
      | inl room ↦ by_keeping budget key seat ready none entry for_key room
      | inr full ↦ without_room budget key seat ready none entry for_key (omega (arith, full, ready.few))
    ]

    -- the entry of a core of the key
    by_core : Laws → IsKey key → (tree : PlainTree) → IsRefutingTree key budget tree.nodes tree.terms
        → CanBeSolved budget key seat
    by_core laws is_key tree refuting =
        let has = laws.cores key tree refuting.refutes in
        let entry : Entry = Unsat (record { key = has.core; tree = has.core_tree }) in
        by_entry entry
        (entry_by_core budget key tree entry has.is
        (record {
          key = subst IsKey (sym has.is.atoms) (laws.chosen key has.is.choice is_key);
          evidence = core_refuted key tree has.core has.core_tree has.is;
        })
        (laws.shrunk key tree entry has.is) refuting)

    -- whatever the search answers
    by_search : Laws → IsKey key → (found : Found) (nodes : List Node) (terms : List LeafTerm)
        → IsAnswer key budget found nodes terms → CanBeSolved budget key seat
    by_search laws is_key (Model point) nodes terms answer =
        let entry : Entry = Sat (record { key = key; point = point.items }) in
        by_entry entry
        (entry_by_model laws.own budget key point.items is_key (record { nodes = nodes; terms = terms; tree = answer }))
    by_search laws is_key Refuted nodes terms answer =
        by_core laws is_key (record { nodes = nodes; terms = terms }) answer
    by_search laws is_key SearchSpent nodes terms answer =
        by_spending budget key seat ready none (record { nodes = nodes; terms = terms }) answer.open_tree

  -- by the first entry that decides the key, or by the search
  by_first : Laws → IsKey key → IsBoxed key → (place : Option ℕ)
      → IsFirstDeciding (entries_of seat) key place → CanBeSolved budget key seat
  by_first laws is_key boxed None none =
      let search = laws.answers key budget is_key boxed in
      by_search none laws is_key search.found search.nodes search.terms search.answer
  by_first laws is_key boxed (Some place) first = by_hit budget key seat ready place first

-- so each key can be asked of each ready seat, and solved
pub each_key_solved : Laws → KeysCanBeSolved
each_key_solved laws budget key seat is_key boxed ready =
    let has_first = laws.firsts (entries_of seat) key in
    by_first budget key seat ready laws is_key boxed has_first.place has_first.first

pub each_key : KeysCanBeSolved → KeysCanBeAsked
each_key solved budget key seat is_key boxed ready =
    let can = solved budget key seat is_key boxed ready in
    record { reply = can.reply; later = can.later; asks = can.asks; ready = can.ready }
