use Rattle.std.proofs.Common.{◌≡◌, ℕ, ap, sym, ◌∙◌}
use Rattle.std.proofs.lemmas.Bool.Decides.{Decides-eqb}
use Rattle.slicer.specs.declared.var_set.VarSet.{VarSet}
use Rattle.slicer.specs.Linked.{alone}
use Rattle.slicer.specs.VarSets.{Has}
use Rattle.slicer.proofs.ChainLemmas.{Chain-append}
use Rattle.slicer.proofs.SpreadLemmas.{IsReached-closed}
use Rattle.slicer.proofs.spread.spread.Goals as goal

pub loop-next-init : goal.loop-next-init
loop-next-init c = record { keeps = λ v has. has; only = λ v has. (v, has, alone) }

pub loop-next-preserved : goal.loop-next-preserved
loop-next-preserved c =
    let sets = c.args.sets.now in
    let so_far = c.loop-next.invariant in
    let grown = c.absorb-next.ensures in
    record {
      keeps = λ v has. grown.keeps v (so_far.keeps v has);
      only = λ v has.
          let last = grown.only v has in
          let first = so_far.only last.0 last.1 in
          (first.0, first.1, Chain-append Has sets first.2 last.2);
    }

pub returns-then-eq : goal.returns-then-eq
returns-then-eq c v =
    let sets = c.args.sets.now in
    let reached = c.loop-next.reached in
    let same : c.absorb-next.result ≡ reached = ap (λ (n : ℕ). let set : VarSet =
    record {
      bits =
          n;
    } in set) ((Decides-eqb c.absorb-next.result.bits reached.bits).0 (sym c.eq.ensures ∙ c.if-eq.true)) in (
      c.loop-next.invariant.only v,
      λ joined. IsReached-closed sets c.args.first reached
          (rw same at c.absorb-next.ensures.all) c.loop-next.invariant.keeps v joined,
    )
