use Rattle.std.proofs.Common.{◌++◌, [], ◌∷◌, take, List, subst, sym}
use Rattle.std.specs.List.{AllZip}
use Rattle.std.proofs.lemmas.List.{take_all}
use Rattle.slicer.specs.Slices.{PlainSlice}
use Rattle.canoniser.specs.Answers.{Canonises}
use Rattle.pipeline.proofs.KeyedLemmas.{zip_push, front_more}
use Rattle.pipeline.proofs.slice_keys.canonise_all.Goals as goal

pub loop-slice-init : goal.loop-slice-init
loop-slice-init c = subst (AllZip (Canonises c.args.query.now) []) (sym c.new-canonicals.ensures.items) tt

pub loop-slice-preserved : goal.loop-slice-preserved
loop-slice-preserved c =
    subst (λ (ss : List PlainSlice). AllZip (Canonises c.args.query.now) ss c.push.new.self.items)
    (sym (front_more c.args.slices.now c.loop-slice.slice-index c.slice-item.result c.loop-slice-test.true
    c.slice-item.is))
    (subst (AllZip (Canonises c.args.query.now)
    (take c.loop-slice.slice-index c.args.slices.now ++ c.slice-item.result ∷ []))
    (sym (c.in_ok-push.ensures {u = tt}).items)
    (zip_push (Canonises c.args.query.now)
    (take c.loop-slice.slice-index c.args.slices.now) c.loop-slice.canonicals.items c.slice-item.result
    c.in_ok-canonise.field-0 c.loop-slice.invariant (c.in_ok-canonise.ensures {u = tt})))

pub returns : goal.returns
returns c = subst (λ (ss : List PlainSlice). AllZip (Canonises c.args.query.now) ss c.loop-slice.canonicals.items)
    (take_all c.loop-slice.slice-index c.args.slices.now c.loop-slice-test.false) c.loop-slice.invariant
