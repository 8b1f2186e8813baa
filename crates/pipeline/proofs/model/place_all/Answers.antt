use Rattle.std.proofs.Common.{◌≡◌, ◌<◌, List, length, get_or, take, arith, sym, subst, ◌∙◌}
use Rattle.std.specs.List.{AllZip}
use Rattle.std.proofs.lemmas.List.{take_all}
use Rattle.std.proofs.lemmas.Slice.Zip.{AllZip-long}
use Rattle.lin_model.specs.Lists.{AllZip-at}
use Rattle.cert_check.specs.declared.reply.Reply.{Reply}
use Rattle.pipeline.specs.declared.slice_keys.SliceKey.{SliceKey}
use Rattle.pipeline.specs.Asking.{HasWidePoint, IsPlaced}
use Rattle.pipeline.proofs.PlacedLemmas.{placed_next}
use Rattle.pipeline.proofs.model.place_all.Goals as goal

pub bounds-replies-s : goal.bounds-replies-s
bounds-replies-s c =
    omega (arith, c.loop-s-test.true, AllZip-long HasWidePoint c.args.slices.now c.args.replies.now c.requires.wide)

pub place_reply-requires-clause-wide : goal.place_reply-requires-clause-wide
place_reply-requires-clause-wide c =
    subst (λ (slice : SliceKey). HasWidePoint slice c.index-replies-s.result) (sym c.index-slices-s.is)
    (subst (λ (reply : Reply). HasWidePoint (get_or c.args.slices.now c.loop-s.s c.index-slices-s.result) reply)
    (sym c.index-replies-s.is)
    (AllZip-at HasWidePoint c.args.slices.now c.args.replies.now c.loop-s.s c.index-slices-s.result
    c.index-replies-s.result c.requires.wide c.loop-s-test.true))

pub loop-s-preserved : goal.loop-s-preserved
loop-s-preserved c =
    let within : c.loop-s.s < length c.args.replies.now =
    omega (arith, c.loop-s-test.true, AllZip-long HasWidePoint c.args.slices.now c.args.replies.now c.requires.wide) in
    record {
      long = c.place_reply.ensures.length ∙ c.loop-s.invariant.long;
      placed = placed_next c.loop-s.values c.place_reply.new.values c.args.slices.now c.args.replies.now c.loop-s.s
          c.index-slices-s.result c.index-replies-s.result c.requires.apart c.loop-s-test.true c.index-slices-s.is
          within c.index-replies-s.is c.loop-s.invariant.placed c.place_reply.ensures.placed
          c.place_reply.ensures.others;
    }

pub returns-clause-placed : goal.returns-clause-placed
returns-clause-placed c =
    let all : length c.args.slices.now ≡ c.loop-s.s = omega (arith, c.loop-s-test.false, c.loop-s.auto.s-end) in
    let long : length c.args.replies.now ≡ length c.args.slices.now =
    AllZip-long HasWidePoint c.args.slices.now c.args.replies.now c.requires.wide in
    subst (λ (slices : List SliceKey). AllZip (IsPlaced c.loop-s.values) slices c.args.replies.now)
    (take_all c.loop-s.s c.args.slices.now (omega arith))
    (subst (λ (replies : List Reply). AllZip (IsPlaced c.loop-s.values) (take c.loop-s.s c.args.slices.now) replies)
    (take_all c.loop-s.s c.args.replies.now (omega arith)) c.loop-s.invariant.placed)
