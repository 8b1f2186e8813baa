use Rattle.std.proofs.Common.{◌≡◌, ◌∙◌, ℕ, length, take, ap, arith}
use Rattle.std.proofs.lemmas.Iterator.Adapters.{YieldsList-from_vec}
use Rattle.std.proofs.lemmas.Iterator.Consumers.{YieldsList-turn, YieldsList-end}
use Rattle.std.proofs.lemmas.List.{length_push}
use Rattle.std.proofs.Math.Seq.{take-length}
use Rattle.canoniser.proofs.PartLemmas.{IsPartOf-none, IsPartOf-more_kept, IsPartOf-more_left, StandAtEnd-part}
use Rattle.canoniser.proofs.ImplicationLemmas.{IsCovered, Covers-kept, Covers-left, AllPairs-kept}
use Rattle.canoniser.proofs.implied.without_implied.Goals as goal

pub is_implied-requires : goal.is_implied-requires
is_implied-requires g c =
    let b = c.into_iter-atom-iterator.ensures.into_iter_gives in
    let t = YieldsList-turn (YieldsList-from_vec c.args.atoms.items b.0 (b.1 ∙ c.args.atoms.ok.0)) c.loop-atom.yielded
    c.loop-atom.atom-iterator c.loop-atom.yielded_by c.next.result c.next.new.self c.in-Some.atom c.in-Some.is
    c.next.ensures.steps in
    rw c.deref.ensures.value (StandAtEnd-part c.loop-atom.kept.items c.args.atoms.items
    (length c.loop-atom.yielded) c.in-Some.atom t.0 t.1 c.loop-atom.invariant.part c.requires)

pub loop-atom-init : goal.loop-atom-init
loop-atom-init g c = record {
  can = tt;
  finite = tt;
  part = rw c.new-kept.ensures.items IsPartOf-none;
  covers = λ k d lt. absurd (omega arith);
  apart = λ i j d lt upto. let none = ap length c.new-kept.ensures.items in absurd (omega arith);
}

pub loop-atom-preserved : goal.loop-atom-preserved
loop-atom-preserved g c =
    let b = c.into_iter-atom-iterator.ensures.into_iter_gives in
    let t = YieldsList-turn (YieldsList-from_vec c.args.atoms.items b.0 (b.1 ∙ c.args.atoms.ok.0)) c.loop-atom.yielded
    c.loop-atom.atom-iterator c.loop-atom.yielded_by c.next.result c.next.new.self c.in-Some.atom c.in-Some.is
    c.next.ensures.steps in
    let covered : IsCovered c.loop-atom.kept.items c.in-Some.atom = let found =
    c.is_implied.ensures.0 c.if-not-is_implied.false in rw c.deref.ensures.value at found in
    rw (length_push c.loop-atom.yielded c.in-Some.atom) (record {
      can = tt;
      finite = tt;
      part =
          IsPartOf-more_left c.loop-atom.kept.items c.args.atoms.items
          (length c.loop-atom.yielded) c.in-Some.atom t.0 c.loop-atom.invariant.part;
      covers = Covers-left c.loop-atom.kept.items c.args.atoms.items
          (length c.loop-atom.yielded) c.in-Some.atom t.0 t.1 c.loop-atom.invariant.covers covered;
      apart = c.loop-atom.invariant.apart;
    })

pub loop-atom-preserved-in-Continue-1 : goal.loop-atom-preserved-in-Continue-1
loop-atom-preserved-in-Continue-1 g c =
    let b = c.into_iter-atom-iterator.ensures.into_iter_gives in
    let t = YieldsList-turn (YieldsList-from_vec c.args.atoms.items b.0 (b.1 ∙ c.args.atoms.ok.0)) c.loop-atom.yielded
    c.loop-atom.atom-iterator c.loop-atom.yielded_by c.next.result c.next.new.self c.in-Some.atom c.in-Some.is
    c.next.ensures.steps in
    let uncovered : ¬ IsCovered c.loop-atom.kept.items c.in-Some.atom = λ covered. let yes =
    c.is_implied.ensures.1 (rw c.deref.ensures.value covered) in let no_more =
    c.if-not-is_implied.true in let none : ⊥ = cc in none in
    rw (length_push c.loop-atom.yielded c.in-Some.atom, c.in_ok-push.ensures.items) (record {
      can = tt;
      finite = tt;
      part =
          IsPartOf-more_kept c.loop-atom.kept.items c.args.atoms.items
          (length c.loop-atom.yielded) c.in-Some.atom t.0 t.1 c.loop-atom.invariant.part;
      covers =
          Covers-kept c.loop-atom.kept.items c.args.atoms.items
          (length c.loop-atom.yielded) c.in-Some.atom t.0 t.1 c.loop-atom.invariant.covers;
      apart = AllPairs-kept c.loop-atom.kept.items c.in-Some.atom c.loop-atom.invariant.apart uncovered;
    })

pub returns : goal.returns
returns g c =
    let b = c.into_iter-atom-iterator.ensures.into_iter_gives in
    let e = YieldsList-end (YieldsList-from_vec c.args.atoms.items b.0 (b.1 ∙ c.args.atoms.ok.0)) c.loop-atom.yielded
    c.loop-atom.atom-iterator c.loop-atom.yielded_by c.next.result c.next.new.self c.in-None.is
    c.next.ensures.steps in
    let all : take (length c.loop-atom.yielded) c.args.atoms.items ≡ c.args.atoms.items =
    ap (λ (n : ℕ). take n c.args.atoms.items) e.1 ∙ take-length c.args.atoms.items in
    record {
      part = rw all at c.loop-atom.invariant.part;
      covers = rw all at c.loop-atom.invariant.covers;
      apart = c.loop-atom.invariant.apart;
    }
