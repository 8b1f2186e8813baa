use Rattle.std.proofs.Common.{inl, inr}
use Rattle.slicer.proofs.NamedLemmas.{Contains-side_vars_more}
use Rattle.slicer.proofs.named.set_of_terms.Goals as goal

pub loop-term-preserved : goal.loop-term-preserved
loop-term-preserved c v =
    let more =
    Contains-side_vars_more c.args.terms.now c.loop-term.term-index c.term-item.result v c.loop-term-test.true
    c.term-item.is in
    let so_far = c.loop-term.invariant v in
    let with = c.with_var-set.ensures v in (
      λ has. more.1 (elim (with.0 has) [ inl earlier ↦ inl (so_far.0 earlier) | inr last ↦ inr (cc) ]),
      λ names. with.1 (elim (more.0 names) [ inl earlier ↦ inl (so_far.1 earlier) | inr last ↦ inr (cc) ]),
    )
