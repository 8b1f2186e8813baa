use Rattle.std.proofs.Common.{◌≡◌, ◌<◌, ◌∙◌, ℕ, ◌+◌, ◌*◌, ◌++◌, ◌∷◌, [], List, length, get_or, Some, ap, subst, arith}
use Rattle.std.proofs.Common.{refl}
use Rattle.std.specs.List.{slice_get}
use Rattle.std.proofs.lemmas.List.{length_push}
use Rattle.std.proofs.lemmas.Option.{slice_get_read}
use Rattle.lin_model.specs.Terms.{PlainVar}
use Rattle.canoniser.specs.Keys.{upper_atom, lower_atom}
use Rattle.canoniser.proofs.BoundLemmas.{AreBounds, AreBounds-more, FitBelow, FitBelow-more}
use Rattle.canoniser.proofs.bounds.bounds_of.Goals as goal

pub loop-v-preserved : goal.loop-v-preserved
loop-v-preserved c =
    let q = c.args.c.now in
    let order = c.args.order.now in
    let n = c.loop-v.v in
    let var = c.index-vars-var.result in
    let atoms = c.loop-v.atoms.items in
    let upper = upper_atom n var in
    let declared : get_or order n 0 < length q.vars = c.requires.declared n 0 c.loop-v-test.true in
    let read : var ≡ get_or q.vars (get_or order n 0) var =
    c.index-vars-var.is ∙ ap (λ (vars : List PlainVar). get_or vars (get_or order n 0) var)
    c.vars-vars.ensures.vars in
    let there : slice_get q.vars (get_or order n 0) ≡ Some var =
    slice_get_read q.vars (length q.vars) (get_or order n 0) var refl declared read in
    let longer : length ((atoms ++ upper ∷ []) ++ lower_atom n var ∷ []) ≡ 2 * (n + 1) =
    omega (
      arith,
      length_push (atoms ++ upper ∷ []) (lower_atom n var),
      length_push atoms upper,
      c.loop-v.invariant.two_each,
    ) in
    rw c.in_ok-push_bounds.ensures.items
    (record {
      two_each = longer;
      fit = FitBelow-more q order n var there c.loop-v.invariant.fit c.in_ok-push_bounds.ensures.fits;
      just =
          AreBounds-more q order n var atoms there c.loop-v.invariant.just;
    })

pub returns-clause-just : goal.returns-clause-just
returns-clause-just c =
    let end : c.loop-v.v ≡ length c.args.order.now = omega arith in
    subst (λ (n : ℕ). AreBounds c.args.c.now c.args.order.now n c.loop-v.atoms.items) end c.loop-v.invariant.just

pub returns-clause-fit : goal.returns-clause-fit
returns-clause-fit c =
    let end : c.loop-v.v ≡ length c.args.order.now = omega arith in
    subst (λ (n : ℕ). FitBelow c.args.c.now c.args.order.now n) end c.loop-v.invariant.fit
