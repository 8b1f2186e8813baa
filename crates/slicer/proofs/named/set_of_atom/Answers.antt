use Rattle.std.proofs.Common.{◌↔◌, inl, inr}
use Rattle.std.specs.Prelude.{Contains}
use Rattle.std.proofs.lemmas.List.Elements.{Contains-append_left, Contains-append_right, Contains-append_cases}
use Rattle.slicer.specs.Names.{side_vars}
use Rattle.slicer.specs.VarSets.{Has}
use Rattle.slicer.proofs.named.set_of_atom.Goals as goal

pub returns : goal.returns
returns c v =
    let left = side_vars c.args.atom.now.left in
    let right = side_vars c.args.atom.now.right in
    let on_left : Has c.set_of_terms.result v ↔ Contains left v =
    rw c.terms.ensures.terms at c.set_of_terms.ensures v in
    let on_right : Has c.set_of_terms-2.result v ↔ Contains right v =
    rw c.terms-2.ensures.terms at c.set_of_terms-2.ensures v in
    let either = c.union.ensures.either v in (
      λ has. elim (either.0 has) [
        | inl l ↦ Contains-append_left left right v (on_left.0 l)
        | inr r ↦
            Contains-append_right left right v (on_right.0 r)
      ],
      λ names. either.1
          (elim (Contains-append_cases left right v names) [ inl l ↦ inl (on_left.1 l) | inr r ↦ inr (on_right.1 r) ]),
    )
