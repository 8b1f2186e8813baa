use Rattle.std.proofs.Common.{◌≡◌, ◌<◌, length, vec_len, inl, inr, sym, arith, ◌∙◌}
use Rattle.std.proofs.lemmas.Bool.Decides.{Decides-eqb, eqb_tells}
use Rattle.slicer.proofs.FrontLemmas.{IsFront-none, IsFront-one}
use Rattle.slicer.proofs.division.front.Goals as goal

pub returns-then-is_empty : goal.returns-then-is_empty
returns-then-is_empty c =
    let atoms = c.in_ok-atoms.atoms in
    let none : length atoms.items ≡ 0 = let ok = atoms.ok in let e =
    (Decides-eqb _ 0).0 (sym c.is_empty.ensures ∙ c.if-is_empty.true) in omega arith in
    rw c.new-slices.ensures.items (IsFront-none _ atoms.items c.in_ok-atoms.ensures none)

pub returns : goal.returns
returns c =
    let atoms = c.in_ok-atoms.atoms in
    let some : 0 < length atoms.items =
    elim (eqb_tells (vec_len atoms) 0) [
      | inl same ↦ (let yes = same.0 in let is = c.is_empty.ensures in let not_so = c.if-is_empty.false in absurd (cc))
      | inr other ↦ (let ok = atoms.ok in let ne = other.1 in omega arith)
    ] in
    rw (c.in_ok-push.ensures.items, c.new-slices.ensures.items, c.new-2.ensures, c.new.ensures.items)
    (IsFront-one _ atoms.items c.in_ok-atoms.ensures some)
