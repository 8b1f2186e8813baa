use Rattle.std.proofs.Common.{◌≡◌, ◌<◌, ◌≤◌, List, ℕ, length, refl, sym, subst, ◌∙◌}
use Rattle.std.specs.Prelude.{All}
use Rattle.slicer.specs.Names.{atom_vars}
use Rattle.canoniser.specs.declared.atom_form.AtomForm.{AtomForm}
use Rattle.canoniser.specs.declared.atom_form.AtomForm.TheVariants.{True, False, KeyAtom}
use Rattle.canoniser.specs.Numbering.{first_ones}
use Rattle.canoniser.proofs.FalseLemmas.{is_false-made}
use Rattle.canoniser.proofs.NumberingLemmas.{order_in-below, order_in-few}
use Rattle.canoniser.proofs.false_atom.is_false.Goals as goal

pub canonical_form-requires : goal.canonical_form-requires
canonical_form-requires c =
    let order = c.deref.result.now in
    let numbered : order ≡ first_ones (atom_vars c.args.atom.now) =
    c.deref.ensures.value ∙ c.in_ok-order.ensures {u = tt} in
    record {
      few = subst (λ (o : List ℕ). length o ≤ 64) (sym numbered) (order_in-few c.args.atom.now c.requires);
      in_range = subst (λ (o : List ℕ). All (λ v. v < 64) o) (sym numbered) (order_in-below c.args.atom.now c.requires);
      named = c.requires;
    }

pub returns-in-False : goal.returns-in-False
returns-in-False c =
    let numbered = c.deref.ensures.value ∙ c.in_ok-order.ensures {u = tt} in
    let made = rw c.in-False.is at c.in_ok-canonical_form.ensures in
    let tells = is_false-made c.deref.result.now c.args.atom.now False numbered made in
    (λ yes. tells.1 refl, λ impossible. refl)

pub returns-in-True : goal.returns-in-True
returns-in-True c =
    let numbered = c.deref.ensures.value ∙ c.in_ok-order.ensures {u = tt} in
    let made = rw c.in-True.is at c.in_ok-canonical_form.ensures in
    let tells = is_false-made c.deref.result.now c.args.atom.now True numbered made in
    (λ yes. absurd (cc), λ impossible. let same = tells.0 impossible in absurd (cc))

pub returns : goal.returns
returns c =
    let form : AtomForm = KeyAtom c.in-KeyAtom.field-0 in
    let numbered = c.deref.ensures.value ∙ c.in_ok-order.ensures {u = tt} in
    let made = rw c.in-KeyAtom.is at c.in_ok-canonical_form.ensures in
    let tells = is_false-made c.deref.result.now c.args.atom.now form numbered made in
    (λ yes. absurd (cc), λ impossible. let same = tells.0 impossible in absurd (cc))
