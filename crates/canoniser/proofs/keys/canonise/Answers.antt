use Rattle.std.proofs.Common.{length, ap, arith}
use Rattle.canoniser.specs.SliceForms.{AreKeyAtoms}
use Rattle.canoniser.specs.Numbering.{order_of}
use Rattle.canoniser.specs.Strongest.{IsKeyWithBounds}
use Rattle.canoniser.proofs.SliceLemmas.{few_atoms, HasNamed-slice}
use Rattle.canoniser.proofs.TurnLemmas.{IsOrder-slice}
use Rattle.canoniser.proofs.KeyAtomsLemmas.{few_key_atoms}
use Rattle.canoniser.proofs.CanonisedLemmas.{IsCanonised-made}
use Rattle.canoniser.proofs.keys.canonise.Goals as goal

pub key_of-requires : goal.key_of-requires
key_of-requires c =
    let named =
    HasNamed-slice c.slices_are_a_partition.ensures c.args.c.now c.args.s.now c.in_ok-j.ensures.fits.in_range
    c.requires in
    let ordered =
    IsOrder-slice c.args.c.now c.args.s.now c.in_ok-order.order.items c.in_ok-j.ensures.fits named c.requires
    c.in_ok-order.ensures in
    let are : AreKeyAtoms c.args.c.now c.args.s.now c.in-Atoms.atoms.items =
    rw c.in-Atoms.is at c.in_ok-j.ensures.forms in
    let few = few_atoms c.args.c.now c.args.s.now c.in_ok-j.ensures.fits c.requires in
    let fewer = few_key_atoms c.args.c.now c.args.s.now (order_of c.args.c.now c.args.s.now) in
    let long = ap length are.are in
    rw c.deref-in-Atoms.ensures.value
    (record { declared = ordered.declared; few = ordered.few; few_atoms = omega arith })

pub new-back-requires : goal.new-back-requires
new-back-requires c =
    let named =
    HasNamed-slice c.slices_are_a_partition.ensures c.args.c.now c.args.s.now c.in_ok-j.ensures.fits.in_range
    c.requires in
    let ordered =
    IsOrder-slice c.args.c.now c.args.s.now c.in_ok-order.order.items c.in_ok-j.ensures.fits named c.requires
    c.in_ok-order.ensures in
    record { distinct = ordered.distinct; few = ordered.few }

pub returns-in_ok-key-in-Atoms : goal.returns-in_ok-key-in-Atoms
returns-in_ok-key-in-Atoms c =
    let are : AreKeyAtoms c.args.c.now c.args.s.now c.in-Atoms.atoms.items =
    rw c.in-Atoms.is at c.in_ok-j.ensures.forms in
    let order = c.in_ok-order.order.items in
    let key = c.in_ok-key-in-Atoms.key in
    let is : IsKeyWithBounds c.args.c.now order c.in-Atoms.atoms.items key =
    rw c.deref-in-Atoms.ensures.value at c.in_ok-key-in-Atoms.ensures in
    let named =
    HasNamed-slice c.slices_are_a_partition.ensures c.args.c.now c.args.s.now c.in_ok-j.ensures.fits.in_range
    c.requires in
    rw c.new-back.ensures
    (IsCanonised-made c.table_is_right.ensures c.args.c.now c.args.s.now order c.in-Atoms.atoms.items key named
    c.in_ok-order.ensures are is)
