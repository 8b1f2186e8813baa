use Rattle.std.proofs.Common.{◌≡◌, Ok}
use Rattle.std.proofs.lemmas.Result.{err_from_is_err_and}
use Rattle.entry_codec.specs.Reading.{pushed_at, list_at}
use Rattle.entry_codec.specs.Gives.{Fails}
use Rattle.entry_codec.specs.AtomReading.{atom_at}
use Rattle.entry_codec.proofs.LoopLemmas.{item_ends, item_goes_on, is_done}
use Rattle.entry_codec.proofs.read.keys.atom_list_at.Goals as goal

pub returns-in_err-atom : goal.returns-in_err-atom
returns-in_err-atom c =
    let same : c.deref.result.now ≡ c.loop.atoms.items = cc in
    let fails : Fails c.in_err-atom.field-0.0 (atom_at c.loop.atoms.items c.loop.rest.now) =
    rw same at c.in_err-atom.ensures in
    let p = err_from_is_err_and c.from_residual.result c.from_residual.ensures.1 in
    rw (p.1, p.2)
    (item_ends atom_at c.in_err-atom.field-0.0 c.args.count c.loop.counter c.loop.atoms.items c.loop.rest.now
    (list_at atom_at c.args.count c.args.bytes.now) c.loop-test.true fails c.loop.invariant)

pub loop-preserved : goal.loop-preserved
loop-preserved c =
    let same : c.deref.result.now ≡ c.loop.atoms.items = cc in
    let read : atom_at c.loop.atoms.items c.loop.rest.now ≡ Ok (c.in_ok-atom.atom, c.in_ok-atom.after.now) =
    rw same at c.in_ok-atom.ensures in
    rw c.in_ok-push.ensures.items
    (item_goes_on atom_at c.args.count c.loop.counter c.loop.atoms.items c.in_ok-atom.atom c.loop.rest.now
    c.in_ok-atom.after.now (list_at atom_at c.args.count c.args.bytes.now) c.loop-test.true read
    c.loop.invariant)

pub returns : goal.returns
returns c =
    is_done (pushed_at atom_at) c.args.count c.loop.counter c.loop.atoms.items c.loop.rest.now
    (list_at atom_at c.args.count c.args.bytes.now) c.loop-test.false c.loop.invariant
