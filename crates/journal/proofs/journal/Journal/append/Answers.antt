use Rattle.std.proofs.Common.{◌≡◌, ◌++◌, ◌∷◌, [], length, List, sym, ap, ◌∙◌, subst}
use Rattle.cert_check.specs.Decides.{IsChecked}
use Rattle.cert_check.specs.Calls.{writes_by}
use Rattle.cert_check.specs.declared.entry.Entry.{Entry}
use Rattle.cert_check.specs.declared.wrote.Wrote.{Wrote}
use Rattle.entry_codec.specs.Frames.{FitsFrame, frame_of}
use Rattle.journal.specs.Journals.{KeepsJournal}
use Rattle.journal.proofs.AppendLemmas.{Appends-seen, appended, end_within}
use Rattle.journal.proofs.journal.Journal.append.Goals as goal
use Rattle.journal.proofs.journal.Journal.append.Goals.{in-At, in_default}

pub put-saved-requires-clause-within : goal.put-saved-requires-clause-within
put-saved-requires-clause-within g c = end_within g.D.Disk.state _ _ _ c.if-self.false c.self.invariant.0 c.self.invariant.1

pub invariant_of-self-in-At : goal.invariant_of-self-in-At
invariant_of-self-in-At g c =
    let all = appended g.D.Disk.state g.met.D.Disk.consistent _ _ _ c.if-self.false c.self.invariant.0
    c.self.invariant.1 c.args.seat c.args.entry.now
    (record {
      fits = subst FitsFrame c.get-plain.ensures c.in_ok-frame.ensures.fits;
      checked = subst IsChecked c.get-plain.ensures c.key-key.ensures.checked;
    })
    c.put-saved.new.disk c.deref.result.now
    (c.deref.ensures.value ∙ c.in_ok-frame.ensures.frame ∙ ap frame_of c.get-plain.ensures) c.put-saved.result
    c.put-saved.ensures c.wrote_of.result
    (subst (λ (e : Entry). writes_by c.args.seat e c.put-saved.result ≡ c.wrote_of.result ∷ []) c.in_ok-shared.ensures
    c.wrote_of.ensures) c.push_reserved.new.self.items
    (c.push_reserved.ensures.items
    ∙ ap (λ (w : List Wrote). w ++ c.wrote_of.result ∷ []) c.reserve.ensures.items) in
    let long : c.len.result ≡ length (frame_of c.args.entry.now) =
    c.len.ensures ∙ sym c.deref.ensures.len
    ∙ ap length (c.deref.ensures.value ∙ c.in_ok-frame.ensures.frame ∙ ap frame_of c.get-plain.ensures) in
    (all.keeps, all.numbers_at c.in-At.field-0 c.len.result c.in-At.is long)

pub invariant_of-self-in_default : goal.invariant_of-self-in_default
invariant_of-self-in_default g c =
    let all = appended g.D.Disk.state g.met.D.Disk.consistent _ _ _ c.if-self.false c.self.invariant.0
    c.self.invariant.1 c.args.seat c.args.entry.now
    (record {
      fits = subst FitsFrame c.get-plain.ensures c.in_ok-frame.ensures.fits;
      checked = subst IsChecked c.get-plain.ensures c.key-key.ensures.checked;
    })
    c.put-saved.new.disk c.deref.result.now
    (c.deref.ensures.value ∙ c.in_ok-frame.ensures.frame ∙ ap frame_of c.get-plain.ensures) c.put-saved.result
    c.put-saved.ensures c.wrote_of.result
    (subst (λ (e : Entry). writes_by c.args.seat e c.put-saved.result ≡ c.wrote_of.result ∷ []) c.in_ok-shared.ensures
    c.wrote_of.ensures) c.push_reserved.new.self.items
    (c.push_reserved.ensures.items
    ∙ ap (λ (w : List Wrote). w ++ c.wrote_of.result ∷ []) c.reserve.ensures.items) in
    (all.keeps, all.numbers_else c.in_default.not-At)

pub returns-clause-appends : goal.returns-clause-appends
returns-clause-appends g c =
    let all = appended g.D.Disk.state g.met.D.Disk.consistent _ _ _ c.if-self.false c.self.invariant.0
    c.self.invariant.1 c.args.seat c.args.entry.now
    (record {
      fits = subst FitsFrame c.get-plain.ensures c.in_ok-frame.ensures.fits;
      checked = subst IsChecked c.get-plain.ensures c.key-key.ensures.checked;
    })
    c.put-saved.new.disk c.deref.result.now
    (c.deref.ensures.value ∙ c.in_ok-frame.ensures.frame ∙ ap frame_of c.get-plain.ensures) c.put-saved.result
    c.put-saved.ensures c.wrote_of.result
    (subst (λ (e : Entry). writes_by c.args.seat e c.put-saved.result ≡ c.wrote_of.result ∷ []) c.in_ok-shared.ensures
    c.wrote_of.ensures) c.push_reserved.new.self.items
    (c.push_reserved.ensures.items
    ∙ ap (λ (w : List Wrote). w ++ c.wrote_of.result ∷ []) c.reserve.ensures.items) in
    elim c.match-saved.branch [
      | in-At w ↦ Appends-seen c.self.view_is w.self-is all.appends
      | in_default w ↦ Appends-seen c.self.view_is w.self-is all.appends
    ]

pub returns-clause-kept : goal.returns-clause-kept
returns-clause-kept g c =
    let all = appended g.D.Disk.state g.met.D.Disk.consistent _ _ _ c.if-self.false c.self.invariant.0
    c.self.invariant.1 c.args.seat c.args.entry.now
    (record {
      fits = subst FitsFrame c.get-plain.ensures c.in_ok-frame.ensures.fits;
      checked = subst IsChecked c.get-plain.ensures c.key-key.ensures.checked;
    })
    c.put-saved.new.disk c.deref.result.now
    (c.deref.ensures.value ∙ c.in_ok-frame.ensures.frame ∙ ap frame_of c.get-plain.ensures) c.put-saved.result
    c.put-saved.ensures c.wrote_of.result
    (subst (λ (e : Entry). writes_by c.args.seat e c.put-saved.result ≡ c.wrote_of.result ∷ []) c.in_ok-shared.ensures
    c.wrote_of.ensures) c.push_reserved.new.self.items
    (c.push_reserved.ensures.items
    ∙ ap (λ (w : List Wrote). w ++ c.wrote_of.result ∷ []) c.reserve.ensures.items) in
    elim c.match-saved.branch [
      | in-At w ↦ subst (KeepsJournal g.D.Disk.state) (sym w.self-is) all.keeps
      | in_default w ↦ subst (KeepsJournal g.D.Disk.state) (sym w.self-is) all.keeps
    ]
