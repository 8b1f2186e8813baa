use Rattle.std.proofs.Common.{◌≡◌, ◌∙◌, sym, rules}
use Rattle.atom_implies.specs.Table.{table_says}
use Rattle.atom_implies.proofs.TableLemmas.{table_is_right}
use Rattle.atom_implies.proofs.implication.is_implied.Goals as goal

pub returns : goal.returns
returns c =
    let a = c.args.a.now in
    let b = c.args.b.now in
    let right = table_is_right a.op a.constant b.op b.constant in
    let plain : c.test_implies.result ≡ table_says c.op.result c.constant.result c.op-2.result c.constant-2.result =
    search rules in
    let said : c.test_implies.result ≡ table_says a.op a.constant b.op b.constant =
    rw (c.op.ensures, c.op-2.ensures, c.constant.ensures.value, c.constant-2.ensures.value) at plain in
    let form : a.form ≡ b.form = sym c.form.ensures.value ∙ c.equals.ensures.0 c.if-not-equals.false
    ∙ c.form-2.ensures.value in (
      λ so. record { same_form = form; tests = right.0 (sym said ∙ so) },
      λ implied. said ∙ right.1 implied.tests,
    )
