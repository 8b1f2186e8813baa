use Rattle.std.proofs.lemmas.Slice.Eq.{slice_eq-Decides}
use Rattle.lin_model.proofs.SameTerms.{Decides-same_term}
use Rattle.lin_model.proofs.form.same_terms.Goals as goal

pub returns : goal.returns
returns c = slice_eq-Decides Decides-same_term c.args.a.now c.args.b.now c.eq.result c.eq.ensures
