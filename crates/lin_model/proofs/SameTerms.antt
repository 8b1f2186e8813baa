-- When two terms of a form are the same.
use Rattle.std.proofs.Common.{◌≡◌, ℕ, ℤ, nat_eq, refl, ap, ◌∙◌}
use Rattle.std.specs.Prelude.{◌&&◌}
use Rattle.std.specs.Bool.{Decides}
use Rattle.std.specs.Ordering.{int_eq}
use Rattle.std.proofs.lemmas.Bool.{and_parts}
use Rattle.std.proofs.lemmas.Bool.Decides.{Decides-int_eq, Decides-eqb}
use Rattle.lin_model.specs.declared.form.FormTerm.{FormTerm}

-- what `==` says of two terms
pub Decides-same_term : (t u : FormTerm) → Decides (nat_eq t.var u.var && int_eq t.coef u.coef) (t ≡ u)
Decides-same_term t u = (
  λ so.
      let both = and_parts (nat_eq t.var u.var) (int_eq t.coef u.coef) so in
      let var : t.var ≡ u.var = (Decides-eqb t.var u.var).0 both.0 in
      let coef : t.coef ≡ u.coef = (Decides-int_eq t.coef u.coef).0 both.1 in
      ap (λ (v : ℕ). let x : FormTerm = record { var = v; coef = t.coef } in x) var
      ∙ ap (λ (z : ℤ). let x : FormTerm = record { var = u.var; coef = z } in x) coef,
  λ e.
      let var = (Decides-eqb t.var u.var).1 (ap (λ (x : FormTerm). x.var) e) in
      let coef = (Decides-int_eq t.coef u.coef).1 (ap (λ (x : FormTerm). x.coef) e) in
      rw (var, coef) refl,
)
