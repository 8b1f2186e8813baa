-- Atoms that give no bound can go: the bounds stay.
use Rattle.std.proofs.Common.{◌≡◌, ℕ, suc, ℤ, Bool, true, false, not, ◌&&◌, cond, eqb, Option, None, List, []}
use Rattle.std.proofs.Common.{◌∷◌, length, map, refl, sym, ap, ◌∙◌, subst, arith}
use Rattle.lin_model.specs.declared.form.FormTerm.{FormTerm}
use Rattle.lin_model.specs.declared.op.Op.{Op}
use Rattle.lin_model.specs.declared.op.Op.TheVariants.{Le, Ge, Eq, Ne}
use Rattle.lin_model.specs.KeyAtom.{PlainKeyAtom}
use Rattle.refutation.specs.Bounds.{PlainBounds, variables, is_variable, lower_by, upper_by, lower_from, upper_from}
use Rattle.refutation.specs.Bounds.{tighter_lower, tighter_upper, lower_bound, upper_bound, key_bounds}
use Rattle.refutation.specs.Box.{is_ne_op}
use Rattle.refutation.specs.Chosen.{chosen, ClosesBox}
use Rattle.unsat_core.specs.Laws.{HasBounds, OthersCanGo}
use Rattle.unsat_core.proofs.ReadingTrees.{closed_alike}

-- ---- one atom

-- a choice between the same
same_both : {X : Type 0} (b : Bool) (x : X) → cond b x x ≡ x
same_both true x = refl
same_both false x = refl

-- an atom that may give no bound gives no lower side
no_lower : (form : List FormTerm) (op : Op) (c : ℤ) (v : ℕ) → (eqb (length form) 1 && not (is_ne_op op)) ≡ false
    → cond (is_variable form v) (lower_by op c) None ≡ None
no_lower [] op c v none = refl
no_lower (t ∷ []) Le c v none = absurd (cc)
no_lower (t ∷ []) Ge c v none = absurd (cc)
no_lower (t ∷ []) Eq c v none = absurd (cc)
no_lower (t ∷ []) Ne c v none = same_both (is_variable (t ∷ []) v) None
no_lower (t ∷ u ∷ form) op c v none = refl

-- and no upper side
no_upper : (form : List FormTerm) (op : Op) (c : ℤ) (v : ℕ) → (eqb (length form) 1 && not (is_ne_op op)) ≡ false
    → cond (is_variable form v) (upper_by op c) None ≡ None
no_upper [] op c v none = refl
no_upper (t ∷ []) Le c v none = absurd (cc)
no_upper (t ∷ []) Ge c v none = absurd (cc)
no_upper (t ∷ []) Eq c v none = absurd (cc)
no_upper (t ∷ []) Ne c v none = same_both (is_variable (t ∷ []) v) None
no_upper (t ∷ u ∷ form) op c v none = refl

-- ---- all atoms

-- the chosen atoms have the bounds of all
lower-same : (key : List PlainKeyAtom) (choice : List Bool) (v : ℕ) → length choice ≡ length key → HasBounds key choice
    → lower_bound (chosen key choice) v ≡ lower_bound key v
lower-same [] choice v same has = refl
lower-same (a ∷ key) [] v same has = absurd (omega (arith, same))
lower-same (a ∷ key) (true ∷ choice) v same has =
    ap (tighter_lower (lower_from a v))
    (lower-same key choice v (omega (arith, same)) (λ i lt out. has (suc i) (omega (arith, lt)) out))
lower-same (a ∷ key) (false ∷ choice) v same has =
    lower-same key choice v (omega (arith, same)) (λ i lt out. has (suc i) (omega (arith, lt)) out)
    ∙ sym (ap (λ (o : Option ℤ). tighter_lower o (lower_bound key v))
    (no_lower a.form a.op a.constant v (has 0 (omega arith) refl)))

upper-same : (key : List PlainKeyAtom) (choice : List Bool) (v : ℕ) → length choice ≡ length key → HasBounds key choice
    → upper_bound (chosen key choice) v ≡ upper_bound key v
upper-same [] choice v same has = refl
upper-same (a ∷ key) [] v same has = absurd (omega (arith, same))
upper-same (a ∷ key) (true ∷ choice) v same has =
    ap (tighter_upper (upper_from a v))
    (upper-same key choice v (omega (arith, same)) (λ i lt out. has (suc i) (omega (arith, lt)) out))
upper-same (a ∷ key) (false ∷ choice) v same has =
    upper-same key choice v (omega (arith, same)) (λ i lt out. has (suc i) (omega (arith, lt)) out)
    ∙ sym (ap (λ (o : Option ℤ). tighter_upper o (upper_bound key v))
    (no_upper a.form a.op a.constant v (has 0 (omega arith) refl)))

bounds-same : (key : List PlainKeyAtom) (choice : List Bool) → length choice ≡ length key → HasBounds key choice
    → key_bounds (chosen key choice) ≡ key_bounds key
unfolding key_bounds
bounds-same key choice same has = λ i. record {
  lower = map (λ v. lower-same key choice v same has i) variables;
  upper = map (λ v. upper-same key choice v same has i) variables;
}

pub others-go : OthersCanGo
others-go key tree choice same has_named has_bounds refutes =
    (closed_alike key tree choice same has_named).1
    (subst (λ (b : PlainBounds). ClosesBox key (record { bounds = b; sides = [] }) tree.nodes tree.terms)
    (sym (bounds-same key choice same has_bounds))
    (record { no_rest = refutes.no_rest; no_terms = refutes.no_terms; no_boxes = refutes.no_boxes }))
