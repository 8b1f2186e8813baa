-- Small worked values of the table and of a cover.
use Rattle.std.proofs.Common.{◌≡◌, ℤ, pos, negsuc, [], ◌∷◌, true, false, refl, arith}
use Rattle.std.specs.Prelude.{Any}
use Rattle.std.proofs.lemmas.List.Elements.{All-cons, All-nil}
use Rattle.lin_model.specs.declared.op.Op.{Op}
use Rattle.lin_model.specs.declared.op.Op.TheVariants.{Le, Ge, Eq, Ne}
use Rattle.lin_model.specs.KeyAtom.{PlainKeyAtom}
use Rattle.atom_implies.specs.Implies.{Implies, Covers}
use Rattle.atom_implies.specs.Table.{table_says}
use Rattle.atom_implies.proofs.TableLemmas.{table_is_right}

-- `<= 3` implies `<= 5`, but `<= 5` not `<= 3`
check_le : table_says Le (pos 3) Le (pos 5) ≡ true
check_le = refl

check_le_back : table_says Le (pos 5) Le (pos 3) ≡ false
check_le_back = refl

-- `<= -1` implies `!= 0`, and `<= 0` does not
check_ne : table_says Le (negsuc 0) Ne (pos 0) ≡ true
check_ne = refl

check_ne_at : table_says Le (pos 0) Ne (pos 0) ≡ false
check_ne_at = refl

-- `= 4` implies `>= 4` and `!= 5`
check_eq_ge : table_says Eq (pos 4) Ge (pos 4) ≡ true
check_eq_ge = refl

check_eq_ne : table_says Eq (pos 4) Ne (pos 5) ≡ true
check_eq_ne = refl

-- `v0 op c`
abbrev v0 : Op → ℤ → PlainKeyAtom
v0 op c = record { form = record { var = 0; coef = pos 1 } ∷ []; op = op; constant = c }

-- `v0 = 4` covers `v0 <= 5` and `v0 != 7`
check_covers : Covers (v0 Eq (pos 4) ∷ []) (v0 Le (pos 5) ∷ v0 Ne (pos 7) ∷ [])
check_covers =
    let IsImplied : PlainKeyAtom → Type 0 = λ b. Any (λ a. Implies a b) (v0 Eq (pos 4) ∷ []) in
    let at_most : Implies (v0 Eq (pos 4)) (v0 Le (pos 5)) = record
    { same_form = refl; tests = (table_is_right Eq (pos 4) Le (pos 5)).0 refl } in
    let differs : Implies (v0 Eq (pos 4)) (v0 Ne (pos 7)) = record
    { same_form = refl; tests = (table_is_right Eq (pos 4) Ne (pos 7)).0 refl } in
    All-cons IsImplied (v0 Le (pos 5)) (v0 Ne (pos 7) ∷ []) (0, v0 Eq (pos 4), omega arith, refl, at_most)
    (All-cons IsImplied (v0 Ne (pos 7)) [] (0, v0 Eq (pos 4), omega arith, refl, differs) (All-nil IsImplied))
