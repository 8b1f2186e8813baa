-- The masks of places have all that the atoms behind them give.
use Rattle.std.proofs.Common.{◌≡◌, ℕ, zero, suc, ◌<◌, List, [], ◌∷◌, ◌++◌, length, get_or, sym}
use Rattle.std.proofs.Common.{subst, ◌∙◌, arith}
use Rattle.lin_model.specs.KeyAtom.{PlainKeyAtom}
use Rattle.key_tree.specs.Prints.{gives_of, IsWithin}
use Rattle.key_tree.specs.MaskFacts.{within_more}
use Rattle.key_tree.specs.Tree.{PlainTree, IsTree, way_to, place_at, branch_to}
use Rattle.key_tree.specs.Laws.{MasksAreRight}
use Rattle.key_tree.proofs.PlaceLemmas.{next_on_way, held_reaches}

-- the mask of a place has what each atom gives that is behind it on the way to another
mask_on_way : (tree : PlainTree) (rest : List PlainKeyAtom) (j place k : ℕ) (d : PlainKeyAtom) → IsTree tree
    → j < length tree.places → place < length tree.places → way_to tree j ≡ way_to tree place ++ rest
    → k < length rest → IsWithin (gives_of (get_or rest k d)) (place_at tree place).below
mask_on_way tree [] j place k d keeps those within same lt = absurd (omega (arith, lt))
mask_on_way tree (a ∷ rest) j place zero d keeps those within same lt =
    let kid = next_on_way tree keeps j place a rest those within same in
    subst (λ (b : PlainKeyAtom). IsWithin (gives_of b) (place_at tree place).below) kid.by
    (subst (λ (p : ℕ). IsWithin (gives_of (branch_to tree kid.next).atom) (place_at tree p).below) kid.from
    (keeps.masked kid.next kid.some kid.within).atom)
mask_on_way tree (a ∷ rest) j place (suc k) d keeps those within same lt =
    let kid = next_on_way tree keeps j place a rest those within same in
    within_more (gives_of (get_or rest k d)) (place_at tree kid.next).below (place_at tree place).below
    (mask_on_way tree rest j kid.next k d keeps those kid.within (same ∙ sym (kid.way rest)) (omega arith))
    (subst (λ (p : ℕ). IsWithin (place_at tree kid.next).below (place_at tree p).below) kid.from
    (keeps.masked kid.next kid.some kid.within).behind)

-- the law
pub masks_right : MasksAreRight
masks_right tree place rest number k d keeps within held lt =
    let at = held_reaches tree keeps (way_to tree place ++ rest) number held in
    mask_on_way tree rest at.place place k d keeps at.within within at.is lt
