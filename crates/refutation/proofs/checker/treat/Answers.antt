use Rattle.std.proofs.Common.{None, true, false, [], ◌∷◌, ◌&&◌, nat_le, length, take, to_z, of_z, FitsSigned, rules}
use Rattle.std.specs.Int.{w64}
use Rattle.std.proofs.lemmas.Int.{to_z-of_z}
use Rattle.refutation.specs.Box.{left_half, right_half, on_side}
use Rattle.refutation.specs.Leaf.{combo_closes}
use Rattle.refutation.specs.Facts.{OnFirst-at, OnFirst-from}
use Rattle.refutation.specs.Reading.{is_split, names_ne, treated}
use Rattle.refutation.specs.Walk.{Treats}
use Rattle.refutation.proofs.ReadingLemmas.{TreatsFirst-from_puts, Treats-split, Treats-split_ne, Treats-combo}
use Rattle.refutation.proofs.ReadingLemmas.{Treats-fixed, Treats-empty, Treats-left}
use Rattle.refutation.proofs.checker.treat.Goals as goal

pub returns-in-Split : goal.returns-in-Split
returns-in-Split c =
    let fits : FitsSigned w64 c.in-Split.cut = search rules in
    TreatsFirst-from_puts c.split.result c.args.key.now c.args.node c.args.terms.now c.args.walk.now c.split.new.walk
    (λ box. is_split c.in-Split.var (to_z w64 (of_z w64 c.in-Split.cut)))
    (λ box. left_half box c.in-Split.var (to_z w64 (of_z w64 c.in-Split.cut)) ∷ right_half box c.in-Split.var
    (to_z w64 (of_z w64 c.in-Split.cut)) ∷ []) 0
    (λ box rest taken _ h. Treats-split c.args.key.now box c.args.node c.in-Split.var c.in-Split.cut
    (to_z w64 (of_z w64 c.in-Split.cut)) c.args.terms.now taken rest c.split.new.walk c.in-Split.is
    (to_z-of_z w64 c.in-Split.cut fits) h) c.split.ensures

pub returns-in-NeSplit : goal.returns-in-NeSplit
returns-in-NeSplit c =
    TreatsFirst-from_puts c.split_ne.result c.args.key.now c.args.node c.args.terms.now c.args.walk.now
    c.split_ne.new.walk (λ box. names_ne c.args.key.now c.in-NeSplit.atom)
    (λ box. on_side box c.in-NeSplit.atom false ∷ on_side box c.in-NeSplit.atom true ∷ []) 0
    (λ box rest taken _ h. Treats-split_ne c.args.key.now box c.args.node c.in-NeSplit.atom c.args.terms.now taken rest
    c.split_ne.new.walk c.in-NeSplit.is h) c.split_ne.ensures

pub returns-in-Combo : goal.returns-in-Combo
returns-in-Combo c =
    TreatsFirst-from_puts c.close_by_combo.result c.args.key.now c.args.node c.args.terms.now c.args.walk.now
    c.close_by_combo.new.walk (λ box. nat_le c.from.result (length c.args.terms.now)
    && combo_closes c.args.key.now box (take c.from.result c.args.terms.now)) (λ box. []) c.from.result
    (λ box rest taken _ h. Treats-combo c.args.key.now box c.args.node c.in-Combo.count c.from.result c.args.terms.now
    taken rest c.close_by_combo.new.walk c.in-Combo.is c.from.ensures h) c.close_by_combo.ensures

pub returns-in-Fixed : goal.returns-in-Fixed
returns-in-Fixed c =
    TreatsFirst-from_puts c.close_if.result c.args.key.now c.args.node c.args.terms.now c.args.walk.now
    c.close_if.new.walk (λ box. c.fixed_closes-closed.result) (λ box. []) 0
    (λ box rest taken is h. Treats-fixed c.args.key.now box c.args.node c.in-Fixed.atom c.fixed_closes-closed.result
    c.args.terms.now taken rest c.close_if.new.walk c.in-Fixed.is
    (OnFirst-at c.args.walk.now _ box rest is c.fixed_closes-closed.ensures) h) c.close_if.ensures

pub returns-in-Empty : goal.returns-in-Empty
returns-in-Empty c =
    TreatsFirst-from_puts c.close_if-in-Empty.result c.args.key.now c.args.node c.args.terms.now c.args.walk.now
    c.close_if-in-Empty.new.walk (λ box. c.is_empty-closed.result) (λ box. []) 0
    (λ box rest taken is h. Treats-empty c.args.key.now box c.args.node c.is_empty-closed.result c.args.terms.now taken
    rest c.close_if-in-Empty.new.walk c.in-Empty.is (OnFirst-at c.args.walk.now _ box rest is c.is_empty-closed.ensures)
    h) c.close_if-in-Empty.ensures

pub returns-in-Left : goal.returns-in-Left
returns-in-Left c =
    OnFirst-from c.args.walk.now (λ box rest. Treats (treated false c.args.key.now box c.args.node c.args.terms.now)
    c.args.terms.now None rest c.args.walk.now)
    (λ box rest h. Treats-left c.args.key.now box c.args.node c.args.terms.now rest c.args.walk.now c.in-Left.is)
