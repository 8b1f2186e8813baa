-- Tokens that can come one behind the other begin a line.
use Rattle.std.proofs.Common.{◌≡◌, true, false, List, [], ◌∷◌, Some, refl, sym}
use Rattle.lin_text.specs.declared.class.Sign.TheVariants.{Le}
use Rattle.lin_text.specs.Pieces.{Piece, name, number, compare, line_end}
use Rattle.lin_text.specs.Grammar.{BeginsLine}
use Rattle.lin_text.proofs.Places.{Place, start, var_name, low, low_number, high, high_number, var_end, item, size}
use Rattle.lin_text.proofs.Places.{after, factor, done, run}
use Rattle.lin_text.proofs.Shapes.{Shape-run}

-- tokens that lead from a place to the end of a line
finish : (s : Place) → (qs : List Piece) × (run s qs ≡ Some done)
finish start = (number 0 ∷ compare Le ∷ number 0 ∷ line_end ∷ [], refl)
finish var_name = (name [] ∷ number 0 ∷ number 0 ∷ line_end ∷ [], refl)
finish low = (number 0 ∷ number 0 ∷ line_end ∷ [], refl)
finish low_number = (number 0 ∷ number 0 ∷ line_end ∷ [], refl)
finish high = (number 0 ∷ line_end ∷ [], refl)
finish high_number = (number 0 ∷ line_end ∷ [], refl)
finish var_end = (line_end ∷ [], refl)
finish (item true n) = (number 0 ∷ compare Le ∷ number 0 ∷ line_end ∷ [], refl)
finish (item false n) = (number 0 ∷ line_end ∷ [], refl)
finish (size true n) = (number 0 ∷ compare Le ∷ number 0 ∷ line_end ∷ [], refl)
finish (size false n) = (number 0 ∷ line_end ∷ [], refl)
finish (after true n bare) = (compare Le ∷ number 0 ∷ line_end ∷ [], refl)
finish (after false n bare) = (line_end ∷ [], refl)
finish (factor true n) = (name [] ∷ compare Le ∷ number 0 ∷ line_end ∷ [], refl)
finish (factor false n) = (name [] ∷ line_end ∷ [], refl)
finish done = ([], refl)

-- tokens that are run through begin a line
pub BeginsLine-run : (ps : List Piece) (s : Place) → run start ps ≡ Some s → BeginsLine ps
BeginsLine-run ps s e =
    let f = finish s in
    let whole = Shape-run s done ps f.0 (Shape-run start s [] ps refl e) f.1 in
    record { line = whole.0; more = f.0; written = sym whole.1 }
