-- Words and names.
use Rattle.std.proofs.Common.{◌≡◌, ℕ, Bool, true, false, cond, List, refl}
use Rattle.std.specs.Prelude.{bytes_eq, codes}
use Rattle.lin_text.specs.Pieces.{var, word, name, name_piece, is_word}
use Rattle.lin_text.specs.Classes.{class_of}
use Rattle.lin_text.specs.declared.class.Class.TheVariants.{Var, Word, Name}

name_piece-is : (v w : Bool) (text : List ℕ)
    → class_of (cond v var (cond w (word text) (name text))) ≡ cond v Var (cond w Word Name)
name_piece-is true w text = refl
name_piece-is false true text = refl
name_piece-is false false text = refl

pub class_of-name_piece : (in_proof : Bool) (text : List ℕ)
    → class_of (name_piece in_proof text) ≡ cond (bytes_eq text (codes "var")) Var
    (cond (is_word in_proof text) Word Name)
unfolding name_piece
class_of-name_piece in_proof text = name_piece-is (bytes_eq text (codes "var")) (is_word in_proof text) text

pub ruleset named = (class_of-name_piece)
