-- Signs and `var` at the front of a text.
use Rattle.std.proofs.Common.{◌≡◌, ℕ, Bool, List, [], ◌∷◌, ◌++◌}
use Rattle.std.proofs.Common.{refl, arith}
use Rattle.std.specs.Prelude.{codes}
use Rattle.lin_model.specs.declared.atom.Cmp.{Cmp}
use Rattle.lin_model.specs.declared.atom.Cmp.TheVariants.{Le, Lt, Ge, Gt, Eq, Ne}
use Rattle.lin_text.specs.declared.class.Sign.{Sign}
use Rattle.lin_text.specs.declared.class.Sign.TheVariants as signs
use Rattle.lin_text.specs.Spelling.{cmp_text}
use Rattle.lin_text.specs.Tokens.{token_length}
use Rattle.lin_text.specs.declared.token.TokenKind.TheVariants.{Name, Symbol}
use Rattle.lin_text.specs.Pieces.{Piece, var, plus, minus, times, compare, name_piece, symbol_piece}
use Rattle.lin_text.specs.Pieces.{cmp_of, piece_of}
use Rattle.lin_text.proofs.ReadBackTokens.{Reads, Starts, Starts-token}

-- the signs

pub Starts-minus : (p : Bool) (rest left : List ℕ) (ps : List Piece) → Reads p rest left ps
    → Starts p (45 ∷ rest) left (minus ∷ ps)
unfolding piece_of symbol_piece token_length
Starts-minus p rest left ps r = Starts-token p 45 [] rest left Symbol ps
    (record {
      no_blank = refl;
      counts = refl;
      no_feed = refl;
      within = refl;
      long = refl;
      shape = λ at. refl;
      goes_on = refl;
    }) r

pub Starts-plus : (p : Bool) (rest left : List ℕ) (ps : List Piece) → Reads p rest left ps
    → Starts p (43 ∷ rest) left (plus ∷ ps)
unfolding piece_of symbol_piece token_length
Starts-plus p rest left ps r = Starts-token p 43 [] rest left Symbol ps
    (record {
      no_blank = refl;
      counts = refl;
      no_feed = refl;
      within = refl;
      long = refl;
      shape = λ at. refl;
      goes_on = refl;
    }) r

pub Starts-times : (p : Bool) (rest left : List ℕ) (ps : List Piece) → Reads p rest left ps
    → Starts p (42 ∷ rest) left (times ∷ ps)
unfolding piece_of symbol_piece token_length
Starts-times p rest left ps r = Starts-token p 42 [] rest left Symbol ps
    (record {
      no_blank = refl;
      counts = refl;
      no_feed = refl;
      within = refl;
      long = refl;
      shape = λ at. refl;
      goes_on = refl;
    }) r

-- the sign with which a comparison is written
abbrev pub plain_sign : Cmp → Sign
plain_sign Le = signs.Le
plain_sign Lt = signs.Lt
plain_sign Ge = signs.Ge
plain_sign Gt = signs.Gt
plain_sign Eq = signs.Eq
plain_sign Ne = signs.Ne

pub plain_sign-means : (cmp : Cmp) → cmp ≡ cmp_of (plain_sign cmp)
plain_sign-means Le = refl
plain_sign-means Lt = refl
plain_sign-means Ge = refl
plain_sign-means Gt = refl
plain_sign-means Eq = refl
plain_sign-means Ne = refl

-- how two sides compare
pub Starts-compare : (p : Bool) (cmp : Cmp) (rest left : List ℕ) (ps : List Piece) → Reads p (32 ∷ rest) left ps
    → Starts p (cmp_text cmp ++ 32 ∷ rest) left (compare (plain_sign cmp) ∷ ps)
unfolding piece_of symbol_piece token_length cmp_text
Starts-compare p Le rest left ps r = Starts-token p 60 (61 ∷ []) (32 ∷ rest) left Symbol ps
    (record {
      no_blank = refl;
      counts = refl;
      no_feed = refl;
      within = omega arith;
      long = refl;
      shape = λ at. refl;
      goes_on = refl;
    }) r
Starts-compare p Lt rest left ps r = Starts-token p 60 [] (32 ∷ rest) left Symbol ps
    (record {
      no_blank = refl;
      counts = refl;
      no_feed = refl;
      within = omega arith;
      long = refl;
      shape = λ at. refl;
      goes_on = refl;
    }) r
Starts-compare p Ge rest left ps r = Starts-token p 62 (61 ∷ []) (32 ∷ rest) left Symbol ps
    (record {
      no_blank = refl;
      counts = refl;
      no_feed = refl;
      within = omega arith;
      long = refl;
      shape = λ at. refl;
      goes_on = refl;
    }) r
Starts-compare p Gt rest left ps r = Starts-token p 62 [] (32 ∷ rest) left Symbol ps
    (record {
      no_blank = refl;
      counts = refl;
      no_feed = refl;
      within = omega arith;
      long = refl;
      shape = λ at. refl;
      goes_on = refl;
    }) r
Starts-compare p Eq rest left ps r = Starts-token p 61 [] (32 ∷ rest) left Symbol ps
    (record {
      no_blank = refl;
      counts = refl;
      no_feed = refl;
      within = omega arith;
      long = refl;
      shape = λ at. refl;
      goes_on = refl;
    }) r
Starts-compare p Ne rest left ps r = Starts-token p 33 (61 ∷ []) (32 ∷ rest) left Symbol ps
    (record {
      no_blank = refl;
      counts = refl;
      no_feed = refl;
      within = omega arith;
      long = refl;
      shape = λ at. refl;
      goes_on = refl;
    }) r

-- what begins a declaration
pub Starts-var : (p : Bool) (rest left : List ℕ) (ps : List Piece) → Reads p (32 ∷ rest) left ps
    → Starts p (codes "var " ++ rest) left (var ∷ ps)
unfolding piece_of name_piece token_length
Starts-var p rest left ps r = Starts-token p 118 (97 ∷ 114 ∷ []) (32 ∷ rest) left Name ps
    (record {
      no_blank = refl;
      counts = refl;
      no_feed = refl;
      within = omega arith;
      long = omega arith;
      shape = λ at. refl;
      goes_on = refl;
    }) r
