-- The text `v0 - 3*v1 >= -4` by the definitions: its tokens, the tree that they write, and what this means.
use Rattle.std.proofs.Common.{◌≡◌, ℕ, true, false, List, [], ◌∷◌, ◌++◌, refl, arith, Some, pos, negsuc, IsTrue}
use Rattle.std.specs.Prelude.{codes}
use Rattle.std.proofs.lemmas.List.Elements.{All-cons, All-nil}
use Rattle.lin_model.specs.KeyAtom.{PlainKeyAtom}
use Rattle.lin_model.specs.Names.{is_digit}
use Rattle.lin_model.specs.declared.op.Op.TheVariants as ops
use Rattle.lin_text.specs.declared.class.Sign.TheVariants.{Ge}
use Rattle.lin_text.specs.Tokens.{IsNumberForm, token_length, token_here, token_from}
use Rattle.lin_text.specs.Pieces.{Piece, name, number, minus, times, compare, line_end, name_piece, symbol_piece}
use Rattle.lin_text.specs.Pieces.{piece_of, PlainToken, plain_token, pieces, AreTokens}
use Rattle.lin_text.specs.Grammar.{multiple, single, side_pieces, integer_value}
use Rattle.lin_text.specs.KeyAtomTexts.{op_of, IsKeyName, AtomTree, atom_pieces, AreFormTerms}

abbrev text : List ℕ
text = codes "v0 - 3*v1 >= -4"

abbrev token : ℕ → ℕ → Piece → PlainToken
token from to piece = record { from = from; to = to; piece = piece }

abbrev tokens : List PlainToken
tokens =
    token 0 2 (name (codes "v0")) ∷ token 3 4 minus ∷ token 5 6 (number 3) ∷ token 6 7 times
    ∷ token 7 9 (name (codes "v1")) ∷ token 10 12 (compare Ge) ∷ token 13 14 minus ∷ token 14 15 (number 4)
    ∷ token 15 15 line_end ∷ []

are_tokens : AreTokens false text 0 tokens
unfolding token_length token_here token_from name_piece symbol_piece piece_of plain_token
are_tokens = (refl, (refl, (refl, (refl, (refl, (refl, (refl, (refl, (refl, refl)))))))))

abbrev tree : AtomTree
tree = record {
  side = record {
    first = record { negative = false; quantity = single (codes "v0") };
    later = record {
      subtracted = true;
      item = record { negative = false; quantity = multiple 3 (codes "v1") };
    } ∷ [];
  };
  sign = Ge;
  integer = record { negative = true; size = 4 };
}

are_written : pieces tokens ≡ atom_pieces tree ++ line_end ∷ []
unfolding side_pieces
are_written = refl

abbrev atom : PlainKeyAtom
atom = record {
  form = record { var = 0; coef = pos 1 } ∷ record { var = 1; coef = negsuc 2 } ∷ [];
  op = ops.Ge;
  constant = negsuc 3;
}

digit_form : (d : ℕ) → IsTrue (is_digit d) → IsNumberForm (d ∷ [])
digit_form d is = record {
  some = omega arith;
  digits = All-cons (λ b. IsTrue (is_digit b)) d [] is (All-nil (λ b. IsTrue (is_digit b)));
}

v0 : IsKeyName (codes "v0") 0
v0 = record { digits = codes "0"; is = refl; form = digit_form 48 refl; value = refl }

v1 : IsKeyName (codes "v1") 1
v1 = record { digits = codes "1"; is = refl; form = digit_form 49 refl; value = refl }

are_terms : AreFormTerms (record { subtracted = false; item = tree.side.first } ∷ tree.side.later) atom.form
are_terms = (record { coef = refl; on = v0 }, (record { coef = refl; on = v1 }, refl))

means_op : op_of tree.sign ≡ Some atom.op
means_op = refl

means_constant : atom.constant ≡ integer_value tree.integer
means_constant = refl
