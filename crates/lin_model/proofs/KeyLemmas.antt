-- The width of a key, one atom after another.
use Rattle.std.proofs.Common.{◌≡◌, ◌≤◌, ◌<◌, ℕ, ◌+◌, max, List, length, drop, get_or, ap, arith}
use Rattle.std.proofs.lemmas.List.{drop_more}
use Rattle.lin_model.specs.Form.{form_width}
use Rattle.lin_model.specs.KeyAtom.{PlainKeyAtom}
use Rattle.lin_model.specs.Key.{key_width}
use Rattle.lin_model.specs.Facts.{key_width-above}

pub key_width-rest : (atoms : List PlainKeyAtom) (i : ℕ) (d : PlainKeyAtom) → i < length atoms
    → key_width (drop i atoms) ≡ max (form_width (get_or atoms i d).form) (key_width (drop (i + 1) atoms))
key_width-rest atoms i d lt = ap key_width (drop_more atoms i d lt)

-- no form of a key is wider than whatever its width is at most
pub atom_within : (atoms : List PlainKeyAtom) (n i : ℕ) (d : PlainKeyAtom) → i < length atoms → key_width atoms ≤ n
    → form_width (get_or atoms i d).form ≤ n
atom_within atoms n i d lt wide = omega (arith, key_width-above atoms i d lt)
