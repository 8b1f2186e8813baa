-- Hashes of the forms that are asked.
use Rattle.std.proofs.Common.{◌≡◌, ℕ, ◌^◌, ◌<◌, ◌∙◌, List, [], ◌∷◌, length, map, get_or, arith, ap}
use Rattle.std.proofs.lemmas.List.{get_or-map}
use Rattle.lin_model.specs.declared.form.FormTerm.{FormTerm}
use Rattle.lin_model.specs.KeyAtom.{PlainKeyAtom}
use Rattle.key_tree.specs.Prints.{with_term, hash_from, hash_of}
use Rattle.key_tree.specs.Asked.{atom_hash}

-- the hash at a place is that of its atom
pub hash_at : (key : List PlainKeyAtom) (hashes : List ℕ) (k : ℕ) (d : PlainKeyAtom) → hashes ≡ map atom_hash key
    → k < length key → get_or hashes k (atom_hash d) ≡ atom_hash (get_or key k d)
hash_at key hashes k d hashed lt =
    ap (λ (hs : List ℕ). get_or hs k (atom_hash d)) hashed ∙ get_or-map atom_hash key k d (atom_hash d) lt

-- hashes are small
hash_from-small : (hash : ℕ) (form : List FormTerm) → hash < 2 ^ 20 → hash_from hash form < 2 ^ 20
unfolding hash_from with_term
hash_from-small hash [] small = small
hash_from-small hash (t ∷ form) small = hash_from-small (with_term hash t) form (omega arith)

pub hash_of-small : (form : List FormTerm) → hash_of form < 2 ^ 20
unfolding hash_of
hash_of-small form = hash_from-small 0 form (omega arith)
