-- Prints: hashes of forms, and what an atom may imply.
use Rattle.std.proofs.Common.{◌≡◌, ℕ, ◌+◌, ◌<◌, ℤ, List, length, drop, get_or, refl, ap, sym, subst}
use Rattle.std.specs.Int.RustNames.{bit_or}
use Rattle.std.proofs.Math.Seq.{drop-length}
use Rattle.std.proofs.lemmas.List.{drop_more}
use Rattle.lin_model.specs.declared.form.FormTerm.{FormTerm}
use Rattle.lin_model.specs.declared.op.Op.{Op}
use Rattle.lin_model.specs.declared.op.Op.TheVariants.{Le, Ge, Eq, Ne}
use Rattle.lin_model.specs.KeyAtom.{PlainKeyAtom}
use Rattle.atom_implies.specs.Implies.{Implies, TestImplies}
use Rattle.atom_implies.specs.Laws.{TableIsRight}
use Rattle.key_tree.specs.Laws.{PrintsAreRight}
use Rattle.key_tree.specs.Prints.{with_term, hash_from, hash_of, kind_bit, needs_bit, gives_bits, needs_of, gives_of, IsWithin}
use Rattle.key_tree.specs.MaskFacts.{within_itself, within_more, within_left, within_right}

-- the hash begins with 0
pub hash_begins : (form : List FormTerm) → hash_from 0 form ≡ hash_of form
unfolding hash_of
hash_begins form = refl

-- one term more
pub hash_more : (hash : ℕ) (form : List FormTerm) (i : ℕ) (d : FormTerm) → i < length form
    → hash_from (with_term hash (get_or form i d)) (drop (i + 1) form) ≡ hash_from hash (drop i form)
unfolding hash_from
hash_more hash form i d lt =
    ap (λ (terms : List FormTerm). hash_from hash terms) (sym (drop_more form i d lt))

-- no term more
pub hash_done : (hash : ℕ) (form : List FormTerm) (i : ℕ) → i ≡ length form → hash_from hash (drop i form) ≡ hash
unfolding hash_from
hash_done hash form i e = rw (e, drop-length form)

-- ---- what an atom may imply

-- the bit of what a comparison implies is among those that it gives
bits_given : (table : TableIsRight) (hash : ℕ) (op : Op) (c : ℤ) (other : Op) (d : ℤ) → TestImplies op c other d
    → IsWithin (needs_bit hash other) (gives_bits hash op)
unfolding needs_bit gives_bits
bits_given table hash Le c Le d follows = within_left (kind_bit hash 0) (kind_bit hash 3)
bits_given table hash Le c Ge d follows = let said = (table Le c Ge d).1 follows in absurd (cc)
bits_given table hash Le c Eq d follows = let said = (table Le c Eq d).1 follows in absurd (cc)
bits_given table hash Le c Ne d follows = within_right (kind_bit hash 0) (kind_bit hash 3)
bits_given table hash Ge c Le d follows = let said = (table Ge c Le d).1 follows in absurd (cc)
bits_given table hash Ge c Ge d follows = within_left (kind_bit hash 1) (kind_bit hash 3)
bits_given table hash Ge c Eq d follows = let said = (table Ge c Eq d).1 follows in absurd (cc)
bits_given table hash Ge c Ne d follows = within_right (kind_bit hash 1) (kind_bit hash 3)
bits_given table hash Eq c Le d follows =
    within_more _ _ _ (within_left (kind_bit hash 0) (kind_bit hash 1)) (within_left (bit_or (kind_bit hash 0) (kind_bit hash 1)) (bit_or (kind_bit hash 2) (kind_bit hash 3)))
bits_given table hash Eq c Ge d follows =
    within_more _ _ _ (within_right (kind_bit hash 0) (kind_bit hash 1)) (within_left (bit_or (kind_bit hash 0) (kind_bit hash 1)) (bit_or (kind_bit hash 2) (kind_bit hash 3)))
bits_given table hash Eq c Eq d follows =
    within_more _ _ _ (within_left (kind_bit hash 2) (kind_bit hash 3)) (within_right (bit_or (kind_bit hash 0) (kind_bit hash 1)) (bit_or (kind_bit hash 2) (kind_bit hash 3)))
bits_given table hash Eq c Ne d follows =
    within_more _ _ _ (within_right (kind_bit hash 2) (kind_bit hash 3)) (within_right (bit_or (kind_bit hash 0) (kind_bit hash 1)) (bit_or (kind_bit hash 2) (kind_bit hash 3)))
bits_given table hash Ne c Le d follows = let said = (table Ne c Le d).1 follows in absurd (cc)
bits_given table hash Ne c Ge d follows = let said = (table Ne c Ge d).1 follows in absurd (cc)
bits_given table hash Ne c Eq d follows = let said = (table Ne c Eq d).1 follows in absurd (cc)
bits_given table hash Ne c Ne d follows = within_itself (kind_bit hash 3)

-- what an atom implies needs what the atom gives
needs_given : (table : TableIsRight) (a b : PlainKeyAtom) → Implies a b → IsWithin (needs_of b) (gives_of a)
unfolding needs_of gives_of
needs_given table a b implied =
    subst (λ (form : List FormTerm). IsWithin (needs_bit (hash_of form) b.op) (gives_bits (hash_of a.form) a.op))
    implied.same_form (bits_given table (hash_of a.form) a.op a.constant b.op b.constant implied.tests)

-- prints are right where the table of implication is
pub prints_are_right : TableIsRight → PrintsAreRight
prints_are_right table =
    record { gives = needs_given table; hash = λ a b implied. ap (λ (form : List FormTerm). hash_of form) implied.same_form }
