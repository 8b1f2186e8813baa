-- Lists to which an entry comes.
use Rattle.std.proofs.Common.{◌≡◌, ◌∙◌, Some, List, [], ◌∷◌, ◌++◌, length, take, refl, sym, ap, subst}
use Rattle.std.specs.List.{slice_get}
use Rattle.std.proofs.Math.Seq.{take-append_seam}
use Rattle.lin_model.specs.KeyAtom.{PlainKeyAtom}
use Rattle.cert_check.specs.declared.entry.Entry.{Entry}
use Rattle.cert_check.specs.Decides.{NoneDecides}

-- what none of the first entries decides, none of the first of a longer list does
pub none_in_front : (key : List PlainKeyAtom) (entries more later : List Entry) → NoneDecides entries key
    → later ≡ entries ++ more → NoneDecides (take (length entries) later) key
none_in_front key entries more later none is =
    subst (λ (es : List Entry). NoneDecides es key)
    (sym (ap (take (length entries)) is ∙ take-append_seam entries more)) none

-- what was pushed stands at the end
pub there_at_end : (entries : List Entry) (entry : Entry)
    → slice_get (entries ++ entry ∷ []) (length entries) ≡ Some entry
there_at_end [] entry = refl
there_at_end (e ∷ entries) entry = there_at_end entries entry
