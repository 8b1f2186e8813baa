-- Points of keys: what a reply that is settled gives, and that values beyond the width of a key don't matter.
use Rattle.std.proofs.Common.{◌≡◌, ℕ, ◌<◌, ℤ, true, false, Option, Some, None, IsSomeAnd}
use Rattle.std.proofs.Common.{List, [], ◌∷◌, get_or, IsTrue, arith, refl, subst}
use Rattle.lin_model.specs.declared.form.FormTerm.{FormTerm}
use Rattle.lin_model.specs.Facts.{key_width-above}
use Rattle.lin_model.specs.Form.{form_value, form_width}
use Rattle.lin_model.specs.Key.{KeyHolds, key_width}
use Rattle.lin_model.specs.KeyAtom.{PlainKeyAtom}
use Rattle.lin_model.specs.Terms.{value_at}
use Rattle.lin_model.specs.Test.{passes}
use Rattle.refutation.specs.Reading.{HasNoPoint}
use Rattle.cert_check.specs.declared.entry.Entry.{Entry}
use Rattle.cert_check.specs.declared.entry.Entry.TheVariants.{Sat, Unsat}
use Rattle.cert_check.specs.declared.reply.Reply.{Reply}
use Rattle.cert_check.specs.declared.reply.Reply.TheVariants.{Hit, Solved, Unkept, Spent}
use Rattle.cert_check.specs.Laws.{IsPointOf, SettledBy, Settles}
use Rattle.cert_check.specs.Replies.{has_core, is_core, is_spent, point_in, point_of_entry}

-- ---- what a reply gives

-- an entry that settles a key has a point of it, or is a core
entry_point : (key : List PlainKeyAtom) (entry : Entry) → is_core entry ≡ false → Settles entry key
    → IsSomeAnd (point_of_entry entry) (IsPointOf key)
entry_point key (Sat e) no_core settles = settles
entry_point key (Unsat e) no_core settles = absurd (cc)

entry_core : (key : List PlainKeyAtom) (entry : Entry) → is_core entry ≡ true → Settles entry key → HasNoPoint key
entry_core key (Sat e) core settles = absurd (cc)
entry_core key (Unsat e) core settles = settles

-- and so has a reply, where it isn't open
pub reply_point : (key : List PlainKeyAtom) (reply : Reply) → has_core reply ≡ false → is_spent reply ≡ false
    → SettledBy key reply → IsSomeAnd (point_in reply) (IsPointOf key)
reply_point key (Hit entry place n) no_core decided settled = entry_point key entry no_core settled
reply_point key (Solved entry place n saved) no_core decided settled = entry_point key entry no_core settled
reply_point key (Unkept entry n saved) no_core decided settled = entry_point key entry no_core settled
reply_point key (Spent tree n) no_core decided settled = absurd (cc)

pub reply_core : (key : List PlainKeyAtom) (reply : Reply) → has_core reply ≡ true → SettledBy key reply
    → HasNoPoint key
reply_core key (Hit entry place n) core settled = entry_core key entry core settled
reply_core key (Solved entry place n saved) core settled = entry_core key entry core settled
reply_core key (Unkept entry n saved) core settled = entry_core key entry core settled
reply_core key (Spent tree n) core settled = absurd (cc)

-- what follows of a value that is there
pub some_weaker : {X : Type 0} (P Q : X → Type 0) (o : Option X) → ((x : X) → P x → Q x) → IsSomeAnd o P
    → IsSomeAnd o Q
some_weaker P Q None weaker some = some
some_weaker P Q (Some x) weaker some = weaker x some

-- ---- the width of a key

-- what a form is worth hangs on the variables below its width alone
form_value-below : (form : List FormTerm) (one other : List ℤ)
    → ((v : ℕ) → v < form_width form → value_at one v ≡ value_at other v)
    → form_value form one ≡ form_value form other
form_value-below [] one other same = refl
form_value-below (t ∷ form) one other same = rw (
  same t.var (omega arith),
  form_value-below form one other (λ v lt. same v (omega (arith, lt))),
) refl

-- and so does whether a key holds
pub KeyHolds-below : (key : List PlainKeyAtom) (one other : List ℤ)
    → ((v : ℕ) → v < key_width key → value_at one v ≡ value_at other v) → KeyHolds key one → KeyHolds key other
KeyHolds-below key one other same holds k d lt =
    let wide = key_width-above key k d lt in
    subst (λ (n : ℤ). IsTrue (passes (get_or key k d).op (get_or key k d).constant n))
    (form_value-below (get_or key k d).form one other (λ v low. same v (omega (arith, low, wide)))) (holds k d lt)
