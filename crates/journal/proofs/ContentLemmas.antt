-- What a content has after a write that was done or failed.
use Rattle.std.proofs.Common.{ℕ, List, Option, None, Some, sym, subst}
use Rattle.std.specs.Option.{IfSome}
use Rattle.outside.specs.Crash.{WritesAt, TearsAt, Torn, patched}

pub content_written : (old new : Option (List ℕ)) (at : ℕ) (bytes : List ℕ) (P Q : List ℕ → Type 0) → WritesAt old new at bytes
    → IfSome old P → ((file : List ℕ) → P file → Q (patched file at bytes)) → IfSome new Q
content_written None new at bytes P Q writes has more =
    subst (λ (content : Option (List ℕ)). IfSome content Q) (sym writes) tt
content_written (Some file) new at bytes P Q writes has more =
    subst (λ (content : Option (List ℕ)). IfSome content Q) (sym writes) (more file has)

pub content_torn : (old new : Option (List ℕ)) (at n : ℕ) (P Q : List ℕ → Type 0) → TearsAt old new at n → IfSome old P
    → ((file torn : List ℕ) → Torn at n file torn → P file → Q torn) → IfSome new Q
content_torn None new at n P Q tears has more =
    subst (λ (content : Option (List ℕ)). IfSome content Q) (sym tears) tt
content_torn (Some file) new at n P Q tears has more =
    subst (λ (content : Option (List ℕ)). IfSome content Q) (sym tears.2) (more file tears.0 tears.1 has)

pub content_weaker : (content : Option (List ℕ)) (P Q : List ℕ → Type 0) → IfSome content P
    → ((file : List ℕ) → P file → Q file) → IfSome content Q
content_weaker None P Q has less = tt
content_weaker (Some file) P Q has less = less file has
