-- What follows from the order of the kinds: for the proofs of the crates above.
use Rattle.std.proofs.Common.{◌≡◌, ◌≤◌, ◌+◌, ℕ, ◌-◌, cond, nat_eq, refl, sym, ap, ◌∙◌, arith}
use Rattle.lin_text.specs.declared.fault.TextKind.{TextKind}
use Rattle.lin_text.specs.declared.fault.TextKind.TheVariants as texts
use Rattle.lin_text.specs.declared.fault.SessionKind.{SessionKind}
use Rattle.lin_text.specs.declared.fault.SessionKind.TheVariants as kinds
use Rattle.lin_text.specs.Kinds.{session_kind, rank, session_rank}
use Rattle.lin_text.specs.FirstFaults.{IsStrict}

-- the kind of a rank
kind_at : ℕ → TextKind
kind_at n =
    cond (nat_eq n 0) texts.TooManyVars (cond (nat_eq n 1) texts.TooManyAtoms
    (cond (nat_eq n 2) texts.TooManyTerms (cond (nat_eq n 3) texts.Token (cond (nat_eq n 4) texts.Syntax
    (cond (nat_eq n 5) texts.NumberTooLarge (cond (nat_eq n 6) texts.UnknownName
    (cond (nat_eq n 7) texts.NameTwice (cond (nat_eq n 8) texts.EmptyRange texts.NoMemory))))))))

kind_at-rank : (k : TextKind) → kind_at (rank k) ≡ k
unfolding kind_at
kind_at-rank texts.TooManyVars = refl
kind_at-rank texts.TooManyAtoms = refl
kind_at-rank texts.TooManyTerms = refl
kind_at-rank texts.Token = refl
kind_at-rank texts.Syntax = refl
kind_at-rank texts.NumberTooLarge = refl
kind_at-rank texts.UnknownName = refl
kind_at-rank texts.NameTwice = refl
kind_at-rank texts.EmptyRange = refl
kind_at-rank texts.NoMemory = refl

pub rank-strict : IsStrict rank
rank-strict k j e = sym (kind_at-rank k) ∙ ap kind_at e ∙ kind_at-rank j

-- the same of a session's
session_kind_at : ℕ → SessionKind
session_kind_at n =
    cond (nat_eq n 0) kinds.BadHeader (cond (nat_eq n 1) kinds.TooManyExecutors
    (cond (nat_eq n 2) kinds.TooManyQueries (cond (nat_eq n 13) kinds.NoEnd (session_kind (kind_at (n - 3))))))

session_kind_at-rank : (k : SessionKind) → session_kind_at (session_rank k) ≡ k
unfolding session_kind_at kind_at
session_kind_at-rank kinds.BadHeader = refl
session_kind_at-rank kinds.TooManyExecutors = refl
session_kind_at-rank kinds.TooManyQueries = refl
session_kind_at-rank kinds.NoEnd = refl
session_kind_at-rank kinds.Token = refl
session_kind_at-rank kinds.Syntax = refl
session_kind_at-rank kinds.NumberTooLarge = refl
session_kind_at-rank kinds.UnknownName = refl
session_kind_at-rank kinds.NameTwice = refl
session_kind_at-rank kinds.EmptyRange = refl
session_kind_at-rank kinds.TooManyVars = refl
session_kind_at-rank kinds.TooManyAtoms = refl
session_kind_at-rank kinds.TooManyTerms = refl
session_kind_at-rank kinds.NoMemory = refl

pub session_rank-strict : IsStrict session_rank
session_rank-strict k j e = sym (session_kind_at-rank k) ∙ ap session_kind_at e ∙ session_kind_at-rank j

-- a kind of a query's text keeps its place among those of a session's
pub rank-kept : (k : TextKind) → session_rank (session_kind k) ≡ 3 + rank k
rank-kept texts.TooManyVars = refl
rank-kept texts.TooManyAtoms = refl
rank-kept texts.TooManyTerms = refl
rank-kept texts.Token = refl
rank-kept texts.Syntax = refl
rank-kept texts.NumberTooLarge = refl
rank-kept texts.UnknownName = refl
rank-kept texts.NameTwice = refl
rank-kept texts.EmptyRange = refl
rank-kept texts.NoMemory = refl

-- a missing end goes last
pub rank-most : (k : SessionKind) → session_rank k ≤ session_rank kinds.NoEnd
rank-most kinds.BadHeader = omega arith
rank-most kinds.TooManyExecutors = omega arith
rank-most kinds.TooManyQueries = omega arith
rank-most kinds.NoEnd = omega arith
rank-most kinds.Token = omega arith
rank-most kinds.Syntax = omega arith
rank-most kinds.NumberTooLarge = omega arith
rank-most kinds.UnknownName = omega arith
rank-most kinds.NameTwice = omega arith
rank-most kinds.EmptyRange = omega arith
rank-most kinds.TooManyVars = omega arith
rank-most kinds.TooManyAtoms = omega arith
rank-most kinds.TooManyTerms = omega arith
rank-most kinds.NoMemory = omega arith
