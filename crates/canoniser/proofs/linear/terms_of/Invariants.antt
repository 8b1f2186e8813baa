use Rattle.std.proofs.Common.{◌≡◌, ℕ, ◌<◌, ◌-ℤ◌, pos, take, get_or}
use Rattle.lin_model.specs.declared.atom.Atom.{Atom}
use Rattle.canoniser.specs.Gathered.{coefficient}
use Rattle.canoniser.specs.Forms.{terms_from}
use Rattle.canoniser.proofs.linear.terms_of.Given as goal

-- the terms over the variables so far
abbrev pub invariant-loop-k : goal.invariant-loop-k
invariant-loop-k l =
    (atom : Atom) → ((v : ℕ) → v < 64 → coefficient atom v ≡ get_or l.left.factors v (pos 0) -ℤ get_or l.right.factors v
    (pos 0)) → l.terms.items ≡ terms_from 0 (take l.k l.order) atom
