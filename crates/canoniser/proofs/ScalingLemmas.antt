-- Both sides of an atom times a positive number: it comes to the same.
use Rattle.std.proofs.Common.{◌≡◌, ℕ, suc, ◌<◌, ◌↔◌, Bool, true, false, List, [], ◌∷◌, ◌++◌, map, ℤ, pos, ◌+ℤ◌, ◌-ℤ◌}
use Rattle.std.proofs.Common.{◌*ℤ◌, neg_ℤ, ◌≤ℤ◌, ◌<ℤ◌, refl, arith, ap, sym, subst, ◌∙◌}
use Rattle.std.specs.Prelude.{is_some, int_lt, if◌then◌else◌}
use Rattle.std.specs.List.{cons_option}
use Rattle.std.specs.Ordering.{int_eq}
use Rattle.std.proofs.Math.IntN.{*ℤ-zero}
use Rattle.std.proofs.lemmas.Bool.Decides.{Decides-int_eq}
use Rattle.std.proofs.lemmas.Int.{ints, by_lt_z}
use Rattle.lin_model.specs.Terms.{PlainTerm}
use Rattle.lin_model.specs.KeyAtom.{PlainKeyAtom}
use Rattle.lin_model.specs.declared.atom.Atom.{Atom}
use Rattle.lin_model.specs.declared.atom.Cmp.{Cmp}
use Rattle.lin_model.specs.declared.atom.Cmp.TheVariants.{Le, Lt, Ge, Gt, Eq, Ne}
use Rattle.lin_model.specs.declared.form.FormTerm.{FormTerm}
use Rattle.lin_model.specs.declared.op.Op.{Op}
use Rattle.lin_model.specs.declared.op.Op.TheVariants.{Le as AtMost, Ge as AtLeast, Eq as Equals, Ne as Differs}
use Rattle.lin_model.specs.Integers.{Decides-int_lt, distrib_left, scale_up}
use Rattle.slicer.specs.Names.{side_vars, atom_vars}
use Rattle.canoniser.specs.Gathered.{is_on, factor_on, constants_of, coefficient, constant, op_of, loose}
use Rattle.canoniser.specs.Forms.{terms_from, gathered, oriented, turned, turned_op, begins_negative}
use Rattle.canoniser.specs.Factors.{times_side, times}
use Rattle.canoniser.proofs.Arithmetic.{neg_right}
use Rattle.canoniser.proofs.MeaningLemmas.{times_same}

-- ---- sides

minus_times_left : (m a b : ℤ) → m *ℤ (a -ℤ b) ≡ (m *ℤ a) -ℤ (m *ℤ b)
minus_times_left m a b = omega (arith, ints, distrib_left m a (neg_ℤ b), neg_right m b)

chosen-times : (m : ℤ) (test : Bool) (n : ℤ) → (if test then m *ℤ n else pos 0) ≡ m *ℤ (if test then n else pos 0)
chosen-times m true n = refl
chosen-times m false n = sym (*ℤ-zero m)

unless-times : (m : ℤ) (test : Bool) (n : ℤ) → (if test then pos 0 else m *ℤ n) ≡ m *ℤ (if test then pos 0 else n)
unless-times m true n = sym (*ℤ-zero m)
unless-times m false n = refl

factor_on-times : (m v : ℕ) (terms : List PlainTerm) → factor_on v (times_side m terms) ≡ pos m *ℤ factor_on v terms
factor_on-times m v [] = sym (*ℤ-zero (pos m))
factor_on-times m v (t ∷ ts) =
    omega (
      arith,
      ints,
      chosen-times (pos m) (is_on t.var v) t.factor,
      factor_on-times m v ts,
      distrib_left (pos m) (if is_on t.var v then t.factor else pos 0) (factor_on v ts),
    )

constants_of-times : (m : ℕ) (terms : List PlainTerm) → constants_of (times_side m terms) ≡ pos m *ℤ constants_of terms
constants_of-times m [] = sym (*ℤ-zero (pos m))
constants_of-times m (t ∷ ts) =
    omega (
      arith,
      ints,
      unless-times (pos m) (is_some t.var) t.factor,
      constants_of-times m ts,
      distrib_left (pos m) (if is_some t.var then pos 0 else t.factor) (constants_of ts),
    )

coefficient-times : (m : ℕ) (atom : Atom) (v : ℕ) → coefficient (times m atom) v ≡ pos m *ℤ coefficient atom v
coefficient-times m atom v =
    omega (
      arith,
      ints,
      factor_on-times m v atom.left,
      factor_on-times m v atom.right,
      minus_times_left (pos m) (factor_on v atom.left) (factor_on v atom.right),
    )

constant-times : (m : ℕ) (atom : Atom) → constant (times m atom) ≡ pos m *ℤ constant atom
constant-times m atom =
    omega (
      arith,
      ints,
      constants_of-times m atom.left,
      constants_of-times m atom.right,
      minus_times_left (pos m) (constants_of atom.right) (constants_of atom.left),
    )

side_vars-times : (m : ℕ) (terms : List PlainTerm) → side_vars (times_side m terms) ≡ side_vars terms
side_vars-times m [] = refl
side_vars-times m (t ∷ ts) = ap (cons_option t.var) (side_vars-times m ts)

pub atom_vars-times : (m : ℕ) (atom : Atom) → atom_vars (times m atom) ≡ atom_vars atom
atom_vars-times m atom =
    ap (λ (vs : List ℕ). vs ++ side_vars (times_side m atom.right)) (side_vars-times m atom.left)
    ∙ ap (λ (vs : List ℕ). side_vars atom.left ++ vs) (side_vars-times m atom.right)

-- ---- forms

-- every coefficient times m
abbrev pub scaled : ℕ → FormTerm → FormTerm
scaled m t = record { var = t.var; coef = pos m *ℤ t.coef }

pub same_bool : (a b : Bool) → (a ≡ true → b ≡ true) → (b ≡ true → a ≡ true) → a ≡ b
same_bool true b f g = sym (f refl)
same_bool false true f g = g refl
same_bool false false f g = refl

zero-times : (m : ℕ) (n : ℤ) → 0 < m → int_eq (pos m *ℤ n) (pos 0) ≡ int_eq n (pos 0)
zero-times m n h =
    same_bool (int_eq (pos m *ℤ n) (pos 0)) (int_eq n (pos 0))
    (λ e. (Decides-int_eq n (pos 0)).1
    (times_same m n (pos 0) h ((Decides-int_eq (pos m *ℤ n) (pos 0)).0 e ∙ sym (*ℤ-zero (pos m)))))
    (λ e. (Decides-int_eq (pos m *ℤ n) (pos 0)).1
    (ap (λ (x : ℤ). pos m *ℤ x) ((Decides-int_eq n (pos 0)).0 e) ∙ *ℤ-zero (pos m)))

chosen-scaled : (m : ℕ) (zero_too : Bool) (t u : FormTerm) (ts : List FormTerm) → u ≡ scaled m t
    → (if zero_too then map (scaled m) ts else u ∷ map (scaled m) ts) ≡ map (scaled m) (if zero_too then ts else t ∷ ts)
chosen-scaled m true t u ts e = refl
chosen-scaled m false t u ts e = ap (λ (x : FormTerm). x ∷ map (scaled m) ts) e

terms_from-times : (m k : ℕ) (vs : List ℕ) (atom : Atom) → 0 < m
    → terms_from k vs (times m atom) ≡ map (scaled m) (terms_from k vs atom)
terms_from-times m k [] atom h = refl
terms_from-times m k (v ∷ vs) atom h =
    let coef = coefficient atom v in
    let more = coefficient (times m atom) v in
    let product = coefficient-times m atom v in
    let t : FormTerm = record { var = k; coef = coef } in
    let u : FormTerm = record { var = k; coef = more } in
    let zero : int_eq more (pos 0) ≡ int_eq coef (pos 0) =
    ap (λ (x : ℤ). int_eq x (pos 0)) product ∙ zero-times m coef h in
    ap (λ (ts : List FormTerm). if int_eq more (pos 0) then ts else u ∷ ts) (terms_from-times m (suc k) vs atom h)
    ∙ ap (λ (b : Bool). if b then map (scaled m) (terms_from (suc k) vs atom) else u ∷ map (scaled m)
    (terms_from (suc k) vs atom)) zero
    ∙ chosen-scaled m (int_eq coef (pos 0)) t u (terms_from (suc k) vs atom) (λ i. record { var = k; coef = product i })

opposite-scaled : (m : ℕ) (form : List FormTerm)
    → map (λ t. record { var = t.var; coef = neg_ℤ t.coef }) (map (scaled m) form)
    ≡ map (scaled m) (map (λ t. record { var = t.var; coef = neg_ℤ t.coef }) form)
opposite-scaled m [] = refl
opposite-scaled m (t ∷ ts) =
    let rest = opposite-scaled m ts in
    let product = sym (neg_right (pos m) t.coef) in
    λ i. record { var = t.var; coef = product i } ∷ rest i

-- a positive factor of both sides of a comparison
pub times_le : (m : ℕ) (a b : ℤ) → 0 < m → ((pos m *ℤ a) ≤ℤ (pos m *ℤ b)) ↔ (a ≤ℤ b)
times_le m a b h = (
  λ le. by_lt_z b a
      (λ less. absurd
      (omega (arith, ints, scale_up m (b +ℤ pos 1) a (omega (arith, ints)), distrib_left (pos m) b (pos 1))))
      (λ ge. ge),
  λ le. scale_up m a b le,
)

times_lt : (m : ℕ) (a b : ℤ) → 0 < m → ((pos m *ℤ a) <ℤ (pos m *ℤ b)) ↔ (a <ℤ b)
times_lt m a b h = (
  λ lt. by_lt_z a b (λ less. less) (λ ge. absurd (omega (arith, ints, scale_up m b a ge))),
  λ lt. omega (arith, ints, scale_up m (a +ℤ pos 1) b (omega (arith, ints)), distrib_left (pos m) a (pos 1)),
)

negative-times : (m : ℕ) (n : ℤ) → 0 < m → int_lt (pos m *ℤ n) (pos 0) ≡ int_lt n (pos 0)
negative-times m n h =
    let both = times_lt m n (pos 0) h in
    let none = *ℤ-zero (pos m) in
    same_bool (int_lt (pos m *ℤ n) (pos 0)) (int_lt n (pos 0))
    (λ e. (Decides-int_lt n (pos 0)).1
    (both.0 (let lt = (Decides-int_lt (pos m *ℤ n) (pos 0)).0 e in omega (arith, ints))))
    (λ e. (Decides-int_lt (pos m *ℤ n) (pos 0)).1
    (let lt = both.1 ((Decides-int_lt n (pos 0)).0 e) in omega (arith, ints)))

begins_negative-scaled : (m : ℕ) (form : List FormTerm) → 0 < m
    → begins_negative (map (scaled m) form) ≡ begins_negative form
begins_negative-scaled m [] h = refl
begins_negative-scaled m (t ∷ ts) h = negative-times m t.coef h

-- ---- constants

-- the constant of the multiplied atom does for multiples what the constant does
abbrev pub Matches : Op → ℕ → ℤ → ℤ → Type 0
Matches AtMost m c d = (n : ℤ) → ((pos m *ℤ n) ≤ℤ d) ↔ (n ≤ℤ c)
Matches AtLeast m c d = (n : ℤ) → (d ≤ℤ (pos m *ℤ n)) ↔ (c ≤ℤ n)
Matches Equals m c d = d ≡ pos m *ℤ c
Matches Differs m c d = d ≡ pos m *ℤ c

pub loose-matches : (cmp : Cmp) (m : ℕ) (c d : ℤ) → 0 < m → d ≡ pos m *ℤ c
    → Matches (op_of cmp) m (loose cmp c) (loose cmp d)
loose-matches Le m c d h e = λ n. let both = times_le m n c h in (
  λ le. both.0 (omega (arith, ints)),
  λ le. let up =
      both.1 le in omega (arith, ints),
)
loose-matches Lt m c d h e = λ n. let both = times_lt m n c h in (
  λ le. let lt =
      both.0 (omega (arith, ints)) in omega (arith, ints),
  λ le. let up =
      both.1 (omega (arith, ints)) in omega (arith, ints),
)
loose-matches Ge m c d h e = λ n. let both = times_le m c n h in (
  λ le. both.0 (omega (arith, ints)),
  λ le. let up =
      both.1 le in omega (arith, ints),
)
loose-matches Gt m c d h e = λ n. let both = times_lt m c n h in (
  λ le. let lt =
      both.0 (omega (arith, ints)) in omega (arith, ints),
  λ le. let up =
      both.1 (omega (arith, ints)) in omega (arith, ints),
)
loose-matches Eq m c d h e = e
loose-matches Ne m c d h e = e

turned-matches : (op : Op) (m : ℕ) (c d : ℤ) → Matches op m c d → Matches (turned_op op) m (neg_ℤ c) (neg_ℤ d)
turned-matches AtMost m c d both = λ n. let at = both (neg_ℤ n) in let product = neg_right (pos m) n in (
  λ le. let low = at.0 (omega (arith, ints)) in omega (arith, ints),
  λ le. let low =
      at.1 (omega (arith, ints)) in omega (arith, ints),
)
turned-matches AtLeast m c d both = λ n. let at = both (neg_ℤ n) in let product = neg_right (pos m) n in (
  λ le. let low = at.0 (omega (arith, ints)) in omega (arith, ints),
  λ le. let low =
      at.1 (omega (arith, ints)) in omega (arith, ints),
)
turned-matches Equals m c d e = ap neg_ℤ e ∙ sym (neg_right (pos m) c)
turned-matches Differs m c d e = ap neg_ℤ e ∙ sym (neg_right (pos m) c)

-- ---- the parts of a multiplied atom

-- the second atom is the first with both sides times m
pub record IsTimes (m : ℕ) (a b : PlainKeyAtom) : Type 0 where
  pub form_is : b.form ≡ map (scaled m) a.form
  pub op_is : b.op ≡ a.op
  pub constant_is : Matches a.op m a.constant b.constant

IsTimes-gathered : (order : List ℕ) (m : ℕ) (atom : Atom) → 0 < m
    → IsTimes m (gathered order atom) (gathered order (times m atom))
IsTimes-gathered order m atom h = record {
  form_is = terms_from-times m 0 order atom h;
  op_is = refl;
  constant_is = loose-matches atom.cmp m (constant atom) (constant (times m atom)) h (constant-times m atom);
}

IsTimes-turned : (m : ℕ) (a b : PlainKeyAtom) → IsTimes m a b → IsTimes m (turned a) (turned b)
IsTimes-turned m a b is = record {
  form_is = ap (map (λ t. record { var = t.var; coef = neg_ℤ t.coef })) is.form_is ∙ opposite-scaled m a.form;
  op_is = ap turned_op is.op_is;
  constant_is = turned-matches a.op m a.constant b.constant is.constant_is;
}

IsTimes-by : (negative : Bool) (m : ℕ) (a b : PlainKeyAtom) → IsTimes m a b
    → IsTimes m (if negative then turned a else a) (if negative then turned b else b)
IsTimes-by true m a b is = IsTimes-turned m a b is
IsTimes-by false m a b is = is

pub IsTimes-oriented : (order : List ℕ) (m : ℕ) (atom : Atom) → 0 < m
    → IsTimes m (oriented (gathered order atom)) (oriented (gathered order (times m atom)))
IsTimes-oriented order m atom h =
    let a = gathered order atom in
    let b = gathered order (times m atom) in
    let is = IsTimes-gathered order m atom h in
    let same : begins_negative a.form ≡ begins_negative b.form =
    sym (ap begins_negative is.form_is ∙ begins_negative-scaled m a.form h) in
    subst (λ test. IsTimes m (oriented a) (if test then turned b else b)) same
    (IsTimes-by (begins_negative a.form) m a b is)
