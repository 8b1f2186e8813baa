-- Lists of writes, with one more.
use Rattle.std.proofs.Common.{◌≡◌, ◌+◌, List, [], ◌∷◌, ◌++◌, length, refl, ap, subst, arith}
use Rattle.std.proofs.Common.{length-append}
use Rattle.cert_check.specs.declared.entry.Entry.{Entry}
use Rattle.cert_check.specs.declared.wrote.Wrote.{Wrote}
use Rattle.cert_check.specs.declared.wrote.Wrote.TheVariants.{At, Fault, Full}
use Rattle.journal.specs.Journals.{saved_in, faults_in, IsInPlace, AreInPlace}

pub saved_in-push : (wrotes : List Wrote) (write : Wrote)
    → saved_in (wrotes ++ write ∷ []) ≡ saved_in wrotes ++ saved_in (write ∷ [])
unfolding saved_in
saved_in-push [] write = refl
saved_in-push (At seat at entry ∷ wrotes) write = ap (λ (rest : List Entry). entry ∷ rest) (saved_in-push wrotes write)
saved_in-push (Fault seat ∷ wrotes) write = saved_in-push wrotes write
saved_in-push (Full seat entry ∷ wrotes) write = saved_in-push wrotes write

pub faults_in-push : (wrotes : List Wrote) (write : Wrote)
    → faults_in (wrotes ++ write ∷ []) ≡ faults_in wrotes + faults_in (write ∷ [])
unfolding faults_in
faults_in-push [] write = omega arith
faults_in-push (At seat at entry ∷ wrotes) write = faults_in-push wrotes write
faults_in-push (Fault seat ∷ wrotes) write = omega (arith, faults_in-push wrotes write)
faults_in-push (Full seat entry ∷ wrotes) write = faults_in-push wrotes write

-- what holds of each item, behind those before it, and of one more
pub each_push : {X : Type 0} (P : List X → X → Type 0) (xs : List X) (x : X)
    → ((before : List X) (y : X) (behind : List X) → xs ≡ before ++ y ∷ behind → P before y) → P xs x
    → (before : List X) (y : X) (behind : List X) → xs ++ x ∷ [] ≡ before ++ y ∷ behind → P before y
each_push P [] x each here [] y behind is = let e : x ≡ y = cc in subst (P []) e here
each_push P [] x each here (b ∷ before) y behind is =
    absurd (omega (arith, ap length is, length-append before (y ∷ behind)))
each_push P (a ∷ xs) x each here [] y behind is = each [] y xs (let e : a ≡ y = cc in ap (λ z. z ∷ xs) e)
each_push {X} P (a ∷ xs) x each here (b ∷ before) y behind is =
    let first : a ≡ b = cc in
    let rest : xs ++ x ∷ [] ≡ before ++ y ∷ behind = cc in
    subst (λ (z : X). P (z ∷ before) y) first (
    each_push (λ front. P (a ∷ front)) xs x
    (λ front z back same. each (a ∷ front) z back (ap (λ (l : List X). a ∷ l) same)) here before y behind rest
    )

-- a write that is in its place behind the others
pub AreInPlace-push : (opening : List Entry) (wrotes : List Wrote) (write : Wrote) → AreInPlace opening wrotes
    → IsInPlace (opening ++ saved_in wrotes) write → AreInPlace opening (wrotes ++ write ∷ [])
AreInPlace-push opening wrotes write placed here =
    each_push (λ before. IsInPlace (opening ++ saved_in before)) wrotes write placed here

-- no write is in its place
pub AreInPlace-none : (opening : List Entry) → AreInPlace opening []
AreInPlace-none opening before write behind is =
    absurd (omega (arith, ap length is, length-append before (write ∷ behind)))
