-- Reading a part of a body: the law of the reader of a part, and that it holds of each way to put parts together.
use Rattle.std.proofs.Common.{◌≡◌, ℕ, ◌≤◌, Bool, true, false, cond, List, ◌++◌, length, Ok, Err}
use Rattle.std.proofs.Common.{inl, inr, refl, sym, ap, subst, ◌∙◌, arith, append_assoc}
use Rattle.std.specs.Bool.{Decides}
use Rattle.std.proofs.lemmas.Bool.Decides.{not_from_Decides}
use Rattle.entry_codec.specs.Reading.{Read, ◌>>=◌, mapped_at, tested_at}
use Rattle.entry_codec.specs.Grammar.{IsBytes, Grammar, Begins, IsFaultyField, field, both, seen_as}
use Rattle.entry_codec.specs.Grammar.{tested}
use Rattle.entry_codec.proofs.Bytes.{IsBytes-behind, length-behind, both_ok, one_failed, step_on, step_off, passed}
use Rattle.entry_codec.proofs.Bytes.{failed, ok_is}

-- what was read is a value of the part, as it is seen, and stands in front
pub record Took {A B : Type 0} (part : Grammar A) (see : A → B) (bytes : List ℕ) (seen : B) (rest : List ℕ)
    : Type 0 where
  pub value : A
  pub is : seen ≡ see value
  pub begins : Begins part bytes value rest

-- The reader gives the values of the part, as they are seen, and its first fault.
pub record ReadsAs {A B : Type 0} (part : Grammar A) (see : A → B) (read : List ℕ → Read B) : Type 0 where
  -- what is read stands in front
  pub takes : (bytes : List ℕ) (seen : B) (rest : List ℕ) → IsBytes bytes → read bytes ≡ Ok (seen, rest)
      → Took part see bytes seen rest
  -- what stands in front of anything is read
  pub again : (value : A) (rest : List ℕ) → part.may value → read (part.spell value ++ rest) ≡ Ok (see value, rest)
  -- a fault that is told is the first
  pub faulty : (bytes : List ℕ) (left : ℕ) → IsBytes bytes → read bytes ≡ Err left → part.fault bytes left
  -- the first fault is told
  pub only : (bytes : List ℕ) (left : ℕ) → IsBytes bytes → part.fault bytes left → read bytes ≡ Err left
  -- it lies in the bytes
  pub within : (bytes : List ℕ) (left : ℕ) → part.fault bytes left → left ≤ length bytes

-- the same of values that are seen as they are
abbrev pub Reads : {A : Type 0} → Grammar A → (List ℕ → Read A) → Type 0
Reads part read = ReadsAs part (λ value. value) read

-- what stands in front is read
pub read_where : {A B : Type 0} (part : Grammar A) (see : A → B) (read : List ℕ → Read B) → ReadsAs part see read
    → (bytes : List ℕ) (value : A) (rest : List ℕ) → Begins part bytes value rest → read bytes ≡ Ok (see value, rest)
read_where part see read law bytes value rest begins = ap read begins.spelled ∙ law.again value rest begins.may

-- ---- one field

-- a reader that takes its field, and at fault tells all of the bytes, is the field's
pub Reads-field : {A : Type 0} (spell : A → List ℕ) (May : A → Type 0) (read : List ℕ → Read A)
    → ((bytes : List ℕ) (a : A) (rest : List ℕ) → IsBytes bytes → read bytes ≡ Ok (a, rest)
    → Begins (field spell May) bytes a rest)
    → ((a : A) (rest : List ℕ) → May a → read (spell a ++ rest) ≡ Ok (a, rest))
    → ((bytes : List ℕ) (left : ℕ) → read bytes ≡ Err left → left ≡ length bytes)
    → Reads (field spell May) read
Reads-field {A} spell May read takes again here = record {
  takes = λ bytes a rest are e. record { value = a; is = refl; begins = takes bytes a rest are e };
  again = again;
  faulty = λ bytes left are e. record {
    here = here bytes left e;
    nothing = λ a rest may is. absurd (let found : read bytes ≡ Ok (a, rest) = ap read is ∙ again a rest may in cc);
  };
  only = λ bytes left are fault. by_answer bytes left are fault (read bytes) refl;
  within = λ bytes left fault. omega (arith, fault.here);
}
  where
    by_answer : (bytes : List ℕ) (left : ℕ) → IsBytes bytes → IsFaultyField spell May bytes left → (r : Read A)
        → read bytes ≡ r → read bytes ≡ Err left
    by_answer bytes left are fault (Ok x) e =
        let begins = takes bytes x.0 x.1 are e in
        absurd (fault.nothing x.0 x.1 begins.may begins.spelled)
    by_answer bytes left are fault (Err n) e =
        let same : n ≡ left = here bytes n e ∙ sym fault.here in
        e ∙ ap Err same

-- ---- values seen as others

-- a value that was read, seen as another
pub ReadsAs-mapped : {A B C : Type 0} (part : Grammar A) (see : A → B) (f : B → C) (read : List ℕ → Read B)
    → ReadsAs part see read → ReadsAs part (λ a. f (see a)) (mapped_at f read)
ReadsAs-mapped {A} {B} {C} part see f read law = record {
  takes = λ bytes c rest are e.
      let s = both_ok (read bytes) (λ x. Ok (f x.0, x.1)) (c, rest) e in
      let t = law.takes bytes s.value.0 s.value.1 are s.first in
      let whole : (f s.value.0, s.value.1) ≡ (c, rest) = ok_is {E = ℕ} (f s.value.0, s.value.1) (c, rest) s.then in
      let same : s.value.1 ≡ rest = ap (λ (x : C × List ℕ). x.1) whole in
      record {
        value = t.value;
        is = sym (ap (λ (x : C × List ℕ). x.0) whole) ∙ ap f t.is;
        begins = subst (λ (r : List ℕ). Begins part bytes t.value r) same t.begins;
      };
  again = λ a rest may.
      step_on (read (part.spell a ++ rest)) (λ x. Ok (f x.0, x.1)) (see a, rest) (law.again a rest may);
  faulty = λ bytes left are e. law.faulty bytes left are
      (elim (one_failed (read bytes) (λ x. Ok (f x.0, x.1)) left e) as (λ h. read bytes ≡ Err left) [
        | inl first ↦ first
        | inr s ↦ absurd (let no : Ok (f s.value.0, s.value.1) ≡ Err left = s.then in cc)
      ]);
  only = λ bytes left are fault. step_off (read bytes) (λ x. Ok (f x.0, x.1)) left (law.only bytes left are fault);
  within = law.within;
}

-- a part whose values are seen as others, which consist of them
pub Reads-seen_as : {A C : Type 0} (part : Grammar A) (see : A → C) (parts : C → A) (read : List ℕ → Read C)
    → ((c : C) → see (parts c) ≡ c) → ((a : A) → part.may a → parts (see a) ≡ a)
    → ReadsAs part see read → Reads (seen_as parts part) read
Reads-seen_as {A} {C} part see parts read back forth law = record {
  takes = λ bytes c rest are e.
      let t = law.takes bytes c rest are e in
      let same : t.value ≡ parts c = sym (forth t.value t.begins.may) ∙ ap parts (sym t.is) in
      record {
        value = c;
        is = refl;
        begins = record {
          may = subst part.may same t.begins.may;
          spelled = t.begins.spelled ∙ ap (λ (a : A). part.spell a ++ rest) same;
        };
      };
  again = λ c rest may. law.again (parts c) rest may ∙ ap (λ (d : C). Ok (d, rest)) (back c);
  faulty = law.faulty;
  only = law.only;
  within = law.within;
}

-- ---- two parts

-- two parts, one behind the other
pub ReadsAs-both : {A C : Type 0} {B : A → Type 0} (first : Grammar A) (second : (a : A) → Grammar (B a))
    (see : (a : A) → B a → C) (read : List ℕ → Read A) (read_second : A → List ℕ → Read C) → Reads first read
    → ((a : A) → ReadsAs (second a) (see a) (read_second a))
    → ReadsAs (both first second) (λ x. see x.0 x.1) (λ bytes. read bytes >>= λ x. read_second x.0 x.1)
ReadsAs-both {A} {C} {B} first second see read read_second law laws = record {
  takes = λ bytes c rest are e.
      let s = both_ok (read bytes) go_on (c, rest) e in
      let begins = begun bytes s.value are s.first in
      let u = (laws s.value.0).takes s.value.1 c rest
      (IsBytes-behind (first.spell s.value.0) s.value.1 bytes begins.spelled are) s.then in
      record {
        value = (s.value.0, u.value);
        is = u.is;
        begins = record {
          may = (begins.may, u.begins.may);
          spelled = begins.spelled ∙ ap (λ (r : List ℕ). first.spell s.value.0 ++ r) u.begins.spelled
              ∙ sym (append_assoc (first.spell s.value.0) ((second s.value.0).spell u.value) rest);
        };
      };
  again = λ x rest may.
      let parted = append_assoc (first.spell x.0) ((second x.0).spell x.1) rest in
      let behind : List ℕ = (second x.0).spell x.1 ++ rest in
      ap (λ (bytes : List ℕ). read bytes >>= go_on) parted
      ∙ step_on (read (first.spell x.0 ++ behind)) go_on (x.0, behind) (law.again x.0 behind may.0)
      ∙ (laws x.0).again x.1 rest may.1;
  faulty = λ bytes left are e. elim (one_failed (read bytes) go_on left e) [
    | inl failed_first ↦ inl (law.faulty bytes left are failed_first)
    | inr s ↦ inr (let begins = begun bytes s.value are s.first in record {
      value = s.value.0;
      rest = s.value.1;
      begins = begins;
      fault = (laws s.value.0).faulty s.value.1 left
          (IsBytes-behind (first.spell s.value.0) s.value.1 bytes begins.spelled are) s.then;
    })
  ];
  only = λ bytes left are fault. elim fault [
    | inl of_first ↦ step_off (read bytes) go_on left (law.only bytes left are of_first)
    | inr h ↦ step_on (read bytes) go_on (h.value, h.rest)
        (read_where first (λ a. a) read law bytes h.value h.rest h.begins)
        ∙ (laws h.value).only h.rest left (IsBytes-behind (first.spell h.value) h.rest bytes h.begins.spelled are) h.fault
  ];
  within = λ bytes left fault. elim fault [
    | inl of_first ↦ law.within bytes left of_first
    | inr h ↦
        let short : left ≤ length h.rest = (laws h.value).within h.rest left h.fault in
        let long = length-behind (first.spell h.value) h.rest bytes h.begins.spelled in
        omega arith
  ];
}
  where
    go_on : A × List ℕ → Read C
    go_on x = read_second x.0 x.1

    begun : (bytes : List ℕ) (x : A × List ℕ) → IsBytes bytes → read bytes ≡ Ok x → Begins first bytes x.0 x.1
    begun bytes x are e =
        let t = law.takes bytes x.0 x.1 are e in
        subst (λ (a : A). Begins first bytes a x.1) (sym t.is) t.begins

-- ---- a test of the whole

-- a part that has to pass a test as a whole
pub Reads-tested : {A : Type 0} (part : Grammar A) (Test : A → Type 0) (test : A → Bool) (read : List ℕ → Read A)
    → ((a : A) → Decides (test a) (Test a)) → Reads part read → Reads (tested Test part) (tested_at test read)
Reads-tested {A} part Test test read decides law = record {
  takes = λ bytes a rest are e.
      let s = both_ok (read bytes) (go_on bytes) (a, rest) e in
      let p = passed (test s.value.0) s.value (a, rest) (length bytes) s.then in
      let t = law.takes bytes s.value.0 s.value.1 are s.first in
      let same : t.value ≡ a = sym t.is ∙ ap (λ (x : A × List ℕ). x.0) p.1 in
      let behind : s.value.1 ≡ rest = ap (λ (x : A × List ℕ). x.1) p.1 in
      let begins = subst (λ (r : List ℕ). Begins part bytes a r) behind
      (subst (λ (b : A). Begins part bytes b s.value.1) same t.begins) in
      let good : Test a = subst Test (ap (λ (x : A × List ℕ). x.0) p.1) ((decides s.value.0).0 p.0) in
      record {
        value = a;
        is = refl;
        begins = record { may = (begins.may, good); spelled = begins.spelled };
      };
  again = λ a rest may.
      let bytes : List ℕ = part.spell a ++ rest in
      step_on (read bytes) (go_on bytes) (a, rest) (law.again a rest may.0)
      ∙ ap (λ (b : Bool). cond b (Ok (a, rest)) (Err (length bytes))) ((decides a).1 may.1);
  faulty = λ bytes left are e. elim (one_failed (read bytes) (go_on bytes) left e) [
    | inl failed_first ↦ inl (law.faulty bytes left are failed_first)
    | inr s ↦ inr (
        let f = failed (test s.value.0) s.value (length bytes) left s.then in
        let t = law.takes bytes s.value.0 s.value.1 are s.first in
        record {
          value = s.value.0;
          rest = s.value.1;
          begins = subst (λ (b : A). Begins part bytes b s.value.1) (sym t.is) t.begins;
          fails = not_from_Decides (test s.value.0) (decides s.value.0) f.0;
          here = sym f.1;
        }
        )
  ];
  only = λ bytes left are fault. elim fault [
    | inl of_part ↦ step_off (read bytes) (go_on bytes) left (law.only bytes left are of_part)
    | inr h ↦ step_on (read bytes) (go_on bytes) (h.value, h.rest)
        (read_where part (λ a. a) read law bytes h.value h.rest h.begins)
        ∙ (let says : test h.value ≡ false = fails_test h.value (test h.value) refl h.fails in
        ap (λ (b : Bool). cond b (Ok (h.value, h.rest)) (Err (length bytes))) says
        ∙ ap Err (sym h.here))
  ];
  within = λ bytes left fault. elim fault [
    | inl of_part ↦ law.within bytes left of_part
    | inr h ↦ omega (arith, h.here)
  ];
}
  where
    go_on : List ℕ → A × List ℕ → Read A
    go_on bytes x = cond (test x.0) (Ok x) (Err (length bytes))

    fails_test : (a : A) (b : Bool) → test a ≡ b → ¬ Test a → test a ≡ false
    fails_test a true e fails = absurd (fails ((decides a).0 e))
    fails_test a false e fails = e
