-- Reading a list of items, each of which may depend on those before it.
use Rattle.std.proofs.Common.{◌≡◌, ℕ, zero, suc, ◌<◌, ◌≤◌, List, [], ◌∷◌, ◌++◌, length, take, get_or, Ok, Err}
use Rattle.std.proofs.Common.{inl, inr, refl, sym, ap, subst, ◌∙◌, arith, append_assoc}
use Rattle.std.proofs.lemmas.List.{append-nil}
use Rattle.entry_codec.specs.Reading.{Read, pushed_at, repeat, list_at, counted_at}
use Rattle.entry_codec.specs.Grammar.{IsBytes, Grammar, Begins, spell_list, listed, counted, both}
use Rattle.entry_codec.proofs.Bytes.{IsBytes-behind, length-behind, both_ok, one_failed, step_on, step_off, ok_is}
use Rattle.entry_codec.proofs.PartLaws.{Reads, read_where, ReadsAs-both, Reads-seen_as}

-- ---- what may stand behind items that stand already

-- each of the values may stand behind these and those before it
abbrev pub MayFollowFrom : {A : Type 0} → (List A → Grammar A) → List A → List A → Type 0
MayFollowFrom {A} item before values =
    (k : ℕ) (d : A) → k < length values → (item (before ++ take k values)).may (get_or values k d)

-- one more in front
MayFollowFrom-cons : {A : Type 0} (item : List A → Grammar A) (before : List A) (x : A) (xs : List A)
    → (item before).may x → MayFollowFrom item (before ++ x ∷ []) xs → MayFollowFrom item before (x ∷ xs)
MayFollowFrom-cons {A} item before x xs first others zero d lt =
    subst (λ (b : List A). (item b).may x) (sym (append-nil before)) first
MayFollowFrom-cons {A} item before x xs first others (suc k) d lt =
    subst (λ (b : List A). (item b).may (get_or xs k d)) (append_assoc before (x ∷ []) (take k xs))
    (others k d (omega arith))

-- the first of them
pub MayFollowFrom-head : {A : Type 0} (item : List A → Grammar A) (before : List A) (x : A) (xs : List A)
    → MayFollowFrom item before (x ∷ xs) → (item before).may x
MayFollowFrom-head {A} item before x xs may =
    subst (λ (b : List A). (item b).may x) (append-nil before) (may zero x (omega arith))

-- those behind it
pub MayFollowFrom-tail : {A : Type 0} (item : List A → Grammar A) (before : List A) (x : A) (xs : List A)
    → MayFollowFrom item before (x ∷ xs) → MayFollowFrom item (before ++ x ∷ []) xs
MayFollowFrom-tail {A} item before x xs may k d lt =
    subst (λ (b : List A). (item b).may (get_or xs k d)) (sym (append_assoc before (x ∷ []) (take k xs)))
    (may (suc k) d (omega arith))

-- ---- reading from items that stand already

-- so many values stand in front, and come behind those before
pub record TookList {A : Type 0} (item : List A → Grammar A) (count : ℕ) (before : List A) (bytes : List ℕ)
    (all : List A) (rest : List ℕ) : Type 0 where
  pub values : List A
  pub is : all ≡ before ++ values
  pub many : length values ≡ count
  pub may : MayFollowFrom item before values
  pub spelled : bytes ≡ spell_list item values ++ rest

-- some values stand in front, and the item behind them is at fault
pub record FaultyFrom {A : Type 0} (item : List A → Grammar A) (count : ℕ) (before : List A) (bytes : List ℕ)
    (left : ℕ) : Type 0 where
  pub values : List A
  pub rest : List ℕ
  pub fewer : length values < count
  pub may : MayFollowFrom item before values
  pub spelled : bytes ≡ spell_list item values ++ rest
  pub fault : (item (before ++ values)).fault rest left

-- items whose readers keep the law, and whose bytes don't depend on those before
pub record ReadsItems {A : Type 0} (item : List A → Grammar A) (read : List A → List ℕ → Read A) : Type 0 where
  pub law : (before : List A) → Reads (item before) (read before)
  pub same : (before : List A) (x : A) → (item before).spell x ≡ (item []).spell x

-- the bytes of one item in front of the others
spelled_first : {A : Type 0} (item : List A → Grammar A) (first : List ℕ) (x : A) (xs : List A) (bytes rest : List ℕ)
    (behind : List ℕ) → first ≡ (item []).spell x → bytes ≡ first ++ behind → behind ≡ spell_list item xs ++ rest
    → bytes ≡ spell_list item (x ∷ xs) ++ rest
spelled_first item first x xs bytes rest behind same e f =
    e ∙ ap (λ (r : List ℕ). first ++ r) f ∙ ap (λ (r : List ℕ). r ++ (spell_list item xs ++ rest)) same
    ∙ sym (append_assoc ((item []).spell x) (spell_list item xs) rest)

module _ {A : Type 0} (item : List A → Grammar A) (read : List A → List ℕ → Read A) (items : ReadsItems item read)
  where
    -- one more item and the steps behind it
    abbrev go_on : ℕ → List A × List ℕ → Read (List A)
    go_on n x = repeat (pushed_at read) n x.0 x.1

    -- an item, pushed behind those before it
    abbrev push : List A → A × List ℕ → Read (List A)
    push before x = Ok (before ++ x.0 ∷ [], x.1)

    -- what one step took
    record TookOne (before : List A) (bytes : List ℕ) (x : List A × List ℕ) : Type 0 where
      value : A
      is : x.0 ≡ before ++ value ∷ []
      begins : Begins (item before) bytes value x.1

    took_one : (before : List A) (bytes : List ℕ) (x : List A × List ℕ) → IsBytes bytes
        → pushed_at read before bytes ≡ Ok x → TookOne before bytes x
    took_one before bytes x are e =
        let s = both_ok (read before bytes) (push before) x e in
        let whole = ok_is {E = ℕ} (before ++ s.value.0 ∷ [], s.value.1) x s.then in
        let t = (items.law before).takes bytes s.value.0 s.value.1 are s.first in
        record {
          value = s.value.0;
          is = sym (ap (λ (y : List A × List ℕ). y.0) whole);
          begins = subst (λ (r : List ℕ). Begins (item before) bytes s.value.0 r)
              (ap (λ (y : List A × List ℕ). y.1) whole)
              (subst (λ (a : A). Begins (item before) bytes a s.value.1) (sym t.is) t.begins);
        }

    -- an item that stands in front is pushed
    pushes : (before : List A) (bytes : List ℕ) (x : A) (rest : List ℕ) → Begins (item before) bytes x rest
        → pushed_at read before bytes ≡ Ok (before ++ x ∷ [], rest)
    pushes before bytes x rest begins =
        step_on (read before bytes) (push before) (x, rest)
        (read_where (item before) (λ a. a) (read before) (items.law before) bytes x rest begins)

    pub list_takes : (count : ℕ) (before : List A) (bytes : List ℕ) (all : List A) (rest : List ℕ) → IsBytes bytes
        → repeat (pushed_at read) count before bytes ≡ Ok (all, rest) → TookList item count before bytes all rest
    unfolding repeat
    list_takes zero before bytes all rest are e =
        let whole = ok_is {E = ℕ} (before, bytes) (all, rest) e in
        record {
          values = [];
          is = sym (ap (λ (y : List A × List ℕ). y.0) whole) ∙ sym (append-nil before);
          many = refl;
          may = λ k d lt. absurd (omega arith);
          spelled = ap (λ (y : List A × List ℕ). y.1) whole;
        }
    list_takes (suc n) before bytes all rest are e =
        let s = both_ok (pushed_at read before bytes) (go_on n) (all, rest) e in
        let one = took_one before bytes s.value are s.first in
        let behind = IsBytes-behind ((item before).spell one.value) s.value.1 bytes one.begins.spelled are in
        let others = list_takes n (before ++ one.value ∷ []) s.value.1 all rest behind
        (ap (λ (b : List A). repeat (pushed_at read) n b s.value.1) (sym one.is) ∙ s.then) in
        record {
          values = one.value ∷ others.values;
          is = others.is ∙ append_assoc before (one.value ∷ []) others.values;
          many = ap suc others.many;
          may = MayFollowFrom-cons item before one.value others.values one.begins.may others.may;
          spelled =
              spelled_first item ((item before).spell one.value) one.value others.values bytes rest s.value.1
              (items.same before one.value) one.begins.spelled others.spelled;
        }

    pub list_again : (values before : List A) (rest : List ℕ) → MayFollowFrom item before values
        → repeat (pushed_at read) (length values) before (spell_list item values ++ rest) ≡ Ok (before ++ values, rest)
    unfolding repeat
    list_again [] before rest may = ap (λ (b : List A). Ok (b, rest)) (sym (append-nil before))
    list_again (x ∷ xs) before rest may =
        let bytes : List ℕ = spell_list item (x ∷ xs) ++ rest in
        let behind : List ℕ = spell_list item xs ++ rest in
        let begins : Begins (item before) bytes x behind = record {
          may = MayFollowFrom-head item before x xs may;
          spelled =
              append_assoc ((item []).spell x) (spell_list item xs) rest
              ∙ ap (λ (r : List ℕ). r ++ behind) (sym (items.same before x));
        } in
        step_on (pushed_at read before bytes) (go_on (length xs)) (before ++ x ∷ [], behind)
        (pushes before bytes x behind begins)
        ∙ list_again xs (before ++ x ∷ []) rest (MayFollowFrom-tail item before x xs may)
        ∙ ap (λ (b : List A). Ok (b, rest)) (append_assoc before (x ∷ []) xs)

    pub list_faulty : (count : ℕ) (before : List A) (bytes : List ℕ) (left : ℕ) → IsBytes bytes
        → repeat (pushed_at read) count before bytes ≡ Err left → FaultyFrom item count before bytes left
    unfolding repeat
    list_faulty zero before bytes left are e = absurd (cc)
    list_faulty (suc n) before bytes left are e =
        elim (one_failed (pushed_at read before bytes) (go_on n) left e) [
          | inl here ↦ elim (one_failed (read before bytes) (push before) left here) [
            | inl of_item ↦ record {
              values = [];
              rest = bytes;
              fewer = omega arith;
              may = λ k d lt. absurd (omega arith);
              spelled = refl;
              fault = subst (λ (b : List A). (item b).fault bytes left) (sym (append-nil before))
                  ((items.law before).faulty bytes left are of_item);
            }
            | inr s ↦ absurd (let never : push before s.value ≡ Err left = s.then in cc)
          ]
          | inr s ↦
              let one = took_one before bytes s.value are s.first in
              let behind = IsBytes-behind ((item before).spell one.value) s.value.1 bytes one.begins.spelled are in
              let later = list_faulty n (before ++ one.value ∷ []) s.value.1 left behind
              (ap (λ (b : List A). repeat (pushed_at read) n b s.value.1) (sym one.is) ∙ s.then) in
              record {
                values = one.value ∷ later.values;
                rest = later.rest;
                fewer = omega (arith, later.fewer);
                may = MayFollowFrom-cons item before one.value later.values one.begins.may later.may;
                spelled =
                    spelled_first item ((item before).spell one.value) one.value later.values bytes later.rest s.value.1
                    (items.same before one.value) one.begins.spelled later.spelled;
                fault = subst (λ (b : List A). (item b).fault later.rest left)
                    (append_assoc before (one.value ∷ []) later.values) later.fault;
              }
        ]

    pub list_only : (values before : List A) (count : ℕ) (rest : List ℕ) (left : ℕ) → IsBytes rest
        → length values < count → MayFollowFrom item before values → (item (before ++ values)).fault rest left
        → repeat (pushed_at read) count before (spell_list item values ++ rest) ≡ Err left
    unfolding repeat
    list_only values before zero rest left are fewer may fault = absurd (omega arith)
    list_only [] before (suc n) rest left are fewer may fault =
        let of_item : (item before).fault rest left =
        subst (λ (b : List A). (item b).fault rest left) (append-nil before) fault in
        step_off (pushed_at read before rest) (go_on n) left
        (step_off (read before rest) (push before) left ((items.law before).only rest left are of_item))
    list_only (x ∷ xs) before (suc n) rest left are fewer may fault =
        let bytes : List ℕ = spell_list item (x ∷ xs) ++ rest in
        let behind : List ℕ = spell_list item xs ++ rest in
        let begins : Begins (item before) bytes x behind = record {
          may = MayFollowFrom-head item before x xs may;
          spelled =
              append_assoc ((item []).spell x) (spell_list item xs) rest
              ∙ ap (λ (r : List ℕ). r ++ behind) (sym (items.same before x));
        } in
        step_on (pushed_at read before bytes) (go_on n) (before ++ x ∷ [], behind) (pushes before bytes x behind begins)
        ∙ list_only xs (before ++ x ∷ []) n rest left are (omega arith) (MayFollowFrom-tail item before x xs may)
        (subst (λ (b : List A). (item b).fault rest left) (sym (append_assoc before (x ∷ []) xs)) fault)

    -- ---- the law of lists

    pub Reads-listed : (count : ℕ) → Reads (listed item count) (list_at read count)
    Reads-listed count = record {
      takes = λ bytes all rest are e.
          let t = list_takes count [] bytes all rest are e in
          record {
            value = t.values;
            is = t.is;
            begins = record { may = (t.many, t.may); spelled = t.spelled };
          };
      again = λ values rest may.
          ap (λ (n : ℕ). repeat (pushed_at read) n [] (spell_list item values ++ rest)) (sym may.0)
          ∙ list_again values [] rest may.1;
      faulty = λ bytes left are e.
          let f = list_faulty count [] bytes left are e in
          record {
            before = f.values;
            rest = f.rest;
            fewer = f.fewer;
            may = f.may;
            spelled = f.spelled;
            fault = f.fault;
          };
      only = λ bytes left are f.
          ap (λ (b : List ℕ). repeat (pushed_at read) count [] b) f.spelled
          ∙ list_only f.before [] count f.rest left
          (IsBytes-behind (spell_list item f.before) f.rest bytes f.spelled are) f.fewer f.may f.fault;
      within = λ bytes left f.
          let short : left ≤ length f.rest = (items.law f.before).within f.rest left f.fault in
          let long = length-behind (spell_list item f.before) f.rest bytes f.spelled in
          omega arith;
    }

    -- a number and as many items
    pub Reads-counted : (count : Grammar ℕ) (count_at : List ℕ → Read ℕ) → Reads count count_at
        → Reads (counted count item) (counted_at count_at read)
    Reads-counted count count_at law =
        Reads-seen_as (both count (λ n. listed item n)) (λ x. x.1) (λ values. (length values, values))
        (counted_at count_at read) (λ values. refl) (λ x may. ap (λ (n : ℕ). (n, x.1)) may.1.0)
        (ReadsAs-both count (λ n. listed item n) (λ n values. values) count_at (λ n. list_at read n) law Reads-listed)
