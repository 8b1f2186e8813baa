-- Grammars: how values are spelled as bytes, which may stand, and which byte is the first at fault. Nothing here reads.
use Rattle.std.specs.Prelude.{◌≡◌, ◌≢◌, ◌⊎◌, ℕ, ◌^◌, ◌<◌, List, [], ◌∷◌, ◌++◌, length, take, flat_map, slice_index}
use Rattle.std.specs.Prelude.{slice_index_or}

-- a list of bytes
abbrev pub IsBytes : List ℕ → Type 0
IsBytes bytes = (k : ℕ) → slice_index bytes k < 2 ^ 8

-- a part of a frame's body, with values of one sort
pub record Grammar (A : Type 0) : Type 1 where
  -- the bytes of a value
  pub spell : A → List ℕ
  -- the values that may stand there
  pub may : A → Type 0
  -- where the part should stand in front of these bytes and doesn't, the first fault: the number of bytes from the first
  -- byte of what is at fault to the end
  pub fault : List ℕ → ℕ → Type 0

-- the bytes begin with a value of the part, and these are left
pub record Begins {A : Type 0} (part : Grammar A) (bytes : List ℕ) (value : A) (rest : List ℕ) : Type 0 where
  pub may : part.may value
  pub spelled : bytes ≡ part.spell value ++ rest

-- ---- one field

-- a field is at fault as a whole, where the bytes begin with no value that may stand there
pub record IsFaultyField {A : Type 0} (spell : A → List ℕ) (May : A → Type 0) (bytes : List ℕ) (left : ℕ) : Type 0 where
  pub here : left ≡ length bytes
  pub nothing : (value : A) (rest : List ℕ) → May value → bytes ≢ spell value ++ rest

abbrev pub field : {A : Type 0} → (A → List ℕ) → (A → Type 0) → Grammar A
field spell May = record { spell = spell; may = May; fault = IsFaultyField spell May }

-- one byte that stands for a value
abbrev pub coded : {A : Type 0} → (A → ℕ) → Grammar A
coded code = field (λ value. code value ∷ []) (λ value. Unit {0})

-- no field at all
abbrev pub nothing : Grammar (Unit {0})
nothing = record { spell = λ value. []; may = λ value. Unit {0}; fault = λ bytes left. ⊥ }

-- ---- parts of parts

-- the first part stands there, and behind it the second is at fault
pub record IsFaultBehind {A : Type 0} {B : A → Type 0} (first : Grammar A) (second : (a : A) → Grammar (B a))
    (bytes : List ℕ) (left : ℕ) : Type 0 where
  pub value : A
  pub rest : List ℕ
  pub begins : Begins first bytes value rest
  pub fault : (second value).fault rest left

-- two parts, one behind the other; what the second may be can depend on the first
abbrev pub both : {A : Type 0} {B : A → Type 0} → (first : Grammar A) → ((a : A) → Grammar (B a))
    → Grammar ((a : A) × B a)
both first second = record {
  spell = λ x. first.spell x.0 ++ (second x.0).spell x.1;
  may = λ x. first.may x.0 × (second x.0).may x.1;
  fault = λ bytes left. first.fault bytes left ⊎ IsFaultBehind first second bytes left;
}

-- the part, its values seen as others, which consist of them. Each value that may stand is the parts of some value
abbrev pub seen_as : {A B : Type 0} → (B → A) → Grammar A → Grammar B
seen_as parts part = record {
  spell = λ value. part.spell (parts value);
  may = λ value. part.may (parts value);
  fault = part.fault;
}

-- the part stands there, but as a whole it isn't what it has to be: its first byte is at fault
pub record IsFaultyWhole {A : Type 0} (Test : A → Type 0) (part : Grammar A) (bytes : List ℕ) (left : ℕ) : Type 0 where
  pub value : A
  pub rest : List ℕ
  pub begins : Begins part bytes value rest
  pub fails : ¬ Test value
  pub here : left ≡ length bytes

-- the part, of which only values that pass a test may stand; the test is made once all its fields stand there
abbrev pub tested : {A : Type 0} → (A → Type 0) → Grammar A → Grammar A
tested Test part = record {
  spell = part.spell;
  may = λ value. part.may value × Test value;
  fault = λ bytes left. part.fault bytes left ⊎ IsFaultyWhole Test part bytes left;
}

-- ---- lists

-- each item may stand behind those before it
abbrev pub MayFollow : {A : Type 0} → (List A → Grammar A) → List A → Type 0
MayFollow {A} item values =
    (k : ℕ) (d : A) → k < length values → (item (take k values)).may (slice_index_or values k d)

-- the bytes of the items, one behind the other. Those before an item decide whether it may stand there; its bytes are
-- the same behind any, in each list of this grammar
abbrev pub spell_list : {A : Type 0} → (List A → Grammar A) → List A → List ℕ
spell_list item values = flat_map (item []).spell values

-- fewer items than there should be stand there, and the one behind them is at fault
pub record IsFaultyList {A : Type 0} (item : List A → Grammar A) (count : ℕ) (bytes : List ℕ) (left : ℕ) : Type 0 where
  pub before : List A
  pub rest : List ℕ
  pub fewer : length before < count
  pub may : MayFollow item before
  pub spelled : bytes ≡ spell_list item before ++ rest
  pub fault : (item before).fault rest left

-- so many items; which may stand can depend on those before
abbrev pub listed : {A : Type 0} → (List A → Grammar A) → ℕ → Grammar (List A)
listed item count = record {
  spell = spell_list item;
  may = λ values. (length values ≡ count) × MayFollow item values;
  fault = IsFaultyList item count;
}

-- a number, and as many items
abbrev pub counted : {A : Type 0} → Grammar ℕ → (List A → Grammar A) → Grammar (List A)
counted count item = seen_as (λ values. (length values, values)) (both count (λ n. listed item n))

-- ---- all of the bytes

-- the bytes are this value and nothing more
pub record IsWhole {A : Type 0} (part : Grammar A) (bytes : List ℕ) (value : A) : Type 0 where
  pub may : part.may value
  pub spelled : bytes ≡ part.spell value

-- the part stands there, and bytes are left over: the first of them is at fault
pub record IsLeftOver {A : Type 0} (part : Grammar A) (bytes : List ℕ) (left : ℕ) : Type 0 where
  pub value : A
  pub rest : List ℕ
  pub begins : Begins part bytes value rest
  pub some : 0 < length rest
  pub here : left ≡ length rest

-- the first fault of bytes that should be one value and nothing more
abbrev pub IsFaultOfWhole : {A : Type 0} → Grammar A → List ℕ → ℕ → Type 0
IsFaultOfWhole part bytes left = part.fault bytes left ⊎ IsLeftOver part bytes left
