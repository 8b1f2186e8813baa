-- What a test or a look-up that succeeds says of its parts.
use Rattle.std.proofs.Common.{◌≡◌, Bool, true, false, Option, Some, None, refl}
use Rattle.std.specs.Option.{option_map, option_and_then, option_map_or}

-- a test of an optional value that passes
pub test_found : {X : Type 0} (o : Option X) (f : X → Bool) → option_map_or f o false ≡ true → (x : X) × (o ≡ Some x)
    × (f x ≡ true)
test_found None f h = absurd (cc)
test_found (Some x) f h = (x, refl, h)

pub bound_some : {X Y : Type 0} (o : Option X) (f : X → Option Y) (y : Y) → option_and_then f o ≡ Some y → (x : X)
    × (o ≡ Some x) × (f x ≡ Some y)
bound_some None f y h = absurd (cc)
bound_some (Some x) f y h = (x, refl, h)

pub mapped_some : {X Y : Type 0} (o : Option X) (f : X → Y) (y : Y) → option_map f o ≡ Some y → (x : X) × (o ≡ Some x)
    × (f x ≡ y)
mapped_some None f y h = absurd (cc)
mapped_some (Some x) f y h = (x, refl, cc)
