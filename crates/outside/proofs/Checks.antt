-- The definitions at small values.
use Rattle.std.proofs.Common.{◌≡◌, ◌-◌, ◌^◌, [], ◌∷◌, Some, refl, lit≤, arith}
use Rattle.outside.specs.Counts.{raised, Rose}
use Rattle.outside.specs.Bytes.{Appends, AppendsFront, Gives, IsAtEnd}
use Rattle.outside.specs.Crash.{IsWithin, IsLengthOf, ReadsAt, WritesAt, Torn, TearsAt, Synced}

check_raised : raised 4 ≡ 5
check_raised = refl

-- at its end a count stands still
check_raised_end : raised (2 ^ 64 - 1) ≡ 2 ^ 64 - 1
check_raised_end = refl

check_rose : Rose 4 6
check_rose = lit≤ tt

check_not_rose : ¬ Rose 4 4
check_not_rose rose = absurd (omega (arith, rose))

check_rose_end : Rose (2 ^ 64 - 1) (2 ^ 64 - 1)
check_rose_end = lit≤ tt

check_appends : Appends (Some (1 ∷ [])) (Some (1 ∷ 2 ∷ 3 ∷ [])) (2 ∷ 3 ∷ [])
check_appends = refl

check_appends_front : AppendsFront (Some (1 ∷ [])) (Some (1 ∷ 2 ∷ [])) (2 ∷ 3 ∷ [])
check_appends_front = (1, lit≤ tt, refl)

-- two bytes of three into a buffer of four
check_gives : Gives (Some (7 ∷ 8 ∷ 9 ∷ [])) (Some (9 ∷ [])) (7 ∷ 8 ∷ 0 ∷ 0 ∷ []) 2
check_gives = (lit≤ tt, refl, refl)

check_is_at_end : IsAtEnd (Some [])
check_is_at_end = refl

check_is_within : IsWithin (Some (1 ∷ 2 ∷ [])) 2
check_is_within = lit≤ tt

check_is_length_of : IsLengthOf (Some (1 ∷ 2 ∷ [])) 2
check_is_length_of = refl

-- at the file's end fewer bytes than asked
check_reads_at : ReadsAt (Some (1 ∷ 2 ∷ 3 ∷ [])) 1 (2 ∷ 3 ∷ 0 ∷ []) 2
check_reads_at = (refl, refl)

check_reads_past_the_end : ReadsAt (Some (1 ∷ 2 ∷ 3 ∷ [])) 5 (0 ∷ []) 0
check_reads_past_the_end = (refl, refl)

-- a write that reaches beyond the last byte makes the file longer
check_writes_at : WritesAt (Some (1 ∷ 2 ∷ 3 ∷ [])) (Some (1 ∷ 2 ∷ 8 ∷ 9 ∷ [])) 2 (8 ∷ 9 ∷ [])
check_writes_at = refl

check_torn : Torn 1 2 (1 ∷ 2 ∷ 3 ∷ 4 ∷ []) (1 ∷ 9 ∷ 8 ∷ 4 ∷ [])
check_torn = record { before = refl; after = refl; no_shorter = lit≤ tt; no_longer = lit≤ tt }

-- a write of two bytes at the third place, over an image that has one byte: any bytes behind it, up to the range's end
check_torn_past_the_end : Torn 2 2 (1 ∷ []) (1 ∷ 9 ∷ 8 ∷ [])
check_torn_past_the_end = record { before = refl; after = refl; no_shorter = lit≤ tt; no_longer = lit≤ tt }

check_torn_over_the_end : Torn 1 2 (1 ∷ 2 ∷ []) (1 ∷ 9 ∷ 8 ∷ [])
check_torn_over_the_end = record { before = refl; after = refl; no_shorter = lit≤ tt; no_longer = lit≤ tt }

-- no image is shorter than the file was, none longer than the range reaches, and none differs in front of the range
check_not_torn_shorter : ¬ Torn 1 2 (1 ∷ 2 ∷ []) (1 ∷ [])
check_not_torn_shorter torn = absurd (omega (arith, torn.no_shorter))

check_not_torn_longer : ¬ Torn 1 2 (1 ∷ 2 ∷ []) (1 ∷ 9 ∷ 8 ∷ 7 ∷ [])
check_not_torn_longer torn = absurd (omega (arith, torn.no_longer))

check_not_torn_outside : ¬ Torn 1 2 (1 ∷ 2 ∷ []) (5 ∷ 2 ∷ [])
check_not_torn_outside torn = absurd (cc (torn.before))

check_tears_at : TearsAt (Some (1 ∷ 2 ∷ [])) (Some (1 ∷ 9 ∷ [])) 1 2
check_tears_at = (1 ∷ 9 ∷ [], record { before = refl; after = refl; no_shorter = lit≤ tt; no_longer = lit≤ tt }, refl)

check_synced : Synced (Some (1 ∷ [])) (λ image. image ≡ 1 ∷ [])
check_synced image = (λ left. left, λ same. same)
