-- Two lists in one order that have the same elements are equal. It says nothing of this crate: the proofs of crates
-- above use it.
use Rattle.std.proofs.Common.{◌≡◌, suc, List, [], ◌∷◌, inl, inr, refl, arith, sym, subst, ap, ◌∙◌}
use Rattle.std.specs.Prelude.{AllPairs, Contains}
use Rattle.lin_model.specs.Lists.{Contains-cases, Contains-later, Contains-first, nothing_in_nil}

-- of two elements at most one comes before the other
module _ {X : Type 0} (Before : X → X → Type 0) (one_way : (a b : X) → Before a b → ¬ Before b a) where
  -- each element comes before all later ones
  abbrev InOrder : List X → Type 0
  InOrder xs = AllPairs Before xs

  -- the rest of a list in order is in order
  pub in_order_tail : (x : X) (xs : List X) → InOrder (x ∷ xs) → InOrder xs
  in_order_tail x xs in_order i j d before within = in_order (suc i) (suc j) d (omega arith) (omega arith)

  -- its first element comes before what the rest contains
  pub in_order_head : (x : X) (xs : List X) (n : X) → InOrder (x ∷ xs) → Contains xs n → Before x n
  in_order_head x xs n in_order has =
      subst (Before x) has.2 (in_order 0 (suc has.0) n (omega arith) (let within = has.1 in omega arith))

  -- of two such lists with the same elements the first elements are the same
  heads_are_same : (x : X) (xs : List X) (y : X) (ys : List X) → InOrder (x ∷ xs) → InOrder (y ∷ ys)
      → Contains (y ∷ ys) x → Contains (x ∷ xs) y → x ≡ y
  heads_are_same x xs y ys of_x of_y has_x has_y =
      elim (Contains-cases y ys x has_x) [
        | inl same ↦ sym same
        | inr x_later ↦ elim (Contains-cases x xs y has_y) [
          | inl same ↦ same
          | inr y_later ↦ absurd (one_way y x (in_order_head y ys x of_y x_later) (in_order_head x xs y of_x y_later))
        ]
      ]

  -- what both have apart from a common head
  rest_has : (x : X) (xs : List X) (y : X) (ys : List X) → x ≡ y → InOrder (x ∷ xs)
      → ((n : X) → Contains (x ∷ xs) n → Contains (y ∷ ys) n) → (n : X) → Contains xs n → Contains ys n
  rest_has x xs y ys same of_x there n has =
      elim (Contains-cases y ys n (there n (Contains-later x xs n has))) [
        | inl first ↦ absurd (let itself : Before n n = subst (λ (a : X). Before a n) (same ∙ first)
            (in_order_head x xs n of_x has) in one_way n n itself itself)
        | inr later ↦ later
      ]

  -- two lists in order that contain the same are equal
  pub same_from_in_order : (xs ys : List X) → InOrder xs → InOrder ys → ((n : X) → Contains xs n → Contains ys n)
      → ((n : X) → Contains ys n → Contains xs n) → xs ≡ ys
  same_from_in_order [] [] of_x of_y there back = refl
  same_from_in_order [] (y ∷ ys) of_x of_y there back = absurd (nothing_in_nil y (back y (Contains-first y ys)))
  same_from_in_order (x ∷ xs) [] of_x of_y there back = absurd (nothing_in_nil x (there x (Contains-first x xs)))
  same_from_in_order (x ∷ xs) (y ∷ ys) of_x of_y there back =
      let head = heads_are_same x xs y ys of_x of_y (there x (Contains-first x xs)) (back y (Contains-first y ys)) in
      let tail = same_from_in_order xs ys (in_order_tail x xs of_x) (in_order_tail y ys of_y)
      (rest_has x xs y ys head of_x there) (rest_has y ys x xs (sym head) of_y back) in
      ap (λ (z : X). z ∷ xs) head ∙ ap (λ (zs : List X). y ∷ zs) tail
