-- Inner: where the connection of a number stands in the list.
use Rattle.std.specs.Prelude.{◌≡◌, ◌≢◌, ℕ, List, [], ◌∷◌, ◌++◌, length}
use Rattle.program_table.specs.declared.connection.Connection.{Connection}

module _ {M : Type 0} where
  -- none of them has the number
  abbrev pub HaveOtherNumbers : ℕ → List (Connection M) → Type 0
  HaveOtherNumbers number [] = Unit {0}
  HaveOtherNumbers number (c ∷ cs) = (c.number ≢ number) × HaveOtherNumbers number cs

  -- the connection at this place has the number, and no other has it
  pub record IsPlaceOf (number : ℕ) (connections : List (Connection M)) (place : ℕ) : Type 0 where
    pub front : List (Connection M)
    pub here : Connection M
    pub back : List (Connection M)
    pub parts : connections ≡ front ++ here ∷ back
    pub place_is : length front ≡ place
    pub number_is : here.number ≡ number
    pub front_differs : HaveOtherNumbers number front
    pub back_differs : HaveOtherNumbers number back
