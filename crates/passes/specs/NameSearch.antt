-- Inner: the search for the connection that has a unique name.
use Rattle.std.specs.Prelude.{◌≡◌, ℕ, true, List}
use Rattle.routing.specs.RecipientSeats.{is_in}
use Rattle.unique_name.specs.UniqueNames.{unique_name}

-- none of these connections has this unique name
abbrev pub NoneIsNamed : List ℕ → List ℕ → Type 0
NoneIsNamed name numbers = (n : ℕ) → is_in n numbers ≡ true → name ≡ unique_name n → ⊥
