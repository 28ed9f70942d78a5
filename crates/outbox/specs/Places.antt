-- The places that items bear, and lists of them that rise (own).
use Rattle.std.specs.Prelude.{ℕ, ◌≤◌, Option, Some, None, List, [], ◌∷◌, ◌++◌, map}
use Rattle.outbox.specs.Items.{Item}
use Rattle.outbox.specs.Counts.{Put}

abbrev pub place_in : Option ℕ → List ℕ
place_in None = []
place_in (Some n) = n ∷ []

-- the places of those that bear one
abbrev pub places_of : List Item → List ℕ
places_of [] = []
places_of (x ∷ xs) = place_in x.place ++ places_of xs

-- each number is at least the one before it, and the first is at least n
abbrev pub Climbs : ℕ → List ℕ → Type 0
Climbs n [] = Unit {0}
Climbs n (x ∷ xs) = (n ≤ x) × Climbs x xs

abbrev pub put_items : List Put → List Item
put_items puts = map (λ (x : Put). x.1) puts

-- the places of these items never go back, whoever put them
abbrev pub PlacesRise : List Put → Type 0
PlacesRise puts = Climbs 0 (places_of (put_items puts))
