-- What stands in a list, and lists in which nothing stands twice.
use Rattle.std.proofs.Common.{◌≡◌, List, [], ◌∷◌, ◌++◌, map, refl, ap, subst, ◌⊎◌, inl, inr}

abbrev pub Among : {X : Type 0} → List X → X → Type 0
Among [] x = ⊥
Among (y ∷ ys) x = (y ≡ x) ⊎ Among ys x

abbrev pub NoTwice : {X : Type 0} → List X → Type 0
NoTwice [] = Unit {0}
NoTwice (x ∷ xs) = (Among xs x → ⊥) × NoTwice xs

pub among-left : {X : Type 0} (xs ys : List X) (x : X) → Among xs x → Among (xs ++ ys) x
among-left [] ys x h = absurd h
among-left (y ∷ xs) ys x h = elim h [ inl same ↦ inl same | inr later ↦ inr (among-left xs ys x later) ]

pub among-right : {X : Type 0} (xs ys : List X) (x : X) → Among ys x → Among (xs ++ ys) x
among-right [] ys x h = h
among-right (y ∷ xs) ys x h = inr (among-right xs ys x h)

pub among-cases : {X : Type 0} (xs ys : List X) (x : X) → Among (xs ++ ys) x → Among xs x ⊎ Among ys x
among-cases [] ys x h = inr h
among-cases (y ∷ xs) ys x h = elim h [
  | inl same ↦ inl (inl same)
  | inr later ↦ (elim (among-cases xs ys x later) [ inl left ↦ inl (inr left) | inr right ↦ inr right ])
]

pub among-map : {X Y : Type 0} (f : X → Y) (xs : List X) (x : X) → Among xs x → Among (map f xs) (f x)
among-map f [] x h = h
among-map f (y ∷ xs) x h = elim h [ inl same ↦ inl (ap f same) | inr later ↦ inr (among-map f xs x later) ]

pub among-mapped : {X Y : Type 0} (f : X → Y) (xs : List X) (y : Y) → Among (map f xs) y → (x : X) × Among xs x × (f x ≡ y)
among-mapped f [] y h = absurd h
among-mapped f (x ∷ xs) y h = elim h [
  | inl same ↦ (x, inl refl, same)
  | inr later ↦ (let found = among-mapped f xs y later in (found.0, inr found.1, found.2))
]

pub NoTwice-map : {X Y : Type 0} (f : X → Y) → ((x y : X) → f x ≡ f y → x ≡ y) → (xs : List X) → NoTwice xs → NoTwice (map f xs)
NoTwice-map f one [] h = tt
NoTwice-map f one (x ∷ xs) h =
    (λ there. (let found = among-mapped f xs (f x) there in h.0 (subst (Among xs) (one found.0 x found.2) found.1)), NoTwice-map f one xs h.1)

pub NoTwice-append : {X : Type 0} (xs ys : List X) → NoTwice xs → NoTwice ys → ((x : X) → Among xs x → Among ys x → ⊥) → NoTwice (xs ++ ys)
NoTwice-append [] ys h k apart = k
NoTwice-append (x ∷ xs) ys h k apart = (
  λ there. elim (among-cases xs ys x there) [ inl left ↦ h.0 left | inr right ↦ apart x (inl refl) right ],
  NoTwice-append xs ys h.1 k (λ y left right. apart y (inr left) right),
)
