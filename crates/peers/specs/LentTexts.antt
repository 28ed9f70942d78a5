-- Inner: texts that are lent.
use Rattle.std.specs.Prelude.{ℕ, List, map}
use Rattle.std.specs.Borrow.{Bor}

-- the texts that lent ones are
abbrev pub lent_texts : List (Bor (List ℕ)) → List (List ℕ)
lent_texts texts = map (λ (text : Bor (List ℕ)). text.now) texts
