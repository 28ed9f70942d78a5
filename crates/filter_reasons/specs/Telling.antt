-- Which tests of a filter hold of a message, in lines for people (own).
use Rattle.std.specs.Prelude.{ℕ, Bool, true, false, List, [], ◌∷◌, ◌++◌, codes, if◌then◌else◌}
use Rattle.message_view.specs.Message.{Message}
use Rattle.filter.specs.FilterTree.{FilterTree}
use Rattle.filter.specs.Printing.{text_of}
use Rattle.filter_compile.specs.Holds.{FilterHolds}

abbrev pub held_text : Bool → List ℕ
held_text held = if held then codes ": it holds" else codes ": it doesn't hold"

-- a test as it is printed, and whether it holds
abbrev pub told_line : FilterTree → Bool → List ℕ
told_line f held = text_of f ++ held_text held

-- the line of a test; `owns` says whether the message's sender owns each name, or none
pub data IsTold (m : Message) (owns : Bool) (f : FilterTree) : List ℕ → Type 0 where
  holds : FilterHolds f m (λ name. owns) → IsTold m owns f (told_line f true)
  fails : (FilterHolds f m (λ name. owns) → ⊥) → IsTold m owns f (told_line f false)

-- a line for each of some tests
pub data AreTold (m : Message) (owns : Bool) : List FilterTree → List (List ℕ) → Type 0 where
  no_more : AreTold m owns [] []
  told : {f : FilterTree} {later : List FilterTree} {line : List ℕ} {lines : List (List ℕ)} → IsTold m owns f line → AreTold m owns later lines → AreTold m owns (f ∷ later) (line ∷ lines)
