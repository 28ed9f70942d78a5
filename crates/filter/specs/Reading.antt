-- Reading an expression from left to right, with the first token that doesn't fit (own; which texts are filters is in
-- Grammar.antt).
use Rattle.std.specs.Prelude.{◌≡◌, ℕ, List, [], ◌∷◌, length, Result, Ok, Err, nat_lt, if◌then◌else◌}
use Rattle.filter.specs.declared.error.Fault.{Fault}
use Rattle.filter.specs.declared.error.Fault.TheVariants.{TooLong}
use Rattle.filter.specs.declared.error.FaultAt.{FaultAt}
use Rattle.filter.specs.declared.error.FilterError.{FilterError}
use Rattle.filter.specs.declared.error.FilterError.TheVariants as errors
use Rattle.filter.specs.Tokens.{Item, token, bad, fault_at, items_from}
use Rattle.filter.specs.FilterTree.{FilterTree}
use Rattle.filter.specs.Steps.{State, start, step, at_end}

-- What a function returned, seen by view, is what reading gives, unless memory ran out.
abbrev pub Finds : {X Y : Type 0} → (X → Y) → Result X FilterError → Result Y FaultAt → Type 0
Finds view (Ok x) read = read ≡ Ok (view x)
Finds view (Err (errors.Fault fault)) read = read ≡ Err fault
Finds view (Err errors.NoMemory) read = Unit {0}

-- a fault of what stands at a place
abbrev pub at_place : {A : Type 0} → ℕ → Result A Fault → Result A FaultAt
at_place place (Ok x) = Ok x
at_place place (Err fault) = Err (fault_at fault place)

abbrev pub then_read : {A B : Type 0} → Result A FaultAt → (A → Result B FaultAt) → Result B FaultAt
then_read (Ok x) f = f x
then_read (Err fault) f = Err fault

-- reading on over tokens, up to the end's place
abbrev pub reads : State → ℕ → List Item → Result FilterTree FaultAt
reads s end [] = at_place end (at_end s)
reads s end (token place lexeme ∷ items) = then_read (at_place place (step s lexeme)) (λ t. reads t end items)
reads s end (bad fault ∷ items) = Err fault

-- the most bytes of an expression
abbrev pub max_len : ℕ
max_len = 4096

-- the tokens of a text
abbrev pub items_of : List ℕ → List Item
items_of text = items_from 0 0 text

-- the filter of a text, or the first fault
abbrev pub filter_at : List ℕ → Result FilterTree FaultAt
filter_at text =
    if nat_lt max_len (length text) then Err (fault_at TooLong max_len)
    else reads start (length text) (items_of text)
