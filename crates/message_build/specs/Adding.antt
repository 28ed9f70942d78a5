-- What adding an argument, or giving the body, changes (own).
use Rattle.std.specs.Prelude.{◌≡◌, ℕ, List, [], ◌∷◌, ◌++◌, length, Result, Ok, Err, if◌then◌else◌}
use Rattle.std.specs.Borrow.{Bor}
use Rattle.signature.specs.DataType.{DataType, spelling}
use Rattle.message_value.specs.declared.order.Order.TheVariants.{Little}
use Rattle.message_value.specs.Value.{Value, Values, text, no_values, one_value}
use Rattle.message_value.specs.Spelling.{value_bytes}
use Rattle.message_build.specs.declared.error.BuildError.{BuildError}
use Rattle.message_build.specs.declared.error.BuildError.TheVariants.{NoMemory}
use Rattle.message_build.specs.declared.body_state.BodyState.TheVariants.{Arguments, Raw, Spoiled}
use Rattle.message_build.specs.Asked.{Asked, takes_arguments, is_nothing}

-- One more argument; after a whole body there is no place for it.
abbrev pub with_argument : Asked → DataType → Value → Asked
with_argument a type value =
    if takes_arguments a.body_state
    then record a { signature = a.signature ++ spelling type; body = a.body ++ value_bytes Little (length a.body) type value; body_state = Arguments }
    else record a { body_state = Spoiled }

-- A whole body, before which nothing was given.
abbrev pub with_raw : Asked → List ℕ → List ℕ → Asked
with_raw a signature body =
    if is_nothing a.body_state
    then record a { signature = a.signature ++ signature; body = a.body ++ body; body_state = Raw }
    else record a { body_state = Spoiled }

-- a call made these of what was asked, or memory ran out and nothing changed
abbrev pub Adds : {X : Type 0} → Result X BuildError → Asked → Asked → Asked → Type 0
Adds (Ok x) old new next = new ≡ next
Adds (Err e) old new next = (e ≡ NoMemory) × (new ≡ old)

-- strings as the elements of an array
abbrev pub string_values : List (Bor (List ℕ)) → Values
string_values [] = no_values
string_values (string ∷ more) = one_value (text string.now) (string_values more)
