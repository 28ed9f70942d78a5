-- Inner: the containers that are open, as the reader counts them.
use Rattle.std.specs.Prelude.{◌≡◌, ℕ, List, [], ◌∷◌, if◌then◌else◌}
use Rattle.signature.specs.declared.awaited.Awaited.{Awaited}
use Rattle.signature.specs.Reading.{is_of_struct, arrays_open, structs_open}

-- how many containers of the kind that waits for this are open
abbrev pub depth_of : Awaited → List Awaited → ℕ
depth_of o stack = if is_of_struct o then structs_open stack else arrays_open stack

-- the innermost container may also wait for this
abbrev pub StaysOneKind : List Awaited → Awaited → Type 0
StaysOneKind [] o = ⊥
StaysOneKind (p ∷ os) o = is_of_struct o ≡ is_of_struct p
