-- What a compiled filter is (own).
use Rattle.std.specs.Prelude.{◌≡◌, ◌↔◌, ℕ, ◌<◌, Bool, true, List}
use Rattle.bpf_code.specs.declared.instruction.Ins.{Ins}
use Rattle.bpf_code.specs.Steps.{Ends}
use Rattle.message_view.specs.Message.{Message}
use Rattle.message_view.specs.Valid.{Valid}
use Rattle.filter.specs.FilterTree.{FilterTree}
use Rattle.filter.specs.Weights.{weight_of}
use Rattle.summary.specs.declared.edition.Edition.TheVariants.{Two}
use Rattle.summary.specs.ImageBytes.{image_bytes}
use Rattle.summary.specs.Sets.{has_slot, IsSet}
use Rattle.filter_compile.specs.Holds.{FilterHolds}
use Rattle.filter_compile.specs.Names.{has_name, names_of, slot_in}
use Rattle.filter_compile.specs.declared.error.CompileError.{CompileError}
use Rattle.filter_compile.specs.declared.error.CompileError.TheVariants.{TooHeavy, NoMemory}

-- the owned names have each name that the filter asks for exactly where its slot is among the slots
abbrev pub AgreeOn : FilterTree → (List ℕ → Bool) → List ℕ → Type 0
AgreeOn f owned slots = (name : List ℕ) → has_name (names_of f) name ≡ true → owned name ≡ has_slot slots (slot_in (names_of f) name)

-- The program's verdict on the image of a message, of edition 2, is nonzero exactly where the filter holds of the
-- message; whatever its byte order, and whichever slots the sender has.
abbrev pub IsCompiled : FilterTree → List Ins → Type 0
IsCompiled f program =
    (bytes : List ℕ) (m : Message) (slots : List ℕ) (owned : List ℕ → Bool) (v n : ℕ)
    → Valid bytes m
    → IsSet slots
    → AgreeOn f owned slots
    → Ends program (image_bytes Two m slots) v n
    → (0 < v) ↔ FilterHolds f m owned

-- when a filter isn't compiled; want of memory says nothing of it
abbrev pub IsRefusal : FilterTree → CompileError → Type 0
IsRefusal f TooHeavy = 4096 < weight_of f
IsRefusal f NoMemory = Unit {0}
