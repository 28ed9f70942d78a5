-- The names of the errors of a stream (own).
use Rattle.std.specs.Prelude.{ℕ, List, codes}
use Rattle.message_value.specs.Errors as faults
use Rattle.frames.specs.declared.error.FrameError.{FrameError}
use Rattle.frames.specs.declared.error.FrameError.TheVariants.{Message, NoMemory}

abbrev pub name_of : FrameError → List ℕ
name_of (Message fault) = faults.name_of fault
name_of NoMemory = codes "NoMemory"
