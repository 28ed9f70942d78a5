-- Inner: bytes that were taken from an outbox and aren't written yet.
use Rattle.std.specs.Prelude.{ℕ, ◌==◌, Bool, List, ◌++◌, length, if◌then◌else◌}

-- the bytes of a message that is alone, of short ones after it and of one after them, and whether further messages may be added
pub record Waiting : Type 0 where
  pub alone : List ℕ
  pub batch : List ℕ
  pub next : List ℕ
  pub is_open : Bool

-- all bytes that wait, in the order of their messages
abbrev pub all_of : Waiting → List ℕ
all_of waiting = waiting.alone ++ (waiting.batch ++ waiting.next)

-- these bytes, or others where there are none
abbrev pub bytes_or : List ℕ → List ℕ → List ℕ
bytes_or bytes others = if length bytes == 0 then others else bytes

-- those of the next write
abbrev pub first_of : Waiting → List ℕ
first_of waiting = bytes_or waiting.alone (bytes_or waiting.batch waiting.next)
