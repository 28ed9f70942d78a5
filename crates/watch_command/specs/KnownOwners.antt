-- Inner: an owner that the code knows, as a pair of texts.
use Rattle.std.specs.Prelude.{ℕ, List, string_bytes}
use Rattle.watch_command.specs.declared.owners.Ownership.{Ownership}

abbrev pub pair_of : Ownership → List ℕ × List ℕ
pair_of it = (string_bytes it.name, string_bytes it.owner)
