-- Inner: an entry's rule asks for a name no more.
use Rattle.std.specs.Prelude.{ℕ, List, Option, Some, None}
use Rattle.owners.specs.Registry.{Registry, after_slot_free}

abbrev pub without_sender : Option (List ℕ) → Registry → Registry
without_sender None names = names
without_sender (Some name) names = after_slot_free name names
