-- Whom a call of the bus is about (own).
use Rattle.std.specs.Prelude.{ℕ, ◌≡◌, ◌≢◌, true, List, Some}
use Rattle.message_view.specs.Message.{Message}
use Rattle.match_rule.specs.FixedTexts.{arg0_of}
use Rattle.router.specs.NameOwners.{IsOwner}
use Rattle.router.specs.State.{State}
use Rattle.peers.specs.Handling.{is_for_bus}

-- It is a call of the bus, and its first argument is a name that a connection other than its caller's owns in this state.
abbrev pub IsSubject : {M : Type 0} → State M → Message → ℕ → ℕ → Type 0
IsSubject s m caller number = (is_for_bus m ≡ true) × (number ≢ caller) × ((name : List ℕ) × (arg0_of m ≡ Some name) × IsOwner s name number)
