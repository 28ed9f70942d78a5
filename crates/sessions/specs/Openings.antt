-- What a log says of a message (own).
use Rattle.std.specs.Prelude.{◌≡◌, ◌⊎◌, ℕ, List, [], ◌++◌, codes, decimal, Option, Some, None, option_map}
use Rattle.arrayvec.specs.ArrayString.{ArrayString}
use Rattle.message_value.specs.declared.error.MsgError.{MsgError}
use Rattle.message_view.specs.declared.kind.Kind.{Kind}
use Rattle.message_view.specs.declared.kind.Kind.TheVariants.{MethodCall, MethodReturn, Error, Signal, Other}
use Rattle.message_view.specs.Message.{Message, member_of}
use Rattle.message_view.specs.Valid.{Valid}
use Rattle.frames.specs.Stream.{IsMessage, BeginsWithMessage, IsFault}
use Rattle.sessions.specs.declared.opening.Opening.{Opening}

-- its kind, and its member if it has one
abbrev pub IsOpeningOf : Message → Opening → Type 0
IsOpeningOf m opening = (opening.kind ≡ m.kind) × (option_map (λ (text : ArrayString). text.bytes) opening.member ≡ member_of m)

-- it is of the message that comes next
abbrev pub IsNextOpening : List ℕ → Opening → Type 0
IsNextOpening unread opening = (message rest : List ℕ) × IsMessage message × (unread ≡ message ++ rest) × ((m : Message) → Valid message m → IsOpeningOf m opening)

-- no whole message comes next, or bytes with a fault
abbrev pub HasNoOpening : List ℕ → Type 0
HasNoOpening unread = (BeginsWithMessage unread → ⊥) ⊎ ((fault : MsgError) × IsFault unread fault)

abbrev pub kind_text : Kind → List ℕ
kind_text MethodCall = codes "call"
kind_text MethodReturn = codes "return"
kind_text Error = codes "error"
kind_text Signal = codes "signal"
kind_text (Other byte) = codes "kind " ++ decimal byte

abbrev pub member_text : Option ArrayString → List ℕ
member_text None = []
member_text (Some member) = codes " " ++ member.bytes

abbrev pub opening_text : Opening → List ℕ
opening_text opening = kind_text opening.kind ++ member_text opening.member
