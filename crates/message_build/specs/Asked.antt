-- What a builder was asked for (D-Bus Specification, "Message Format").
use Rattle.std.specs.Prelude.{◌≡◌, ℕ, Bool, true, false, List, [], ◌∷◌, ◌++◌, Option, Some, None}
use Rattle.signature.specs.DataType.{basic, spellings}
use Rattle.message_value.specs.declared.order.Order.TheVariants.{Little}
use Rattle.message_value.specs.Value.{number, text}
use Rattle.message_value.specs.Spelling.{members_bytes}
use Rattle.message_view.specs.declared.kind.Kind.{Kind}
use Rattle.message_view.specs.Message.{Field, Message}
use Rattle.message_build.specs.declared.body_state.BodyState.{BodyState}
use Rattle.message_build.specs.declared.body_state.BodyState.TheVariants.{Nothing, Arguments, Spoiled}

-- whether a body was given in a way that no message has
abbrev pub is_spoiled : BodyState → Bool
is_spoiled Spoiled = true
is_spoiled _ = false

-- The kind, the flags and the serial; the header fields that were set; the signature and the bytes of the body;
-- and how the body was given.
pub record Asked : Type 0 where
  pub kind : Kind
  pub flags : ℕ
  pub serial : ℕ
  pub path : Option (List ℕ)
  pub interface : Option (List ℕ)
  pub member : Option (List ℕ)
  pub error_name : Option (List ℕ)
  pub reply_serial : Option ℕ
  pub destination : Option (List ℕ)
  pub sender : Option (List ℕ)
  pub signature : List ℕ
  pub body : List ℕ
  pub body_state : BodyState

-- whether arguments may follow
abbrev pub takes_arguments : BodyState → Bool
takes_arguments Nothing = true
takes_arguments Arguments = true
takes_arguments _ = false

abbrev pub is_nothing : BodyState → Bool
is_nothing Nothing = true
is_nothing _ = false

abbrev pub text_field : ℕ → ℕ → Option (List ℕ) → List Field
text_field code type (Some bytes) = record { code = code; type = basic type; value = text bytes } ∷ []
text_field code type None = []

abbrev pub number_field : ℕ → Option ℕ → List Field
number_field code (Some n) = record { code = code; type = basic 117; value = number n } ∷ []
number_field code None = []

-- an empty signature is left out
abbrev pub signature_field : List ℕ → List Field
signature_field [] = []
signature_field (b ∷ bytes) = text_field 8 103 (Some (b ∷ bytes))

-- the fields by rising code
abbrev pub fields_asked : Asked → List Field
fields_asked a =
    text_field 1 111 a.path
    ++ (text_field 2 115 a.interface
    ++ (text_field 3 115 a.member
    ++ (text_field 4 115 a.error_name
    ++ (number_field 5 a.reply_serial
    ++ (text_field 6 115 a.destination
    ++ (text_field 7 115 a.sender
    ++ signature_field a.signature))))))

-- The message that was asked for. A body begins at a multiple of 8, so its bytes are those of a body at 0.
pub record Asks (a : Asked) (m : Message) : Type 0 where
  pub order : m.order ≡ Little
  pub kind : m.kind ≡ a.kind
  pub flags : m.flags ≡ a.flags
  pub serial : m.serial ≡ a.serial
  pub fields : m.fields ≡ fields_asked a
  pub types : a.signature ≡ spellings m.types
  pub arguments : a.body ≡ members_bytes Little 0 m.types m.arguments
  pub whole : is_spoiled a.body_state ≡ false

-- no fields and no body
abbrev pub nothing_asked : Kind → ℕ → ℕ → Asked
nothing_asked kind flags serial = record {
  kind = kind;
  flags = flags;
  serial = serial;
  path = None;
  interface = None;
  member = None;
  error_name = None;
  reply_serial = None;
  destination = None;
  sender = None;
  signature = [];
  body = [];
  body_state = Nothing;
}
