-- Inner: the header that a builder keeps.
use Rattle.std.specs.Prelude.{ℕ, ◌<◌, ◌^◌, ◌&&◌, ◌==◌, Bool, true, not, List, ◌++◌, None, is_some, nat_lt}
use Rattle.message_view.specs.declared.kind.Kind.{Kind}
use Rattle.message_view.specs.declared.kind.Kind.TheVariants as kinds
use Rattle.message_view.specs.Message.{Field}
use Rattle.message_view.specs.Header.{kind_byte}
use Rattle.message_build.specs.declared.header.Header.{Header}
use Rattle.message_build.specs.declared.body_state.BodyState.{BodyState}
use Rattle.message_build.specs.Asked.{Asked, text_field, number_field, signature_field}
use Rattle.message_build.specs.HeaderFields.{text_said}

-- what a builder with this header, signature and body was asked for
abbrev pub request_of : Header → List ℕ → List ℕ → BodyState → Asked
request_of h signature body body_state = record {
  kind = h.kind;
  flags = h.flags;
  serial = h.serial;
  path = text_said h.path;
  interface = text_said h.interface;
  member = text_said h.member;
  error_name = text_said h.error_name;
  reply_serial = h.reply_serial;
  destination = text_said h.destination;
  sender = text_said h.sender;
  signature = signature;
  body = body;
  body_state = body_state;
}

-- the fields of a header, and of the signature of a body
abbrev pub fields_set : Header → List ℕ → List Field
fields_set h signature =
    text_field 1 111 (text_said h.path)
    ++ (text_field 2 115 (text_said h.interface)
    ++ (text_field 3 115 (text_said h.member)
    ++ (text_field 4 115 (text_said h.error_name)
    ++ (number_field 5 h.reply_serial
    ++ (text_field 6 115 (text_said h.destination)
    ++ (text_field 7 115 (text_said h.sender)
    ++ signature_field signature))))))

-- a kind is the one of its byte
abbrev pub kind_is_own : Kind → Bool
kind_is_own (kinds.Other byte) = nat_lt 4 byte
kind_is_own _ = true

-- the fields without which a message of the kind is none
abbrev pub has_needed_of : Kind → Header → Bool
has_needed_of kinds.MethodCall h = is_some h.path && is_some h.member
has_needed_of kinds.MethodReturn h = is_some h.reply_serial
has_needed_of kinds.Error h = is_some h.error_name && is_some h.reply_serial
has_needed_of kinds.Signal h = is_some h.path && is_some h.interface && is_some h.member
has_needed_of (kinds.Other byte) h = true

abbrev pub has_needed : Header → Bool
has_needed h = has_needed_of h.kind h

-- the numbers of a header fit
pub record InRange (h : Header) : Type 0 where
  pub kind : kind_byte h.kind < 256
  pub flags : h.flags < 256
  pub serial : h.serial < 2 ^ 32

abbrev pub is_sound_header : Header → Bool
is_sound_header h = kind_is_own h.kind && not (h.serial == 0) && has_needed h

-- a header in which no field is set
abbrev pub bare_header : Kind → ℕ → ℕ → Header
bare_header kind flags serial = record { kind = kind; flags = flags; serial = serial; path = None; interface = None; member = None; error_name = None; reply_serial = None; destination = None; sender = None }
