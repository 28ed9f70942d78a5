-- Inner: what readers of a header and of a whole message answer, and what a view keeps.
use Rattle.std.specs.Prelude.{◌≡◌, ℕ, List, drop, map, None, Result, Ok, Err}
use Rattle.signature.specs.DataType.{SigText}
use Rattle.message_value.specs.declared.error.MsgError.{MsgError}
use Rattle.message_value.specs.Value.{Values}
use Rattle.message_view.specs.declared.kind.Kind.{Kind}
use Rattle.message_view.specs.declared.fixed.Fixed.{Fixed}
use Rattle.message_view.specs.declared.view.Sections.{Sections}
use Rattle.message_view.specs.Message.{Field, Message, text_in, number_in}
use Rattle.message_view.specs.Fixed.{order_in, fields_len}
use Rattle.message_view.specs.Spelling.{fixed_len, body_place}
use Rattle.message_view.specs.Reading.{fields_of, header_padding, header_fault, types_in, message_of, framed_message, message_at}
use Rattle.message_view.specs.Slots.{AreExtents, Kept, extents_in, kept_of, slots_of}
use Rattle.message_view.specs.FieldAnswers.{slots_shown, lying}

-- the bytes after the header and its padding
abbrev pub body_of : List ℕ → List ℕ
body_of bytes = drop (body_place (fields_len bytes)) bytes

-- what a test of some bytes answers, whose value isn't kept
abbrev pub Passes : {X Y : Type 0} → Result X MsgError → Result Y MsgError → Type 0
Passes {Y = Y} (Ok x) read = (y : Y) × (read ≡ Ok y)
Passes (Err fault) read = read ≡ Err fault

-- what is found after a fixed part, by the header alone
pub record HasHeader (found : Sections) (kind : Kind) (bytes : List ℕ) : Type 0 where
  pub front : List Field
  pub read : fields_of bytes ≡ Ok front
  pub passes : header_fault kind (header_padding bytes) front ≡ None
  pub shows : slots_shown found.fields ≡ slots_of front
  pub typed : SigText (types_in front) found.signature
  pub body : found.body.now ≡ body_of bytes
  pub lie : AreExtents (order_in bytes) fixed_len front (lying found.fields)

-- what a reader of the header after a fixed part answers, whatever the body is
abbrev pub ReadsHeader : Result Sections MsgError → Kind → List ℕ → Type 0
ReadsHeader (Ok found) kind bytes = HasHeader found kind bytes
ReadsHeader (Err fault) kind bytes = framed_message bytes ≡ Err fault

-- what a reader of the message after a fixed part answers
abbrev pub ReadsFramed : Result Sections MsgError → Kind → List ℕ → Result Message MsgError → Type 0
ReadsFramed (Ok found) kind bytes read =
    (front : List Field) × (arguments : Values) × (read ≡ Ok (message_of bytes kind front arguments))
    × (slots_shown found.fields ≡ slots_of front) × SigText (types_in front) found.signature × (found.body.now ≡ body_of bytes)
    × AreExtents (order_in bytes) fixed_len front (lying found.fields)
ReadsFramed (Err fault) kind bytes read = read ≡ Err fault

-- what a reader of a view answers, whose value is its bytes
abbrev pub ReadsView : Result (List ℕ) MsgError → List ℕ → Result Message MsgError → Type 0
ReadsView (Ok view) bytes read = (view ≡ bytes) × ((m : Message) × (read ≡ Ok m))
ReadsView (Err fault) bytes read = read ≡ Err fault

-- what a view keeps of the message that its bytes read as
pub record IsKept (bytes body signature : List ℕ) (kept : Kept) : Type 0 where
  pub message : Message
  pub read : message_at bytes ≡ Ok message
  pub is : kept ≡ kept_of message (slots_of message.fields)
  pub typed : SigText message.types signature
  pub tail : body ≡ body_of bytes

-- what a view keeps of a fixed part and of what is after it
abbrev pub kept_by : Fixed → Sections → Kept
kept_by fixed sections = record { order = fixed.order; kind = fixed.kind; flags = fixed.flags; serial = fixed.serial; texts = map text_in (slots_shown sections.fields); numbers = map number_in (slots_shown sections.fields); extents = extents_in (lying sections.fields) }
