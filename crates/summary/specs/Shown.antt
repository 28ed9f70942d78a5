-- What the loads of an image say of its message (own).
use Rattle.std.specs.Prelude.{◌≡◌, ℕ, ◌+◌, ◌/◌, ◌^◌, ◌<◌, List, ◌++◌, length, min, Option, Some, None, IfSome, slice_get, slice_index, unwrap_or}
use Rattle.message_value.specs.Arguments.{Argument}
use Rattle.message_value.specs.Order.{order_byte}
use Rattle.message_value.specs.Bytes.{AreBytes}
use Rattle.message_view.specs.declared.extent.TextField.TheVariants.{Path, Interface, Member, ErrorName, Destination, Sender}
use Rattle.message_view.specs.Header.{kind_byte}
use Rattle.message_view.specs.Message.{Message, path_of, interface_of, member_of, error_name_of, reply_serial_of, destination_of, sender_of}
use Rattle.message_view.specs.Spelling.{header_bytes, body_place, body_bytes, arguments_of}
use Rattle.bpf_code.specs.Loads.{load_word}
use Rattle.summary.specs.declared.edition.Edition.{Edition}
use Rattle.summary.specs.declared.edition.Edition.TheVariants.{One, Two}
use Rattle.summary.specs.Layout.{order_place, kind_place, flags_place, body_words_place, count_place, text_place, argument_place, ownership_place, serial_place, reply_serial_place, summary_len}
use Rattle.summary.specs.ImageBytes.{max_arguments}

-- the text lies at a place of the image
abbrev pub Lies : List ℕ → ℕ → List ℕ → Type 0
Lies image place text = (front : List ℕ) × (tail : List ℕ) × (image ≡ front ++ (text ++ tail)) × (length front ≡ place)

-- two words from a place on tell the place and the length of a text that is there
pub record Tells (image : List ℕ) (at : ℕ) (text : List ℕ) : Type 0 where
  pub bytes : AreBytes text
  pub place : ℕ
  pub after_start : 0 < place
  pub place_word : load_word image at ≡ Some place
  pub len_word : load_word image (at + 4) ≡ Some (length text)
  pub end_fits : place + length text < 2 ^ 32
  pub lies : Lies image place text

-- of a text that is absent both are 0
abbrev pub ShowsText : List ℕ → ℕ → Option (List ℕ) → Type 0
ShowsText image at None = (load_word image at ≡ Some 0) × (load_word image (at + 4) ≡ Some 0)
ShowsText image at (Some text) = Tells image at text

-- three words from a place on tell the type, the place and the length of an argument
pub record TellsArgument (edition : Edition) (image : List ℕ) (at : ℕ) (a : Argument) : Type 0 where
  pub code_word : load_word image at ≡ Some a.code
  pub place_word : load_word image (at + 4) ≡ Some (summary_len edition + a.place)
  pub len_word : load_word image (at + 8) ≡ Some a.len
  pub text : IfSome a.text (Tells image (at + 4))

-- of an argument that isn't there all are 0
abbrev pub ShowsArgument : Edition → List ℕ → ℕ → Option Argument → Type 0
ShowsArgument edition image at None =
    (load_word image at ≡ Some 0) × (load_word image (at + 4) ≡ Some 0) × (load_word image (at + 8) ≡ Some 0)
ShowsArgument edition image at (Some a) = TellsArgument edition image at a

-- how many slots a summary tells of
abbrev pub slots_of : Edition → ℕ
slots_of One = 512
slots_of Two = 1024

-- the words of the head, besides the kind
pub record ShowsHead (edition : Edition) (image : List ℕ) (m : Message) : Type 0 where
  pub order : load_word image order_place ≡ Some (order_byte m.order)
  pub flags : load_word image flags_place ≡ Some m.flags
  pub body : load_word image body_words_place ≡ Some (summary_len edition + body_place (length (header_bytes m)))
  pub body_len : load_word image (body_words_place + 4) ≡ Some (length (body_bytes m))
  pub count : load_word image count_place ≡ Some (min (length (arguments_of m)) max_arguments)

-- the serial and the serial that is answered, 0 where there is none; edition one tells neither
abbrev pub ShowsSerials : Edition → List ℕ → Message → Type 0
ShowsSerials One image m = Unit {0}
ShowsSerials Two image m =
    (load_word image serial_place ≡ Some m.serial) × (load_word image reply_serial_place ≡ Some (unwrap_or (reply_serial_of m) 0))

-- The image shows the message, whose sender owns the names of the slots.
pub record Shows (edition : Edition) (image : List ℕ) (m : Message) (slots : List ℕ) : Type 0 where
  pub head : ShowsHead edition image m
  pub kind : load_word image kind_place ≡ Some (kind_byte m.kind)
  pub path : ShowsText image (text_place Path) (path_of m)
  pub interface : ShowsText image (text_place Interface) (interface_of m)
  pub member : ShowsText image (text_place Member) (member_of m)
  pub error_name : ShowsText image (text_place ErrorName) (error_name_of m)
  pub destination : ShowsText image (text_place Destination) (destination_of m)
  pub sender : ShowsText image (text_place Sender) (sender_of m)
  pub argument : (n : ℕ) → n < max_arguments → ShowsArgument edition image (argument_place n) (slice_get (arguments_of m) n)
  pub owned : (slot : ℕ) → slot < slots_of edition → load_word image (ownership_place slot) ≡ Some (slice_index slots (slot / 32))
  pub serials : ShowsSerials edition image m
