-- What programs read of a message: a summary, then the message's bytes (own). The summary's words say where the
-- parts of the message lie, counted from the image's start.
use Rattle.std.specs.Prelude.{ℕ, zero, suc, ◌+◌, List, [], ◌∷◌, ◌++◌, length, take, min, Option, Some, None, unwrap_or}
use Rattle.std.specs.Int.{w32, to_be_bytes}
use Rattle.std.specs.List.{flat_map}
use Rattle.message_value.specs.Order.{order_byte}
use Rattle.message_value.specs.Arguments.{Argument}
use Rattle.message_view.specs.declared.extent.Extent.{Extent}
use Rattle.message_view.specs.declared.extent.TextField.{TextField}
use Rattle.message_view.specs.declared.extent.TextField.TheVariants.{Path, Interface, Member, ErrorName, Destination, Sender}
use Rattle.message_view.specs.Header.{kind_byte}
use Rattle.message_view.specs.Message.{Message, reply_serial_of}
use Rattle.message_view.specs.Places.{extent_of}
use Rattle.message_view.specs.Spelling.{header_bytes, body_place, body_bytes, arguments_of, message_bytes}
use Rattle.summary.specs.declared.edition.Edition.{Edition}
use Rattle.summary.specs.declared.edition.Edition.TheVariants.{One, Two}
use Rattle.summary.specs.Layout.{summary_len}

-- place and length of a text in an image; both are 0 where it is absent
abbrev pub extent_words : Edition → Option Extent → List ℕ
extent_words edition None = 0 ∷ 0 ∷ []
extent_words edition (Some e) = (summary_len edition + e.place) ∷ e.len ∷ []

abbrev pub text_words : Edition → Message → TextField → List ℕ
text_words edition m field = extent_words edition (extent_of field m)

-- how many arguments a summary tells of
abbrev pub max_arguments : ℕ
max_arguments = 64

-- the first byte of an argument's type, its place and its length
abbrev pub argument_words : Edition → Argument → List ℕ
argument_words edition a = a.code ∷ (summary_len edition + a.place) ∷ a.len ∷ []

-- the words of this number of arguments, with zeros for those that aren't there
abbrev pub arguments_words : Edition → ℕ → List Argument → List ℕ
arguments_words edition zero arguments = []
arguments_words edition (suc n) [] = 0 ∷ 0 ∷ 0 ∷ arguments_words edition n []
arguments_words edition (suc n) (a ∷ more) = argument_words edition a ++ arguments_words edition n more

-- the ownership bits: slot s is bit s mod 32 of word s / 32
abbrev pub owned_words : Edition → List ℕ → List ℕ
owned_words One slots = take 16 slots
owned_words Two slots = slots

-- the serial and the serial that is answered, 0 where there is none
abbrev pub serial_words : Edition → Message → List ℕ
serial_words One m = []
serial_words Two m = m.serial ∷ unwrap_or (reply_serial_of m) 0 ∷ []

-- the order, the kind, the flags, the body's place and length, the number of arguments
abbrev pub head_words : Edition → Message → List ℕ
head_words edition m =
    order_byte m.order ∷ kind_byte m.kind ∷ m.flags
    ∷ (summary_len edition + body_place (length (header_bytes m))) ∷ length (body_bytes m)
    ∷ min (length (arguments_of m)) max_arguments ∷ []

-- the texts of the fields by rising code
abbrev pub texts_words : Edition → Message → List ℕ
texts_words edition m =
    text_words edition m Path
    ++ (text_words edition m Interface
    ++ (text_words edition m Member
    ++ (text_words edition m ErrorName
    ++ (text_words edition m Destination
    ++ text_words edition m Sender))))

-- the words of a summary
abbrev pub summary_words : Edition → Message → List ℕ → List ℕ
summary_words edition m slots =
    head_words edition m
    ++ (texts_words edition m
    ++ (arguments_words edition max_arguments (arguments_of m)
    ++ (owned_words edition slots
    ++ serial_words edition m)))

-- four bytes each, the highest first
abbrev pub words_bytes : List ℕ → List ℕ
words_bytes words = flat_map (to_be_bytes w32) words

abbrev pub summary_bytes : Edition → Message → List ℕ → List ℕ
summary_bytes edition m slots = words_bytes (summary_words edition m slots)

-- The image of a message whose sender owns the names of these slots.
abbrev pub image_bytes : Edition → Message → List ℕ → List ℕ
image_bytes edition m slots = summary_bytes edition m slots ++ message_bytes m
