-- What the words of an image are called (own). Where they stand is the layout's.
use Rattle.std.specs.Prelude.{ℕ, ◌+◌, ◌-◌, ◌*◌, ◌/◌, ◌%◌, nat_lt, ◌==◌, List, [], ◌++◌, Option, Some, None, codes, decimal, if◌then◌else◌}
use Rattle.std.specs.Option.{option_map_or}
use Rattle.bpf_code.specs.declared.operation.Width.{Width}
use Rattle.bpf_code.specs.declared.operation.Width.TheVariants.{Word, Half, Byte}
use Rattle.message_view.specs.declared.extent.TextField.TheVariants.{Path, Interface, Member, ErrorName, Destination, Sender}
use Rattle.summary.specs.declared.edition.Edition.{Edition}
use Rattle.summary.specs.Layout.{order_place, kind_place, flags_place, body_words_place, count_place, text_place, argument_place, ownership_place, serial_place, reply_serial_place, summary_len}

-- the words of the head, and the place and the length of each field's text
abbrev pub fixed_word : ℕ → Option (List ℕ)
fixed_word at =
    if at == order_place then Some (codes ", the byte order")
    else if at == kind_place then Some (codes ", the kind")
    else if at == flags_place then Some (codes ", the flags")
    else if at == body_words_place then Some (codes ", the place of the body")
    else if at == body_words_place + 4 then Some (codes ", the length of the body")
    else if at == count_place then Some (codes ", the number of arguments")
    else if at == text_place Path then Some (codes ", the place of PATH")
    else if at == text_place Path + 4 then Some (codes ", the length of PATH")
    else if at == text_place Interface then Some (codes ", the place of INTERFACE")
    else if at == text_place Interface + 4 then Some (codes ", the length of INTERFACE")
    else if at == text_place Member then Some (codes ", the place of MEMBER")
    else if at == text_place Member + 4 then Some (codes ", the length of MEMBER")
    else if at == text_place ErrorName then Some (codes ", the place of ERROR_NAME")
    else if at == text_place ErrorName + 4 then Some (codes ", the length of ERROR_NAME")
    else if at == text_place Destination then Some (codes ", the place of DESTINATION")
    else if at == text_place Destination + 4 then Some (codes ", the length of DESTINATION")
    else if at == text_place Sender then Some (codes ", the place of SENDER")
    else if at == text_place Sender + 4 then Some (codes ", the length of SENDER")
    else None

-- the three words of an argument, by their places among them
abbrev pub argument_part : ℕ → Option (List ℕ)
argument_part part =
    if part == 0 then Some (codes ", the type of argument ")
    else if part == 4 then Some (codes ", the place of argument ")
    else if part == 8 then Some (codes ", the length of argument ")
    else None

-- a word of an argument, by its place among those of all arguments
abbrev pub argument_text : ℕ → List ℕ
argument_text at = option_map_or (λ part. part ++ decimal (at / 12)) (argument_part (at % 12)) []

-- a word of ownership bits, by its place among them
abbrev pub owned_text : ℕ → List ℕ
owned_text at = codes ", the ownership bits from slot " ++ decimal (at * 8) ++ codes " on"

-- a word after those of the arguments: the serials, and words of ownership bits
abbrev pub last_text : ℕ → List ℕ
last_text at =
    if at == serial_place then codes ", SERIAL"
    else if at == reply_serial_place then codes ", REPLY_SERIAL"
    else if at % 4 == 0 then owned_text (at - ownership_place 0)
    else []

-- a word of the summary
abbrev pub word_text : ℕ → List ℕ
word_text at =
    if nat_lt at (argument_place 0) then option_map_or (λ name. name) (fixed_word at) []
    else if nat_lt at (ownership_place 0) then argument_text (at - argument_place 0)
    else last_text at

-- in the summary only words have names
abbrev pub summary_text : Width → ℕ → List ℕ
summary_text Word at = word_text at
summary_text Half at = []
summary_text Byte at = []

-- a byte of the message
abbrev pub byte_text : ℕ → List ℕ
byte_text byte = codes ", at byte " ++ decimal byte ++ codes " of the message"

-- what lies at a place that is read: a word of the summary, or a byte of the message
abbrev pub place_text : Edition → Width → ℕ → List ℕ
place_text edition width at =
    if nat_lt at (summary_len edition) then summary_text width at
    else byte_text (at - summary_len edition)
