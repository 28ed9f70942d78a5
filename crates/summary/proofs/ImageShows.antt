-- The loads of an image show its message.
use Rattle.std.proofs.Common.{◌≡◌, ℕ, zero, suc, ◌+◌, ◌*◌, ◌/◌, ◌^◌, ◌<◌, ◌≤◌, List, [], ◌∷◌, ◌++◌, length, get_or, take, min, Option, Some, None, unwrap_or, IfSome, refl, ap, subst, ◌∙◌, append_assoc, arith}
use Rattle.std.specs.Prelude.{slice_get}
use Rattle.std.proofs.lemmas.List.{length-append, length-take-le, get_or-take, get_or_append_left}
use Rattle.bpf_code.specs.Loads.{load_word}
use Rattle.message_value.specs.Arguments.{Argument}
use Rattle.message_value.specs.Order.{order_byte}
use Rattle.message_value.specs.declared.order.Order.{Order}
use Rattle.message_value.specs.declared.order.Order.TheVariants.{Little, Big}
use Rattle.message_view.specs.declared.extent.Extent.{Extent}
use Rattle.message_view.specs.declared.extent.TextField.TheVariants.{Path, Interface, Member, ErrorName, Destination, Sender}
use Rattle.message_view.specs.Header.{kind_byte}
use Rattle.message_view.specs.Message.{Message, reply_serial_of}
use Rattle.message_view.specs.Places.{extent_of, text_of}
use Rattle.message_view.specs.Spelling.{header_bytes, body_place, body_bytes, arguments_of, message_bytes}
use Rattle.message_view.specs.Valid.{Valid}
use Rattle.message_view.proofs.PartPlaces.{length-laid}
use Rattle.message_view.proofs.TextStands.{Stands, stands_after, stands_moved, stands_within}
use Rattle.message_view.proofs.FieldsHeld.{reply_serial_below}
use Rattle.message_view.proofs.FieldTexts.{Said, texts_said}
use Rattle.message_view.proofs.ArgumentPlaces.{TextStands, HavePlaces, message_places}
use Rattle.summary.specs.declared.edition.Edition.{Edition}
use Rattle.summary.specs.declared.edition.Edition.TheVariants.{One, Two}
use Rattle.summary.specs.Layout.{summary_len}
use Rattle.summary.specs.ImageBytes.{extent_words, text_words, argument_words, arguments_words, owned_words, serial_words, head_words, texts_words, summary_words, summary_bytes, image_bytes}
use Rattle.summary.specs.Shown.{Lies, Tells, ShowsText, ShowsArgument, slots_of, ShowsHead, ShowsSerials, Shows}
use Rattle.summary.proofs.SummaryWords.{Follow, length-words_bytes, all_follow, next_follow, one_follows}

-- ---- a summary and a message

-- An image: a summary of an edition's size, and a message after it.
record IsImage (image : List ℕ) (edition : Edition) (message : List ℕ) : Type 0 where
  summary : List ℕ
  parts : image ≡ summary ++ message
  size : length summary ≡ summary_len edition
  fits : length message ≤ 134217728

size_above : (edition : Edition) → 0 < summary_len edition
size_above One = omega arith
size_above Two = omega arith

size_below : (edition : Edition) → summary_len edition ≤ 976
size_below One = omega arith
size_below Two = omega arith

-- where a text stands, it lies
stands_lies : (image text : List ℕ) (place : ℕ) → Stands image 0 place text → Lies image place text
stands_lies image text place s = (s.front, s.tail, s.parts, omega (arith, s.here))

-- a text of the message stands further back in the image
image_stands : (image : List ℕ) (edition : Edition) (message text : List ℕ) (place : ℕ) → IsImage image edition message → Stands message 0 place text → Stands image 0 (summary_len edition + place) text
image_stands image edition message text place is stands =
    rw is.parts (stands_after is.summary message text (summary_len edition) 0 (summary_len edition + place) is.size (stands_moved message text (summary_len edition) 0 place stands))

-- two words tell of a text
text_told : (image : List ℕ) (edition : Edition) (message text words more : List ℕ) (start i at place len : ℕ) → IsImage image edition message → Follow image start words more → i + 1 < length words → start + 4 * i ≡ at
    → get_or words i 0 ≡ summary_len edition + place → get_or words (i + 1) 0 ≡ len → len ≡ length text → Stands message 0 place text → Tells image at text
text_told image edition message text words more start i at place len is follow inside there place_is len_is same stands =
    let within : place + length text ≤ 0 + length message = stands_within message text 0 place stands in
    let small : summary_len edition + place < 2 ^ 32 = omega (arith, within, is.fits, size_below edition) in
    let short : length text < 2 ^ 32 = omega (arith, within, is.fits) in
    record {
      bytes = stands.made;
      place = summary_len edition + place;
      after_start = omega (arith, size_above edition);
      place_word = one_follows image start i (summary_len edition + place) at words more follow (omega arith) place_is small there;
      len_word = one_follows image start (i + 1) (length text) (at + 4) words more follow inside (len_is ∙ same) short (omega arith);
      end_fits = omega (arith, within, is.fits, size_below edition);
      lies = stands_lies image text (summary_len edition + place) (image_stands image edition message text place is stands);
    }

-- ---- fields

-- the words of a field's text show it
text_shown : (image : List ℕ) (edition : Edition) (message words more : List ℕ) (at : ℕ) (extent : Option Extent) (text : Option (List ℕ)) → IsImage image edition message → Follow image at (extent_words edition extent ++ words) more → Said message 0 extent text → ShowsText image at text
text_shown image edition message words more at None None is follow said =
    (one_follows image at 0 0 at (0 ∷ 0 ∷ words) more follow (omega arith) refl (omega arith) (omega arith), one_follows image at 1 0 (at + 4) (0 ∷ 0 ∷ words) more follow (omega arith) refl (omega arith) (omega arith))
text_shown image edition message words more at None (Some text) is follow said = absurd said
text_shown image edition message words more at (Some extent) None is follow said = absurd said
text_shown image edition message words more at (Some extent) (Some text) is follow said =
    text_told image edition message text ((summary_len edition + extent.place) ∷ extent.len ∷ words) more at 0 at extent.place extent.len is follow (omega arith) (omega arith) refl refl said.0 said.1

length-extent_words : (edition : Edition) (extent : Option Extent) → length (extent_words edition extent) ≡ 2
length-extent_words edition None = refl
length-extent_words edition (Some extent) = refl

-- ---- arguments

length-arguments_words : (edition : Edition) (count : ℕ) (arguments : List Argument) → length (arguments_words edition count arguments) ≡ 3 * count
length-arguments_words edition zero arguments = refl
length-arguments_words edition (suc count) [] = omega (arith, length-arguments_words edition count [])
length-arguments_words edition (suc count) (a ∷ more) = omega (arith, length-arguments_words edition count more)

argument_told : (image : List ℕ) (edition : Edition) (message words more : List ℕ) (start at code place len : ℕ) (text : Option (List ℕ)) → IsImage image edition message → Follow image start (code ∷ (summary_len edition + place) ∷ len ∷ words) more → start + 4 ≡ at → TextStands message 0 place len text → IfSome text (Tells image at)
argument_told image edition message words more start at code place len None is follow there stands = tt
argument_told image edition message words more start at code place len (Some text) is follow there stands =
    text_told image edition message text (code ∷ (summary_len edition + place) ∷ len ∷ words) more start 1 at place len is follow (omega arith) (omega arith) refl refl stands.0 stands.1

argument_shown : (image : List ℕ) (edition : Edition) (message words more : List ℕ) (count : ℕ) (arguments : List Argument) (n start at : ℕ) → IsImage image edition message → n < count → start + 12 * n ≡ at
    → Follow image start (arguments_words edition count arguments ++ words) more → HavePlaces message 0 arguments → ShowsArgument edition image at (slice_get arguments n)
argument_shown image edition message words more zero arguments n start at is below there follow have = absurd (omega arith)
argument_shown image edition message words more (suc count) [] zero start at is below there follow have =
    let all : List ℕ = 0 ∷ 0 ∷ 0 ∷ (arguments_words edition count [] ++ words) in (
      one_follows image start 0 0 at all more follow (omega arith) refl (omega arith) (omega arith),
      one_follows image start 1 0 (at + 4) all more follow (omega arith) refl (omega arith) (omega arith),
      one_follows image start 2 0 (at + 8) all more follow (omega arith) refl (omega arith) (omega arith),
    )
argument_shown image edition message words more (suc count) [] (suc n) start at is below there follow have =
    argument_shown image edition message words more count [] n (start + 12) at is (omega arith) (omega arith)
    (next_follow image start 3 (start + 12) (0 ∷ 0 ∷ 0 ∷ []) (arguments_words edition count [] ++ words) more refl refl follow) tt
argument_shown image edition message words more (suc count) (a ∷ others) zero start at is below there follow have =
    let rest : List ℕ = arguments_words edition count others ++ words in
    let all : List ℕ = argument_words edition a ++ rest in
    let code_small : a.code < 2 ^ 32 = omega (arith, have.0.code) in
    let place_small : summary_len edition + a.place < 2 ^ 32 = omega (arith, have.0.within, is.fits, size_below edition) in
    let len_small : a.len < 2 ^ 32 = omega (arith, have.0.within, is.fits) in
    record {
      code_word = one_follows image start 0 a.code at all more follow (omega arith) refl code_small (omega arith);
      place_word = one_follows image start 1 (summary_len edition + a.place) (at + 4) all more follow (omega arith) refl place_small (omega arith);
      len_word = one_follows image start 2 a.len (at + 8) all more follow (omega arith) refl len_small (omega arith);
      text = argument_told image edition message rest more start (at + 4) a.code a.place a.len a.text is follow (omega arith) have.0.stands;
    }
argument_shown image edition message words more (suc count) (a ∷ others) (suc n) start at is below there follow have =
    argument_shown image edition message words more count others n (start + 12) at is (omega arith) (omega arith)
    (next_follow image start 3 (start + 12) (argument_words edition a) (arguments_words edition count others ++ words) more refl refl follow) have.1

-- ---- slots

-- the ownership words of an edition are the first of all
owned_word : (edition : Edition) (slots : List ℕ) (slot : ℕ) → slot < slots_of edition → get_or (owned_words edition slots) (slot / 32) 0 ≡ get_or slots (slot / 32) 0
owned_word One slots slot below = get_or-take 16 slots (slot / 32) 0 (omega arith)
owned_word Two slots slot below = refl

owned_inside : (edition : Edition) (slots : List ℕ) (slot : ℕ) → length slots ≡ 32 → slot < slots_of edition → slot / 32 < length (owned_words edition slots)
owned_inside One slots slot all below = let n : length (take 16 slots) ≡ 16 = length-take-le 16 slots (omega arith) in omega arith
owned_inside Two slots slot all below = omega arith

slot_shown : (image : List ℕ) (edition : Edition) (slots words more : List ℕ) (slot : ℕ) → length slots ≡ 32 → get_or slots (slot / 32) 0 < 2 ^ 32 → slot < slots_of edition
    → Follow image 840 (owned_words edition slots ++ words) more → load_word image (840 + 4 * (slot / 32)) ≡ Some (get_or slots (slot / 32) 0)
slot_shown image edition slots words more slot all small below follow =
    let inside = owned_inside edition slots slot all below in
    one_follows image 840 (slot / 32) (get_or slots (slot / 32) 0) (840 + 4 * (slot / 32)) (owned_words edition slots ++ words) more follow (omega (arith, inside, length-append (owned_words edition slots) words))
    (get_or_append_left (owned_words edition slots) words 0 (slot / 32) inside ∙ owned_word edition slots slot below) small refl

-- ---- the words of a summary

length-texts_words : (edition : Edition) (m : Message) → length (texts_words edition m) ≡ 12
length-texts_words edition m =
    let path = text_words edition m Path in
    let interface = text_words edition m Interface in
    let member = text_words edition m Member in
    let error_name = text_words edition m ErrorName in
    let destination = text_words edition m Destination in
    let from_sender = text_words edition m Sender in
    let from_destination = destination ++ from_sender in
    let from_error_name = error_name ++ from_destination in
    let from_member = member ++ from_error_name in
    let from_interface = interface ++ from_member in
    omega (
      arith,
      length-append path from_interface,
      length-append interface from_member,
      length-append member from_error_name,
      length-append error_name from_destination,
      length-append destination from_sender,
      length-extent_words edition (extent_of Path m),
      length-extent_words edition (extent_of Interface m),
      length-extent_words edition (extent_of Member m),
      length-extent_words edition (extent_of ErrorName m),
      length-extent_words edition (extent_of Destination m),
      length-extent_words edition (extent_of Sender m),
    )

-- the words after the arguments
last_words : (edition : Edition) (m : Message) (slots : List ℕ) → length slots ≡ 32 → 840 + 4 * length (owned_words edition slots ++ serial_words edition m) ≡ summary_len edition
last_words One m slots all = omega (arith, length-append (take 16 slots) (serial_words One m), length-take-le 16 slots (omega arith))
last_words Two m slots all = omega (arith, length-append slots (serial_words Two m))

length-summary_bytes : (edition : Edition) (m : Message) (slots : List ℕ) → length slots ≡ 32 → length (summary_bytes edition m slots) ≡ summary_len edition
length-summary_bytes edition m slots all =
    let texts = texts_words edition m in
    let arguments = arguments_words edition 64 (arguments_of m) in
    let last = owned_words edition slots ++ serial_words edition m in
    omega (arith, length-words_bytes (summary_words edition m slots), length-append (head_words edition m) (texts ++ (arguments ++ last)), length-append texts (arguments ++ last), length-append arguments last, length-texts_words edition m, length-arguments_words edition 64 (arguments_of m), last_words edition m slots all)

-- ---- the head and the serials

order_small : (order : Order) → order_byte order < 2 ^ 32
order_small Little = omega arith
order_small Big = omega arith

head_shown : (image : List ℕ) (edition : Edition) (bytes words : List ℕ) (m : Message) → Valid bytes m → IsImage image edition (message_bytes m) → Follow image 0 (head_words edition m ++ words) (message_bytes m) → ShowsHead edition image m
head_shown image edition bytes words m valid is follow =
    let all : List ℕ = head_words edition m ++ words in
    let more : List ℕ = message_bytes m in
    let whole = length-laid m.order (kind_byte m.kind) m.flags m.serial (header_bytes m) (body_bytes m) in
    let flags_small : m.flags < 2 ^ 32 = omega (arith, valid.flags) in
    let body_small : summary_len edition + body_place (length (header_bytes m)) < 2 ^ 32 = omega (arith, whole, is.fits, size_below edition) in
    let len_small : length (body_bytes m) < 2 ^ 32 = omega (arith, whole, is.fits) in
    record {
      order = one_follows image 0 0 (order_byte m.order) 0 all more follow (omega arith) refl (order_small m.order) refl;
      flags = one_follows image 0 2 m.flags 8 all more follow (omega arith) refl flags_small refl;
      body = one_follows image 0 3 (summary_len edition + body_place (length (header_bytes m))) 12 all more follow (omega arith) refl body_small refl;
      body_len = one_follows image 0 4 (length (body_bytes m)) 16 all more follow (omega arith) refl len_small refl;
      count = one_follows image 0 5 (min (length (arguments_of m)) 64) 20 all more follow (omega arith) refl (omega arith) refl;
    }

serials_shown : (image : List ℕ) (edition : Edition) (slots more : List ℕ) (m : Message) → length slots ≡ 32 → m.serial < 2 ^ 32 → unwrap_or (reply_serial_of m) 0 < 2 ^ 32
    → Follow image 840 (owned_words edition slots ++ serial_words edition m) more → ShowsSerials edition image m
serials_shown image One slots more m all small answered_small follow = tt
serials_shown image Two slots more m all small answered_small follow =
    let words : List ℕ = serial_words Two m in
    let here : Follow image 968 words more = next_follow image 840 32 968 slots words more all refl follow in (
      one_follows image 968 0 m.serial 968 words more here (omega arith) refl small refl,
      one_follows image 968 1 (unwrap_or (reply_serial_of m) 0) 972 words more here (omega arith) refl answered_small refl,
    )

-- ---- images

-- the words of a text stand in front of the others, not within brackets
inner_follow : (image : List ℕ) (at : ℕ) (a b c more : List ℕ) → Follow image at ((a ++ b) ++ c) more → Follow image at (a ++ (b ++ c)) more
inner_follow image at a b c more follow = subst (λ (words : List ℕ). Follow image at words more) (append_assoc a b c) follow

-- the words of the first text, and of those after it
text_follow : (image : List ℕ) (edition : Edition) (at end : ℕ) (extent : Option Extent) (texts words more : List ℕ) → at + 8 ≡ end → Follow image at ((extent_words edition extent ++ texts) ++ words) more
    → Follow image at (extent_words edition extent ++ (texts ++ words)) more × Follow image end (texts ++ words) more
text_follow image edition at end extent texts words more there follow =
    let first = inner_follow image at (extent_words edition extent) texts words more follow in
    (first, next_follow image at 2 end (extent_words edition extent) (texts ++ words) more (length-extent_words edition extent) there first)

words_show : (edition : Edition) (image bytes : List ℕ) (m : Message) (slots : List ℕ) → Valid bytes m → length slots ≡ 32 → ((i : ℕ) → get_or slots i 0 < 2 ^ 32)
    → IsImage image edition (message_bytes m) → Follow image 0 (summary_words edition m slots) (message_bytes m) → Shows edition image m slots
words_show edition image bytes m slots valid all small is follow =
    let more : List ℕ = message_bytes m in
    let arguments : List Argument = arguments_of m in
    let last : List ℕ = owned_words edition slots ++ serial_words edition m in
    let rest : List ℕ = arguments_words edition 64 arguments ++ last in
    let from_sender : List ℕ = text_words edition m Sender in
    let from_destination : List ℕ = text_words edition m Destination ++ from_sender in
    let from_error_name : List ℕ = text_words edition m ErrorName ++ from_destination in
    let from_member : List ℕ = text_words edition m Member ++ from_error_name in
    let from_interface : List ℕ = text_words edition m Interface ++ from_member in
    let f24 : Follow image 24 (texts_words edition m ++ rest) more = next_follow image 0 6 24 (head_words edition m) (texts_words edition m ++ rest) more refl refl follow in
    let path = text_follow image edition 24 32 (extent_of Path m) from_interface rest more refl f24 in
    let interface = text_follow image edition 32 40 (extent_of Interface m) from_member rest more refl path.1 in
    let member = text_follow image edition 40 48 (extent_of Member m) from_error_name rest more refl interface.1 in
    let error_name = text_follow image edition 48 56 (extent_of ErrorName m) from_destination rest more refl member.1 in
    let destination = text_follow image edition 56 64 (extent_of Destination m) from_sender rest more refl error_name.1 in
    let f72 : Follow image 72 rest more = next_follow image 24 12 72 (texts_words edition m) rest more (length-texts_words edition m) refl f24 in
    let f840 : Follow image 840 last more = next_follow image 72 192 840 (arguments_words edition 64 arguments) last more (length-arguments_words edition 64 arguments) refl f72 in
    let kind_small : kind_byte m.kind < 2 ^ 32 = omega (arith, valid.kind_fits) in
    record {
      head = head_shown image edition bytes (texts_words edition m ++ rest) m valid is follow;
      kind = one_follows image 0 1 (kind_byte m.kind) 4 (summary_words edition m slots) more follow (omega arith) refl kind_small refl;
      path = text_shown image edition more (from_interface ++ rest) more 24 (extent_of Path m) (text_of Path m) is path.0 (texts_said Path bytes m valid);
      interface = text_shown image edition more (from_member ++ rest) more 32 (extent_of Interface m) (text_of Interface m) is interface.0 (texts_said Interface bytes m valid);
      member = text_shown image edition more (from_error_name ++ rest) more 40 (extent_of Member m) (text_of Member m) is member.0 (texts_said Member bytes m valid);
      error_name = text_shown image edition more (from_destination ++ rest) more 48 (extent_of ErrorName m) (text_of ErrorName m) is error_name.0 (texts_said ErrorName bytes m valid);
      destination = text_shown image edition more (from_sender ++ rest) more 56 (extent_of Destination m) (text_of Destination m) is destination.0 (texts_said Destination bytes m valid);
      sender = text_shown image edition more rest more 64 (extent_of Sender m) (text_of Sender m) is destination.1 (texts_said Sender bytes m valid);
      argument = λ k below. argument_shown image edition more last more 64 arguments k 72 (72 + 12 * k) is below refl f72 (message_places bytes m valid);
      owned = λ slot below. slot_shown image edition slots (serial_words edition m) more slot all (small (slot / 32)) below f840;
      serials = serials_shown image edition slots more m all valid.serial_fits (reply_serial_below bytes m valid) f840;
    }

-- The image of a valid message shows it.
pub image_shows : (edition : Edition) (bytes : List ℕ) (m : Message) (slots : List ℕ) → Valid bytes m → length slots ≡ 32 → ((i : ℕ) → get_or slots i 0 < 2 ^ 32) → Shows edition (image_bytes edition m slots) m slots
image_shows edition bytes m slots valid all small =
    let fits : length (message_bytes m) ≤ 134217728 = omega (arith, ap (λ (x : List ℕ). length x) valid.spelled, valid.fits) in
    words_show edition (image_bytes edition m slots) bytes m slots valid all small
    (record { summary = summary_bytes edition m slots; parts = refl; size = length-summary_bytes edition m slots all; fits = fits })
    (all_follow (summary_words edition m slots) (message_bytes m))
