-- How many bytes an image has.
use Rattle.std.proofs.Common.{◌≡◌, ℕ, zero, suc, ◌+◌, ◌*◌, List, [], ◌∷◌, ◌++◌, length, Option, Some, None, refl, arith}
use Rattle.std.proofs.lemmas.List.{length-append}
use Rattle.message_value.specs.Arguments.{Argument}
use Rattle.message_view.specs.declared.extent.Extent.{Extent}
use Rattle.message_view.specs.declared.extent.TextField.TheVariants.{Path, Interface, Member, ErrorName, Destination, Sender}
use Rattle.message_view.specs.Message.{Message}
use Rattle.message_view.specs.Places.{extent_of}
use Rattle.message_view.specs.Spelling.{arguments_of, message_bytes}
use Rattle.summary.specs.declared.edition.Edition.TheVariants.{Two}
use Rattle.summary.specs.ImageBytes.{extent_words, text_words, arguments_words, serial_words, head_words, texts_words, summary_words, summary_bytes, image_bytes}
use Rattle.summary.proofs.WordLists.{length-words_bytes}

extent_len : (e : Option Extent) → length (extent_words Two e) ≡ 2
extent_len None = refl
extent_len (Some e) = refl

arguments_len : (n : ℕ) (arguments : List Argument) → length (arguments_words Two n arguments) ≡ 3 * n
arguments_len zero arguments = refl
arguments_len (suc n) [] = omega (arith, arguments_len n [])
arguments_len (suc n) (a ∷ more) = omega (arith, arguments_len n more)

texts_len : (m : Message) → length (texts_words Two m) ≡ 12
texts_len m =
    let sender = text_words Two m Sender in
    let destination = text_words Two m Destination ++ sender in
    let error_name = text_words Two m ErrorName ++ destination in
    let member = text_words Two m Member ++ error_name in
    let interface = text_words Two m Interface ++ member in
    omega (arith, length-append (text_words Two m Path) interface, length-append (text_words Two m Interface) member, length-append (text_words Two m Member) error_name, length-append (text_words Two m ErrorName) destination, length-append (text_words Two m Destination) sender, extent_len (extent_of Path m), extent_len (extent_of Interface m), extent_len (extent_of Member m), extent_len (extent_of ErrorName m), extent_len (extent_of Destination m), extent_len (extent_of Sender m))

-- a summary and the message
pub image_len : (m : Message) (slots : List ℕ) → length slots ≡ 32 → length (image_bytes Two m slots) ≡ 976 + length (message_bytes m)
image_len m slots all =
    let serials = serial_words Two m in
    let last = slots ++ serials in
    let arguments = arguments_words Two 64 (arguments_of m) in
    let rest = arguments ++ last in
    let texts = texts_words Two m in
    omega (arith, length-append (summary_bytes Two m slots) (message_bytes m), length-words_bytes (summary_words Two m slots), length-append (head_words Two m) (texts ++ rest), length-append texts rest, length-append arguments last, length-append slots serials, texts_len m, arguments_len 64 (arguments_of m), all)
