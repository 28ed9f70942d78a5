-- What a view keeps is its message's.
use Rattle.std.proofs.Common.{◌≡◌, ℕ, ◌+◌, ◌-◌, ◌<◌, ◌≤◌, List, length, map, get_or, Option, Some, None, Result, Ok, Err, true, false, ltb, refl, sym, ap, subst, ◌∙◌, arith}
use Rattle.std.specs.Prelude.{slice_index_or, IfOk, IsOk}
use Rattle.std.proofs.Math.ListN.{get_or-map}
use Rattle.std.proofs.lemmas.Bool.{lt-ltb, le-ltb}
use Rattle.std.proofs.lemmas.List.{length-drop}
use Rattle.message_value.specs.declared.error.MsgError.{MsgError}
use Rattle.message_value.specs.declared.error.MsgError.TheVariants as faults
use Rattle.message_view.specs.declared.view.Sections.{Sections}
use Rattle.message_view.specs.declared.fixed.Fixed.{Fixed}
use Rattle.message_view.specs.Message.{text_in, number_in, Field, Message}
use Rattle.message_view.specs.Valid.{Valid}
use Rattle.message_value.specs.declared.order.Order.{Order}
use Rattle.message_value.specs.Value.{Values}
use Rattle.message_value.specs.Spelling.{padding}
use Rattle.message_value.specs.Reading.{At, value_at, members_at}
use Rattle.signature.specs.DataType.{DataTypes, SigText}
use Rattle.message_value.proofs.OkSteps.{ok_is, some_is}
use Rattle.message_value.specs.Arguments.{Argument, arguments_from}
use Rattle.message_view.specs.Spelling.{body_place, header_bytes, body_bytes, arguments_of}
use Rattle.message_view.specs.Header.{has_required}
use Rattle.message_view.specs.Fixed.{fields_len, whole_len, framing}
use Rattle.message_view.specs.Reading.{fields_of, header_padding, header_fault, in_body, body_at, message_of, framed_message, message_at}
use Rattle.message_view.specs.Slots.{Slots, Extents, text_fields, extent_in, extents_in, AreExtents, Kept, kept_of, slots_of}
use Rattle.message_view.specs.Places.{extent_of}
use Rattle.message_view.specs.declared.kind.Kind.{Kind}
use Rattle.message_view.specs.declared.extent.Extent.{Extent}
use Rattle.message_view.specs.declared.extent.TextField.{TextField}
use Rattle.message_view.specs.declared.extent.TextField.TheVariants as names
use Rattle.message_view.specs.HeaderAnswers.{body_of, IsKept, HasHeader, ReadsFramed, ReadsView, kept_by}
use Rattle.message_view.specs.FieldAnswers.{slots_shown, lying}
use Rattle.message_view.specs.FixedAnswers.{IsFixed}
use Rattle.message_view.proofs.Framed.{cursor_is}
use Rattle.message_view.proofs.OneMessage.{valid_lies, valid_reads, reads_valid, message_whole, members_read, fault_invalid}

-- ---- the length

pub fixed_fault : (bytes : List ℕ) (fault : MsgError) → framing bytes ≡ Err fault → message_at bytes ≡ Err fault
unfolding message_at
fixed_fault bytes fault is = rw is refl

pub fixed_short : (bytes : List ℕ) → framing bytes ≡ Ok None → message_at bytes ≡ Err faults.Short
unfolding message_at
fixed_short bytes is = rw is refl

-- the length that the code adds up
pub len_is : (fixed : Fixed) (bytes : List ℕ) (len : ℕ) → IsFixed fixed bytes → len ≡ 16 + fixed.fields_len + padding 8 fixed.fields_len + fixed.body_len → len ≡ whole_len bytes
len_is fixed bytes len is sum = sum ∙ rw (is.fields, is.body) refl

pub whole_short : (bytes : List ℕ) → framing bytes ≡ Ok (Some (whole_len bytes)) → length bytes < whole_len bytes → message_at bytes ≡ Err faults.Short
unfolding message_at
whole_short bytes is fewer = rw (is, lt-ltb _ _ fewer) refl

pub whole_long : (bytes : List ℕ) → framing bytes ≡ Ok (Some (whole_len bytes)) → whole_len bytes < length bytes → message_at bytes ≡ Err faults.Trailing
unfolding message_at
whole_long bytes is more =
    let not_fewer : ltb (length bytes) (whole_len bytes) ≡ false = le-ltb _ _ (omega arith) in
    rw (is, not_fewer, lt-ltb _ _ more) refl

pub whole_framed : (bytes : List ℕ) (len : ℕ) → framing bytes ≡ Ok (Some (whole_len bytes)) → len ≡ whole_len bytes → len ≤ length bytes → length bytes ≤ len → message_at bytes ≡ framed_message bytes
unfolding message_at
whole_framed bytes len is len_is low high =
    let not_fewer : ltb (length bytes) (whole_len bytes) ≡ false = le-ltb _ _ (omega arith) in
    let not_more : ltb (whole_len bytes) (length bytes) ≡ false = le-ltb _ _ (omega arith) in
    rw (is, not_fewer, not_more) refl

-- ---- what is kept

abbrev kept_like : Order → Kind → ℕ → ℕ → Slots → List (Option Extent) → Kept
kept_like order kind flags serial slots extents = record { order = order; kind = kind; flags = flags; serial = serial; texts = map text_in slots; numbers = map number_in slots; extents = extents }

extents_are : (m : Message) (extents : Extents) → AreExtents m.order 16 m.fields extents → extents_in extents ≡ map (λ field. extent_of field m) text_fields
extents_are m extents are = cc (are names.Path, are names.Interface, are names.Member, are names.ErrorName, are names.Destination, are names.Sender)

-- of a message that was read
pub kept_first : (fixed : Fixed) (sections : Sections) (bytes : List ℕ) (read : Result Message MsgError) → IsFixed fixed bytes → message_at bytes ≡ read → ReadsFramed (Ok sections) fixed.kind bytes read
    → IsKept bytes sections.body.now sections.signature (kept_by fixed sections)
kept_first fixed sections bytes read is same found =
    let m = message_of bytes fixed.kind found.0 found.1 in
    record {
      message = m;
      read = same ∙ found.2;
      is = ap (kept_like fixed.order fixed.kind fixed.flags fixed.serial (slots_shown sections.fields)) (extents_are m (lying sections.fields) found.6) ∙ rw (is.order, is.flags, is.serial, found.3) refl;
      typed = found.4;
      tail = found.5;
    }

-- ---- bytes that are known to be a message

-- its fields are read, and nothing between them and the body has a fault
pub record KnownHeader (fixed : Fixed) (bytes : List ℕ) : Type 0 where
  pub front : List Field
  pub read : fields_of bytes ≡ Ok front
  pub passes : header_fault fixed.kind (header_padding bytes) front ≡ None

pub known_header : (fixed : Fixed) (bytes : List ℕ) (m : Message) → Valid bytes m → IsFixed fixed bytes → KnownHeader fixed bytes
known_header fixed bytes m valid is =
    let parts = (message_whole bytes m (valid_reads bytes m valid)).parts in
    let kind : parts.kind ≡ fixed.kind = some_is parts.kind fixed.kind (sym parts.is_kind ∙ is.kind) in
    let required : has_required fixed.kind parts.front ≡ true = ap (λ (k : Kind). has_required k parts.front) (sym kind) ∙ parts.required in
    record { front = parts.front; read = parts.fields; passes = rw (required, parts.padded) refl }

-- the message is that of the fixed part and of the fields that were found
pub known_first : (fixed : Fixed) (sections : Sections) (bytes : List ℕ) (m : Message) → Valid bytes m → IsFixed fixed bytes → HasHeader sections fixed.kind bytes
    → IsKept bytes sections.body.now sections.signature (kept_by fixed sections)
known_first fixed sections bytes m valid is header =
    let read = valid_reads bytes m valid in
    let parts = (message_whole bytes m read).parts in
    let kind : parts.kind ≡ fixed.kind = some_is parts.kind fixed.kind (sym parts.is_kind ∙ is.kind) in
    let front : parts.front ≡ header.front = ok_is parts.front header.front (sym parts.fields ∙ header.read) in
    let same : m ≡ message_of bytes fixed.kind header.front parts.arguments =
    sym parts.is
    ∙ ap (λ (k : Kind). message_of bytes k parts.front parts.arguments) kind
    ∙ ap (λ (fields : List Field). message_of bytes fixed.kind fields parts.arguments) front in
    kept_first fixed sections bytes (Ok m) is read (header.front, parts.arguments, ap (λ (x : Message). Ok x) same, header.shows, header.typed, header.body, header.lie)

-- the message that was read is the one that the bytes spell
pub message_is : (bytes now body signature : List ℕ) (m : Message) (kept : Kept) (keeps : IsKept bytes body signature kept) → bytes ≡ now → Valid now m → keeps.message ≡ m
message_is bytes now body signature m kept keeps same valid = ok_is keeps.message m (sym keeps.read ∙ ap message_at same ∙ valid_reads now m valid)

-- what is kept is its
pub kept_is : (bytes now body signature : List ℕ) (m : Message) (kept : Kept) → IsKept bytes body signature kept → bytes ≡ now → Valid now m → kept ≡ kept_of m (slots_of m.fields)
kept_is bytes now body signature m kept keeps same valid =
    keeps.is ∙ ap (λ (x : Message). kept_of x (slots_of x.fields)) (message_is bytes now body signature m kept keeps same valid)

-- and so is the body
pub body_kept : (bytes now body signature : List ℕ) (m : Message) (kept : Kept) → IsKept bytes body signature kept → bytes ≡ now → Valid now m → body ≡ body_bytes m
body_kept bytes now body signature m kept keeps same valid = keeps.tail ∙ ap body_of same ∙ (valid_lies now m valid).is_body

-- and the signature is that of its arguments
pub signature_kept : (bytes now body signature given_signature : List ℕ) (m : Message) (kept : Kept) → IsKept bytes body signature kept → bytes ≡ now → Valid now m → given_signature ≡ signature → SigText m.types given_signature
signature_kept bytes now body signature given_signature m kept keeps same valid is =
    let typed : SigText keeps.message.types given_signature = rw is keeps.typed in
    subst (λ (x : Message). SigText x.types given_signature) (message_is bytes now body signature m kept keeps same valid) typed

pub text_kept : (xs ys : Slots) (i : ℕ) → map text_in xs ≡ map text_in ys → text_in (slice_index_or xs i None) ≡ text_in (slice_index_or ys i None)
text_kept xs ys i same = sym (get_or-map text_in xs i None) ∙ ap (λ texts. get_or texts i None) same ∙ get_or-map text_in ys i None

pub number_kept : (xs ys : Slots) (i : ℕ) → map number_in xs ≡ map number_in ys → number_in (slice_index_or xs i None) ≡ number_in (slice_index_or ys i None)
number_kept xs ys i same = sym (get_or-map number_in xs i None) ∙ ap (λ numbers. get_or numbers i None) same ∙ get_or-map number_in ys i None

pub extent_kept : (extents : Extents) (m : Message) (field : TextField) → extents_in extents ≡ map (λ field. extent_of field m) text_fields → extent_in extents field ≡ extent_of field m
extent_kept extents m names.Path same = ap (λ (xs : List (Option Extent)). get_or xs 0 None) same
extent_kept extents m names.Interface same = ap (λ (xs : List (Option Extent)). get_or xs 1 None) same
extent_kept extents m names.Member same = ap (λ (xs : List (Option Extent)). get_or xs 2 None) same
extent_kept extents m names.ErrorName same = ap (λ (xs : List (Option Extent)). get_or xs 3 None) same
extent_kept extents m names.Destination same = ap (λ (xs : List (Option Extent)). get_or xs 4 None) same
extent_kept extents m names.Sender same = ap (λ (xs : List (Option Extent)). get_or xs 5 None) same

-- ---- what reading found

pub reading_found : (bytes : List ℕ) (result : Result (List ℕ) MsgError) → ((i : ℕ) → get_or bytes i 0 < 256) → ReadsView result bytes (message_at bytes) → IfOk result (λ v. (v ≡ bytes) × ((m : Message) × Valid bytes m))
reading_found bytes (Ok view) fits read = (read.0, (read.1.0, reads_valid bytes read.1.0 fits read.1.1))
reading_found bytes (Err fault) fits read = tt

pub reading_only : (bytes : List ℕ) (result : Result (List ℕ) MsgError) (m : Message) → ReadsView result bytes (message_at bytes) → Valid bytes m → IsOk result
reading_only bytes (Ok view) m read valid = refl
reading_only bytes (Err fault) m read valid = absurd (fault_invalid bytes fault m read valid)

-- ---- the arguments

-- the body is where the code's cursor stands
pub body_cursor : (bytes body signature : List ℕ) (kept : Kept) (place : ℕ) (cursor : At) → IsKept bytes body signature kept → place ≡ length bytes - length body → cursor ≡ in_body place body → cursor ≡ body_at bytes
body_cursor bytes body signature kept place cursor keeps left is = cursor_is bytes body place cursor (message_whole bytes keeps.message keeps.read).whole keeps.tail left is

-- it fits
pub body_fits : (bytes body signature : List ℕ) (kept : Kept) → IsKept bytes body signature kept → (length body ≤ length bytes) × (length bytes ≤ 134217728)
body_fits bytes body signature kept keeps =
    let w = message_whole bytes keeps.message keeps.read in
    let len : length body ≡ length bytes - body_place (fields_len bytes) = ap (λ (x : List ℕ). length x) keeps.tail ∙ length-drop (body_place (fields_len bytes)) bytes in
    (omega (arith, len), omega (arith, w.whole, w.fixed.whole))

-- what the arguments are read from
pub args_found : (bytes now body signature given_signature : List ℕ) (kept : Kept) (cursor : At) → IsKept bytes body signature kept → bytes ≡ now → given_signature ≡ signature → cursor ≡ body_at now
    → (types : DataTypes) × SigText types given_signature × ((values : Values) × (tail : At) × (members_at (value_at 64 kept.order) types cursor ≡ Ok (values, tail)))
args_found bytes now body signature given_signature kept cursor keeps same is place =
    let m = keeps.message in
    let found = members_read bytes m (message_whole bytes m keeps.read).parts in
    let order : kept.order ≡ m.order = ap (λ (k : Kept). k.order) keeps.is in
    let there : cursor ≡ body_at bytes = place ∙ ap body_at (sym same) in
    let read : members_at (value_at 64 kept.order) m.types cursor ≡ Ok (m.arguments, found.0) = ap (λ (o : Order). members_at (value_at 64 o) m.types cursor) order ∙ ap (members_at (value_at 64 m.order) m.types) there ∙ found.1 in
    (m.types, rw is keeps.typed, (m.arguments, found.0, read))

-- they are those of the message that the bytes spell
pub args_are : (bytes now body signature given_signature : List ℕ) (m : Message) (kept : Kept) (cursor : At) (args : List Argument) → IsKept bytes body signature kept → bytes ≡ now → Valid now m → given_signature ≡ signature → cursor ≡ body_at now
    → ((types : DataTypes) (values : Values) (tail : At) → SigText types given_signature → members_at (value_at 64 kept.order) types cursor ≡ Ok (values, tail) → args ≡ arguments_from kept.order cursor.place types values) → args ≡ arguments_of m
unfolding args_found
args_are bytes now body signature given_signature m kept cursor args keeps same valid is place given_by =
    let found = args_found bytes now body signature given_signature kept cursor keeps same is place in
    let message : keeps.message ≡ m = message_is bytes now body signature m kept keeps same valid in
    let order : kept.order ≡ m.order = ap (λ (k : Kept). k.order) keeps.is ∙ ap (λ (x : Message). x.order) message in
    let start : cursor.place ≡ body_place (length (header_bytes m)) = ap (λ (a : At). a.place) place ∙ ap body_place (valid_lies now m valid).is_len in
    given_by found.0 found.2.0 found.2.1 found.1 found.2.2
    ∙ ap (λ (x : Message). arguments_from kept.order cursor.place x.types x.arguments) message
    ∙ ap (λ (o : Order). arguments_from o cursor.place m.types m.arguments) order
    ∙ ap (λ (p : ℕ). arguments_from m.order p m.types m.arguments) start
