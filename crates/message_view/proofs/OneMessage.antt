-- The two laws: valid bytes are read, and what is read is valid. So bytes spell one message at most.
use Rattle.std.proofs.Common.{◌≡◌, ℕ, ◌+◌, ◌<◌, ◌≤◌, true, false, not, cond, eqb, ltb, List, [], length, ◌++◌, get_or, take, drop, is_none, Option, Some, None, Ok, Err, refl, sym, ap, subst, ◌∙◌, arith}
use Rattle.std.specs.List.{list_all}
use Rattle.std.proofs.lemmas.Bool.{eqb-true, ltb-false, le-ltb, not-false}
use Rattle.std.proofs.lemmas.List.{append-nil, nil_from_length, length-take-le, length-drop}
use Rattle.signature.specs.DataType.{DataTypes, SigText}
use Rattle.signature.proofs.TreesOfTexts.{types_of-SigText}
use Rattle.message_value.specs.declared.order.Order.{Order}
use Rattle.message_value.specs.declared.error.MsgError.{MsgError}
use Rattle.message_value.specs.declared.error.MsgError.TheVariants as faults
use Rattle.message_value.specs.Order.{order_byte, order_of}
use Rattle.message_value.specs.Value.{Values}
use Rattle.message_value.specs.Spelling.{padding, zeros, members_bytes}
use Rattle.message_value.specs.Fits.{MembersFit}
use Rattle.message_value.specs.Reading.{◌>>=◌, At, inside, value_at, members_at}
use Rattle.message_value.proofs.OkSteps.{bind_ok, not_refused, found_none, passed_ok, ok_is}
use Rattle.message_value.proofs.WordBytes.{IsBytes, IsBytes-drop, IsBytes-take}
use Rattle.message_value.proofs.ReadItems.{zeros_are, zeros_again}
use Rattle.message_value.proofs.ReadValues.{members_takes, members_again}
use Rattle.message_view.specs.declared.kind.Kind.{Kind}
use Rattle.message_view.specs.Header.{kind_byte, kind_of, has_required}
use Rattle.message_view.specs.Message.{Field, Message, signature_in}
use Rattle.message_view.specs.Spelling.{fixed_len, body_place, fields_bytes, header_bytes, body_bytes}
use Rattle.message_view.specs.Valid.{Valid, AreFields}
use Rattle.message_view.specs.Fixed.{order_in, serial_in, fields_len, body_len, whole_len, framing}
use Rattle.message_view.specs.Reading.{fields_from, fields_of, header_padding, header_fault, types_in, in_body, all_read, arguments_at, body_at, message_of, or_fault, or_kind, framed_message, or_short, of_len, message_at}
use Rattle.message_view.specs.HeaderAnswers.{body_of}
use Rattle.message_view.proofs.ReadFields.{or_fault_ok}
use Rattle.message_view.proofs.FieldArrays.{nothing_front, fields_again, fields_take}
use Rattle.message_view.proofs.FixedPart.{IsFixed, order_of-order_byte, order_byte-order_of, kind_byte-kind_of, kind_again, framing_takes, framing_again}
use Rattle.message_view.proofs.PartPlaces.{laid, length-laid, Lies, laid_lies, lies_laid, word_at-lt}
use Rattle.message_view.proofs.BodyTypes.{types_spelled}

-- ---- valid bytes are read

fields_of_is : (bytes : List ℕ) (len : ℕ) (order : Order) (text : List ℕ) → fields_len bytes ≡ len → order_in bytes ≡ order → take len (drop fixed_len bytes) ≡ text → fields_of bytes ≡ fields_from len order [] (inside fixed_len text)
fields_of_is bytes len order text is_len is_order is_text =
    ap (λ (k : ℕ). fields_from k (order_in bytes) [] (inside fixed_len (take k (drop fixed_len bytes)))) is_len
    ∙ ap (λ (o : Order). fields_from len o [] (inside fixed_len (take len (drop fixed_len bytes)))) is_order
    ∙ ap (λ (t : List ℕ). fields_from len order [] (inside fixed_len t)) is_text

abbrev message_like : Kind → List Field → Order → ℕ → ℕ → DataTypes → Values → Message
message_like kind fields order flags serial types arguments =
    record { order = order; kind = kind; flags = flags; serial = serial; fields = fields; types = types; arguments = arguments }

same_message : (m : Message) (order : Order) (flags serial : ℕ) (types : DataTypes) → order ≡ m.order → flags ≡ m.flags → serial ≡ m.serial → types ≡ m.types → message_like m.kind m.fields order flags serial types m.arguments ≡ m
same_message m order flags serial types o f s t =
    ap (λ (x : Order). message_like m.kind m.fields x flags serial types m.arguments) o
    ∙ ap (λ (x : ℕ). message_like m.kind m.fields m.order x serial types m.arguments) f
    ∙ ap (λ (x : ℕ). message_like m.kind m.fields m.order m.flags x types m.arguments) s
    ∙ ap (λ (x : DataTypes). message_like m.kind m.fields m.order m.flags m.serial x m.arguments) t

-- where the parts of a valid message lie
pub valid_lies : (bytes : List ℕ) (m : Message) → Valid bytes m → Lies bytes m.order m.serial (header_bytes m) (body_bytes m)
valid_lies bytes m v =
    let len = ap (λ (x : List ℕ). length x) v.spelled ∙ length-laid m.order (kind_byte m.kind) m.flags m.serial (header_bytes m) (body_bytes m) in
    rw v.spelled (laid_lies m.order (kind_byte m.kind) m.flags m.serial (header_bytes m) (body_bytes m) v.serial_fits (omega (arith, v.fields_fit)) (omega (arith, len, v.fits)))

-- the length that is said is the one that they have
pub lies_whole : (bytes : List ℕ) (order : Order) (serial : ℕ) (fields body : List ℕ) → Lies bytes order serial fields body → whole_len bytes ≡ length bytes
lies_whole bytes order serial fields body l =
    ap (λ (k : ℕ). body_place k + body_len bytes) l.is_len
    ∙ ap (λ (b : ℕ). body_place (length fields) + b) l.is_body_len
    ∙ sym l.is_whole

pub valid_fixed : (bytes : List ℕ) (m : Message) → Valid bytes m → IsFixed bytes
valid_fixed bytes m v =
    let l = valid_lies bytes m v in
    let first : get_or bytes 0 0 ≡ order_byte m.order = rw v.spelled refl in
    let second : get_or bytes 1 0 ≡ kind_byte m.kind = rw v.spelled refl in
    let fourth : get_or bytes 3 0 ≡ 1 = rw v.spelled refl in
    let whole = lies_whole bytes m.order m.serial (header_bytes m) (body_bytes m) l in
    record {
      long = omega (arith, l.is_whole);
      order = ap order_of first ∙ order_of-order_byte m.order ∙ ap (λ (o : Order). Some o) (sym l.is_order);
      kind = ap (λ (k : ℕ). is_none (kind_of k)) second ∙ ap (λ (o : Option Kind). is_none o) v.kind;
      version = fourth;
      serial = omega (arith, l.is_serial, v.serial);
      fields = omega (arith, l.is_len, v.fields_fit);
      whole = omega (arith, whole, v.fits);
    }

no_header_fault : (kind : Kind) (skipped : List ℕ) (fields : List Field) → has_required kind fields ≡ true → list_all (λ byte. eqb byte 0) skipped ≡ true → header_fault kind skipped fields ≡ None
no_header_fault kind skipped fields required padded = rw (required, padded) refl

-- arguments that fit are read where they are all of the body
arguments_again : (order : Order) (types : DataTypes) (place : ℕ) (arguments : Values) → MembersFit order 64 place types arguments → arguments_at order types (in_body place (members_bytes order place types arguments)) ≡ Ok arguments
unfolding arguments_at
arguments_again order types place arguments fits =
    let bytes = members_bytes order place types arguments in
    ap (λ (x : List ℕ). members_at (value_at 64 order) types (in_body place x) >>= all_read) (sym (append-nil bytes))
    ∙ rw (members_again 64 order types place faults.Short arguments [] fits) refl

pub types_are : (m : Message) → SigText m.types (signature_in m.fields) → types_in m.fields ≡ m.types
types_are m typed = rw (types_of-SigText m.types (signature_in m.fields) typed) refl

-- the body of a valid message, where it is read
body_at_is : (bytes : List ℕ) (m : Message) → Lies bytes m.order m.serial (header_bytes m) (body_bytes m) → body_at bytes ≡ in_body (body_place (length (header_bytes m))) (body_bytes m)
body_at_is bytes m l = ap (λ (k : ℕ). in_body (body_place k) (body_of bytes)) l.is_len ∙ ap (in_body (body_place (length (header_bytes m)))) l.is_body

pub arguments_read : (bytes : List ℕ) (m : Message) → Valid bytes m → arguments_at m.order m.types (body_at bytes) ≡ Ok m.arguments
arguments_read bytes m v =
    ap (arguments_at m.order m.types) (body_at_is bytes m (valid_lies bytes m v))
    ∙ arguments_again m.order m.types (body_place (length (header_bytes m))) m.arguments v.arguments

framed_reads : (bytes : List ℕ) (m : Message) → Valid bytes m → framed_message bytes ≡ Ok m
unfolding framed_message
framed_reads bytes m v =
    let text = header_bytes m in
    let l = valid_lies bytes m v in
    let kind : kind_of (get_or bytes 1 0) ≡ Some m.kind = ap kind_of (let second : get_or bytes 1 0 ≡ kind_byte m.kind = rw v.spelled refl in second) ∙ v.kind in
    let flags : get_or bytes 2 0 ≡ m.flags = rw v.spelled refl in
    let fields : fields_of bytes ≡ Ok m.fields = fields_of_is bytes (length text) m.order text l.is_len l.is_order l.are_fields ∙ fields_again (length text) m.order [] m.fields fixed_len faults.ArrayLength v.fields (nothing_front m.fields) (omega arith) in
    let padded : list_all (λ byte. eqb byte 0) (header_padding bytes) ≡ true = ap (list_all (λ byte. eqb byte 0)) l.are_zeros ∙ zeros_again (padding 8 (length text)) in
    let types = types_are m v.types in
    let arguments : arguments_at (order_in bytes) (types_in m.fields) (body_at bytes) ≡ Ok m.arguments = ap (λ (o : Order). arguments_at o (types_in m.fields) (body_at bytes)) l.is_order ∙ ap (λ (t : DataTypes). arguments_at m.order t (body_at bytes)) types ∙ arguments_read bytes m v in
    let same : message_of bytes m.kind m.fields m.arguments ≡ m = same_message m (order_in bytes) (get_or bytes 2 0) (serial_in bytes) (types_in m.fields) l.is_order flags l.is_serial types in
    rw (kind, fields, no_header_fault m.kind (header_padding bytes) m.fields v.required padded, arguments) (ap (λ (x : Message). Ok x) same)

of_len_is : (len : ℕ) (bytes : List ℕ) → len ≡ length bytes → of_len len bytes ≡ framed_message bytes
of_len_is len bytes is =
    let short : ltb (length bytes) len ≡ false = le-ltb _ _ (omega arith) in
    let long : ltb len (length bytes) ≡ false = le-ltb _ _ (omega arith) in
    rw (short, long) refl

pub valid_reads : (bytes : List ℕ) (m : Message) → Valid bytes m → message_at bytes ≡ Ok m
unfolding message_at
valid_reads bytes m v =
    let whole = lies_whole bytes m.order m.serial (header_bytes m) (body_bytes m) (valid_lies bytes m v) in
    rw (framing_again bytes (valid_fixed bytes m v)) (of_len_is (whole_len bytes) bytes whole ∙ framed_reads bytes m v)

-- ---- what is read is valid

or_kind_ok : (o : Option Kind) (kind : Kind) → or_kind o ≡ Ok kind → o ≡ Some kind
or_kind_ok (Some k) kind e = cc
or_kind_ok None kind e = absurd cc

or_short_ok : (o : Option ℕ) (len : ℕ) → or_short o ≡ Ok len → o ≡ Some len
or_short_ok (Some n) len e = cc
or_short_ok None len e = absurd cc

-- arguments that were read are spelled so, and are all of the body
pub record AreArguments (order : Order) (types : DataTypes) (place : ℕ) (bytes : List ℕ) (arguments : Values) : Type 0 where
  pub spelled : bytes ≡ members_bytes order place types arguments
  pub fit : MembersFit order 64 place types arguments

arguments_take : (order : Order) (types : DataTypes) (place : ℕ) (bytes : List ℕ) (arguments : Values) → IsBytes bytes → arguments_at order types (in_body place bytes) ≡ Ok arguments → AreArguments order types place bytes arguments
unfolding arguments_at
arguments_take order types place bytes arguments fits e =
    let b = bind_ok (members_at (value_at 64 order) types (in_body place bytes)) all_read arguments e in
    let p = passed_ok (eqb (length b.0.1.rest) 0) faults.Trailing b.0.0 arguments b.2 in
    let t = members_takes 64 order types (in_body place bytes) b.0 fits b.1 in
    let none : b.0.1.rest ≡ [] = nil_from_length b.0.1.rest (eqb-true _ _ p.0) in
    let all : bytes ≡ members_bytes order place types b.0.0 = t.0.parts ∙ ap (λ (x : List ℕ). members_bytes order place types b.0.0 ++ x) none ∙ append-nil (members_bytes order place types b.0.0) in
    subst (λ (x : Values). AreArguments order types place bytes x) p.1 (record { spelled = all; fit = t.1 })

-- fields that were read are spelled in their place
pub record AreRead (bytes : List ℕ) (fields : List Field) : Type 0 where
  pub are : AreFields (order_in bytes) fixed_len fields
  pub spelled : take (fields_len bytes) (drop fixed_len bytes) ≡ fields_bytes (order_in bytes) fixed_len fields
  pub len : fields_len bytes ≡ length (fields_bytes (order_in bytes) fixed_len fields)

pub fields_are : (bytes : List ℕ) (fields : List Field) → IsBytes bytes → length bytes ≡ whole_len bytes → fields_of bytes ≡ Ok fields → AreRead bytes fields
fields_are bytes fields fits whole e =
    let order = order_in bytes in
    let len = fields_len bytes in
    let text = take len (drop fixed_len bytes) in
    let is_len : length text ≡ len = length-take-le len (drop fixed_len bytes) (omega (arith, length-drop fixed_len bytes, whole)) in
    let f = fields_take len order [] (inside fixed_len text) fields (IsBytes-take len (drop fixed_len bytes) (IsBytes-drop fixed_len bytes fits)) (omega (arith, is_len)) e in
    let spelled : text ≡ fields_bytes order fixed_len fields = f.spelled ∙ ap (fields_bytes order fixed_len) (sym f.whole) in
    record {
      are = rw f.whole f.are;
      spelled = spelled;
      len = sym is_len ∙ ap (λ (x : List ℕ). length x) spelled;
    }

-- what was read lies in its place
pub record IsRead (bytes : List ℕ) (fields : List Field) (arguments : Values) : Type 0 where
  pub are : AreFields (order_in bytes) fixed_len fields
  pub fit : MembersFit (order_in bytes) 64 (body_place (length (fields_bytes (order_in bytes) fixed_len fields))) (types_in fields) arguments
  pub lies : Lies bytes (order_in bytes) (serial_in bytes) (fields_bytes (order_in bytes) fixed_len fields) (members_bytes (order_in bytes) (body_place (length (fields_bytes (order_in bytes) fixed_len fields))) (types_in fields) arguments)

parts_lie : (bytes : List ℕ) (fields : List Field) (arguments : Values) → IsBytes bytes → length bytes ≡ whole_len bytes → fields_of bytes ≡ Ok fields → list_all (λ byte. eqb byte 0) (header_padding bytes) ≡ true → arguments_at (order_in bytes) (types_in fields) (body_at bytes) ≡ Ok arguments → IsRead bytes fields arguments
parts_lie bytes fields arguments fits whole e padded found =
    let order = order_in bytes in
    let len = fields_len bytes in
    let f = fields_are bytes fields fits whole e in
    let same : len ≡ length (fields_bytes order fixed_len fields) = f.len in
    let pad : length (header_padding bytes) ≡ padding 8 len = length-take-le (padding 8 len) (drop (fixed_len + len) bytes) (omega (arith, length-drop (fixed_len + len) bytes, whole)) in
    let a = arguments_take order (types_in fields) (body_place len) (body_of bytes) arguments (IsBytes-drop (body_place len) bytes fits) found in
    let body : body_of bytes ≡ members_bytes order (body_place (length (fields_bytes order fixed_len fields))) (types_in fields) arguments = a.spelled ∙ ap (λ (k : ℕ). members_bytes order (body_place k) (types_in fields) arguments) same in
    let body_is : body_len bytes ≡ length (body_of bytes) = omega (arith, whole, length-drop (body_place len) bytes) in
    record {
      are = f.are;
      fit = subst (λ (k : ℕ). MembersFit order 64 (body_place k) (types_in fields) arguments) same a.fit;
      lies = record {
        is_order = refl;
        is_body_len = body_is ∙ ap (λ (x : List ℕ). length x) body;
        is_serial = refl;
        is_len = same;
        are_fields = ap (λ (k : ℕ). take k (drop fixed_len bytes)) (sym same) ∙ f.spelled;
        are_zeros = zeros_are (header_padding bytes) padded ∙ ap zeros (pad ∙ ap (padding 8) same);
        is_body = body;
        is_whole = whole ∙ ap (λ (b : ℕ). body_place len + b) (body_is ∙ ap (λ (x : List ℕ). length x) body) ∙ ap (λ (k : ℕ). body_place k + length (members_bytes order (body_place (length (fields_bytes order fixed_len fields))) (types_in fields) arguments)) same;
      };
    }

made : (bytes : List ℕ) (kind : Kind) (fields : List Field) (arguments : Values) → IsBytes bytes → IsFixed bytes → length bytes ≡ whole_len bytes → kind_of (get_or bytes 1 0) ≡ Some kind → has_required kind fields ≡ true → IsRead bytes fields arguments → Valid bytes (message_of bytes kind fields arguments)
made bytes kind fields arguments fits fixed whole is_kind required read =
    let order = order_in bytes in
    let text = fields_bytes order fixed_len fields in
    let byte = kind_byte-kind_of (get_or bytes 1 0) kind is_kind in
    let first : get_or bytes 0 0 ≡ order_byte order = sym (order_byte-order_of (get_or bytes 0 0) order fixed.order) in
    let body = members_bytes order (body_place (length text)) (types_in fields) arguments in
    record {
      kind = kind_again (get_or bytes 1 0) kind is_kind;
      kind_fits = omega (arith, byte, fits 1);
      flags = fits 2;
      serial = fixed.serial;
      serial_fits = word_at-lt 8 bytes fits;
      fields = read.are;
      required = required;
      types = types_spelled order fixed_len fields read.are;
      arguments = read.fit;
      fields_fit = omega (arith, read.lies.is_len, fixed.fields);
      fits = omega (arith, whole, fixed.whole);
      spelled = lies_laid bytes order (serial_in bytes) text body fits first fixed.version read.lies ∙ ap (λ (b : ℕ). laid order b (get_or bytes 2 0) (serial_in bytes) text body) (sym byte);
    }

-- a message after its fixed part, by what was read of it
pub record AreParts (bytes : List ℕ) (m : Message) : Type 0 where
  pub kind : Kind
  pub front : List Field
  pub arguments : Values
  pub is_kind : kind_of (get_or bytes 1 0) ≡ Some kind
  pub fields : fields_of bytes ≡ Ok front
  pub required : has_required kind front ≡ true
  pub padded : list_all (λ byte. eqb byte 0) (header_padding bytes) ≡ true
  pub found : arguments_at (order_in bytes) (types_in front) (body_at bytes) ≡ Ok arguments
  pub is : message_of bytes kind front arguments ≡ m

framed_parts : (bytes : List ℕ) (m : Message) → framed_message bytes ≡ Ok m → AreParts bytes m
unfolding framed_message
framed_parts bytes m e =
    let order = order_in bytes in
    let k = bind_ok (or_kind (kind_of (get_or bytes 1 0))) (λ kind. fields_of bytes >>= λ fields. or_fault (header_fault kind (header_padding bytes) fields) fields >>= λ known. arguments_at order (types_in known) (body_at bytes) >>= λ arguments. Ok (message_of bytes kind known arguments)) m e in
    let f = bind_ok (fields_of bytes) (λ fields. or_fault (header_fault k.0 (header_padding bytes) fields) fields >>= λ known. arguments_at order (types_in known) (body_at bytes) >>= λ arguments. Ok (message_of bytes k.0 known arguments)) m k.2 in
    let h = bind_ok (or_fault (header_fault k.0 (header_padding bytes) f.0) f.0) (λ known. arguments_at order (types_in known) (body_at bytes) >>= λ arguments. Ok (message_of bytes k.0 known arguments)) m f.2 in
    let g = or_fault_ok (header_fault k.0 (header_padding bytes) f.0) f.0 h.0 h.1 in
    let a = bind_ok (arguments_at order (types_in h.0) (body_at bytes)) (λ arguments. Ok (message_of bytes k.0 h.0 arguments)) m h.2 in
    let padded = not (list_all (λ byte. eqb byte 0) (header_padding bytes)) in
    let required = found_none (not (has_required k.0 f.0)) faults.FieldMissing (cond padded (Some faults.Padding) None) g.0 in
    let zero = found_none padded faults.Padding None required.1 in
    record {
      kind = k.0;
      front = h.0;
      arguments = a.0;
      is_kind = or_kind_ok (kind_of (get_or bytes 1 0)) k.0 k.1;
      fields = f.1 ∙ ap (λ (x : List Field). Ok x) g.1;
      required = subst (λ (x : List Field). has_required k.0 x ≡ true) g.1 (not-false _ required.0);
      padded = not-false _ zero.0;
      found = a.1;
      is = ok_is (message_of bytes k.0 h.0 a.0) m a.2;
    }

framed_valid : (bytes : List ℕ) (m : Message) → IsBytes bytes → IsFixed bytes → length bytes ≡ whole_len bytes → AreParts bytes m → Valid bytes m
framed_valid bytes m fits fixed whole p =
    let read = parts_lie bytes p.front p.arguments fits whole p.fields p.padded p.found in
    subst (λ (x : Message). Valid bytes x) {x = message_of bytes p.kind p.front p.arguments} p.is (made bytes p.kind p.front p.arguments fits fixed whole p.is_kind p.required read)

-- bytes that were read as a message
pub record IsWhole (bytes : List ℕ) (m : Message) : Type 0 where
  pub fixed : IsFixed bytes
  pub whole : length bytes ≡ whole_len bytes
  pub parts : AreParts bytes m

pub message_whole : (bytes : List ℕ) (m : Message) → message_at bytes ≡ Ok m → IsWhole bytes m
unfolding message_at
message_whole bytes m e =
    let a = bind_ok (framing bytes) (λ sections_of_frame. or_short sections_of_frame >>= λ len. of_len len bytes) m e in
    let b = bind_ok (or_short a.0) (λ len. of_len len bytes) m a.2 in
    let is = or_short_ok a.0 b.0 b.1 in
    let f = framing_takes bytes b.0 (a.1 ∙ ap (λ (o : Option ℕ). Ok o) is) in
    let g = not_refused (ltb (length bytes) b.0) faults.Short (cond (ltb b.0 (length bytes)) (Err faults.Trailing) (framed_message bytes)) m b.2 in
    let h = not_refused (ltb b.0 (length bytes)) faults.Trailing (framed_message bytes) m g.1 in
    let long : b.0 ≤ length bytes = ltb-false _ _ g.0 in
    let short : length bytes ≤ b.0 = ltb-false _ _ h.0 in
    record { fixed = f.0; whole = omega (arith, long, short, f.1); parts = framed_parts bytes m h.1 }

pub reads_valid : (bytes : List ℕ) (m : Message) → ((i : ℕ) → get_or bytes i 0 < 256) → message_at bytes ≡ Ok m → Valid bytes m
reads_valid bytes m fits e =
    let w = message_whole bytes m e in
    framed_valid bytes m fits w.fixed w.whole w.parts

-- the arguments of bytes that were read as a message
members_passed : (order : Order) (types : DataTypes) (a : At) (arguments : Values) → arguments_at order types a ≡ Ok arguments → (tail : At) × (members_at (value_at 64 order) types a ≡ Ok (arguments, tail))
unfolding arguments_at
members_passed order types a arguments e =
    let b = bind_ok (members_at (value_at 64 order) types a) all_read arguments e in
    let p = passed_ok (eqb (length b.0.1.rest) 0) faults.Trailing b.0.0 arguments b.2 in
    (b.0.1, b.1 ∙ ap (λ (x : Values). Ok (x, b.0.1)) p.1)

pub members_read : (bytes : List ℕ) (m : Message) → AreParts bytes m → (tail : At) × (members_at (value_at 64 m.order) m.types (body_at bytes) ≡ Ok (m.arguments, tail))
members_read bytes m p =
    subst (λ (x : Message). (tail : At) × (members_at (value_at 64 x.order) x.types (body_at bytes) ≡ Ok (x.arguments, tail))) {x = message_of bytes p.kind p.front p.arguments} p.is
    (members_passed (order_in bytes) (types_in p.front) (body_at bytes) p.arguments p.found)

-- ---- bytes with a fault are no message

pub fault_invalid : (bytes : List ℕ) (fault : MsgError) (m : Message) → message_at bytes ≡ Err fault → Valid bytes m → ⊥
fault_invalid bytes fault m e v = let no : message_at bytes ≡ Ok m = valid_reads bytes m v in absurd cc

-- ---- bytes spell one message at most

pub one_message : (bytes : List ℕ) (m n : Message) → Valid bytes m → Valid bytes n → m ≡ n
one_message bytes m n vm vn = ok_is m n (sym (valid_reads bytes m vm) ∙ valid_reads bytes n vn)
