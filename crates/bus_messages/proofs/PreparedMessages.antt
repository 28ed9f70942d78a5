-- A message that is put together from fields known before is the one that a builder would be asked for.
use Rattle.std.proofs.Common.{◌≡◌, ℕ, suc, ◌+◌, ◌*◌, ◌<◌, ◌≤◌, ◌^◌, true, lit<, List, [], ◌∷◌, ◌++◌, length, get_or, Option, Some, None, refl, sym, ap, subst, ◌∙◌, append_assoc, arith}
use Rattle.std.specs.Prelude.{codes, not, ◌==◌}
use Rattle.std.proofs.lemmas.List.{append-nil, length-append}
use Rattle.signature.specs.DataType.{DataTypes, basic, no_types, one_more, AllFit, SigText}
use Rattle.signature.specs.Name.{is_member, is_bus_name, bus_name}
use Rattle.message_value.specs.declared.order.Order.TheVariants.{Little}
use Rattle.message_value.specs.Order.{word_bytes}
use Rattle.message_value.specs.Value.{Values, number, text, no_values, one_value}
use Rattle.message_value.specs.Spelling.{padding, zeros, value_bytes, members_bytes}
use Rattle.message_value.specs.Fits.{max_levels, IsOneType, MembersFit}
use Rattle.message_value.proofs.ReadItems.{length-zeros}
use Rattle.message_value.proofs.MovedValues.{Alike, members_moved, value_moved}
use Rattle.message_view.specs.declared.kind.Kind.{Kind}
use Rattle.message_view.specs.declared.kind.Kind.TheVariants.{MethodReturn, Signal}
use Rattle.message_view.specs.Header.{kind_byte, kind_of, has_required}
use Rattle.message_view.specs.Message.{Field, Message, signature_in}
use Rattle.message_view.specs.Spelling.{fixed_len, field_bytes, fields_bytes, body_place, header_bytes, body_bytes}
use Rattle.message_view.specs.Valid.{IsField, AreFields, Valid}
use Rattle.message_build.specs.Asked.{text_field}
use Rattle.message_build.specs.Building.{AreAsked}
use Rattle.message_build.proofs.AllowedFields.{one_string}
use Rattle.message_build.proofs.MessageLaws.{body_alike}
use Rattle.message_build.proofs.MovedFields.{field_spelled, fields_moved}
use Rattle.message_build.proofs.PlainNames.{interface_string, member_string, bus_name_string}
use Rattle.bus_messages.specs.Bodies.{with_text}
use Rattle.bus_messages.specs.Prepared.{padded_field, padded_fields, destination_bytes, texts_after, front_bytes, AreShortTexts, MayBeTo, IsMessageOf}
use Rattle.bus_messages.specs.Sent.{bus_path, from_bus, signal_asked}

-- ---- texts

abbrev string_types : List (List ℕ) → DataTypes
string_types [] = no_types
string_types (string ∷ more) = one_more (basic 115) (string_types more)

abbrev string_arguments : List (List ℕ) → Values
string_arguments [] = no_values
string_arguments (string ∷ more) = one_value (text string) (string_arguments more)

texts_spelled : (body : List ℕ) (ts : List (List ℕ)) → texts_after body ts ≡ body ++ members_bytes Little (length body) (string_types ts) (string_arguments ts)
texts_spelled body [] = sym (append-nil body)
texts_spelled body (t ∷ ts) =
    let v = value_bytes Little (length body) (basic 115) (text t) in
    let rest : ℕ → List ℕ = λ n. members_bytes Little n (string_types ts) (string_arguments ts) in
    texts_spelled (body ++ v) ts ∙ append_assoc body v (rest (length (body ++ v))) ∙ ap (λ (n : ℕ). body ++ (v ++ rest n)) (length-append body v)

texts_fit : (place : ℕ) (ts : List (List ℕ)) → AreShortTexts ts → MembersFit Little max_levels place (string_types ts) (string_arguments ts)
texts_fit place [] short = tt
texts_fit place (t ∷ ts) short = ((short.0.plain, omega (arith, short.0.short)), texts_fit (place + length (value_bytes Little place (basic 115) (text t))) ts short.1)

types_fit : (ts : List (List ℕ)) → AllFit 0 0 (string_types ts)
types_fit [] = tt
types_fit (t ∷ ts) = (refl, types_fit ts)

length-value : (place : ℕ) (t : List ℕ) → length t ≤ 255 → length (value_bytes Little place (basic 115) (text t)) ≤ 263
length-value place t short =
    let word = word_bytes Little (length t) in
    let zs = zeros (padding 4 place) in
    omega (arith, length-append zs (word ++ (t ++ 0 ∷ [])), length-zeros (padding 4 place), length-append t (0 ∷ []))

length-texts : (body : List ℕ) (ts : List (List ℕ)) → AreShortTexts ts → length (texts_after body ts) ≤ length body + 263 * length ts
length-texts body [] short = omega arith
length-texts body (t ∷ ts) short =
    let v = value_bytes Little (length body) (basic 115) (text t) in
    omega (arith, length-texts (body ++ v) ts short.1, length-append body v, length-value (length body) t short.0.short)

-- ---- fields

-- fields that begin at some place are zeros, and what they are at 0
moved : (p : ℕ) (f : Field) (fs : List Field) → fields_bytes Little p (f ∷ fs) ≡ zeros (padding 8 p) ++ fields_bytes Little 0 (f ∷ fs)
moved p f fs =
    let a = field_bytes Little p f in
    let b = field_bytes Little 0 f in
    let zs = zeros (padding 8 p) in
    let is : a ≡ zs ++ b = field_spelled Little p f in
    let len : length a ≡ padding 8 p + length b = ap (λ (l : List ℕ). length l) is ∙ length-append zs b ∙ ap (λ (n : ℕ). n + length b) (length-zeros (padding 8 p)) in
    let alike : Alike (p + length a) (0 + length b) = record { is = omega (arith, len) } in
    let rest = fields_bytes Little (0 + length b) fs in
    ap (λ (l : List ℕ). a ++ l) (fields_moved Little (p + length a) (0 + length b) alike fs) ∙ ap (λ (l : List ℕ). l ++ rest) is ∙ append_assoc zs b rest

-- the same of fields of which there is one at least
moved_after : (p : ℕ) (fs : List Field) (g : Field) (gs : List Field) → fields_bytes Little p (fs ++ g ∷ gs) ≡ zeros (padding 8 p) ++ fields_bytes Little 0 (fs ++ g ∷ gs)
moved_after p [] g gs = moved p g gs
moved_after p (f ∷ fs) g gs = moved p f (fs ++ g ∷ gs)

padded : (fs : List Field) (g : Field) (gs : List Field) → fields_bytes Little 0 (fs ++ g ∷ gs) ≡ padded_fields fs ++ fields_bytes Little 0 (g ∷ gs)
padded [] g gs = refl
padded (f ∷ fs) g gs =
    let b = field_bytes Little 0 f in
    let zs = zeros (padding 8 (length b)) in
    let last = fields_bytes Little 0 (g ∷ gs) in
    let zero : 0 + length b ≡ length b = omega arith in
    let next : fields_bytes Little (0 + length b) (fs ++ g ∷ gs) ≡ zs ++ fields_bytes Little 0 (fs ++ g ∷ gs) =
    ap (λ (n : ℕ). fields_bytes Little n (fs ++ g ∷ gs)) zero ∙ moved_after (length b) fs g gs in
    ap (λ (l : List ℕ). b ++ l) (next ∙ ap (λ (l : List ℕ). zs ++ l) (padded fs g gs))
    ∙ sym (append_assoc b zs (padded_fields fs ++ last))
    ∙ sym (append_assoc (b ++ zs) (padded_fields fs) last)

-- the fields of a message are the first, the destination, and the last
all_fields : (fs : List Field) (to : Option (List ℕ)) (g : Field) (gs : List Field)
    → fields_bytes Little fixed_len (fs ++ (text_field 6 115 to ++ g ∷ gs)) ≡ padded_fields fs ++ (destination_bytes to ++ fields_bytes Little 0 (g ∷ gs))
all_fields fs None g gs = fields_moved Little fixed_len 0 (record { is = refl }) (fs ++ g ∷ gs) ∙ padded fs g gs
all_fields fs (Some name) g gs =
    let d : Field = record { code = 6; type = basic 115; value = text name } in
    fields_moved Little fixed_len 0 (record { is = refl }) (fs ++ d ∷ g ∷ gs)
    ∙ padded fs d (g ∷ gs)
    ∙ ap (λ (l : List ℕ). padded_fields fs ++ l) (padded (d ∷ []) g gs)

length-destination : (to : Option (List ℕ)) → MayBeTo to → length (destination_bytes to) ≤ 272
length-destination None may = omega arith
length-destination (Some name) may =
    let string = bus_name_string name may in
    let d : Field = record { code = 6; type = basic 115; value = text name } in
    let b = field_bytes Little 0 d in
    omega (arith, string.short, length-append (padded_field d) [], length-append b (zeros (padding 8 (length b))), length-zeros (padding 8 (length b)), length-append name (0 ∷ []))

zeros_above : (n : ℕ) → zeros (1 + n) ≡ 0 ∷ zeros n
zeros_above n = let next : 1 + n ≡ suc n = omega arith in ap (λ (k : ℕ). zeros k) next

-- a destination, in the pieces that it is appended in
pub destination_spelled : (name : List ℕ) → (6 ∷ 1 ∷ 115 ∷ 0 ∷ []) ++ (word_bytes Little (length name) ++ (name ++ zeros (1 + padding 8 (8 + length name + 1)))) ≡ destination_bytes (Some name)
destination_spelled name =
    let d : Field = record { code = 6; type = basic 115; value = text name } in
    let n = length (field_bytes Little 0 d) in
    let len : 8 + length name + 1 ≡ n = omega (arith, length-append name (0 ∷ [])) in
    let end : name ++ zeros (1 + padding 8 (8 + length name + 1)) ≡ ((name ++ 0 ∷ []) ++ zeros (padding 8 n)) ++ [] =
    ap (λ (l : List ℕ). name ++ l) (zeros_above (padding 8 (8 + length name + 1)) ∙ ap (λ (k : ℕ). 0 ∷ zeros (padding 8 k)) len)
    ∙ sym (append_assoc name (0 ∷ []) (zeros (padding 8 n)))
    ∙ sym (append-nil ((name ++ 0 ∷ []) ++ zeros (padding 8 n))) in
    ap (λ (l : List ℕ). (6 ∷ 1 ∷ 115 ∷ 0 ∷ []) ++ (word_bytes Little (length name) ++ l)) end

-- ---- the body

-- what stands before a body ends at a multiple of 8
pub front_alike : (kind : Kind) (serial n : ℕ) (fields : List ℕ) → Alike (length (front_bytes kind serial n fields)) 0
front_alike kind serial n fields =
    let zs = zeros (padding 8 (length fields)) in
    record { is = omega (arith, length-append fields zs, length-zeros (padding 8 (length fields))) }

-- one more text after a front and a body
pub text_after : (front body bytes new t : List ℕ) → Alike (length front) 0 → bytes ≡ front ++ body → new ≡ bytes ++ value_bytes Little (length bytes) (basic 115) (text t)
    → new ≡ front ++ (body ++ value_bytes Little (length body) (basic 115) (text t))
text_after front body bytes new t alike is e =
    let len = length-append front body in
    let same : Alike (length (front ++ body)) (length body) = record { is = omega (arith, len, alike.is) } in
    let v = value_bytes Little (length body) (basic 115) (text t) in
    e ∙ ap (λ (l : List ℕ). l ++ value_bytes Little (length l) (basic 115) (text t)) is
    ∙ ap (λ (l : List ℕ). (front ++ body) ++ l) (value_moved Little (length (front ++ body)) (length body) same (basic 115) (text t))
    ∙ append_assoc front body v

-- ---- messages

abbrev the : Kind → ℕ → List Field → List (List ℕ) → Message
the kind serial fields ts = record { order = Little; kind = kind; flags = 1; serial = serial; fields = fields; types = string_types ts; arguments = string_arguments ts }

-- the bytes of a message with these fields and this body
abbrev whole : Kind → ℕ → List ℕ → List ℕ → List ℕ
whole kind serial fields body =
    (108 ∷ kind_byte kind ∷ 1 ∷ 1 ∷ []) ++ (word_bytes Little (length body) ++ (word_bytes Little serial ++ (word_bytes Little (length fields) ++ (fields ++ (zeros (padding 8 (length fields)) ++ body)))))

prepared_valid : (kind : Kind) (serial : ℕ) (fs : List Field) (ts : List (List ℕ)) (all bytes : List ℕ)
    → kind_of (kind_byte kind) ≡ Some kind → kind_byte kind < 256 → 0 < serial → serial < 2 ^ 32
    → AreFields Little fixed_len fs → has_required kind fs ≡ true → SigText (string_types ts) (signature_in fs) → AreShortTexts ts → length ts ≤ 3
    → fields_bytes Little fixed_len fs ≡ all → length all ≤ 1024
    → bytes ≡ front_bytes kind serial (length (texts_after [] ts)) all ++ texts_after [] ts
    → Valid bytes (the kind serial fs ts)
prepared_valid kind serial fs ts all bytes is_kind kind_fits above fits fields required types short few all_is all_short is =
    let m = the kind serial fs ts in
    let body = texts_after [] ts in
    let n = length (header_bytes m) in
    let zs = zeros (padding 8 (length all)) in
    let body_is : body_bytes m ≡ body = members_moved Little (body_place n) 0 (body_alike n) (string_types ts) (string_arguments ts) ∙ sym (texts_spelled [] ts) in
    let put : bytes ≡ whole kind serial all body =
    is ∙ ap (λ (l : List ℕ). (108 ∷ kind_byte kind ∷ 1 ∷ 1 ∷ []) ++ (word_bytes Little (length body) ++ (word_bytes Little serial ++ (word_bytes Little (length all) ++ l)))) (append_assoc all zs body) in
    let body_short = length-texts [] ts short in
    let len : length bytes ≡ 16 + (length all + (padding 8 (length all) + length body)) =
    omega (arith, ap (λ (l : List ℕ). length l) put, length-append all (zs ++ body), length-append zs body, length-zeros (padding 8 (length all))) in
    let same : length (header_bytes m) ≡ length all = ap (λ (l : List ℕ). length l) all_is in
    record {
      kind = is_kind;
      kind_fits = kind_fits;
      flags = lit< tt;
      serial = above;
      serial_fits = fits;
      fields = fields;
      required = required;
      types = types;
      arguments = texts_fit (body_place n) ts short;
      fields_fit = omega arith;
      fits = omega arith;
      spelled = put ∙ ap (λ (l : List ℕ). whole kind serial l body) (sym all_is) ∙ ap (λ (l : List ℕ). whole kind serial (header_bytes m) l) (sym body_is);
    }

-- ---- the fields of the bus's messages

abbrev path_field : Field
path_field = record { code = 1; type = basic 111; value = text bus_path }

abbrev interface_field : Field
interface_field = record { code = 2; type = basic 115; value = text bus_name }

abbrev member_field : List ℕ → Field
member_field member = record { code = 3; type = basic 115; value = text member }

abbrev reply_field : ℕ → Field
reply_field serial = record { code = 5; type = basic 117; value = number serial }

abbrev sender_field : Field
sender_field = record { code = 7; type = basic 115; value = text bus_name }

abbrev signature_field : List ℕ → Field
signature_field signature = record { code = 8; type = basic 103; value = text signature }

one_path : IsOneType (basic 111)
one_path = (record { spelled = refl; fits = refl }, omega arith)

one_number : IsOneType (basic 117)
one_number = (record { spelled = refl; fits = refl }, omega arith)

one_signature : IsOneType (basic 103)
one_signature = (record { spelled = refl; fits = refl }, omega arith)

path_is : (place : ℕ) → IsField Little place path_field
path_is place = record { code_above = lit< tt; code_fits = lit< tt; typed = one_path; shaped = (refl, omega arith); allowed = (refl, (refl, refl)) }

interface_is : (place : ℕ) → IsField Little place interface_field
interface_is place =
    let string = interface_string bus_name refl in
    record { code_above = lit< tt; code_fits = lit< tt; typed = one_string; shaped = (string.plain, omega (arith, string.short)); allowed = (refl, (refl, refl)) }

member_is : (place : ℕ) (member : List ℕ) → is_member member ≡ true → IsField Little place (member_field member)
member_is place member e =
    let string = member_string member e in
    record { code_above = lit< tt; code_fits = lit< tt; typed = one_string; shaped = (string.plain, omega (arith, string.short)); allowed = (refl, (e, refl)) }

reply_is : (place serial : ℕ) → not (serial == 0) ≡ true → serial < 2 ^ 32 → IsField Little place (reply_field serial)
reply_is place serial e fits = record { code_above = lit< tt; code_fits = lit< tt; typed = one_number; shaped = (refl, fits); allowed = (refl, e) }

destination_is : (place : ℕ) (name : List ℕ) → is_bus_name name ≡ true → IsField Little place (record { code = 6; type = basic 115; value = text name })
destination_is place name e =
    let string = bus_name_string name e in
    record { code_above = lit< tt; code_fits = lit< tt; typed = one_string; shaped = (string.plain, omega (arith, string.short)); allowed = (refl, (e, refl)) }

sender_is : (place : ℕ) → IsField Little place sender_field
sender_is place =
    let string = bus_name_string bus_name refl in
    record { code_above = lit< tt; code_fits = lit< tt; typed = one_string; shaped = (string.plain, omega (arith, string.short)); allowed = (refl, (refl, refl)) }

one_text : (place : ℕ) → IsField Little place (signature_field (115 ∷ []))
one_text place = record { code_above = lit< tt; code_fits = lit< tt; typed = one_signature; shaped = (refl, omega arith); allowed = (refl, (refl, refl)) }

three_texts : (place : ℕ) → IsField Little place (signature_field (115 ∷ 115 ∷ 115 ∷ []))
three_texts place = record { code_above = lit< tt; code_fits = lit< tt; typed = one_signature; shaped = (refl, omega arith); allowed = (refl, (refl, refl)) }

length-fields : (before after : List ℕ) (to : Option (List ℕ)) → length before ≤ 256 → length after ≤ 256 → MayBeTo to → length (before ++ (destination_bytes to ++ after)) ≤ 1024
length-fields before after to first last may = omega (arith, length-append before (destination_bytes to ++ after), length-append (destination_bytes to) after, length-destination to may)

-- ---- what the bus sends

pub changed_asked : (serial : ℕ) (name old new bytes : List ℕ)
    → IsMessageOf Signal serial (padded_fields (path_field ∷ interface_field ∷ member_field (codes "NameOwnerChanged") ∷ [])) None (fields_bytes Little 0 (sender_field ∷ signature_field (115 ∷ 115 ∷ 115 ∷ []) ∷ [])) (name ∷ old ∷ new ∷ []) bytes
    → AreAsked (signal_asked serial None (codes "NameOwnerChanged") (name ∷ old ∷ new ∷ [])) bytes
changed_asked serial name old new bytes is =
    let member = codes "NameOwnerChanged" in
    let first = path_field ∷ interface_field ∷ member_field member ∷ [] in
    let last = signature_field (115 ∷ 115 ∷ 115 ∷ []) in
    let fs = first ++ sender_field ∷ last ∷ [] in
    let ts = name ∷ old ∷ new ∷ [] in
    let fields : AreFields Little fixed_len fs = (path_is _, refl, (interface_is _, refl, (member_is _ member refl, refl, (sender_is _, refl, (three_texts _, refl, tt))))) in
    let types : SigText (string_types ts) (signature_in fs) = record { spelled = refl; fits = types_fit ts; short = omega arith } in
    let all = padded_fields first ++ (destination_bytes None ++ fields_bytes Little 0 (sender_field ∷ last ∷ [])) in
    let valid = prepared_valid Signal serial fs ts all bytes refl (lit< tt) is.numbered is.fits fields refl types is.short (omega arith) (all_fields first None sender_field (last ∷ [])) (omega arith) is.spelled in
    (the Signal serial fs ts, record { order = refl; kind = refl; flags = refl; serial = refl; fields = refl; types = refl; arguments = texts_spelled [] ts; whole = refl }, valid)

pub told_asked : (serial : ℕ) (to member name bytes : List ℕ) → is_member member ≡ true → length (padded_fields (path_field ∷ interface_field ∷ member_field member ∷ [])) ≤ 256
    → IsMessageOf Signal serial (padded_fields (path_field ∷ interface_field ∷ member_field member ∷ [])) (Some to) (fields_bytes Little 0 (sender_field ∷ signature_field (115 ∷ []) ∷ [])) (name ∷ []) bytes
    → AreAsked (signal_asked serial (Some to) member (name ∷ [])) bytes
told_asked serial to member name bytes is_member short is =
    let first = path_field ∷ interface_field ∷ member_field member ∷ [] in
    let last = signature_field (115 ∷ []) in
    let fs = first ++ (text_field 6 115 (Some to) ++ sender_field ∷ last ∷ []) in
    let ts = name ∷ [] in
    let fields : AreFields Little fixed_len fs =
    (path_is _, refl, (interface_is _, refl, (member_is _ member is_member, refl, (destination_is _ to is.named, refl, (sender_is _, refl, (one_text _, refl, tt)))))) in
    let types : SigText (string_types ts) (signature_in fs) = record { spelled = refl; fits = types_fit ts; short = omega arith } in
    let after = fields_bytes Little 0 (sender_field ∷ last ∷ []) in
    let all = padded_fields first ++ (destination_bytes (Some to) ++ after) in
    let all_short = length-fields (padded_fields first) after (Some to) short (omega arith) is.named in
    let valid = prepared_valid Signal serial fs ts all bytes refl (lit< tt) is.numbered is.fits fields refl types is.short (omega arith) (all_fields first (Some to) sender_field (last ∷ [])) all_short is.spelled in
    (the Signal serial fs ts, record { order = refl; kind = refl; flags = refl; serial = refl; fields = refl; types = refl; arguments = texts_spelled [] ts; whole = refl }, valid)

-- an answer, before whose destination stands the serial that it replies to
pub replied_asked : (serial reply_to : ℕ) (word to string bytes : List ℕ) → not (reply_to == 0) ≡ true → reply_to < 2 ^ 32 → word ≡ word_bytes Little reply_to
    → IsMessageOf MethodReturn serial (5 ∷ 1 ∷ 117 ∷ 0 ∷ get_or word 0 0 ∷ get_or word 1 0 ∷ get_or word 2 0 ∷ get_or word 3 0 ∷ []) (Some to) (fields_bytes Little 0 (sender_field ∷ signature_field (115 ∷ []) ∷ [])) (string ∷ []) bytes
    → AreAsked (with_text (record (from_bus MethodReturn serial (Some to)) { reply_serial = Some reply_to }) string) bytes
replied_asked serial reply_to word to string bytes above fits word_is given =
    let first = reply_field reply_to ∷ [] in
    let last = signature_field (115 ∷ []) in
    let fs = first ++ (text_field 6 115 (Some to) ++ sender_field ∷ last ∷ []) in
    let ts = string ∷ [] in
    let types : SigText (string_types ts) (signature_in fs) = record { spelled = refl; fits = types_fit ts; short = omega arith } in
    let after = fields_bytes Little 0 (sender_field ∷ last ∷ []) in
    let all = padded_fields first ++ (destination_bytes (Some to) ++ after) in
    let is : IsMessageOf MethodReturn serial (padded_fields first) (Some to) after ts bytes =
    subst (λ (w : List ℕ). IsMessageOf MethodReturn serial (5 ∷ 1 ∷ 117 ∷ 0 ∷ get_or w 0 0 ∷ get_or w 1 0 ∷ get_or w 2 0 ∷ get_or w 3 0 ∷ []) (Some to) after ts bytes) word_is given in
    let fields : AreFields Little fixed_len fs = (reply_is _ reply_to above fits, refl, (destination_is _ to is.named, refl, (sender_is _, refl, (one_text _, refl, tt)))) in
    let all_short = length-fields (padded_fields first) after (Some to) (omega arith) (omega arith) is.named in
    let valid = prepared_valid MethodReturn serial fs ts all bytes refl (lit< tt) is.numbered is.fits fields refl types is.short (omega arith) (all_fields first (Some to) sender_field (last ∷ [])) all_short is.spelled in
    (the MethodReturn serial fs ts, record { order = refl; kind = refl; flags = refl; serial = refl; fields = refl; types = refl; arguments = texts_spelled [] ts; whole = refl }, valid)
