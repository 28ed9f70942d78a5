-- Stamped messages: what was written is the stamped message, or that is above the limits.
use Rattle.std.proofs.Common.{◌≡◌, ℕ, ◌+◌, ◌-◌, ◌<◌, ◌≤◌, true, List, [], ◌∷◌, ◌++◌, length, take, drop, filter, Result, Err, refl, sym, ap, subst, ◌∙◌, append_assoc, inl, inr, arith}
use Rattle.std.proofs.lemmas.List.{length-append, take_at, drop_at}
use Rattle.signature.specs.DataType.{SigText}
use Rattle.signature.specs.Name.{is_bus_name}
use Rattle.message_value.specs.declared.order.Order.{Order}
use Rattle.message_value.specs.Order.{order_byte, word_bytes}
use Rattle.message_value.specs.Spelling.{padding, zeros}
use Rattle.message_value.specs.Fits.{max_array_len}
use Rattle.message_value.proofs.MovedValues.{Alike, members_moved, members_fit_moved}
use Rattle.message_value.proofs.WordBytes.{length-word_bytes}
use Rattle.message_view.specs.declared.kind.Kind.{Kind}
use Rattle.message_view.specs.Header.{kind_byte}
use Rattle.message_view.specs.Message.{Field, Message}
use Rattle.message_view.specs.Spelling.{body_place, field_bytes, fields_bytes, header_bytes, body_bytes, message_bytes}
use Rattle.message_view.specs.Valid.{AreFields, Valid, max_message_len}
use Rattle.message_build.specs.declared.header.Header.{Header}
use Rattle.message_build.specs.Building.{IsTooLarge}
use Rattle.message_build.specs.declared.stamping.StampError.{StampError}
use Rattle.message_build.specs.declared.stamping.StampError.TheVariants.{TooLarge, NoMemory}
use Rattle.message_build.specs.Stamped.{is_kept, sender_field, with_sender, Stamps}
use Rattle.message_build.specs.StampedFields.{HeadsStamped, stamped_fields}
use Rattle.message_build.specs.MessageBytes.{fixed_bytes}
use Rattle.message_build.specs.Headers.{bare_header}
use Rattle.message_build.proofs.KeptFields.{stamped_are, are_moved, required_same, signature_same, sender_last}
use Rattle.message_build.proofs.MovedFields.{fields_moved}

-- ---- the header

word_replaced : (a w v all whole : List ℕ) → length a ≡ 12 → length w ≡ 4 → whole ≡ a ++ (w ++ all) → take 12 whole ++ (v ++ drop 16 whole) ≡ a ++ (v ++ all)
word_replaced a w v all whole twelve four is =
    let front : take 12 whole ≡ a = ap (take 12) is ∙ take_at a (w ++ all) 12 twelve in
    let sixteen : length (a ++ w) ≡ 16 = omega (arith, length-append a w) in
    let tail : drop 16 whole ≡ all = ap (drop 16) (is ∙ sym (append_assoc a w all)) ∙ drop_at (a ++ w) all 16 sixteen in
    ap (λ (l : List ℕ). l ++ (v ++ drop 16 whole)) front ∙ ap (λ (l : List ℕ). a ++ (v ++ l)) tail

-- the first twelve bytes
abbrev first_bytes : Order → Header → ℕ → List ℕ
first_bytes order h body_len = (order_byte order ∷ kind_byte h.kind ∷ h.flags ∷ 1 ∷ []) ++ (word_bytes order body_len ++ word_bytes order h.serial)

length-first : (order : Order) (h : Header) (body_len : ℕ) → length (first_bytes order h body_len) ≡ 12
length-first order h body_len =
    let b = word_bytes order body_len in
    let s = word_bytes order h.serial in
    omega (arith, length-append b s, length-word_bytes order body_len, length-word_bytes order h.serial)

fixed_is : (order : Order) (h : Header) (n body_len : ℕ) (all : List ℕ) → fixed_bytes order h n body_len ++ all ≡ first_bytes order h body_len ++ (word_bytes order n ++ all)
fixed_is order h n body_len all = regroup (order_byte order ∷ kind_byte h.kind ∷ h.flags ∷ 1 ∷ []) (word_bytes order body_len) (word_bytes order h.serial) (word_bytes order n) all
  where
    regroup : (a b c d e : List ℕ) → (a ++ (b ++ (c ++ d))) ++ e ≡ (a ++ (b ++ c)) ++ (d ++ e)
    regroup a b c d e = simp append_assoc

pub length-fixed : (order : Order) (h : Header) (n body_len : ℕ) → length (fixed_bytes order h n body_len) ≡ 16
length-fixed order h n body_len =
    let b = word_bytes order body_len in
    let s = word_bytes order h.serial in
    let w = word_bytes order n in
    omega (arith, length-append b (s ++ w), length-append s w, length-word_bytes order body_len, length-word_bytes order h.serial, length-word_bytes order n)

-- the fixed part, the fields that are kept, SENDER, the length of both, and the zeros
pub record Headed (order : Order) (h : Header) (body_len : ℕ) (fields : List Field) (sender b0 b1 b2 b3 : List ℕ) : Type 0 where
  pub none : b0 ≡ []
  pub fixed : b1 ≡ b0 ++ fixed_bytes order h 0 body_len
  pub kept : b2 ≡ b1 ++ fields_bytes order (length b1) (filter is_kept fields)
  pub named : b3 ≡ b2 ++ field_bytes order (length b2) (sender_field sender)

pub fields_written : (order : Order) (h : Header) (body_len : ℕ) (fields : List Field) (sender b0 b1 b2 b3 : List ℕ) → Headed order h body_len fields sender b0 b1 b2 b3 → b3 ≡ fixed_bytes order h 0 body_len ++ stamped_fields order fields sender
fields_written order h body_len fields sender b0 b1 b2 b3 w =
    let fixed = fixed_bytes order h 0 body_len in
    let kept = fields_bytes order 16 (filter is_kept fields) in
    let f1 : b1 ≡ fixed = w.fixed ∙ ap (λ (l : List ℕ). l ++ fixed) w.none in
    let len : length b1 ≡ 16 = ap (λ (l : List ℕ). length l) f1 ∙ length-fixed order h 0 body_len in
    let f2 : b2 ≡ fixed ++ kept = w.kept ∙ ap (λ (k : ℕ). b1 ++ fields_bytes order k (filter is_kept fields)) len ∙ ap (λ (l : List ℕ). l ++ kept) f1 in
    let more : length b2 ≡ 16 + length kept = omega (arith, ap (λ (l : List ℕ). length l) f2, length-append fixed kept, length-fixed order h 0 body_len) in
    let last = field_bytes order (16 + length kept) (sender_field sender) in
    w.named ∙ ap (λ (k : ℕ). b2 ++ field_bytes order k (sender_field sender)) more ∙ ap (λ (l : List ℕ). l ++ last) f2
    ∙ append_assoc fixed kept last ∙ ap (λ (l : List ℕ). fixed ++ l) (sym (sender_last order 16 (filter is_kept fields) sender))

pub fields_len_is : (order : Order) (h : Header) (body_len : ℕ) (fields : List Field) (sender b0 b1 b2 b3 : List ℕ) → Headed order h body_len fields sender b0 b1 b2 b3 → length b3 - 16 ≡ length (stamped_fields order fields sender)
fields_len_is order h body_len fields sender b0 b1 b2 b3 w =
    let all = stamped_fields order fields sender in
    let whole = ap (λ (l : List ℕ). length l) (fields_written order h body_len fields sender b0 b1 b2 b3 w) in
    let sum = length-append (fixed_bytes order h 0 body_len) all in
    let fixed = length-fixed order h 0 body_len in
    minus (length b3) (length (fixed_bytes order h 0 body_len)) (length all) (whole ∙ sum) fixed
  where
    minus : (n k l : ℕ) → n ≡ k + l → k ≡ 16 → n - 16 ≡ l
    minus n k l e f = omega arith

pub header_written : (order : Order) (h : Header) (body_len : ℕ) (fields : List Field) (sender b0 b1 b2 b3 b4 b5 : List ℕ) → Headed order h body_len fields sender b0 b1 b2 b3
    → b4 ≡ take 12 b3 ++ (word_bytes order (length b3 - 16) ++ drop (12 + 4) b3) → b5 ≡ b4 ++ zeros (padding 8 (length b4))
    → b5 ≡ fixed_bytes order h (length (stamped_fields order fields sender)) body_len ++ (stamped_fields order fields sender ++ zeros (padding 8 (length (stamped_fields order fields sender))))
header_written order h body_len fields sender b0 b1 b2 b3 b4 b5 w set padded =
    let all = stamped_fields order fields sender in
    let n = length all in
    let first = first_bytes order h body_len in
    let whole : b3 ≡ first ++ (word_bytes order 0 ++ all) = fields_written order h body_len fields sender b0 b1 b2 b3 w ∙ fixed_is order h 0 body_len all in
    let len : length b3 - 16 ≡ n = fields_len_is order h body_len fields sender b0 b1 b2 b3 w in
    let fixed = fixed_bytes order h n body_len in
    let f4 : b4 ≡ fixed ++ all = set ∙ ap (λ (k : ℕ). take 12 b3 ++ (word_bytes order k ++ drop 16 b3)) len ∙ word_replaced first (word_bytes order 0) (word_bytes order n) all b3 (length-first order h body_len) (length-word_bytes order 0) whole ∙ sym (fixed_is order h n body_len all) in
    let long : length b4 ≡ 16 + n = omega (arith, ap (λ (l : List ℕ). length l) f4, length-append fixed all, length-fixed order h n body_len) in
    let pad : padding 8 (length b4) ≡ padding 8 n = ap (padding 8) long ∙ eights n in
    padded ∙ ap (λ (k : ℕ). b4 ++ zeros k) pad ∙ ap (λ (l : List ℕ). l ++ zeros (padding 8 n)) f4 ∙ append_assoc fixed all (zeros (padding 8 n))
  where
    eights : (n : ℕ) → padding 8 (16 + n) ≡ padding 8 n
    eights n = omega arith

-- ---- the message

bodies_alike : (m n : ℕ) → Alike (body_place m) (body_place n)
bodies_alike m n = record { is = omega arith }

body_same : (m : Message) (sender : List ℕ) → body_bytes (with_sender m sender) ≡ body_bytes m
body_same m sender =
    let to = length (header_bytes (with_sender m sender)) in
    let from = length (header_bytes m) in
    members_moved m.order (body_place to) (body_place from) (bodies_alike to from) m.types m.arguments

-- what was read of a message that is stamped
pub record IsRead (raw : List ℕ) (m : Message) (sender : List ℕ) (order : Order) (h : Header) (body : List ℕ) : Type 0 where
  pub valid : Valid raw m
  pub named : is_bus_name sender ≡ true
  pub order_is : order ≡ m.order
  pub kind : h.kind ≡ m.kind
  pub flags : h.flags ≡ m.flags
  pub serial : h.serial ≡ m.serial
  pub body_is : body ≡ body_bytes m

pub is_read : (raw : List ℕ) (m : Message) (sender : List ℕ) (order : Order) (kind : Kind) (flags serial : ℕ) (h : Header) (body : List ℕ) → Valid raw m → is_bus_name sender ≡ true
    → order ≡ m.order → kind ≡ m.kind → flags ≡ m.flags → serial ≡ m.serial → h ≡ bare_header kind flags serial → body ≡ body_bytes m → IsRead raw m sender order h body
is_read raw m sender order kind flags serial h body v named order_is kind_is flags_is serial_is bare body_is = record {
  valid = v;
  named = named;
  order_is = order_is;
  kind = ap (λ (x : Header). x.kind) bare ∙ kind_is;
  flags = ap (λ (x : Header). x.flags) bare ∙ flags_is;
  serial = ap (λ (x : Header). x.serial) bare ∙ serial_is;
  body_is = body_is;
}

-- a message of these parts
abbrev message_with : Order → Kind → ℕ → ℕ → List ℕ → List ℕ → List ℕ
message_with order kind flags serial all body =
    (order_byte order ∷ kind_byte kind ∷ flags ∷ 1 ∷ [])
    ++ (word_bytes order (length body) ++ (word_bytes order serial ++ (word_bytes order (length all) ++ (all ++ (zeros (padding 8 (length all)) ++ body)))))

-- the header of the stamped message, with the zeros after it
abbrev pub heads : Order → Header → ℕ → List ℕ → List ℕ
heads order h body_len all = fixed_bytes order h (length all) body_len ++ (all ++ zeros (padding 8 (length all)))

pub stamped_spelled : (raw : List ℕ) (m : Message) (sender : List ℕ) (order : Order) (h : Header) (body head : List ℕ) → IsRead raw m sender order h body → head ≡ heads order h (length body) (stamped_fields order m.fields sender) → head ++ body ≡ message_bytes (with_sender m sender)
stamped_spelled raw m sender order h body head r is =
    let all = header_bytes (with_sender m sender) in
    let here : head ≡ heads m.order h (length body) all = subst (λ (o : Order). head ≡ heads o h (length body) (stamped_fields o m.fields sender)) r.order_is is in
    ap (λ (l : List ℕ). l ++ body) here
    ∙ regroup (order_byte m.order ∷ kind_byte h.kind ∷ h.flags ∷ 1 ∷ []) (word_bytes m.order (length body)) (word_bytes m.order h.serial) (word_bytes m.order (length all)) all (zeros (padding 8 (length all))) body
    ∙ ap (λ (k : Kind). message_with m.order k h.flags h.serial all body) r.kind
    ∙ ap (λ (f : ℕ). message_with m.order m.kind f h.serial all body) r.flags
    ∙ ap (λ (s : ℕ). message_with m.order m.kind m.flags s all body) r.serial
    ∙ ap (λ (b : List ℕ). message_with m.order m.kind m.flags m.serial all b) (r.body_is ∙ sym (body_same m sender))
  where
    regroup : (a b c d e f g : List ℕ) → ((a ++ (b ++ (c ++ d))) ++ (e ++ f)) ++ g ≡ a ++ (b ++ (c ++ (d ++ (e ++ (f ++ g)))))
    regroup a b c d e f g = simp append_assoc

-- the fields in the message's own order
pub fields_in_order : (raw : List ℕ) (m : Message) (sender : List ℕ) (order : Order) (h : Header) (body : List ℕ) → IsRead raw m sender order h body → stamped_fields order m.fields sender ≡ header_bytes (with_sender m sender)
fields_in_order raw m sender order h body r = ap (λ (o : Order). stamped_fields o m.fields sender) r.order_is

pub stamped_valid : (raw : List ℕ) (m : Message) (sender : List ℕ) (order : Order) (h : Header) (body head bytes : List ℕ) → IsRead raw m sender order h body → head ≡ heads order h (length body) (stamped_fields order m.fields sender)
    → length (stamped_fields order m.fields sender) ≤ max_array_len → length head + length body ≤ max_message_len → bytes ≡ head ++ body → Valid bytes (with_sender m sender)
stamped_valid raw m sender order h body head bytes r is short fits whole =
    let v = r.valid in
    let from = length (header_bytes m) in
    let to = length (header_bytes (with_sender m sender)) in
    let same : length (stamped_fields order m.fields sender) ≡ to = ap (λ (l : List ℕ). length l) (fields_in_order raw m sender order h body r) in
    let sum : length bytes ≡ length head + length body = ap (λ (l : List ℕ). length l) whole ∙ length-append head body in
    record {
      kind = v.kind;
      kind_fits = v.kind_fits;
      flags = v.flags;
      serial = v.serial;
      serial_fits = v.serial_fits;
      fields = stamped_are m.order 16 16 m.fields sender r.named v.fields;
      required = required_same m.kind m.fields sender ∙ v.required;
      types = subst (λ (t : List ℕ). SigText m.types t) (sym (signature_same m.fields sender)) v.types;
      arguments = members_fit_moved m.order 64 (body_place from) (body_place to) (bodies_alike from to) m.types m.arguments v.arguments;
      fields_fit = subst (λ (n : ℕ). n ≤ max_array_len) same short;
      fits = subst (λ (n : ℕ). n ≤ max_message_len) (sym sum) fits;
      spelled = whole ∙ stamped_spelled raw m sender order h body head r is;
    }

pub fields_too_large : (raw : List ℕ) (m : Message) (sender : List ℕ) (order : Order) (h : Header) (body : List ℕ) → IsRead raw m sender order h body → max_array_len < length (stamped_fields order m.fields sender) → IsTooLarge (with_sender m sender)
fields_too_large raw m sender order h body r long =
    let same : length (stamped_fields order m.fields sender) ≡ length (header_bytes (with_sender m sender)) = ap (λ (l : List ℕ). length l) (fields_in_order raw m sender order h body r) in
    inl (subst (λ (n : ℕ). max_array_len < n) same long)

pub message_too_large : (raw : List ℕ) (m : Message) (sender : List ℕ) (order : Order) (h : Header) (body head : List ℕ) → IsRead raw m sender order h body → head ≡ heads order h (length body) (stamped_fields order m.fields sender)
    → max_message_len < length head + length body → IsTooLarge (with_sender m sender)
message_too_large raw m sender order h body head r is long =
    let sum : length head + length body ≡ length (message_bytes (with_sender m sender)) = sym (length-append head body) ∙ ap (λ (l : List ℕ). length l) (stamped_spelled raw m sender order h body head r is) in
    inr (subst (λ (n : ℕ). max_message_len < n) sum long)

-- A message's fields lie in its array, and are counted from its beginning.
pub record AreThere (order : Order) (m : Message) (array : List ℕ) : Type 0 where
  pub are : AreFields order 0 m.fields
  pub is : array ≡ fields_bytes order 0 m.fields

pub fields_there : (raw : List ℕ) (m : Message) (order : Order) (array bytes : List ℕ) → Valid raw m → order ≡ m.order → bytes ≡ raw → (Valid bytes m → order ≡ m.order → array ≡ header_bytes m) → AreThere order m array
fields_there raw m order array bytes v order_is same found =
    let lies : array ≡ header_bytes m = found (subst (λ (l : List ℕ). Valid l m) (sym same) v) order_is in
    record {
      are = subst (λ (o : Order). AreFields o 0 m.fields) (sym order_is) (are_moved m.order 16 0 m.fields v.fields);
      is = lies ∙ fields_moved m.order 16 0 (record { is = refl }) m.fields ∙ ap (λ (o : Order). fields_bytes o 0 m.fields) (sym order_is);
    }

-- The header of a message's fields.
pub headed : (raw : List ℕ) (m : Message) (sender : List ℕ) (order : Order) (h : Header) (body array bytes : List ℕ) (answer : Result (List ℕ) StampError) → IsRead raw m sender order h body
    → bytes ≡ raw → (Valid bytes m → order ≡ m.order → array ≡ header_bytes m)
    → ((fields : List Field) → AreFields order 0 fields → array ≡ fields_bytes order 0 fields → HeadsStamped answer order h (length body) (stamped_fields order fields sender))
    → HeadsStamped answer order h (length body) (stamped_fields order m.fields sender)
headed raw m sender order h body array bytes answer r same found heads =
    let there = fields_there raw m order array bytes r.valid r.order_is same found in
    heads m.fields there.are there.is

-- why there is no header
pub refused : (e : StampError) (raw : List ℕ) (m : Message) (sender : List ℕ) (order : Order) (h : Header) (body : List ℕ) → IsRead raw m sender order h body → HeadsStamped (Err e) order h (length body) (stamped_fields order m.fields sender) → Stamps m sender (Err e)
refused TooLarge raw m sender order h body read long = fields_too_large raw m sender order h body read long
refused NoMemory raw m sender order h body read long = tt
