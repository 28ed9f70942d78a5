-- Each value has at least a byte, and what reads it leaves fewer bytes than there were.
use Rattle.std.proofs.Common.{◌≡◌, ℕ, zero, suc, ◌+◌, ◌<◌, ◌≤◌, Bool, true, false, cond, eqb, ltb, List, [], ◌∷◌, ◌++◌, length, Result, Ok, Err, ap, subst, arith}
use Rattle.std.specs.Prelude.{◌&&◌}
use Rattle.std.proofs.lemmas.List.{length-append}
use Rattle.signature.specs.DataType.{DataType, DataTypes, basic, variant, array, dict, struct, no_types, one_more}
use Rattle.signature.specs.Alignment.{alignment_of}
use Rattle.message_value.specs.declared.order.Order.{Order}
use Rattle.message_value.specs.declared.error.MsgError.{MsgError}
use Rattle.message_value.specs.declared.error.MsgError.TheVariants as faults
use Rattle.message_value.specs.Order.{word_bytes, word_of, number_of}
use Rattle.message_value.specs.Value.{Value, Values, number, text, elements, entries, members, of_type, no_values, one_value, values_of, entries_of}
use Rattle.message_value.specs.Spelling.{padding, align_up, zeros, width_of, number_len, text_bytes, signature_bytes, entry_alignment, bare_bytes, members_bytes, value_bytes, entry_bytes}
use Rattle.message_value.specs.Fits.{is_text_code, max_array_len, BareFits, ValueFits}
use Rattle.message_value.specs.Reading.{◌>>=◌, At, Reader, item_at, aligned_at, byte_at, word_at, text_at, long_text_at, short_text_at, text_value_at, count_at, number_value_at, signature_at, inside, within_limit, extent_at, each_at, members_at, entry_at, variant_at, array_at, dict_at, struct_at, bare_at, value_by, value_at}
use Rattle.message_value.proofs.OkSteps.{bind_ok, guard_ok, ok_is}
use Rattle.message_value.proofs.WordBytes.{number_len-pos, length-number_bytes, length-word_bytes}
use Rattle.message_value.proofs.ReadItems.{Takes-leaves, item_takes, aligned_takes, byte_takes}
use Rattle.message_value.proofs.ReadTexts.{basic_at, text_takes, signature_takes}

-- ---- each value has a byte

text_bytes_pos : (order : Order) (code : ℕ) (bytes : List ℕ) → 0 < length (text_bytes order code bytes)
text_bytes_pos order code bytes = go (eqb code 103)
  where
    go : (g : Bool) → 0 < length (cond g (length bytes ∷ (bytes ++ 0 ∷ [])) (word_bytes order (length bytes) ++ (bytes ++ 0 ∷ [])))
    go true = omega arith
    go false = omega (arith, length-append (word_bytes order (length bytes)) (bytes ++ 0 ∷ []), length-word_bytes order (length bytes))

front_pos : (first tail : List ℕ) → 0 < length first → 0 < length (first ++ tail)
front_pos first tail pos = omega (arith, length-append first tail)

tail_pos : (first tail : List ℕ) → 0 < length tail → 0 < length (first ++ tail)
tail_pos first tail pos = omega (arith, length-append first tail)

word_pos : (order : Order) (n : ℕ) (tail : List ℕ) → 0 < length (word_bytes order n ++ tail)
word_pos order n tail = front_pos (word_bytes order n) tail (omega (arith, length-word_bytes order n))

pub bare_bytes_pos : (order : Order) (levels place : ℕ) (type : DataType) (value : Value) → BareFits order levels place type value → 0 < length (bare_bytes order place type value)
bare_bytes_pos order levels place (basic code) (number bits) has = omega (arith, length-number_bytes order code bits, number_len-pos code)
bare_bytes_pos order levels place (basic code) (text bytes) has = text_bytes_pos order code bytes
bare_bytes_pos order levels place (basic code) (elements vs) has = absurd has
bare_bytes_pos order levels place (basic code) (entries es) has = absurd has
bare_bytes_pos order levels place (basic code) (members vs) has = absurd has
bare_bytes_pos order levels place (basic code) (of_type t v) has = absurd has
bare_bytes_pos order zero place variant value has = absurd has
bare_bytes_pos order zero place (array t) value has = absurd has
bare_bytes_pos order zero place (dict k v) value has = absurd has
bare_bytes_pos order zero place (struct t ts) value has = absurd has
bare_bytes_pos order (suc levels) place variant (of_type type value) has = omega arith
bare_bytes_pos order (suc levels) place (array t) (elements vs) has = word_pos order _ _
bare_bytes_pos order (suc levels) place (dict k v) (entries es) has = word_pos order _ _
bare_bytes_pos order (suc levels) place (struct t ts) (members no_values) has = absurd has
bare_bytes_pos order (suc levels) place (struct t ts) (members (one_value v vs)) has =
    let start = align_up (alignment_of t) place in
    front_pos (value_bytes order place t v) (members_bytes order (place + length (value_bytes order place t v)) ts vs) (tail_pos (zeros (padding (alignment_of t) place)) (bare_bytes order start t v) (bare_bytes_pos order levels start t v has.0))
bare_bytes_pos order (suc levels) place variant (number bits) has = absurd has
bare_bytes_pos order (suc levels) place variant (text bytes) has = absurd has
bare_bytes_pos order (suc levels) place variant (elements vs) has = absurd has
bare_bytes_pos order (suc levels) place variant (entries es) has = absurd has
bare_bytes_pos order (suc levels) place variant (members vs) has = absurd has
bare_bytes_pos order (suc levels) place (array t) (number bits) has = absurd has
bare_bytes_pos order (suc levels) place (array t) (text bytes) has = absurd has
bare_bytes_pos order (suc levels) place (array t) (entries es) has = absurd has
bare_bytes_pos order (suc levels) place (array t) (members vs) has = absurd has
bare_bytes_pos order (suc levels) place (array t) (of_type s v) has = absurd has
bare_bytes_pos order (suc levels) place (dict k v) (number bits) has = absurd has
bare_bytes_pos order (suc levels) place (dict k v) (text bytes) has = absurd has
bare_bytes_pos order (suc levels) place (dict k v) (elements vs) has = absurd has
bare_bytes_pos order (suc levels) place (dict k v) (members vs) has = absurd has
bare_bytes_pos order (suc levels) place (dict k v) (of_type s w) has = absurd has
bare_bytes_pos order (suc levels) place (struct t ts) (number bits) has = absurd has
bare_bytes_pos order (suc levels) place (struct t ts) (text bytes) has = absurd has
bare_bytes_pos order (suc levels) place (struct t ts) (elements vs) has = absurd has
bare_bytes_pos order (suc levels) place (struct t ts) (entries es) has = absurd has
bare_bytes_pos order (suc levels) place (struct t ts) (of_type s v) has = absurd has

-- a value that fits has a byte
pub value_bytes_pos : (order : Order) (levels place : ℕ) (type : DataType) (value : Value) → ValueFits order levels place type value → 0 < length (value_bytes order place type value)
value_bytes_pos order levels place type value has =
    let start = align_up (alignment_of type) place in
    tail_pos (zeros (padding (alignment_of type) place)) (bare_bytes order start type value) (bare_bytes_pos order levels start type value has)

-- an entry whose key fits has a byte
pub entry_bytes_pos : (order : Order) (levels place k : ℕ) (v : DataType) (key value : Value) → ValueFits order levels (align_up entry_alignment place) (basic k) key → 0 < length (entry_bytes order place k v key value)
entry_bytes_pos order levels place k v key value has =
    let start = align_up entry_alignment place in
    let first = value_bytes order start (basic k) key in
    let more = value_bytes order (start + length first) v value in
    tail_pos (zeros (padding entry_alignment place)) (first ++ more) (front_pos first more (value_bytes_pos order levels start (basic k) key has))

-- ---- what is left after it

item_leaves : (len : ℕ) (a : At) (found : List ℕ × At) → item_at len a ≡ Ok found → len + length found.1.rest ≡ length a.rest
item_leaves len a found e =
    let t = item_takes len a found e in
    omega (arith, t.1, Takes-leaves a found.0 found.1 t.0)

aligned_leaves : (alignment : ℕ) (a found : At) → aligned_at alignment a ≡ Ok found → length found.rest ≤ length a.rest
aligned_leaves alignment a found e = omega (arith, Takes-leaves a (zeros (padding alignment a.place)) found (aligned_takes alignment a found e).0)

byte_leaves : (a : At) (found : ℕ × At) → byte_at a ≡ Ok found → length found.1.rest < length a.rest
byte_leaves a found e = omega (arith, Takes-leaves a (found.0 ∷ []) found.1 (byte_takes a found e).0)

word_leaves : (order : Order) (a : At) (found : ℕ × At) → word_at order a ≡ Ok found → length found.1.rest < length a.rest
unfolding word_at
word_leaves order a found e =
    let b = bind_ok (item_at 4 a) (λ bytes. Ok (word_of order bytes.0, bytes.1)) found e in
    let made : ℕ × At = (word_of order b.0.0, b.0.1) in
    subst (λ (f : ℕ × At). length f.1.rest < length a.rest) {x = made} (ok_is made found b.2) (omega (arith, item_leaves 4 a b.0 b.1))

text_leaves : (code len : ℕ) (a : At) (found : List ℕ × At) → text_at code len a ≡ Ok found → length found.1.rest ≤ length a.rest
text_leaves code len a found e = omega (arith, Takes-leaves a (found.0 ++ 0 ∷ []) found.1 (text_takes code len a found e).0)

long_text_leaves : (order : Order) (code : ℕ) (a : At) (found : List ℕ × At) → long_text_at order code a ≡ Ok found → length found.1.rest < length a.rest
unfolding long_text_at
long_text_leaves order code a found e =
    let n = bind_ok (word_at order a) (λ len. text_at code len.0 len.1) found e in
    omega (arith, word_leaves order a n.0 n.1, text_leaves code n.0.0 n.0.1 found n.2)

short_text_leaves : (a : At) (found : List ℕ × At) → short_text_at a ≡ Ok found → length found.1.rest < length a.rest
unfolding short_text_at
short_text_leaves a found e =
    let n = bind_ok (byte_at a) (λ len. text_at 103 len.0 len.1) found e in
    omega (arith, byte_leaves a n.0 n.1, text_leaves 103 n.0.0 n.0.1 found n.2)

text_value_leaves : (order : Order) (code : ℕ) (a : At) (found : Value × At) → text_value_at order code a ≡ Ok found → length found.1.rest < length a.rest
unfolding text_value_at
text_value_leaves order code a found e =
    let b = bind_ok (cond (eqb code 103) (short_text_at a) (long_text_at order code a)) (λ found. Ok (text found.0, found.1)) found e in
    let made : Value × At = (text b.0.0, b.0.1) in
    subst (λ (f : Value × At). length f.1.rest < length a.rest) {x = made} (ok_is made found b.2) (go (eqb code 103) b.0 b.1)
  where
    go : (g : Bool) (read : List ℕ × At) → cond g (short_text_at a) (long_text_at order code a) ≡ Ok read → length read.1.rest < length a.rest
    go true read e = short_text_leaves a read e
    go false read e = long_text_leaves order code a read e

number_value_leaves : (order : Order) (code : ℕ) (a : At) (found : Value × At) → number_value_at order code a ≡ Ok found → length found.1.rest < length a.rest
unfolding number_value_at
number_value_leaves order code a found e =
    let b = bind_ok (item_at (number_len code) a) (λ bytes. count_at code (number_of order (width_of code) bytes.0) bytes.1) found e in
    let bits = number_of order (width_of code) b.0.0 in
    let g = guard_ok (eqb code 98 && ltb 1 bits) faults.BadBool (number bits, b.0.1) found b.2 in
    let made : Value × At = (number bits, b.0.1) in
    subst (λ (f : Value × At). length f.1.rest < length a.rest) {x = made} g.1 (omega (arith, item_leaves (number_len code) a b.0 b.1, number_len-pos code))

basic_leaves : (order : Order) (code : ℕ) (a : At) (found : Value × At) → basic_at order code a ≡ Ok found → length found.1.rest < length a.rest
basic_leaves order code a found e = go (is_text_code code) e
  where
    go : (b : Bool) → cond b (text_value_at order code a) (number_value_at order code a) ≡ Ok found → length found.1.rest < length a.rest
    go true e = text_value_leaves order code a found e
    go false e = number_value_leaves order code a found e

extent_leaves : (order : Order) (alignment : ℕ) (a : At) (found : At × At) → extent_at order alignment a ≡ Ok found → length found.1.rest < length a.rest
unfolding extent_at
extent_leaves order alignment a found e =
    let n = bind_ok (word_at order a) (λ len. within_limit len.0 len.1 >>= λ tail. aligned_at alignment tail >>= λ start. item_at len.0 start >>= λ bytes. Ok (inside start.place bytes.0, bytes.1)) found e in
    let w = bind_ok (within_limit n.0.0 n.0.1) (λ tail. aligned_at alignment tail >>= λ start. item_at n.0.0 start >>= λ bytes. Ok (inside start.place bytes.0, bytes.1)) found n.2 in
    let s = bind_ok (aligned_at alignment w.0) (λ start. item_at n.0.0 start >>= λ bytes. Ok (inside start.place bytes.0, bytes.1)) found w.2 in
    let b = bind_ok (item_at n.0.0 s.0) (λ bytes. Ok (inside s.0.place bytes.0, bytes.1)) found s.2 in
    let limit = guard_ok (ltb max_array_len n.0.0) faults.ArrayLength n.0.1 w.0 w.1 in
    let same : length n.0.1.rest ≡ length w.0.rest = ap (λ (x : At). length x.rest) limit.1 in
    let made : At × At = (inside s.0.place b.0.0, b.0.1) in
    subst (λ (f : At × At). length f.1.rest < length a.rest) {x = made} (ok_is made found b.2) (omega (arith, word_leaves order a n.0 n.1, same, aligned_leaves alignment w.0 s.0 s.1, item_leaves n.0.0 s.0 b.0 b.1))

-- ---- readers that leave fewer bytes

abbrev pub ReaderShorter : Reader → Type 0
ReaderShorter reader = (type : DataType) (a : At) (found : Value × At) → reader type a ≡ Ok found → length found.1.rest < length a.rest

members_leave : (reader : Reader) → ReaderShorter reader → (types : DataTypes) (a : At) (found : Values × At) → members_at reader types a ≡ Ok found → length found.1.rest ≤ length a.rest
members_leave reader shorter no_types a found e =
    let made : Values × At = (no_values, a) in
    subst (λ (f : Values × At). length f.1.rest ≤ length a.rest) {x = made} (ok_is made found e) (omega arith)
members_leave reader shorter (one_more t ts) a found e =
    let v = bind_ok (reader t a) (λ value. members_at reader ts value.1 >>= λ more. Ok (one_value value.0 more.0, more.1)) found e in
    let m = bind_ok (members_at reader ts v.0.1) (λ more. Ok (one_value v.0.0 more.0, more.1)) found v.2 in
    let made : Values × At = (one_value v.0.0 m.0.0, m.0.1) in
    subst (λ (f : Values × At). length f.1.rest ≤ length a.rest) {x = made} (ok_is made found m.2) (omega (arith, shorter t a v.0 v.1, members_leave reader shorter ts v.0.1 m.0 m.1))

struct_leaves : (reader : Reader) → ReaderShorter reader → (t : DataType) (ts : DataTypes) (a : At) (found : Value × At) → struct_at reader t ts a ≡ Ok found → length found.1.rest < length a.rest
unfolding struct_at
struct_leaves reader shorter t ts a found e =
    let m = bind_ok (members_at reader (one_more t ts) a) (λ found. Ok (members found.0, found.1)) found e in
    let v = bind_ok (reader t a) (λ value. members_at reader ts value.1 >>= λ more. Ok (one_value value.0 more.0, more.1)) m.0 m.1 in
    let o = bind_ok (members_at reader ts v.0.1) (λ more. Ok (one_value v.0.0 more.0, more.1)) m.0 v.2 in
    let inner : Values × At = (one_value v.0.0 o.0.0, o.0.1) in
    let same : length o.0.1.rest ≡ length m.0.1.rest = ap (λ (f : Values × At). length f.1.rest) {x = inner} (ok_is inner m.0 o.2) in
    let made : Value × At = (members m.0.0, m.0.1) in
    subst (λ (f : Value × At). length f.1.rest < length a.rest) {x = made} (ok_is made found m.2) (omega (arith, same, shorter t a v.0 v.1, members_leave reader shorter ts v.0.1 o.0 o.1))

variant_leaves : (reader : Reader) → ReaderShorter reader → (a : At) (found : Value × At) → variant_at reader a ≡ Ok found → length found.1.rest < length a.rest
unfolding variant_at
variant_leaves reader shorter a found e =
    let s = bind_ok (signature_at a) (λ type. reader type.0 type.1 >>= λ value. Ok (of_type type.0 value.0, value.1)) found e in
    let v = bind_ok (reader s.0.0 s.0.1) (λ value. Ok (of_type s.0.0 value.0, value.1)) found s.2 in
    let made : Value × At = (of_type s.0.0 v.0.0, v.0.1) in
    subst (λ (f : Value × At). length f.1.rest < length a.rest) {x = made} (ok_is made found v.2) (omega (arith, Takes-leaves a (signature_bytes s.0.0) s.0.1 (signature_takes a s.0 s.1).0, shorter s.0.0 s.0.1 v.0 v.1))

array_leaves : (reader : Reader) (order : Order) (t : DataType) (a : At) (found : Value × At) → array_at reader order t a ≡ Ok found → length found.1.rest < length a.rest
unfolding array_at
array_leaves reader order t a found e =
    let x = bind_ok (extent_at order (alignment_of t) a) (λ extent. each_at (reader t) (length extent.0.rest) extent.0 >>= λ found. Ok (elements (values_of found), extent.1)) found e in
    let b = bind_ok (each_at (reader t) (length x.0.0.rest) x.0.0) (λ found. Ok (elements (values_of found), x.0.1)) found x.2 in
    let made : Value × At = (elements (values_of b.0), x.0.1) in
    subst (λ (f : Value × At). length f.1.rest < length a.rest) {x = made} (ok_is made found b.2) (extent_leaves order (alignment_of t) a x.0 x.1)

dict_leaves : (reader : Reader) (order : Order) (k : ℕ) (v : DataType) (a : At) (found : Value × At) → dict_at reader order k v a ≡ Ok found → length found.1.rest < length a.rest
unfolding dict_at
dict_leaves reader order k v a found e =
    let x = bind_ok (extent_at order entry_alignment a) (λ extent. each_at (entry_at reader k v) (length extent.0.rest) extent.0 >>= λ found. Ok (entries (entries_of found), extent.1)) found e in
    let b = bind_ok (each_at (entry_at reader k v) (length x.0.0.rest) x.0.0) (λ found. Ok (entries (entries_of found), x.0.1)) found x.2 in
    let made : Value × At = (entries (entries_of b.0), x.0.1) in
    subst (λ (f : Value × At). length f.1.rest < length a.rest) {x = made} (ok_is made found b.2) (extent_leaves order entry_alignment a x.0 x.1)

-- an entry leaves fewer bytes
pub entry_shorter : (reader : Reader) → ReaderShorter reader → (k : ℕ) (v : DataType) (a : At) (found : (Value × Value) × At) → entry_at reader k v a ≡ Ok found → length found.1.rest < length a.rest
unfolding entry_at
entry_shorter reader shorter k v a found e =
    let s = bind_ok (aligned_at entry_alignment a) (λ start. reader (basic k) start >>= λ key. reader v key.1 >>= λ value. Ok ((key.0, value.0), value.1)) found e in
    let x = bind_ok (reader (basic k) s.0) (λ key. reader v key.1 >>= λ value. Ok ((key.0, value.0), value.1)) found s.2 in
    let y = bind_ok (reader v x.0.1) (λ value. Ok ((x.0.0, value.0), value.1)) found x.2 in
    let made : (Value × Value) × At = ((x.0.0, y.0.0), y.0.1) in
    subst (λ (f : (Value × Value) × At). length f.1.rest < length a.rest) {x = made} (ok_is made found y.2) (omega (arith, aligned_leaves entry_alignment a s.0 s.1, shorter (basic k) s.0 x.0 x.1, shorter v x.0.1 y.0 y.1))

bare_deepest_leaves : (order : Order) (type : DataType) (a : At) (found : Value × At) → bare_at (Err faults.Depth) order type a ≡ Ok found → length found.1.rest < length a.rest
bare_deepest_leaves order (basic code) a found e = basic_leaves order code a found e
bare_deepest_leaves order variant a found e = absurd cc
bare_deepest_leaves order (array t) a found e = absurd cc
bare_deepest_leaves order (dict k v) a found e = absurd cc
bare_deepest_leaves order (struct t ts) a found e = absurd cc

bare_leaves : (reader : Reader) (order : Order) → ReaderShorter reader → (type : DataType) (a : At) (found : Value × At) → bare_at (Ok reader) order type a ≡ Ok found → length found.1.rest < length a.rest
bare_leaves reader order shorter (basic code) a found e = basic_leaves order code a found e
bare_leaves reader order shorter variant a found e = variant_leaves reader shorter a found e
bare_leaves reader order shorter (array t) a found e = array_leaves reader order t a found e
bare_leaves reader order shorter (dict k v) a found e = dict_leaves reader order k v a found e
bare_leaves reader order shorter (struct t ts) a found e = struct_leaves reader shorter t ts a found e

by_leaves : (order : Order) (deeper : Result Reader MsgError) (type : DataType) → ((a : At) (found : Value × At) → bare_at deeper order type a ≡ Ok found → length found.1.rest < length a.rest) → (a : At) (found : Value × At) → value_by deeper order type a ≡ Ok found → length found.1.rest < length a.rest
unfolding value_by
by_leaves order deeper type bare a found e =
    let s = bind_ok (aligned_at (alignment_of type) a) (λ start. bare_at deeper order type start) found e in
    omega (arith, aligned_leaves (alignment_of type) a s.0 s.1, bare s.0 found s.2)

-- a value leaves fewer bytes
pub value_shorter : (levels : ℕ) (order : Order) (type : DataType) (a : At) (found : Value × At) → value_at levels order type a ≡ Ok found → length found.1.rest < length a.rest
value_shorter zero order type a found e = by_leaves order (Err faults.Depth) type (bare_deepest_leaves order type) a found e
value_shorter (suc levels) order type a found e = by_leaves order (Ok (value_at levels order)) type (bare_leaves (value_at levels order) order (value_shorter levels order) type) a found e
