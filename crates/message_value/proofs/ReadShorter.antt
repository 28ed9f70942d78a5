-- What was read takes bytes, so that fewer are left after it.
use Rattle.std.proofs.Common.{◌≡◌, ℕ, zero, suc, ◌+◌, ◌<◌, ◌≤◌, Bool, true, false, cond, List, length, take, drop, Option, Some, None, Result, Ok, Err, refl, subst, arith}
use Rattle.std.specs.Prelude.{◌==◌, nat_lt, not, slice_index, ◌&&◌, ◌||◌}
use Rattle.std.specs.List.{list_all}
use Rattle.std.proofs.lemmas.Bool.{ltb-false}
use Rattle.std.proofs.lemmas.List.{length-drop}
use Rattle.signature.specs.DataType.{DataType, DataTypes, basic, variant, array, dict, struct, no_types, one_more}
use Rattle.signature.specs.Alignment.{alignment_of}
use Rattle.signature.specs.Trees.{type_of}
use Rattle.message_value.specs.declared.order.Order.{Order}
use Rattle.message_value.specs.declared.error.MsgError.{MsgError}
use Rattle.message_value.specs.declared.error.MsgError.TheVariants as faults
use Rattle.message_value.specs.Order.{number_of, word_of}
use Rattle.message_value.specs.Value.{Value, number, text, elements, entries, members, of_type, one_value, values_of, entries_of}
use Rattle.message_value.specs.Spelling.{padding, number_len, width_of, entry_alignment}
use Rattle.message_value.specs.Fits.{is_text_code, is_text_of, max_array_len}
use Rattle.message_value.specs.Reading.{At, ◌>>=◌, item_at, aligned_at, byte_at, word_at, text_fault, text_ended, text_at, long_text_at, short_text_at, text_value_at, value_typed, signature_at, count_at, number_value_at, inside, within_limit, extent_at, each_at, Reader, members_at, entry_at, variant_at, array_at, dict_at, struct_at, bare_at, value_by, value_at}

-- an Ok leaves fewer bytes than before, by this number at least
abbrev pub Takes_least : {A : Type 0} → ℕ → ℕ → Result (A × At) MsgError → Type 0
Takes_least least before (Ok found) = length found.1.rest + least ≤ before
Takes_least least before (Err fault) = Unit {0}

abbrev Leaves_most : ℕ → Result At MsgError → Type 0
Leaves_most before (Ok tail) = length tail.rest ≤ before
Leaves_most before (Err fault) = Unit {0}

fewer : {A : Type 0} (least less before more : ℕ) (r : Result (A × At) MsgError) → less ≤ least → before ≤ more → Takes_least least before r → Takes_least less more r
fewer least less before more (Ok found) le more_le h = omega arith
fewer least less before more (Err fault) le more_le h = tt

-- one step, and another after it
then : {A B : Type 0} (least less before : ℕ) (r : Result (A × At) MsgError) (f : A × At → Result (B × At) MsgError) → Takes_least least before r
    → ((x : A × At) → Takes_least less (length x.1.rest) (f x)) → Takes_least least before (r >>= f)
then least less before (Ok x) f h k = both (f x) (k x)
  where
    both : {B : Type 0} (r : Result (B × At) MsgError) → Takes_least less (length x.1.rest) r → Takes_least least before r
    both (Ok y) l = omega arith
    both (Err fault) l = tt
then least less before (Err fault) f h k = tt

-- a first step that takes as many as it will
tail : {A B : Type 0} (least before : ℕ) (r : Result (A × At) MsgError) (f : A × At → Result (B × At) MsgError) → Takes_least 0 before r
    → ((x : A × At) → Takes_least least (length x.1.rest) (f x)) → Takes_least least before (r >>= f)
tail least before (Ok x) f h k = fewer least least (length x.1.rest) before (f x) (omega arith) (omega arith) (k x)
tail least before (Err fault) f h k = tt

skipping : {B : Type 0} (least before : ℕ) (r : Result At MsgError) (f : At → Result (B × At) MsgError) → Leaves_most before r
    → ((x : At) → Takes_least least (length x.rest) (f x)) → Takes_least least before (r >>= f)
skipping least before (Ok x) f h k = fewer least least (length x.rest) before (f x) (omega arith) h (k x)
skipping least before (Err fault) f h k = tt

same : {A : Type 0} (x : A) (at : At) → Takes_least {A = A} 0 (length at.rest) (Ok (x, at))
same x at = omega arith

-- ---- items

pub item_takes_all : (len : ℕ) (at : At) → Takes_least len (length at.rest) (item_at len at)
unfolding item_at
item_takes_all len at = go (nat_lt (length at.rest) len) refl
  where
    go : (b : Bool) → nat_lt (length at.rest) len ≡ b → Takes_least len (length at.rest) (cond b (Err at.outside) (Ok (take len at.rest, record { place = at.place + len; rest = drop len at.rest; outside = at.outside })))
    go true e = tt
    go false e = omega (arith, length-drop len at.rest, ltb-false (length at.rest) len e)

item_takes : (len : ℕ) (at : At) → Takes_least 0 (length at.rest) (item_at len at)
item_takes len at = fewer len 0 (length at.rest) (length at.rest) (item_at len at) (omega arith) (omega arith) (item_takes_all len at)

aligned_leaves : (alignment : ℕ) (at : At) → Leaves_most (length at.rest) (aligned_at alignment at)
unfolding aligned_at
aligned_leaves alignment at = go (item_at (padding alignment at.place) at) (item_takes (padding alignment at.place) at)
  where
    test : (b : Bool) (x : At) → length x.rest ≤ length at.rest → Leaves_most (length at.rest) (cond b (Ok x) (Err faults.Padding))
    test true x le = le
    test false x le = tt

    go : (r : Result (List ℕ × At) MsgError) → Takes_least 0 (length at.rest) r → Leaves_most (length at.rest) (r >>= λ skipped. cond (list_all (λ byte. byte == 0) skipped.0) (Ok skipped.1) (Err faults.Padding))
    go (Ok x) h = test (list_all (λ byte. byte == 0) x.0) x.1 (omega arith)
    go (Err fault) h = tt

byte_takes_one : (at : At) → Takes_least 1 (length at.rest) (byte_at at)
unfolding byte_at
byte_takes_one at = then 1 0 (length at.rest) (item_at 1 at) (λ byte. Ok (slice_index byte.0 0, byte.1)) (item_takes_all 1 at) (λ x. same (slice_index x.0 0) x.1)

word_takes_four : (order : Order) (at : At) → Takes_least 4 (length at.rest) (word_at order at)
unfolding word_at
word_takes_four order at = then 4 0 (length at.rest) (item_at 4 at) (λ bytes. Ok (word_of order bytes.0, bytes.1)) (item_takes_all 4 at) (λ x. same (word_of order x.0) x.1)

-- ---- texts

text_takes : (code len : ℕ) (at : At) → Takes_least 0 (length at.rest) (text_at code len at)
unfolding text_at
text_takes code len at = tail 0 (length at.rest) (item_at (len + 1) at) (λ bytes. text_ended code len bytes.0 bytes.1) (item_takes (len + 1) at) (λ x. go (not (is_text_of code (take len x.0))) (not (slice_index x.0 len == 0)) (take len x.0) x.1)
  where
    go : (form end : Bool) (bytes : List ℕ) (x : At) → Takes_least 0 (length x.rest) (cond form (Err (text_fault code)) (cond end (Err faults.BadText) (Ok (bytes, x))))
    go true end bytes x = tt
    go false true bytes x = tt
    go false false bytes x = omega arith

short_takes : (at : At) → Takes_least 1 (length at.rest) (short_text_at at)
unfolding short_text_at
short_takes at = then 1 0 (length at.rest) (byte_at at) (λ len. text_at 103 len.0 len.1) (byte_takes_one at) (λ x. text_takes 103 x.0 x.1)

long_takes : (order : Order) (code : ℕ) (at : At) → Takes_least 4 (length at.rest) (long_text_at order code at)
unfolding long_text_at
long_takes order code at = then 4 0 (length at.rest) (word_at order at) (λ len. text_at code len.0 len.1) (word_takes_four order at) (λ x. text_takes code x.0 x.1)

text_value_takes : (order : Order) (code : ℕ) (at : At) → Takes_least 1 (length at.rest) (text_value_at order code at)
unfolding text_value_at
text_value_takes order code at = then 1 0 (length at.rest) (cond (code == 103) (short_text_at at) (long_text_at order code at)) (λ found. Ok (text found.0, found.1)) (go (code == 103)) (λ x. same (text x.0) x.1)
  where
    go : (b : Bool) → Takes_least 1 (length at.rest) (cond b (short_text_at at) (long_text_at order code at))
    go true = short_takes at
    go false = fewer 4 1 (length at.rest) (length at.rest) (long_text_at order code at) (omega arith) (omega arith) (long_takes order code at)

signature_takes : (at : At) → Takes_least 1 (length at.rest) (signature_at at)
unfolding signature_at
signature_takes at = then 1 0 (length at.rest) (byte_at at) (λ len. item_at (len.0 + 1) len.1 >>= λ bytes. value_typed (type_of (take len.0 bytes.0)) (slice_index bytes.0 len.0) bytes.1) (byte_takes_one at)
    (λ len. tail 0 (length len.1.rest) (item_at (len.0 + 1) len.1) (λ bytes. value_typed (type_of (take len.0 bytes.0)) (slice_index bytes.0 len.0) bytes.1) (item_takes (len.0 + 1) len.1) (λ x. go (type_of (take len.0 x.0)) (slice_index x.0 len.0) x.1))
  where
    test : (b : Bool) (type : DataType) (x : At) → Takes_least 0 (length x.rest) (cond b (Ok (type, x)) (Err faults.BadText))
    test true type x = omega arith
    test false type x = tt

    go : (found : Option DataType) (end : ℕ) (x : At) → Takes_least 0 (length x.rest) (value_typed found end x)
    go None end x = tt
    go (Some type) end x = test (end == 0) type x

-- ---- numbers

pub number_some : (code : ℕ) → 1 ≤ number_len code
number_some code = go (code == 121) (code == 110 || code == 113) (code == 120 || code == 116 || code == 100)
  where
    go : (a b c : Bool) → 1 ≤ cond a 1 (cond b 2 (cond c 8 4))
    go true b c = omega arith
    go false true c = omega arith
    go false false true = omega arith
    go false false false = omega arith

number_value_takes : (order : Order) (code : ℕ) (at : At) → Takes_least 1 (length at.rest) (number_value_at order code at)
unfolding number_value_at
number_value_takes order code at = then 1 0 (length at.rest) (item_at (number_len code) at) (λ bytes. count_at code (number_of order (width_of code) bytes.0) bytes.1)
    (fewer (number_len code) 1 (length at.rest) (length at.rest) (item_at (number_len code) at) (number_some code) (omega arith) (item_takes_all (number_len code) at))
    (λ x. go (code == 98 && nat_lt 1 (number_of order (width_of code) x.0)) (number_of order (width_of code) x.0) x.1)
  where
    go : (b : Bool) (bits : ℕ) (x : At) → Takes_least 0 (length x.rest) (cond b (Err faults.BadBool) (Ok (number bits, x)))
    go true bits x = tt
    go false bits x = omega arith

-- ---- containers

extent_takes : (order : Order) (alignment : ℕ) (at : At) → Takes_least 4 (length at.rest) (extent_at order alignment at)
unfolding extent_at
extent_takes order alignment at = then 4 0 (length at.rest) (word_at order at) (λ len. within_limit len.0 len.1 >>= λ tail. aligned_at alignment tail >>= λ start. item_at len.0 start >>= λ bytes. Ok (inside start.place bytes.0, bytes.1)) (word_takes_four order at)
    (λ len. skipping 0 (length len.1.rest) (within_limit len.0 len.1) (λ tail. aligned_at alignment tail >>= λ start. item_at len.0 start >>= λ bytes. Ok (inside start.place bytes.0, bytes.1)) (limit (nat_lt max_array_len len.0) len.1)
    (λ b. skipping 0 (length b.rest) (aligned_at alignment b) (λ start. item_at len.0 start >>= λ bytes. Ok (inside start.place bytes.0, bytes.1)) (aligned_leaves alignment b)
    (λ start. tail 0 (length start.rest) (item_at len.0 start) (λ bytes. Ok (inside start.place bytes.0, bytes.1)) (item_takes len.0 start) (λ x. same (inside start.place x.0) x.1))))
  where
    limit : (b : Bool) (x : At) → Leaves_most (length x.rest) (cond b (Err faults.ArrayLength) (Ok x))
    limit true x = tt
    limit false x = omega arith

-- what is read of each value of a type takes a byte
abbrev Shortens : Reader → Type 0
Shortens reader = (type : DataType) (at : At) → Takes_least 1 (length at.rest) (reader type at)

members_take : (reader : Reader) → Shortens reader → (types : DataTypes) (at : At) → Takes_least 0 (length at.rest) (members_at reader types at)
members_take reader h no_types at = omega arith
members_take reader h (one_more t ts) at = tail 0 (length at.rest) (reader t at) (λ value. members_at reader ts value.1 >>= λ more. Ok (one_value value.0 more.0, more.1)) (fewer 1 0 (length at.rest) (length at.rest) (reader t at) (omega arith) (omega arith) (h t at))
    (λ value. tail 0 (length value.1.rest) (members_at reader ts value.1) (λ more. Ok (one_value value.0 more.0, more.1)) (members_take reader h ts value.1) (λ x. same (one_value value.0 x.0) x.1))

some_members_take : (reader : Reader) → Shortens reader → (t : DataType) (ts : DataTypes) (at : At) → Takes_least 1 (length at.rest) (members_at reader (one_more t ts) at)
some_members_take reader h t ts at = then 1 0 (length at.rest) (reader t at) (λ value. members_at reader ts value.1 >>= λ more. Ok (one_value value.0 more.0, more.1)) (h t at)
    (λ value. tail 0 (length value.1.rest) (members_at reader ts value.1) (λ more. Ok (one_value value.0 more.0, more.1)) (members_take reader h ts value.1) (λ x. same (one_value value.0 x.0) x.1))

-- an array's elements are read elsewhere
elsewhere : {A B : Type 0} (r : Result A MsgError) (f : A → B) (at : At) → Takes_least 0 (length at.rest) (r >>= λ found. Ok (f found, at))
elsewhere (Ok x) f at = omega arith
elsewhere (Err fault) f at = tt

container_takes : (reader : Reader) → Shortens reader → (order : Order) (type : DataType) (at : At) → Takes_least 1 (length at.rest) (bare_at (Ok reader) order type at)
unfolding variant_at array_at dict_at struct_at
container_takes reader h order (basic code) at = go (is_text_code code)
  where
    go : (b : Bool) → Takes_least 1 (length at.rest) (cond b (text_value_at order code at) (number_value_at order code at))
    go true = text_value_takes order code at
    go false = number_value_takes order code at
container_takes reader h order variant at = then 1 0 (length at.rest) (signature_at at) (λ type. reader type.0 type.1 >>= λ value. Ok (of_type type.0 value.0, value.1)) (signature_takes at)
    (λ type. tail 0 (length type.1.rest) (reader type.0 type.1) (λ value. Ok (of_type type.0 value.0, value.1)) (fewer 1 0 (length type.1.rest) (length type.1.rest) (reader type.0 type.1) (omega arith) (omega arith) (h type.0 type.1)) (λ x. same (of_type type.0 x.0) x.1))
container_takes reader h order (array t) at = then 1 0 (length at.rest) (extent_at order (alignment_of t) at) (λ extent. each_at (reader t) (length extent.0.rest) extent.0 >>= λ found. Ok (elements (values_of found), extent.1))
    (fewer 4 1 (length at.rest) (length at.rest) (extent_at order (alignment_of t) at) (omega arith) (omega arith) (extent_takes order (alignment_of t) at))
    (λ extent. elsewhere (each_at (reader t) (length extent.0.rest) extent.0) (λ found. elements (values_of found)) extent.1)
container_takes reader h order (dict k v) at = then 1 0 (length at.rest) (extent_at order entry_alignment at) (λ extent. each_at (entry_at reader k v) (length extent.0.rest) extent.0 >>= λ found. Ok (entries (entries_of found), extent.1))
    (fewer 4 1 (length at.rest) (length at.rest) (extent_at order entry_alignment at) (omega arith) (omega arith) (extent_takes order entry_alignment at))
    (λ extent. elsewhere (each_at (entry_at reader k v) (length extent.0.rest) extent.0) (λ found. entries (entries_of found)) extent.1)
container_takes reader h order (struct t ts) at = then 1 0 (length at.rest) (members_at reader (one_more t ts) at) (λ found. Ok (members found.0, found.1)) (some_members_take reader h t ts at) (λ x. same (members x.0) x.1)

bare_takes : (order : Order) (type : DataType) (at : At) → Takes_least 1 (length at.rest) (bare_at (Err faults.Depth) order type at)
bare_takes order (basic code) at = go (is_text_code code)
  where
    go : (b : Bool) → Takes_least 1 (length at.rest) (cond b (text_value_at order code at) (number_value_at order code at))
    go true = text_value_takes order code at
    go false = number_value_takes order code at
bare_takes order variant at = tt
bare_takes order (array t) at = tt
bare_takes order (dict k v) at = tt
bare_takes order (struct t ts) at = tt

value_takes_one : (levels : ℕ) (order : Order) (type : DataType) (at : At) → Takes_least 1 (length at.rest) (value_at levels order type at)
unfolding value_by
value_takes_one zero order type at = skipping 1 (length at.rest) (aligned_at (alignment_of type) at) (bare_at (Err faults.Depth) order type) (aligned_leaves (alignment_of type) at) (bare_takes order type)
value_takes_one (suc levels) order type at = skipping 1 (length at.rest) (aligned_at (alignment_of type) at) (bare_at (Ok (value_at levels order)) order type) (aligned_leaves (alignment_of type) at)
    (container_takes (value_at levels order) (value_takes_one levels order) order type)

entry_takes_one : (levels : ℕ) (order : Order) (k : ℕ) (v : DataType) (at : At) → Takes_least 1 (length at.rest) (entry_at (value_at levels order) k v at)
unfolding entry_at
entry_takes_one levels order k v at = skipping 1 (length at.rest) (aligned_at entry_alignment at) (λ start. value_at levels order (basic k) start >>= λ key. value_at levels order v key.1 >>= λ value. Ok ((key.0, value.0), value.1)) (aligned_leaves entry_alignment at)
    (λ start. then 1 0 (length start.rest) (value_at levels order (basic k) start) (λ key. value_at levels order v key.1 >>= λ value. Ok ((key.0, value.0), value.1)) (value_takes_one levels order (basic k) start)
    (λ key. tail 0 (length key.1.rest) (value_at levels order v key.1) (λ value. Ok ((key.0, value.0), value.1)) (fewer 1 0 (length key.1.rest) (length key.1.rest) (value_at levels order v key.1) (omega arith) (omega arith) (value_takes_one levels order v key.1)) (λ x. let made : Value × Value = (key.0, x.0) in same made x.1)))

-- ---- what was read

pub takes_at : {A : Type 0} (least before : ℕ) (r : Result (A × At) MsgError) (found : A × At) → Takes_least least before r → r ≡ Ok found → length found.1.rest + least ≤ before
takes_at {A = A} least before r found h e = subst (λ (x : Result (A × At) MsgError). Takes_least least before x) e h

pub item_fits : (len : ℕ) (at : At) (found : List ℕ × At) → item_at len at ≡ Ok found → length found.1.rest + len ≤ length at.rest
item_fits len at found e = takes_at len (length at.rest) (item_at len at) found (item_takes_all len at) e

-- a value leaves fewer bytes
pub value_shorter : (levels : ℕ) (order : Order) (type : DataType) (at : At) (found : Value × At) → value_at levels order type at ≡ Ok found → length found.1.rest < length at.rest
value_shorter levels order type at found e = let h = takes_at 1 (length at.rest) (value_at levels order type at) found (value_takes_one levels order type at) e in omega arith

-- so does an entry of a dict
pub entry_shorter : (levels : ℕ) (order : Order) (k : ℕ) (v : DataType) (at : At) (found : (Value × Value) × At) → entry_at (value_at levels order) k v at ≡ Ok found → length found.1.rest < length at.rest
entry_shorter levels order k v at found e = let h = takes_at 1 (length at.rest) (entry_at (value_at levels order) k v at) found (entry_takes_one levels order k v at) e in omega arith

pub byte_fits : (at : At) (found : ℕ × At) → byte_at at ≡ Ok found → 1 ≤ length at.rest
byte_fits at found e = let h = takes_at 1 (length at.rest) (byte_at at) found (byte_takes_one at) e in omega arith

pub word_fits : (order : Order) (at : At) (found : ℕ × At) → word_at order at ≡ Ok found → 4 ≤ length at.rest
word_fits order at found e = let h = takes_at 4 (length at.rest) (word_at order at) found (word_takes_four order at) e in omega arith
