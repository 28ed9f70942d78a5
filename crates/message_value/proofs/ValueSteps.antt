-- A value by the parts of its type, as the code goes over it.
use Rattle.std.proofs.Common.{◌≡◌, ℕ, zero, suc, ◌<◌, Bool, true, false, cond, List, length, Result, Ok, Err, refl, sym, ap, ◌∙◌, arith, add-zero}
use Rattle.std.specs.Prelude.{◌==◌, ◌||◌, nat_lt}
use Rattle.std.proofs.lemmas.Bool.{le-ltb}
use Rattle.signature.specs.BasicType.{basic_alignment}
use Rattle.signature.specs.DataType.{DataType, DataTypes, basic, variant, array, dict, struct, one_more}
use Rattle.signature.specs.Alignment.{alignment_of}
use Rattle.message_value.specs.declared.order.Order.{Order}
use Rattle.message_value.specs.declared.error.MsgError.{MsgError}
use Rattle.message_value.specs.declared.error.MsgError.TheVariants as faults
use Rattle.message_value.specs.Value.{Value, members, of_type, elements, entries, values_of, entries_of}
use Rattle.message_value.specs.Spelling.{padding, entry_alignment}
use Rattle.message_value.specs.Reading.{At, ◌>>=◌, item_at, aligned_at, signature_at, extent_at, each_at, Reader, members_at, entry_at, variant_at, array_at, dict_at, struct_at, bare_at, value_by, value_at}
use Rattle.message_value.specs.Steps.{ChecksAll}
use Rattle.message_value.specs.Forms.{basic_at}
use Rattle.message_value.specs.Answers.{Checks}

-- what was read stands in another value
pub Checks-map : {X Y Z : Type 0} (result : Result X MsgError) (tail : At) (read : Result (Y × At) MsgError) (f : Y → Z) → Checks result tail read
    → Checks result tail (read >>= λ found. Ok (f found.0, found.1))
Checks-map (Ok x) tail read f h = (f h.0, rw h.1 refl)
Checks-map (Err fault) tail read f h = rw h refl

-- the readers of what is inside
abbrev pub deeper : ℕ → Order → Result Reader MsgError
deeper zero order = Err faults.Depth
deeper (suc levels) order = Ok (value_at levels order)

-- a fault before the value
pub unaligned : (levels : ℕ) (order : Order) (type kind : DataType) (at : At) (fault : MsgError) → type ≡ kind → aligned_at (alignment_of kind) at ≡ Err fault → value_at levels order type at ≡ Err fault
unfolding value_by
unaligned levels order type kind at fault is e = rw is (go levels)
  where
    go : (levels : ℕ) → value_at levels order kind at ≡ Err fault
    go zero = rw e refl
    go (suc levels) = rw e refl

pub begun : (levels : ℕ) (order : Order) (type : DataType) (at start : At) → aligned_at (alignment_of type) at ≡ Ok start → value_at levels order type at ≡ bare_at (deeper levels order) order type start
unfolding value_by
begun zero order type at start e = rw e refl
begun (suc levels) order type at start e = rw e refl

pub basic_is : (levels : ℕ) (order : Order) (code : ℕ) (at : At) → value_at levels order (basic code) at ≡ basic_at order code at
unfolding value_by basic_at
basic_is zero order code at = refl
basic_is (suc levels) order code at = refl

-- each place is a multiple of one
pub aligned_one : (at : At) → aligned_at 1 at ≡ Ok at
unfolding aligned_at item_at
aligned_one at =
    let none : padding 1 at.place ≡ 0 = omega arith in
    let enough : nat_lt (length at.rest) 0 ≡ false = le-ltb _ _ (omega arith) in
    rw (none, add-zero, enough) refl

-- ---- by the parts of the type

abbrev pub is_container : DataType → Type 0
is_container (basic code) = ⊥
is_container _ = Unit {0}

deepest : (order : Order) (type : DataType) (start : At) → is_container type → bare_at (Err faults.Depth) order type start ≡ Err faults.Depth
deepest order (basic code) start c = absurd c
deepest order variant start c = refl
deepest order (array t) start c = refl
deepest order (dict k v) start c = refl
deepest order (struct t ts) start c = refl

-- no level is left
pub too_deep : (levels : ℕ) (order : Order) (type kind : DataType) (at start : At) (fault : MsgError) → type ≡ kind → is_container kind → aligned_at (alignment_of kind) at ≡ Ok start
    → (levels ≡ 0) × (fault ≡ faults.Depth) → value_at levels order type at ≡ Err fault
too_deep levels order type kind at start fault is c e deep =
    rw is (begun levels order kind at start e ∙ ap (λ (l : ℕ). bare_at (deeper l order) order kind start) deep.0 ∙ deepest order kind start c ∙ ap (λ (f : MsgError). Err f) (sym deep.1))

pub basic_checked : {X : Type 0} (result : Result X MsgError) (tail : At) (levels : ℕ) (order : Order) (type : DataType) (code : ℕ) (at : At) → type ≡ basic code
    → Checks result tail (basic_at order code at) → Checks result tail (value_at levels order type at)
basic_checked result tail levels order type code at is h = rw (is, basic_is levels order code at) h

-- one level deeper
inside : {X : Type 0} (result : Result X MsgError) (tail : At) (levels less : ℕ) (order : Order) (type : DataType) (at start : At) → levels ≡ suc less
    → aligned_at (alignment_of type) at ≡ Ok start → Checks result tail (bare_at (Ok (value_at less order)) order type start) → Checks result tail (value_at levels order type at)
inside result tail levels less order type at start one e h = rw (begun levels order type at start e, one) h

pub variant_checked : {X : Type 0} (result : Result X MsgError) (tail : At) (levels less : ℕ) (order : Order) (type : DataType) (at : At) → type ≡ variant → levels ≡ suc less
    → Checks result tail (variant_at (value_at less order) at) → Checks result tail (value_at levels order type at)
variant_checked result tail levels less order type at is one h =
    rw is (inside result tail levels less order variant at at one (aligned_one at) h)

pub array_checked : {X : Type 0} (result : Result X MsgError) (tail : At) (levels less : ℕ) (order : Order) (type t : DataType) (at start : At) → type ≡ array t → levels ≡ suc less
    → aligned_at 4 at ≡ Ok start → Checks result tail (array_at (value_at less order) order t start) → Checks result tail (value_at levels order type at)
array_checked result tail levels less order type t at start is one e h = rw is (inside result tail levels less order (array t) at start one e h)

pub dict_checked : {X : Type 0} (result : Result X MsgError) (tail : At) (levels less : ℕ) (order : Order) (type : DataType) (k : ℕ) (v : DataType) (at start : At) → type ≡ dict k v → levels ≡ suc less
    → aligned_at 4 at ≡ Ok start → Checks result tail (dict_at (value_at less order) order k v start) → Checks result tail (value_at levels order type at)
dict_checked result tail levels less order type k v at start is one e h = rw is (inside result tail levels less order (dict k v) at start one e h)

pub struct_checked : {X : Type 0} (result : Result X MsgError) (tail : At) (levels less : ℕ) (order : Order) (type t : DataType) (ts : DataTypes) (at start : At) → type ≡ struct t ts → levels ≡ suc less
    → aligned_at 8 at ≡ Ok start → Checks result tail (members_at (value_at less order) (one_more t ts) start) → Checks result tail (value_at levels order type at)
unfolding struct_at
struct_checked result tail levels less order type t ts at start is one e h =
    rw is (inside result tail levels less order (struct t ts) at start one e (Checks-map result tail (members_at (value_at less order) (one_more t ts) start) members h))

-- ---- a variant, an entry and arrays

pub no_signature_at : (reader : Reader) (at : At) (fault : MsgError) → signature_at at ≡ Err fault → variant_at reader at ≡ Err fault
unfolding variant_at
no_signature_at reader at fault e = rw e refl

pub after_signature : {X : Type 0} (result : Result X MsgError) (tail : At) (reader : Reader) (at middle : At) (type : DataType) → signature_at at ≡ Ok (type, middle)
    → Checks result tail (reader type middle) → Checks result tail (variant_at reader at)
unfolding variant_at
after_signature result tail reader at middle type e h = rw e (Checks-map result tail (reader type middle) (λ value. of_type type value) h)

-- the elements, and the place after the extent
extent_then : {X Y Z : Type 0} (result : Result X MsgError) (tail : At) (read : Result (List Y) MsgError) (f : List Y → Z) → ChecksAll result read
    → Checks result tail (read >>= λ found. Ok (f found, tail))
extent_then (Ok x) tail read f h = (f h.0, rw h.1 refl)
extent_then (Err fault) tail read f h = rw h refl

pub no_extent : (reader : Reader) (order : Order) (t : DataType) (alignment : ℕ) (at : At) (fault : MsgError) → alignment ≡ alignment_of t → extent_at order alignment at ≡ Err fault → array_at reader order t at ≡ Err fault
unfolding array_at
no_extent reader order t alignment at fault same e = let here = rw same at e in rw here refl

pub after_extent : {X : Type 0} (result : Result X MsgError) (tail : At) (reader : Reader) (order : Order) (t : DataType) (alignment : ℕ) (at inner : At) → alignment ≡ alignment_of t → extent_at order alignment at ≡ Ok (inner, tail)
    → ChecksAll result (each_at (reader t) (length inner.rest) inner) → Checks result tail (array_at reader order t at)
unfolding array_at
after_extent result tail reader order t alignment at inner same e h =
    let here = rw same at e in
    rw here (extent_then result tail (each_at (reader t) (length inner.rest) inner) (λ found. elements (values_of found)) h)

pub no_dict_extent : (reader : Reader) (order : Order) (k : ℕ) (v : DataType) (at : At) (fault : MsgError) → extent_at order entry_alignment at ≡ Err fault → dict_at reader order k v at ≡ Err fault
unfolding dict_at
no_dict_extent reader order k v at fault e = rw e refl

pub after_dict_extent : {X : Type 0} (result : Result X MsgError) (tail : At) (reader : Reader) (order : Order) (k : ℕ) (v : DataType) (at inner : At) → extent_at order entry_alignment at ≡ Ok (inner, tail)
    → ChecksAll result (each_at (entry_at reader k v) (length inner.rest) inner) → Checks result tail (dict_at reader order k v at)
unfolding dict_at
after_dict_extent result tail reader order k v at inner e h =
    rw e (extent_then result tail (each_at (entry_at reader k v) (length inner.rest) inner) (λ found. entries (entries_of found)) h)

pub unaligned_entry : (reader : Reader) (k : ℕ) (v : DataType) (at : At) (fault : MsgError) → aligned_at entry_alignment at ≡ Err fault → entry_at reader k v at ≡ Err fault
unfolding entry_at
unaligned_entry reader k v at fault e = rw e refl

pub no_key : (levels : ℕ) (order : Order) (k : ℕ) (v : DataType) (at start : At) (fault : MsgError) → aligned_at entry_alignment at ≡ Ok start → basic_at order k start ≡ Err fault
    → entry_at (value_at levels order) k v at ≡ Err fault
unfolding entry_at
no_key levels order k v at start fault e key = rw (e, basic_is levels order k start, key) refl

pub after_key : {X : Type 0} (result : Result X MsgError) (tail : At) (levels : ℕ) (order : Order) (k : ℕ) (v : DataType) (at start middle : At) → aligned_at entry_alignment at ≡ Ok start
    → (key : Value) × (basic_at order k start ≡ Ok (key, middle)) → Checks result tail (value_at levels order v middle) → Checks result tail (entry_at (value_at levels order) k v at)
unfolding entry_at
after_key result tail levels order k v at start middle e key h =
    rw (e, basic_is levels order k start, key.1) (Checks-map result tail (value_at levels order v middle) (λ value. (key.0, value)) h)

alignment_of_basic : (code : ℕ) → 0 < basic_alignment code
alignment_of_basic code = go (code == 121 || code == 103) (code == 110 || code == 113) (code == 120 || code == 116 || code == 100)
  where
    go : (a b c : Bool) → 0 < cond a 1 (cond b 2 (cond c 8 4))
    go true b c = omega arith
    go false true c = omega arith
    go false false true = omega arith
    go false false false = omega arith

pub alignment_some : (type : DataType) → 0 < alignment_of type
alignment_some (basic code) = alignment_of_basic code
alignment_some variant = omega arith
alignment_some (array t) = omega arith
alignment_some (dict k v) = omega arith
alignment_some (struct t ts) = omega arith
