-- What the reading of a value says of each step, where it gives something.
use Rattle.std.proofs.Common.{◌≡◌, ℕ, zero, suc, ◌-◌, ◌≤◌, true, false, cond, List, [], ◌∷◌, length, Result, Ok, Err, refl, sym, ap, subst, ◌∙◌, arith}
use Rattle.std.specs.Prelude.{◌==◌, ◌&&◌, nat_lt}
use Rattle.signature.specs.BasicType.{basic_alignment}
use Rattle.signature.specs.DataType.{DataType, DataTypes, basic, variant, array, dict, struct, no_types, one_more, slices, AllFit, TypeText}
use Rattle.signature.specs.Alignment.{alignment_of}
use Rattle.message_value.specs.declared.order.Order.{Order}
use Rattle.message_value.specs.declared.error.MsgError.{MsgError}
use Rattle.message_value.specs.declared.error.MsgError.TheVariants as faults
use Rattle.message_value.specs.declared.text.TextType.{TextType}
use Rattle.message_value.specs.declared.text.TextType.TheVariants as texts
use Rattle.message_value.specs.Order.{number_of}
use Rattle.message_value.specs.Value.{Value, Values, number, text, elements, entries, members, of_type, no_values, one_value, values_of, entries_of}
use Rattle.message_value.specs.Spelling.{number_len, width_of, entry_alignment}
use Rattle.message_value.specs.Fits.{is_text_code, max_array_len}
use Rattle.message_value.specs.Reading.{At, ◌>>=◌, item_at, aligned_at, word_at, inside, within_limit, extent_at, each_at, text_value_at, count_at, number_value_at, signature_at, Reader, members_at, entry_at, variant_at, array_at, dict_at, struct_at, bare_at, value_by, value_at, IsRead}
use Rattle.message_value.specs.Steps.{IsGone, Reaches}
use Rattle.message_value.specs.Forms.{basic_at}
use Rattle.message_value.specs.TextTypes.{text_code}
use Rattle.message_value.proofs.OkSteps.{bind_ok, ok_is, not_refused}
use Rattle.message_value.proofs.ReadShorter.{item_fits, word_fits}
use Rattle.message_value.proofs.ValueSteps.{deeper, begun, basic_is, is_container}
use Rattle.message_value.proofs.SkipTexts.{after}

-- the place after a value that stands in another
pub Reaches-map : {Y Z : Type 0} (tail : At) (read : Result (Y × At) MsgError) (f : Y → Z) → Reaches tail read → Reaches tail (read >>= λ found. Ok (f found.0, found.1))
Reaches-map tail read f h = λ found e.
    let s = bind_ok read (λ found. Ok (f found.0, found.1)) found e in
    h s.0 s.1 ∙ ap (λ (x : _ × At). x.1) {x = (f s.0.0, s.0.1)} (ok_is (f s.0.0, s.0.1) found s.2)

IsRead-map : {Y Z : Type 0} (read : Result (Y × At) MsgError) (f : Y → Z) → IsRead (read >>= λ found. Ok (f found.0, found.1)) → IsRead read
IsRead-map read f h = let s = bind_ok read (λ found. Ok (f found.0, found.1)) h.0 h.1 in (s.0, s.1)

-- ---- basic types

pub basic_gone : (order : Order) (code : ℕ) (at : At) → IsRead (basic_at order code at) → IsGone (aligned_at (basic_alignment code) at)
unfolding basic_at
basic_gone order code at h = let s = bind_ok (aligned_at (basic_alignment code) at) (λ start. cond (is_text_code code) (text_value_at order code start) (number_value_at order code start)) h.0 h.1 in (s.0, s.1)

basic_bare : (order : Order) (code : ℕ) (at start : At) (found : Value × At) → aligned_at (basic_alignment code) at ≡ Ok start → basic_at order code at ≡ Ok found → cond (is_text_code code) (text_value_at order code start) (number_value_at order code start) ≡ Ok found
unfolding basic_at
basic_bare order code at start found is e = after (aligned_at (basic_alignment code) at) (λ start. cond (is_text_code code) (text_value_at order code start) (number_value_at order code start)) start found e is

is_text : (type : TextType) → is_text_code (text_code type) ≡ true
is_text texts.String = refl
is_text texts.ObjectPath = refl
is_text texts.Signature = refl

pub basic_text : (order : Order) (code : ℕ) (type : TextType) (at start : At) (found : Value × At) → aligned_at (basic_alignment code) at ≡ Ok start → code ≡ text_code type → basic_at order code at ≡ Ok found → text_value_at order (text_code type) start ≡ Ok found
basic_text order code type at start found is same e =
    let h = basic_bare order code at start found is e in
    let here = rw same at h in
    rw (is_text type) at here

pub basic_number : (order : Order) (code : ℕ) (at start : At) (found : Value × At) → aligned_at (basic_alignment code) at ≡ Ok start → is_text_code code ≡ false → basic_at order code at ≡ Ok found → number_value_at order code start ≡ Ok found
basic_number order code at start found is none e = rw none at (basic_bare order code at start found is e)

pub number_fits : (order : Order) (code : ℕ) (at : At) (found : Value × At) → number_value_at order code at ≡ Ok found → number_len code ≤ length at.rest
unfolding number_value_at
number_fits order code at found e =
    let s = bind_ok (item_at (number_len code) at) (λ bytes. count_at code (number_of order (width_of code) bytes.0) bytes.1) found e in
    let h = item_fits (number_len code) at s.0 s.1 in
    omega arith

pub number_end : (order : Order) (code : ℕ) (at : At) (item : List ℕ × At) (found : Value × At) → number_value_at order code at ≡ Ok found → item_at (number_len code) at ≡ Ok item → item.1 ≡ found.1
unfolding number_value_at
number_end order code at item found e is =
    let h = after (item_at (number_len code) at) (λ bytes. count_at code (number_of order (width_of code) bytes.0) bytes.1) item found e is in
    let bits = number_of order (width_of code) item.0 in
    let made : Value × At = (number bits, item.1) in
    let t = not_refused (code == 98 && nat_lt 1 bits) faults.BadBool (Ok made) found h in
    ap (λ (x : Value × At). x.1) {x = made} (ok_is made found t.1)

-- ---- the extent of an array

abbrev extent_of : Order → ℕ → ℕ × At → Result (At × At) MsgError
extent_of order alignment len = within_limit len.0 len.1 >>= λ tail. aligned_at alignment tail >>= λ start. item_at len.0 start >>= λ bytes. Ok (inside start.place bytes.0, bytes.1)

pub extent_fits : (order : Order) (alignment : ℕ) (at : At) (found : At × At) → extent_at order alignment at ≡ Ok found → 4 ≤ length at.rest
unfolding extent_at
extent_fits order alignment at found e = let s = bind_ok (word_at order at) (extent_of order alignment) found e in word_fits order at s.0 s.1

-- its steps after the length
pub record ExtentSteps (alignment len : ℕ) (at : At) (found : At × At) : Type 0 where
  pub start : At
  pub gone : aligned_at alignment at ≡ Ok start
  pub item : List ℕ × At
  pub read : item_at len start ≡ Ok item
  pub tail : item.1 ≡ found.1

pub extent_steps : (order : Order) (alignment : ℕ) (at : At) (len : ℕ) (middle : At) (found : At × At) → extent_at order alignment at ≡ Ok found → word_at order at ≡ Ok (len, middle) → ExtentSteps alignment len middle found
unfolding extent_at
extent_steps order alignment at len middle found e is =
    let word : ℕ × At = (len, middle) in
    let h = after (word_at order at) (extent_of order alignment) word found e is in
    let rest : At → Result (At × At) MsgError = λ tail. aligned_at alignment tail >>= λ start. item_at len start >>= λ bytes. Ok (inside start.place bytes.0, bytes.1) in
    let l = bind_ok (within_limit len middle) (λ tail. aligned_at alignment tail >>= λ start. item_at len start >>= λ bytes. Ok (inside start.place bytes.0, bytes.1)) found h in
    let limit = not_refused (nat_lt max_array_len len) faults.ArrayLength (Ok middle) l.0 l.1 in
    let same : middle ≡ l.0 = ok_is middle l.0 limit.1 in
    let s = bind_ok (aligned_at alignment l.0) (λ start. item_at len start >>= λ bytes. Ok (inside start.place bytes.0, bytes.1)) found l.2 in
    let i = bind_ok (item_at len s.0) (λ bytes. Ok (inside s.0.place bytes.0, bytes.1)) found s.2 in
    let made : At × At = (inside s.0.place i.0.0, i.0.1) in
    record { start = s.0; gone = ap (aligned_at alignment) same ∙ s.1; item = i.0; read = i.1; tail = ap (λ (x : At × At). x.1) {x = made} (ok_is made found i.2) }

pub same_at : (alignment : ℕ) (at x y : At) → aligned_at alignment at ≡ Ok x → aligned_at alignment at ≡ Ok y → x ≡ y
same_at alignment at x y a b = cc

pub item_end : (alignment len : ℕ) (at : At) (found : At × At) (start : At) (item : List ℕ × At) → ExtentSteps alignment len at found → aligned_at alignment at ≡ Ok start → item_at len start ≡ Ok item → item.1 ≡ found.1
item_end alignment len at found start item steps gone is =
    let same : steps.start ≡ start = same_at alignment at steps.start start steps.gone gone in
    let read = subst (λ (x : At). item_at len x ≡ Ok steps.item) same steps.read in
    let one : item ≡ steps.item = cc in
    ap (λ (x : List ℕ × At). x.1) one ∙ steps.tail

pub item_there : (alignment len : ℕ) (at : At) (found : At × At) (start : At) → ExtentSteps alignment len at found → aligned_at alignment at ≡ Ok start → len ≤ length start.rest
item_there alignment len at found start steps gone =
    let same : steps.start ≡ start = same_at alignment at steps.start start steps.gone gone in
    let read = subst (λ (x : At). item_at len x ≡ Ok steps.item) same steps.read in
    let fits = item_fits len start steps.item read in
    omega arith

-- ---- values

pub value_gone : (levels : ℕ) (order : Order) (type : DataType) (at : At) → IsRead (value_at levels order type at) → IsGone (aligned_at (alignment_of type) at)
unfolding value_by
value_gone zero order type at h = let s = bind_ok (aligned_at (alignment_of type) at) (bare_at (Err faults.Depth) order type) h.0 h.1 in (s.0, s.1)
value_gone (suc levels) order type at h = let s = bind_ok (aligned_at (alignment_of type) at) (bare_at (Ok (value_at levels order)) order type) h.0 h.1 in (s.0, s.1)

-- a value that takes a level has one
some_level : (levels : ℕ) (order : Order) (type : DataType) (start : At) → is_container type → IsRead (bare_at (deeper levels order) order type start) → (less : ℕ) × (levels ≡ suc less)
some_level zero order (basic code) start c h = absurd c
some_level zero order variant start c h = absurd (let e = h.1 in cc)
some_level zero order (array t) start c h = absurd (let e = h.1 in cc)
some_level zero order (dict k v) start c h = absurd (let e = h.1 in cc)
some_level zero order (struct t ts) start c h = absurd (let e = h.1 in cc)
some_level (suc levels) order type start c h = (levels, refl)

pub kind_gone : (levels : ℕ) (order : Order) (type kind : DataType) (at : At) → type ≡ kind → IsRead (value_at levels order type at) → IsGone (aligned_at (alignment_of kind) at)
kind_gone levels order type kind at is h = value_gone levels order kind at (h.0, ap (λ (t : DataType). value_at levels order t at) (sym is) ∙ h.1)

-- a container after its padding
pub opened : (levels : ℕ) (order : Order) (type kind : DataType) (at start : At) → type ≡ kind → is_container kind → aligned_at (alignment_of kind) at ≡ Ok start → IsRead (value_at levels order type at)
    → (1 ≤ levels) × (value_at levels order type at ≡ bare_at (Ok (value_at (levels - 1) order)) order kind start)
opened levels order type kind at start is c gone h =
    let b = begun levels order kind at start gone in
    let same = ap (λ (t : DataType). value_at levels order t at) is ∙ b in
    let bare : IsRead (bare_at (deeper levels order) order kind start) = (h.0, sym {a = value_at levels order type at} same ∙ h.1) in
    let l = some_level levels order kind start c bare in
    let one : levels ≡ suc (levels - 1) = omega (arith, l.1) in
    (omega (arith, l.1), same ∙ ap (λ (k : ℕ). bare_at (deeper k order) order kind start) one)

pub basic_same : (levels : ℕ) (order : Order) (type : DataType) (code : ℕ) (at : At) → type ≡ basic code → value_at levels order type at ≡ basic_at order code at
basic_same levels order type code at is = ap (λ (t : DataType). value_at levels order t at) is ∙ basic_is levels order code at

-- what the whole gives, it gives too
pub read_same : {Y : Type 0} (read whole : Result (Y × At) MsgError) → whole ≡ read → IsRead whole → IsRead read
read_same read whole same h = (h.0, sym same ∙ h.1)

-- the place after what is read is that of the whole
pub Reaches-same : {Y : Type 0} (tail : At) (read whole : Result (Y × At) MsgError) → whole ≡ read → Reaches tail read → Reaches tail whole
Reaches-same tail read whole same h = λ found e. h found (sym same ∙ e)

pub array_extent : (reader : Reader) (order : Order) (t : DataType) (at : At) → IsRead (array_at reader order t at) → IsRead (extent_at order (alignment_of t) at)
unfolding array_at
array_extent reader order t at h =
    let s = bind_ok (extent_at order (alignment_of t) at) (λ extent. each_at (reader t) (length extent.0.rest) extent.0 >>= λ found. Ok (elements (values_of found), extent.1)) h.0 h.1 in
    (s.0, s.1)

pub array_end : (tail : At) (reader : Reader) (order : Order) (t : DataType) (at : At) → Reaches tail (extent_at order (alignment_of t) at) → Reaches tail (array_at reader order t at)
unfolding array_at
array_end tail reader order t at h = λ found e.
    let s = bind_ok (extent_at order (alignment_of t) at) (λ extent. each_at (reader t) (length extent.0.rest) extent.0 >>= λ found. Ok (elements (values_of found), extent.1)) found e in
    let all = bind_ok (each_at (reader t) (length s.0.0.rest) s.0.0) (λ found. Ok (elements (values_of found), s.0.1)) found s.2 in
    let made : Value × At = (elements (values_of all.0), s.0.1) in
    h s.0 s.1 ∙ ap (λ (x : Value × At). x.1) {x = made} (ok_is made found all.2)

pub dict_extent : (reader : Reader) (order : Order) (k : ℕ) (v : DataType) (at : At) → IsRead (dict_at reader order k v at) → IsRead (extent_at order entry_alignment at)
unfolding dict_at
dict_extent reader order k v at h =
    let s = bind_ok (extent_at order entry_alignment at) (λ extent. each_at (entry_at reader k v) (length extent.0.rest) extent.0 >>= λ found. Ok (entries (entries_of found), extent.1)) h.0 h.1 in
    (s.0, s.1)

pub dict_end : (tail : At) (reader : Reader) (order : Order) (k : ℕ) (v : DataType) (at : At) → Reaches tail (extent_at order entry_alignment at) → Reaches tail (dict_at reader order k v at)
unfolding dict_at
dict_end tail reader order k v at h = λ found e.
    let s = bind_ok (extent_at order entry_alignment at) (λ extent. each_at (entry_at reader k v) (length extent.0.rest) extent.0 >>= λ found. Ok (entries (entries_of found), extent.1)) found e in
    let all = bind_ok (each_at (entry_at reader k v) (length s.0.0.rest) s.0.0) (λ found. Ok (entries (entries_of found), s.0.1)) found s.2 in
    let made : Value × At = (entries (entries_of all.0), s.0.1) in
    h s.0 s.1 ∙ ap (λ (x : Value × At). x.1) {x = made} (ok_is made found all.2)

pub struct_read : (reader : Reader) (t : DataType) (ts : DataTypes) (at : At) → IsRead (struct_at reader t ts at) → IsRead (members_at reader (one_more t ts) at)
unfolding struct_at
struct_read reader t ts at h = IsRead-map (members_at reader (one_more t ts) at) members h

pub struct_end : (tail : At) (reader : Reader) (t : DataType) (ts : DataTypes) (at : At) → Reaches tail (members_at reader (one_more t ts) at) → Reaches tail (struct_at reader t ts at)
unfolding struct_at
struct_end tail reader t ts at h = Reaches-map tail (members_at reader (one_more t ts) at) members h

pub variant_signature : (reader : Reader) (at : At) → IsRead (variant_at reader at) → IsRead (signature_at at)
unfolding variant_at
variant_signature reader at h = let s = bind_ok (signature_at at) (λ type. reader type.0 type.1 >>= λ value. Ok (of_type type.0 value.0, value.1)) h.0 h.1 in (s.0, s.1)

pub variant_value : (reader : Reader) (at middle : At) (type : DataType) → signature_at at ≡ Ok (type, middle) → IsRead (variant_at reader at) → IsRead (reader type middle)
unfolding variant_at
variant_value reader at middle type is h =
    let word : DataType × At = (type, middle) in
    IsRead-map (reader type middle) (λ value. of_type type value) (h.0, after (signature_at at) (λ type. reader type.0 type.1 >>= λ value. Ok (of_type type.0 value.0, value.1)) word h.0 h.1 is)

pub variant_end : (tail : At) (reader : Reader) (at middle : At) (type : DataType) → signature_at at ≡ Ok (type, middle) → Reaches tail (reader type middle) → Reaches tail (variant_at reader at)
unfolding variant_at
variant_end tail reader at middle type is h = λ found e.
    let word : DataType × At = (type, middle) in
    Reaches-map tail (reader type middle) (λ value. of_type type value) h found (after (signature_at at) (λ type. reader type.0 type.1 >>= λ value. Ok (of_type type.0 value.0, value.1)) word found e is)

-- ---- members

-- the types that are left are those of values that are there, which end where all do
pub record MembersAhead (texts : List (List ℕ)) (reader : Reader) (at : At) (tail : At) : Type 0 where
  pub types : DataTypes
  pub spelled : texts ≡ slices types
  pub fit : AllFit 0 0 types
  pub values : Values
  pub read : members_at reader types at ≡ Ok (values, tail)

pub record NextAhead (front : List ℕ) (after : List (List ℕ)) (reader : Reader) (at : At) (tail : At) : Type 0 where
  pub type : DataType
  pub spelled : TypeText type front
  pub read : IsRead (reader type at)
  pub on : (middle : At) → Reaches middle (reader type at) → MembersAhead after reader middle tail

pub next_ahead : (texts : List (List ℕ)) (front : List ℕ) (more : List (List ℕ)) (reader : Reader) (at tail : At) → MembersAhead texts reader at tail → texts ≡ front ∷ more → NextAhead front more reader at tail
next_ahead texts front more reader at tail ahead is = go ahead.types (sym is ∙ ahead.spelled) ahead.fit ahead.read
  where
    go : (types : DataTypes) → front ∷ more ≡ slices types → AllFit 0 0 types → members_at reader types at ≡ Ok (ahead.values, tail) → NextAhead front more reader at tail
    go no_types e fit read = absurd cc
    go (one_more t ts) e fit read =
        let all : Values × At = (ahead.values, tail) in
        let s = bind_ok (reader t at) (λ value. members_at reader ts value.1 >>= λ more. Ok (one_value value.0 more.0, more.1)) all read in
        let m = bind_ok (members_at reader ts s.0.1) (λ more. Ok (one_value s.0.0 more.0, more.1)) all s.2 in
        let made : Values × At = (one_value s.0.0 m.0.0, m.0.1) in
        let end : m.0.1 ≡ tail = ap (λ (x : Values × At). x.1) {x = made} (ok_is made all m.2) in
        record {
          type = t;
          spelled = record { spelled = cc; fits = fit.0 };
          read = (s.0, s.1);
          on = λ middle h.
              let here : middle ≡ s.0.1 = h s.0 s.1 in
              record { types = ts; spelled = cc; fit = fit.1; values = m.0.0; read = ap (members_at reader ts) here ∙ m.1 ∙ ap (λ (x : At). Ok (m.0.0, x)) end };
        }

pub all_ahead : (texts : List (List ℕ)) (reader : Reader) (at : At) (types : DataTypes) (found : Values × At) → texts ≡ slices types → AllFit 0 0 types → members_at reader types at ≡ Ok found → MembersAhead texts reader at found.1
all_ahead texts reader at types found is fit e = record { types = types; spelled = is; fit = fit; values = found.0; read = e }

pub ahead_end : (texts : List (List ℕ)) (reader : Reader) (at tail : At) → MembersAhead texts reader at tail → texts ≡ [] → at ≡ tail
ahead_end texts reader at tail ahead is = go ahead.types (sym is ∙ ahead.spelled) ahead.read
  where
    go : (types : DataTypes) → [] ≡ slices types → members_at reader types at ≡ Ok (ahead.values, tail) → at ≡ tail
    go no_types e read = let made : Values × At = (no_values, at) in let all : Values × At = (ahead.values, tail) in ap (λ (x : Values × At). x.1) {x = made} (ok_is made all read)
    go (one_more t ts) e read = absurd cc

-- ---- the items of basic types

pub text_end : (order : Order) (code : ℕ) (type : TextType) (at start : At) (bytes : List ℕ) (tail : At) → aligned_at (basic_alignment code) at ≡ Ok start → code ≡ text_code type
    → text_value_at order (text_code type) start ≡ Ok (text bytes, tail) → Reaches tail (basic_at order code at)
text_end order code type at start bytes tail gone same is = λ found e.
    let made : Value × At = (text bytes, tail) in
    let all : text_value_at order (text_code type) start ≡ Ok found = basic_text order code type at start found gone same e in
    let one : made ≡ found = ok_is made found (sym {a = text_value_at order (text_code type) start} is ∙ all) in
    ap (λ (x : Value × At). x.1) {x = made} one

pub number_there : (order : Order) (code len : ℕ) (at start : At) → aligned_at (basic_alignment code) at ≡ Ok start → is_text_code code ≡ false → number_len code ≡ len → IsRead (basic_at order code at) → len ≤ length start.rest
number_there order code len at start gone none same h =
    let fits = number_fits order code start h.0 (basic_number order code at start h.0 gone none h.1) in
    omega arith

pub number_place : (order : Order) (code len : ℕ) (at start : At) (bytes : List ℕ) (tail : At) → aligned_at (basic_alignment code) at ≡ Ok start → is_text_code code ≡ false → number_len code ≡ len
    → item_at len start ≡ Ok (bytes, tail) → Reaches tail (basic_at order code at)
number_place order code len at start bytes tail gone none same is = λ found e.
    number_end order code start (bytes, tail) found (basic_number order code at start found gone none e) (ap (λ (n : ℕ). item_at n start) same ∙ is)

-- a boolean is a number of four bytes
pub boolean_none : (code : ℕ) → code ≡ 98 → is_text_code code ≡ false
boolean_none code is = rw is refl

pub boolean_len : (code : ℕ) → code ≡ 98 → number_len code ≡ 4
boolean_len code is = rw is refl
