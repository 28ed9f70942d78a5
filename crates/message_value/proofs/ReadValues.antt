-- Values: what is read is spelled so and fits, and what is spelled so is read again.
use Rattle.std.proofs.Common.{◌≡◌, ℕ, zero, suc, ◌+◌, ◌<◌, ◌≤◌, List, [], ◌∷◌, ◌++◌, length, Result, Ok, Err, refl, sym, ap, subst, ◌∙◌, append_assoc, arith}
use Rattle.std.proofs.lemmas.List.{length-append}
use Rattle.signature.specs.DataType.{DataType, DataTypes, basic, variant, array, dict, struct, no_types, one_more}
use Rattle.signature.specs.Alignment.{alignment_of}
use Rattle.message_value.specs.declared.order.Order.{Order}
use Rattle.message_value.specs.declared.error.MsgError.{MsgError}
use Rattle.message_value.specs.declared.error.MsgError.TheVariants as faults
use Rattle.message_value.specs.Value.{Value, Values, Entries, elements, entries, members, of_type, no_values, one_value, no_entries, one_entry, values_of, entries_of}
use Rattle.message_value.specs.Spelling.{padding, align_up, zeros, bytes_then, signature_bytes, elements_place, array_bytes, entry_alignment, bare_bytes, elements_bytes, entries_bytes, members_bytes, value_bytes, entry_bytes}
use Rattle.message_value.specs.Fits.{max_array_len, BareFits, ElementsFit, EntriesFit, MembersFit, ValueFits}
use Rattle.message_value.specs.Reading.{◌>>=◌, At, Reader, aligned_at, inside, extent_at, each_at, signature_at, members_at, entry_at, variant_at, array_at, dict_at, struct_at, bare_at, value_by, value_at}
use Rattle.message_value.proofs.OkSteps.{bind_ok, ok_is}
use Rattle.message_value.proofs.WordBytes.{IsBytes}
use Rattle.message_value.proofs.ReadItems.{at, Takes, Takes-then, Takes-nothing, aligned_takes, aligned_again, length-padded}
use Rattle.message_value.proofs.ReadTexts.{basic_takes, basic_again, signature_takes, signature_again}
use Rattle.message_value.proofs.ReadArrays.{each_bytes, EachFits, each_takes, each_again, extent_takes, extent_again}
use Rattle.message_value.proofs.ValueSizes.{value_bytes_pos, entry_bytes_pos}

-- ---- readers of values

-- what is read is spelled so and fits
abbrev pub ReaderTakes : ℕ → Order → Reader → Type 0
ReaderTakes levels order reader = (type : DataType) (a : At) (found : Value × At) → IsBytes a.rest → reader type a ≡ Ok found → Takes a (value_bytes order a.place type found.0) found.1 × ValueFits order levels a.place type found.0

-- what fits is read again where it is spelled
abbrev pub ReaderAgain : ℕ → Order → Reader → Type 0
ReaderAgain levels order reader = (type : DataType) (place : ℕ) (outside : MsgError) (value : Value) (rest : List ℕ) → ValueFits order levels place type value
    → reader type (at place (value_bytes order place type value ++ rest) outside) ≡ Ok (value, at (place + length (value_bytes order place type value)) rest outside)

-- ---- members

abbrev pub TypesTakes : ℕ → Order → Reader → DataTypes → Type 0
TypesTakes levels order reader types = (a : At) (found : Values × At) → IsBytes a.rest → members_at reader types a ≡ Ok found → Takes a (members_bytes order a.place types found.0) found.1 × MembersFit order levels a.place types found.0

pub types_take : (levels : ℕ) (order : Order) (reader : Reader) → ReaderTakes levels order reader → (types : DataTypes) → TypesTakes levels order reader types
types_take levels order reader takes no_types a found fits e =
    let made : Values × At = (no_values, a) in
    subst (λ (f : Values × At). Takes a (members_bytes order a.place no_types f.0) f.1 × MembersFit order levels a.place no_types f.0) {x = made} (ok_is made found e) (Takes-nothing a, tt)
types_take levels order reader takes (one_more t ts) a found fits e =
    let v = bind_ok (reader t a) (λ value. members_at reader ts value.1 >>= λ more. Ok (one_value value.0 more.0, more.1)) found e in
    let m = bind_ok (members_at reader ts v.0.1) (λ more. Ok (one_value v.0.0 more.0, more.1)) found v.2 in
    let first = takes t a v.0 fits v.1 in
    let more = types_take levels order reader takes ts v.0.1 m.0 (first.0.fits fits) m.1 in
    let bytes = value_bytes order a.place t v.0.0 in
    let tail : v.0.1.place ≡ a.place + length bytes = first.0.place in
    let here : Takes v.0.1 (members_bytes order (a.place + length bytes) ts m.0.0) m.0.1 × MembersFit order levels (a.place + length bytes) ts m.0.0 = subst (λ (k : ℕ). Takes v.0.1 (members_bytes order k ts m.0.0) m.0.1 × MembersFit order levels k ts m.0.0) tail more in
    let both = Takes-then a bytes v.0.1 (members_bytes order (a.place + length bytes) ts m.0.0) m.0.1 first.0 here.0 in
    let made : Values × At = (one_value v.0.0 m.0.0, m.0.1) in
    subst (λ (f : Values × At). Takes a (members_bytes order a.place (one_more t ts) f.0) f.1 × MembersFit order levels a.place (one_more t ts) f.0) {x = made} (ok_is made found m.2) (both, (first.1, here.1))

pub types_again : (levels : ℕ) (order : Order) (reader : Reader) → ReaderAgain levels order reader → (types : DataTypes) (place : ℕ) (outside : MsgError) (values : Values) (rest : List ℕ) → MembersFit order levels place types values
    → members_at reader types (at place (members_bytes order place types values ++ rest) outside) ≡ Ok (values, at (place + length (members_bytes order place types values)) rest outside)
types_again levels order reader again no_types place outside no_values rest has = let same : place ≡ place + 0 = omega arith in ap (λ (k : ℕ). Ok (no_values, at k rest outside)) same
types_again levels order reader again no_types place outside (one_value v vs) rest has = absurd has
types_again levels order reader again (one_more t ts) place outside no_values rest has = absurd has
types_again levels order reader again (one_more t ts) place outside (one_value v vs) rest has =
    let bytes = value_bytes order place t v in
    let more = members_bytes order (place + length bytes) ts vs in
    let end : place + length bytes + length more ≡ place + length (bytes ++ more) = omega (arith, length-append bytes more) in
    ap (λ (x : List ℕ). members_at reader (one_more t ts) (at place x outside)) (append_assoc bytes more rest)
    ∙ rw (again t place outside v (more ++ rest) has.0, types_again levels order reader again ts (place + length bytes) outside vs rest has.1) (ap (λ (k : ℕ). Ok (one_value v vs, at k rest outside)) end)

struct_takes : (levels : ℕ) (order : Order) (reader : Reader) → ReaderTakes levels order reader → (t : DataType) (ts : DataTypes) (a : At) (found : Value × At) → IsBytes a.rest → struct_at reader t ts a ≡ Ok found
    → Takes a (bare_bytes order a.place (struct t ts) found.0) found.1 × BareFits order (suc levels) a.place (struct t ts) found.0
unfolding struct_at
struct_takes levels order reader takes t ts a found fits e =
    let m = bind_ok (members_at reader (one_more t ts) a) (λ found. Ok (members found.0, found.1)) found e in
    let made : Value × At = (members m.0.0, m.0.1) in
    subst (λ (f : Value × At). Takes a (bare_bytes order a.place (struct t ts) f.0) f.1 × BareFits order (suc levels) a.place (struct t ts) f.0) {x = made} (ok_is made found m.2) (types_take levels order reader takes (one_more t ts) a m.0 fits m.1)

struct_again : (levels : ℕ) (order : Order) (reader : Reader) → ReaderAgain levels order reader → (t : DataType) (ts : DataTypes) (place : ℕ) (outside : MsgError) (values : Values) (rest : List ℕ) → MembersFit order levels place (one_more t ts) values
    → struct_at reader t ts (at place (members_bytes order place (one_more t ts) values ++ rest) outside) ≡ Ok (members values, at (place + length (members_bytes order place (one_more t ts) values)) rest outside)
unfolding struct_at
struct_again levels order reader again t ts place outside values rest has =
    ap (λ r. r >>= λ found. Ok (members found.0, found.1)) (types_again levels order reader again (one_more t ts) place outside values rest has)

-- ---- variants

variant_takes : (levels : ℕ) (order : Order) (reader : Reader) → ReaderTakes levels order reader → (a : At) (found : Value × At) → IsBytes a.rest → variant_at reader a ≡ Ok found
    → Takes a (bare_bytes order a.place variant found.0) found.1 × BareFits order (suc levels) a.place variant found.0
unfolding variant_at
variant_takes levels order reader takes a found fits e =
    let s = bind_ok (signature_at a) (λ type. reader type.0 type.1 >>= λ value. Ok (of_type type.0 value.0, value.1)) found e in
    let v = bind_ok (reader s.0.0 s.0.1) (λ value. Ok (of_type s.0.0 value.0, value.1)) found s.2 in
    let first = signature_takes a s.0 s.1 in
    let second = takes s.0.0 s.0.1 v.0 (first.0.fits fits) v.1 in
    let start = a.place + length (signature_bytes s.0.0) in
    let here : Takes s.0.1 (value_bytes order start s.0.0 v.0.0) v.0.1 × ValueFits order levels start s.0.0 v.0.0 = subst (λ (k : ℕ). Takes s.0.1 (value_bytes order k s.0.0 v.0.0) v.0.1 × ValueFits order levels k s.0.0 v.0.0) first.0.place second in
    let both = Takes-then a (signature_bytes s.0.0) s.0.1 (value_bytes order start s.0.0 v.0.0) v.0.1 first.0 here.0 in
    let made : Value × At = (of_type s.0.0 v.0.0, v.0.1) in
    subst (λ (f : Value × At). Takes a (bare_bytes order a.place variant f.0) f.1 × BareFits order (suc levels) a.place variant f.0) {x = made} (ok_is made found v.2) (both, (first.1, here.1))

variant_again : (levels : ℕ) (order : Order) (reader : Reader) → ReaderAgain levels order reader → (type : DataType) (place : ℕ) (outside : MsgError) (value : Value) (rest : List ℕ) → BareFits order (suc levels) place variant (of_type type value)
    → variant_at reader (at place (bare_bytes order place variant (of_type type value) ++ rest) outside) ≡ Ok (of_type type value, at (place + length (bare_bytes order place variant (of_type type value))) rest outside)
unfolding variant_at
variant_again levels order reader again type place outside value rest has =
    let word = signature_bytes type in
    let bytes = value_bytes order (place + length word) type value in
    let end : place + length word + length bytes ≡ place + length (word ++ bytes) = omega (arith, length-append word bytes) in
    ap (λ (x : List ℕ). variant_at reader (at place x outside)) (append_assoc word bytes rest)
    ∙ rw (signature_again type place outside (bytes ++ rest) has.0, again type (place + length word) outside value rest has.1) (ap (λ (k : ℕ). Ok (of_type type value, at k rest outside)) end)

-- ---- arrays

abbrev list_of : Values → List Value
list_of no_values = []
list_of (one_value v vs) = v ∷ list_of vs

values_of-list_of : (vs : Values) → values_of (list_of vs) ≡ vs
values_of-list_of no_values = refl
values_of-list_of (one_value v vs) = ap (λ (more : Values). one_value v more) (values_of-list_of vs)

abbrev element_bytes : Order → DataType → ℕ → Value → List ℕ
element_bytes order t place value = value_bytes order place t value

abbrev ElementFits : Order → ℕ → DataType → ℕ → Value → Type 0
ElementFits order levels t place value = ValueFits order levels place t value

elements_are : (order : Order) (place : ℕ) (t : DataType) (xs : List Value) → each_bytes (element_bytes order t) place xs ≡ elements_bytes order place t (values_of xs)
elements_are order place t [] = refl
elements_are order place t (x ∷ xs) =
    let first = value_bytes order place t x in
    ap (λ (l : List ℕ). first ++ l) (elements_are order (place + length first) t xs)

elements_fit : (order : Order) (levels place : ℕ) (t : DataType) (xs : List Value) → EachFits (element_bytes order t) (ElementFits order levels t) place xs → ElementsFit order levels place t (values_of xs)
elements_fit order levels place t [] fit = tt
elements_fit order levels place t (x ∷ xs) fit = (fit.0, elements_fit order levels (place + length (value_bytes order place t x)) t xs fit.1)

each_element_fits : (order : Order) (levels place : ℕ) (t : DataType) (vs : Values) → ElementsFit order levels place t vs → EachFits (element_bytes order t) (ElementFits order levels t) place (list_of vs)
each_element_fits order levels place t no_values fit = tt
each_element_fits order levels place t (one_value v vs) fit = (fit.0, each_element_fits order levels (place + length (value_bytes order place t v)) t vs fit.1)

array_takes : (levels : ℕ) (order : Order) (reader : Reader) → ReaderTakes levels order reader → (t : DataType) (a : At) (found : Value × At) → IsBytes a.rest → array_at reader order t a ≡ Ok found
    → Takes a (bare_bytes order a.place (array t) found.0) found.1 × BareFits order (suc levels) a.place (array t) found.0
unfolding array_at
array_takes levels order reader takes t a found fits e =
    let x = bind_ok (extent_at order (alignment_of t) a) (λ extent. each_at (reader t) (length extent.0.rest) extent.0 >>= λ found. Ok (elements (values_of found), extent.1)) found e in
    let b = bind_ok (each_at (reader t) (length x.0.0.rest) x.0.0) (λ found. Ok (elements (values_of found), x.0.1)) found x.2 in
    let extent = extent_takes order (alignment_of t) a x.0 fits x.1 in
    let each = each_takes (reader t) (element_bytes order t) (ElementFits order levels t) (λ a found. takes t a found) (λ place value. value_bytes_pos order levels place t value) (length x.0.0.rest) x.0.0 b.0 extent.fits (omega arith) b.1 in
    let start = elements_place (alignment_of t) a.place in
    let spelled : x.0.0.rest ≡ elements_bytes order start t (values_of b.0) = each.0 ∙ elements_are order x.0.0.place t b.0 ∙ ap (λ (k : ℕ). elements_bytes order k t (values_of b.0)) extent.place in
    let fit : ElementsFit order levels start t (values_of b.0) = subst (λ (k : ℕ). ElementsFit order levels k t (values_of b.0)) extent.place (elements_fit order levels x.0.0.place t b.0 each.1) in
    let whole : Takes a (array_bytes order (alignment_of t) a.place (elements_bytes order start t (values_of b.0))) x.0.1 × (length (elements_bytes order start t (values_of b.0)) ≤ max_array_len) = subst (λ (l : List ℕ). Takes a (array_bytes order (alignment_of t) a.place l) x.0.1 × (length l ≤ max_array_len)) spelled (extent.takes, extent.short) in
    let made : Value × At = (elements (values_of b.0), x.0.1) in
    subst (λ (f : Value × At). Takes a (bare_bytes order a.place (array t) f.0) f.1 × BareFits order (suc levels) a.place (array t) f.0) {x = made} (ok_is made found b.2) (whole.0, (whole.1, fit))

array_again : (levels : ℕ) (order : Order) (reader : Reader) → ReaderAgain levels order reader → (t : DataType) (place : ℕ) (outside : MsgError) (vs : Values) (rest : List ℕ) → BareFits order (suc levels) place (array t) (elements vs)
    → array_at reader order t (at place (bare_bytes order place (array t) (elements vs) ++ rest) outside) ≡ Ok (elements vs, at (place + length (bare_bytes order place (array t) (elements vs))) rest outside)
unfolding array_at
array_again levels order reader again t place outside vs rest has =
    let start = elements_place (alignment_of t) place in
    let bytes = elements_bytes order start t vs in
    let are : each_bytes (element_bytes order t) start (list_of vs) ≡ bytes = elements_are order start t (list_of vs) ∙ ap (λ (l : Values). elements_bytes order start t l) (values_of-list_of vs) in
    let each = each_again (reader t) (element_bytes order t) (ElementFits order levels t) (λ place outside value rest. again t place outside value rest) (λ place value. value_bytes_pos order levels place t value) (length bytes) start faults.ArrayLength (list_of vs) (each_element_fits order levels start t vs has.1) (omega (arith, ap (λ (l : List ℕ). length l) are)) in
    let found : each_at (reader t) (length bytes) (inside start bytes) ≡ Ok (list_of vs) = subst (λ (l : List ℕ). each_at (reader t) (length bytes) (inside start l) ≡ Ok (list_of vs)) are each in
    rw (extent_again order (alignment_of t) place outside bytes rest has.0, found, values_of-list_of vs) refl

-- ---- dicts

abbrev pairs_of : Entries → List (Value × Value)
pairs_of no_entries = []
pairs_of (one_entry key value es) = (key, value) ∷ pairs_of es

entries_of-pairs_of : (es : Entries) → entries_of (pairs_of es) ≡ es
entries_of-pairs_of no_entries = refl
entries_of-pairs_of (one_entry key value es) = ap (λ (more : Entries). one_entry key value more) (entries_of-pairs_of es)

abbrev pair_bytes : Order → ℕ → DataType → ℕ → Value × Value → List ℕ
pair_bytes order k v place entry = entry_bytes order place k v entry.0 entry.1

abbrev PairFits : Order → ℕ → ℕ → DataType → ℕ → Value × Value → Type 0
PairFits order levels k v place entry =
    ValueFits order levels (align_up entry_alignment place) (basic k) entry.0
    × ValueFits order levels (align_up entry_alignment place + length (value_bytes order (align_up entry_alignment place) (basic k) entry.0)) v entry.1

pair_pos : (order : Order) (levels k : ℕ) (v : DataType) (place : ℕ) (entry : Value × Value) → PairFits order levels k v place entry → 0 < length (pair_bytes order k v place entry)
pair_pos order levels k v place entry has = entry_bytes_pos order levels place k v entry.0 entry.1 has.0

pairs_are : (order : Order) (place k : ℕ) (v : DataType) (xs : List (Value × Value)) → each_bytes (pair_bytes order k v) place xs ≡ entries_bytes order place k v (entries_of xs)
pairs_are order place k v [] = refl
pairs_are order place k v (x ∷ xs) =
    let first = entry_bytes order place k v x.0 x.1 in
    ap (λ (l : List ℕ). first ++ l) (pairs_are order (place + length first) k v xs)

entries_fit : (order : Order) (levels place k : ℕ) (v : DataType) (xs : List (Value × Value)) → EachFits (pair_bytes order k v) (PairFits order levels k v) place xs → EntriesFit order levels place k v (entries_of xs)
entries_fit order levels place k v [] fit = tt
entries_fit order levels place k v (x ∷ xs) fit = (fit.0.0, fit.0.1, entries_fit order levels (place + length (entry_bytes order place k v x.0 x.1)) k v xs fit.1)

each_pair_fits : (order : Order) (levels place k : ℕ) (v : DataType) (es : Entries) → EntriesFit order levels place k v es → EachFits (pair_bytes order k v) (PairFits order levels k v) place (pairs_of es)
each_pair_fits order levels place k v no_entries fit = tt
each_pair_fits order levels place k v (one_entry key value es) fit = ((fit.0, fit.1), each_pair_fits order levels (place + length (entry_bytes order place k v key value)) k v es fit.2)

entry_takes : (levels : ℕ) (order : Order) (reader : Reader) → ReaderTakes levels order reader → (k : ℕ) (v : DataType) (a : At) (found : (Value × Value) × At) → IsBytes a.rest → entry_at reader k v a ≡ Ok found
    → Takes a (pair_bytes order k v a.place found.0) found.1 × PairFits order levels k v a.place found.0
unfolding entry_at
entry_takes levels order reader takes k v a found fits e =
    let s = bind_ok (aligned_at entry_alignment a) (λ start. reader (basic k) start >>= λ key. reader v key.1 >>= λ value. Ok ((key.0, value.0), value.1)) found e in
    let x = bind_ok (reader (basic k) s.0) (λ key. reader v key.1 >>= λ value. Ok ((key.0, value.0), value.1)) found s.2 in
    let y = bind_ok (reader v x.0.1) (λ value. Ok ((x.0.0, value.0), value.1)) found x.2 in
    let first = aligned_takes entry_alignment a s.0 s.1 in
    let key = takes (basic k) s.0 x.0 (first.0.fits fits) x.1 in
    let value = takes v x.0.1 y.0 (key.0.fits (first.0.fits fits)) y.1 in
    let start = align_up entry_alignment a.place in
    let key_here : Takes s.0 (value_bytes order start (basic k) x.0.0) x.0.1 × ValueFits order levels start (basic k) x.0.0 = subst (λ (p : ℕ). Takes s.0 (value_bytes order p (basic k) x.0.0) x.0.1 × ValueFits order levels p (basic k) x.0.0) first.1 key in
    let key_bytes = value_bytes order start (basic k) x.0.0 in
    let tail : x.0.1.place ≡ start + length key_bytes = key_here.0.place ∙ ap (λ (p : ℕ). p + length key_bytes) first.1 in
    let value_here : Takes x.0.1 (value_bytes order (start + length key_bytes) v y.0.0) y.0.1 × ValueFits order levels (start + length key_bytes) v y.0.0 = subst (λ (p : ℕ). Takes x.0.1 (value_bytes order p v y.0.0) y.0.1 × ValueFits order levels p v y.0.0) tail value in
    let pair = Takes-then s.0 key_bytes x.0.1 (value_bytes order (start + length key_bytes) v y.0.0) y.0.1 key_here.0 value_here.0 in
    let whole = Takes-then a (zeros (padding entry_alignment a.place)) s.0 (key_bytes ++ value_bytes order (start + length key_bytes) v y.0.0) y.0.1 first.0 pair in
    let made : (Value × Value) × At = ((x.0.0, y.0.0), y.0.1) in
    subst (λ (f : (Value × Value) × At). Takes a (pair_bytes order k v a.place f.0) f.1 × PairFits order levels k v a.place f.0) {x = made} (ok_is made found y.2) (whole, (key_here.1, value_here.1))

entry_again : (levels : ℕ) (order : Order) (reader : Reader) → ReaderAgain levels order reader → (k : ℕ) (v : DataType) (place : ℕ) (outside : MsgError) (entry : Value × Value) (rest : List ℕ) → PairFits order levels k v place entry
    → entry_at reader k v (at place (pair_bytes order k v place entry ++ rest) outside) ≡ Ok (entry, at (place + length (pair_bytes order k v place entry)) rest outside)
unfolding entry_at
entry_again levels order reader again k v place outside entry rest has =
    let start = align_up entry_alignment place in
    let skipped = zeros (padding entry_alignment place) in
    let key = value_bytes order start (basic k) entry.0 in
    let value = value_bytes order (start + length key) v entry.1 in
    let grouped : (skipped ++ (key ++ value)) ++ rest ≡ skipped ++ (key ++ (value ++ rest)) = append_assoc skipped (key ++ value) rest ∙ ap (λ (l : List ℕ). skipped ++ l) (append_assoc key value rest) in
    let end : start + length key + length value ≡ place + length (pair_bytes order k v place entry) = omega (arith, length-append key value, length-padded entry_alignment place (λ start. bytes_then start (value_bytes order start (basic k) entry.0) (λ tail. value_bytes order tail v entry.1))) in
    ap (λ (l : List ℕ). entry_at reader k v (at place l outside)) grouped
    ∙ rw (aligned_again entry_alignment place outside (key ++ (value ++ rest)), again (basic k) start outside entry.0 (value ++ rest) has.0, again v (start + length key) outside entry.1 rest has.1)
    (ap (λ (p : ℕ). Ok (entry, at p rest outside)) end)

dict_takes : (levels : ℕ) (order : Order) (reader : Reader) → ReaderTakes levels order reader → (k : ℕ) (v : DataType) (a : At) (found : Value × At) → IsBytes a.rest → dict_at reader order k v a ≡ Ok found
    → Takes a (bare_bytes order a.place (dict k v) found.0) found.1 × BareFits order (suc levels) a.place (dict k v) found.0
unfolding dict_at
dict_takes levels order reader takes k v a found fits e =
    let x = bind_ok (extent_at order entry_alignment a) (λ extent. each_at (entry_at reader k v) (length extent.0.rest) extent.0 >>= λ found. Ok (entries (entries_of found), extent.1)) found e in
    let b = bind_ok (each_at (entry_at reader k v) (length x.0.0.rest) x.0.0) (λ found. Ok (entries (entries_of found), x.0.1)) found x.2 in
    let extent = extent_takes order entry_alignment a x.0 fits x.1 in
    let each = each_takes (entry_at reader k v) (pair_bytes order k v) (PairFits order levels k v) (entry_takes levels order reader takes k v) (pair_pos order levels k v) (length x.0.0.rest) x.0.0 b.0 extent.fits (omega arith) b.1 in
    let start = elements_place entry_alignment a.place in
    let spelled : x.0.0.rest ≡ entries_bytes order start k v (entries_of b.0) = each.0 ∙ pairs_are order x.0.0.place k v b.0 ∙ ap (λ (p : ℕ). entries_bytes order p k v (entries_of b.0)) extent.place in
    let fit : EntriesFit order levels start k v (entries_of b.0) = subst (λ (p : ℕ). EntriesFit order levels p k v (entries_of b.0)) extent.place (entries_fit order levels x.0.0.place k v b.0 each.1) in
    let whole : Takes a (array_bytes order entry_alignment a.place (entries_bytes order start k v (entries_of b.0))) x.0.1 × (length (entries_bytes order start k v (entries_of b.0)) ≤ max_array_len) = subst (λ (l : List ℕ). Takes a (array_bytes order entry_alignment a.place l) x.0.1 × (length l ≤ max_array_len)) spelled (extent.takes, extent.short) in
    let made : Value × At = (entries (entries_of b.0), x.0.1) in
    subst (λ (f : Value × At). Takes a (bare_bytes order a.place (dict k v) f.0) f.1 × BareFits order (suc levels) a.place (dict k v) f.0) {x = made} (ok_is made found b.2) (whole.0, (whole.1, fit))

dict_again : (levels : ℕ) (order : Order) (reader : Reader) → ReaderAgain levels order reader → (k : ℕ) (v : DataType) (place : ℕ) (outside : MsgError) (es : Entries) (rest : List ℕ) → BareFits order (suc levels) place (dict k v) (entries es)
    → dict_at reader order k v (at place (bare_bytes order place (dict k v) (entries es) ++ rest) outside) ≡ Ok (entries es, at (place + length (bare_bytes order place (dict k v) (entries es))) rest outside)
unfolding dict_at
dict_again levels order reader again k v place outside es rest has =
    let start = elements_place entry_alignment place in
    let bytes = entries_bytes order start k v es in
    let are : each_bytes (pair_bytes order k v) start (pairs_of es) ≡ bytes = pairs_are order start k v (pairs_of es) ∙ ap (λ (l : Entries). entries_bytes order start k v l) (entries_of-pairs_of es) in
    let each = each_again (entry_at reader k v) (pair_bytes order k v) (PairFits order levels k v) (entry_again levels order reader again k v) (pair_pos order levels k v) (length bytes) start faults.ArrayLength (pairs_of es) (each_pair_fits order levels start k v es has.1) (omega (arith, ap (λ (l : List ℕ). length l) are)) in
    let found : each_at (entry_at reader k v) (length bytes) (inside start bytes) ≡ Ok (pairs_of es) = subst (λ (l : List ℕ). each_at (entry_at reader k v) (length bytes) (inside start l) ≡ Ok (pairs_of es)) are each in
    rw (extent_again order entry_alignment place outside bytes rest has.0, found, entries_of-pairs_of es) refl

-- ---- a value of any type

abbrev BareTakes : ℕ → Order → DataType → Result Reader MsgError → Type 0
BareTakes levels order type deeper = (a : At) (found : Value × At) → IsBytes a.rest → bare_at deeper order type a ≡ Ok found → Takes a (bare_bytes order a.place type found.0) found.1 × BareFits order levels a.place type found.0

bare_takes_deepest : (order : Order) (type : DataType) → BareTakes 0 order type (Err faults.Depth)
bare_takes_deepest order (basic code) a found fits e = basic_takes order 0 code a found fits e
bare_takes_deepest order variant a found fits e = absurd cc
bare_takes_deepest order (array t) a found fits e = absurd cc
bare_takes_deepest order (dict k v) a found fits e = absurd cc
bare_takes_deepest order (struct t ts) a found fits e = absurd cc

bare_takes : (levels : ℕ) (order : Order) (reader : Reader) → ReaderTakes levels order reader → (type : DataType) → BareTakes (suc levels) order type (Ok reader)
bare_takes levels order reader takes (basic code) a found fits e = basic_takes order (suc levels) code a found fits e
bare_takes levels order reader takes variant a found fits e = variant_takes levels order reader takes a found fits e
bare_takes levels order reader takes (array t) a found fits e = array_takes levels order reader takes t a found fits e
bare_takes levels order reader takes (dict k v) a found fits e = dict_takes levels order reader takes k v a found fits e
bare_takes levels order reader takes (struct t ts) a found fits e = struct_takes levels order reader takes t ts a found fits e

by_takes : (levels : ℕ) (order : Order) (deeper : Result Reader MsgError) (type : DataType) → BareTakes levels order type deeper → (a : At) (found : Value × At) → IsBytes a.rest → value_by deeper order type a ≡ Ok found → Takes a (value_bytes order a.place type found.0) found.1 × ValueFits order levels a.place type found.0
unfolding value_by
by_takes levels order deeper type bare a found fits e =
    let s = bind_ok (aligned_at (alignment_of type) a) (λ start. bare_at deeper order type start) found e in
    let first = aligned_takes (alignment_of type) a s.0 s.1 in
    let second = bare s.0 found (first.0.fits fits) s.2 in
    let start = align_up (alignment_of type) a.place in
    let here : Takes s.0 (bare_bytes order start type found.0) found.1 × BareFits order levels start type found.0 = subst (λ (p : ℕ). Takes s.0 (bare_bytes order p type found.0) found.1 × BareFits order levels p type found.0) first.1 second in
    (Takes-then a (zeros (padding (alignment_of type) a.place)) s.0 (bare_bytes order start type found.0) found.1 first.0 here.0, here.1)

-- what is read is spelled so and fits
pub value_takes : (levels : ℕ) (order : Order) (type : DataType) (a : At) (found : Value × At) → IsBytes a.rest → value_at levels order type a ≡ Ok found → Takes a (value_bytes order a.place type found.0) found.1 × ValueFits order levels a.place type found.0
value_takes zero order type a found fits e = by_takes 0 order (Err faults.Depth) type (bare_takes_deepest order type) a found fits e
value_takes (suc levels) order type a found fits e = by_takes (suc levels) order (Ok (value_at levels order)) type (bare_takes levels order (value_at levels order) (value_takes levels order) type) a found fits e

abbrev BareAgain : ℕ → Order → DataType → Result Reader MsgError → Type 0
BareAgain levels order type deeper = (place : ℕ) (outside : MsgError) (value : Value) (rest : List ℕ) → BareFits order levels place type value
    → bare_at deeper order type (at place (bare_bytes order place type value ++ rest) outside) ≡ Ok (value, at (place + length (bare_bytes order place type value)) rest outside)

bare_again_deepest : (order : Order) (type : DataType) → BareAgain 0 order type (Err faults.Depth)
bare_again_deepest order (basic code) place outside value rest has = basic_again order 0 code place outside value rest has
bare_again_deepest order variant place outside value rest has = absurd has
bare_again_deepest order (array t) place outside value rest has = absurd has
bare_again_deepest order (dict k v) place outside value rest has = absurd has
bare_again_deepest order (struct t ts) place outside value rest has = absurd has

bare_again : (levels : ℕ) (order : Order) (reader : Reader) → ReaderAgain levels order reader → (type : DataType) → BareAgain (suc levels) order type (Ok reader)
bare_again levels order reader again (basic code) place outside value rest has = basic_again order (suc levels) code place outside value rest has
bare_again levels order reader again variant place outside (of_type type value) rest has = variant_again levels order reader again type place outside value rest has
bare_again levels order reader again (array t) place outside (elements vs) rest has = array_again levels order reader again t place outside vs rest has
bare_again levels order reader again (dict k v) place outside (entries es) rest has = dict_again levels order reader again k v place outside es rest has
bare_again levels order reader again (struct t ts) place outside (members vs) rest has = struct_again levels order reader again t ts place outside vs rest has
bare_again levels order reader again variant place outside _ rest has = absurd has
bare_again levels order reader again (array t) place outside _ rest has = absurd has
bare_again levels order reader again (dict k v) place outside _ rest has = absurd has
bare_again levels order reader again (struct t ts) place outside _ rest has = absurd has

by_again : (levels : ℕ) (order : Order) (deeper : Result Reader MsgError) (type : DataType) → BareAgain levels order type deeper → (place : ℕ) (outside : MsgError) (value : Value) (rest : List ℕ) → ValueFits order levels place type value
    → value_by deeper order type (at place (value_bytes order place type value ++ rest) outside) ≡ Ok (value, at (place + length (value_bytes order place type value)) rest outside)
unfolding value_by
by_again levels order deeper type bare place outside value rest has =
    let start = align_up (alignment_of type) place in
    let skipped = zeros (padding (alignment_of type) place) in
    let bytes = bare_bytes order start type value in
    ap (λ (l : List ℕ). value_by deeper order type (at place l outside)) (append_assoc skipped bytes rest)
    ∙ rw (aligned_again (alignment_of type) place outside (bytes ++ rest), bare start outside value rest has)
    (ap (λ (p : ℕ). Ok (value, at p rest outside)) (sym (length-padded (alignment_of type) place (λ start. bare_bytes order start type value))))

-- what fits is read again where it is spelled
pub value_again : (levels : ℕ) (order : Order) (type : DataType) (place : ℕ) (outside : MsgError) (value : Value) (rest : List ℕ) → ValueFits order levels place type value
    → value_at levels order type (at place (value_bytes order place type value ++ rest) outside) ≡ Ok (value, at (place + length (value_bytes order place type value)) rest outside)
value_again zero order type place outside value rest has = by_again 0 order (Err faults.Depth) type (bare_again_deepest order type) place outside value rest has
value_again (suc levels) order type place outside value rest has = by_again (suc levels) order (Ok (value_at levels order)) type (bare_again levels order (value_at levels order) (value_again levels order) type) place outside value rest has

-- ---- the values of several types

pub members_takes : (levels : ℕ) (order : Order) (types : DataTypes) (a : At) (found : Values × At) → IsBytes a.rest → members_at (value_at levels order) types a ≡ Ok found → Takes a (members_bytes order a.place types found.0) found.1 × MembersFit order levels a.place types found.0
members_takes levels order types a found fits e = types_take levels order (value_at levels order) (value_takes levels order) types a found fits e

pub members_again : (levels : ℕ) (order : Order) (types : DataTypes) (place : ℕ) (outside : MsgError) (values : Values) (rest : List ℕ) → MembersFit order levels place types values
    → members_at (value_at levels order) types (at place (members_bytes order place types values ++ rest) outside) ≡ Ok (values, at (place + length (members_bytes order place types values)) rest outside)
members_again levels order types place outside values rest has = types_again levels order (value_at levels order) (value_again levels order) types place outside values rest has
