-- Texts, signatures and numbers: what is read is spelled so and has the form, and what is spelled so is read again.
use Rattle.std.proofs.Common.{◌≡◌, ℕ, ◌+◌, ◌*◌, ◌^◌, ◌<◌, Bool, true, false, not, cond, eqb, ltb, List, [], ◌∷◌, ◌++◌, length, get_or, take, Option, Some, None, Result, Ok, Err, refl, sym, ap, subst, ◌∙◌, append_assoc, arith}
use Rattle.std.specs.Prelude.{◌||◌, ◌&&◌, is_some}
use Rattle.std.specs.List.{list_any}
use Rattle.std.specs.Str.{is_utf8}
use Rattle.std.proofs.lemmas.Bool.{eqb-true, not-false, ltb-false, le-ltb}
use Rattle.std.proofs.lemmas.List.{take_at, get_or_at, take_more, take_all, length-append, length-take-le}
use Rattle.signature.specs.DataType.{DataType, basic, spelling}
use Rattle.signature.specs.Trees.{types_of, type_of}
use Rattle.signature.specs.Name.{is_path}
use Rattle.signature.proofs.TreesOfTexts.{tree_spelled, type_of-TypeText}
use Rattle.message_value.specs.declared.order.Order.{Order}
use Rattle.message_value.specs.declared.error.MsgError.{MsgError}
use Rattle.message_value.specs.declared.error.MsgError.TheVariants as faults
use Rattle.message_value.specs.Value.{Value, number, text, elements, entries, members, of_type}
use Rattle.message_value.specs.Order.{word_bytes, number_bytes, number_of}
use Rattle.message_value.specs.Spelling.{width_of, number_len, text_bytes, signature_bytes, bare_bytes}
use Rattle.message_value.specs.Fits.{is_text_code, is_text_of, limit_of, IsOneType, BareFits}
use Rattle.message_value.specs.Reading.{◌>>=◌, At, item_at, byte_at, word_at, text_fault, text_ended, text_at, long_text_at, short_text_at, text_value_at, value_typed, signature_at, count_at, number_value_at}
use Rattle.message_value.proofs.OkSteps.{bind_ok, not_refused, guard_ok, passed_ok, ok_is}
use Rattle.message_value.proofs.WordBytes.{IsBytes, length-word_bytes, length-number_bytes, number_of-number_bytes, number_bytes-number_of, number_of-lt}
use Rattle.message_value.proofs.ReadItems.{at, Takes, Takes-then, Takes-as, item_takes, item_again, byte_takes, byte_again, word_takes, word_again}

-- ---- a text with its zero byte

whole_item : (len : ℕ) (bytes : List ℕ) → length bytes ≡ len + 1 → get_or bytes len 0 ≡ 0 → bytes ≡ take len bytes ++ 0 ∷ []
whole_item len bytes is last =
    let lt : len < length bytes = omega arith in
    sym (take_all (len + 1) bytes (omega arith)) ∙ take_more bytes len 0 lt ∙ ap (λ (b : ℕ). take len bytes ++ b ∷ []) last

ended_is : (code len : ℕ) (bytes : List ℕ) (tail : At) (found : List ℕ × At) → length bytes ≡ len + 1 → text_ended code len bytes tail ≡ Ok found → (bytes ≡ found.0 ++ 0 ∷ []) × (length found.0 ≡ len) × (is_text_of code found.0 ≡ true) × (found.1 ≡ tail)
ended_is code len bytes tail found is e =
    let g = not_refused (not (is_text_of code (take len bytes))) (text_fault code) (cond (not (eqb (get_or bytes len 0) 0)) (Err faults.BadText) (Ok (take len bytes, tail))) found e in
    let h = guard_ok (not (eqb (get_or bytes len 0) 0)) faults.BadText (take len bytes, tail) found g.1 in
    let last : get_or bytes len 0 ≡ 0 = eqb-true _ _ (not-false _ h.0) in
    subst (λ (f : List ℕ × At). (bytes ≡ f.0 ++ 0 ∷ []) × (length f.0 ≡ len) × (is_text_of code f.0 ≡ true) × (f.1 ≡ tail)) h.1 (whole_item len bytes is last, length-take-le len bytes (omega arith), not-false _ g.0, refl)

ended_again : (code : ℕ) (bytes : List ℕ) (tail : At) → is_text_of code bytes ≡ true → text_ended code (length bytes) (bytes ++ 0 ∷ []) tail ≡ Ok (bytes, tail)
ended_again code bytes tail is = rw (take_at bytes (0 ∷ []) (length bytes) refl, is, get_or_at bytes 0 [] 0 (length bytes) refl) refl

pub text_takes : (code len : ℕ) (a : At) (found : List ℕ × At) → text_at code len a ≡ Ok found → Takes a (found.0 ++ 0 ∷ []) found.1 × (length found.0 ≡ len) × (is_text_of code found.0 ≡ true)
unfolding text_at
text_takes code len a found e =
    let b = bind_ok (item_at (len + 1) a) (λ bytes. text_ended code len bytes.0 bytes.1) found e in
    let t = item_takes (len + 1) a b.0 b.1 in
    let n = ended_is code len b.0.0 b.0.1 found t.1 b.2 in
    (Takes-as a b.0.0 (found.0 ++ 0 ∷ []) b.0.1 found.1 t.0 n.0 (sym n.3), n.1, n.2)

pub text_again : (code place : ℕ) (outside : MsgError) (bytes rest : List ℕ) → is_text_of code bytes ≡ true → text_at code (length bytes) (at place ((bytes ++ 0 ∷ []) ++ rest) outside) ≡ Ok (bytes, at (place + (length bytes + 1)) rest outside)
unfolding text_at
text_again code place outside bytes rest is =
    rw (item_again (length bytes + 1) place outside (bytes ++ 0 ∷ []) rest (omega (arith, length-append bytes (0 ∷ [])))) (ended_again code bytes (at (place + (length bytes + 1)) rest outside) is)

-- ---- the length in four bytes

abbrev long_bytes : Order → List ℕ → List ℕ
long_bytes order bytes = word_bytes order (length bytes) ++ (bytes ++ 0 ∷ [])

long_text_takes : (order : Order) (code : ℕ) (a : At) (found : List ℕ × At) → IsBytes a.rest → long_text_at order code a ≡ Ok found → Takes a (long_bytes order found.0) found.1 × (is_text_of code found.0 ≡ true) × (length found.0 < 2 ^ 32)
unfolding long_text_at
long_text_takes order code a found fits e =
    let n = bind_ok (word_at order a) (λ len. text_at code len.0 len.1) found e in
    let first = word_takes order a n.0 fits n.1 in
    let second = text_takes code n.0.0 n.0.1 found n.2 in
    let both = Takes-then a (word_bytes order n.0.0) n.0.1 (found.0 ++ 0 ∷ []) found.1 first.0 second.0 in
    (subst (λ (k : ℕ). Takes a (word_bytes order k ++ (found.0 ++ 0 ∷ [])) found.1) (sym second.1) both, second.2, omega (arith, second.1, first.1))

long_text_again : (order : Order) (code place : ℕ) (outside : MsgError) (bytes rest : List ℕ) → is_text_of code bytes ≡ true → length bytes < 2 ^ 32 → long_text_at order code (at place (long_bytes order bytes ++ rest) outside) ≡ Ok (bytes, at (place + length (long_bytes order bytes)) rest outside)
unfolding long_text_at
long_text_again order code place outside bytes rest is lt =
    let grouped : long_bytes order bytes ++ rest ≡ word_bytes order (length bytes) ++ ((bytes ++ 0 ∷ []) ++ rest) = append_assoc (word_bytes order (length bytes)) (bytes ++ 0 ∷ []) rest in
    let end : place + 4 + (length bytes + 1) ≡ place + length (long_bytes order bytes) = omega (arith, length-append (word_bytes order (length bytes)) (bytes ++ 0 ∷ []), length-word_bytes order (length bytes), length-append bytes (0 ∷ [])) in
    ap (λ (x : List ℕ). long_text_at order code (at place x outside)) grouped
    ∙ rw (word_again order place (length bytes) outside ((bytes ++ 0 ∷ []) ++ rest) lt, text_again code (place + 4) outside bytes rest is) (ap (λ (k : ℕ). Ok (bytes, at k rest outside)) end)

-- ---- the length in a byte

abbrev short_bytes : List ℕ → List ℕ
short_bytes bytes = length bytes ∷ (bytes ++ 0 ∷ [])

short_text_takes : (a : At) (found : List ℕ × At) → IsBytes a.rest → short_text_at a ≡ Ok found → Takes a (short_bytes found.0) found.1 × (is_text_of 103 found.0 ≡ true) × (length found.0 < 2 ^ 32)
unfolding short_text_at
short_text_takes a found fits e =
    let n = bind_ok (byte_at a) (λ len. text_at 103 len.0 len.1) found e in
    let first = byte_takes a n.0 n.1 in
    let second = text_takes 103 n.0.0 n.0.1 found n.2 in
    let short = first.1 fits in
    let both = Takes-then a (n.0.0 ∷ []) n.0.1 (found.0 ++ 0 ∷ []) found.1 first.0 second.0 in
    (subst (λ (k : ℕ). Takes a (k ∷ (found.0 ++ 0 ∷ [])) found.1) (sym second.1) both, second.2, omega (arith, second.1, short))

short_text_again : (place : ℕ) (outside : MsgError) (bytes rest : List ℕ) → is_text_of 103 bytes ≡ true → short_text_at (at place (short_bytes bytes ++ rest) outside) ≡ Ok (bytes, at (place + length (short_bytes bytes)) rest outside)
unfolding short_text_at
short_text_again place outside bytes rest is =
    let end : place + 1 + (length bytes + 1) ≡ place + length (short_bytes bytes) = omega (arith, length-append bytes (0 ∷ [])) in
    rw (byte_again place (length bytes) outside ((bytes ++ 0 ∷ []) ++ rest), text_again 103 (place + 1) outside bytes rest is) (ap (λ (k : ℕ). Ok (bytes, at k rest outside)) end)

-- ---- a text of any of the types

some_text_takes : (order : Order) (code : ℕ) (a : At) (found : List ℕ × At) → IsBytes a.rest → cond (eqb code 103) (short_text_at a) (long_text_at order code a) ≡ Ok found → Takes a (text_bytes order code found.0) found.1 × (is_text_of code found.0 ≡ true) × (length found.0 < 2 ^ 32)
some_text_takes order code a found fits e = go (eqb code 103) refl e
  where
    go : (g : Bool) → eqb code 103 ≡ g → cond g (short_text_at a) (long_text_at order code a) ≡ Ok found → Takes a (cond g (short_bytes found.0) (long_bytes order found.0)) found.1 × (is_text_of code found.0 ≡ true) × (length found.0 < 2 ^ 32)
    go true is e = subst (λ (k : ℕ). Takes a (short_bytes found.0) found.1 × (is_text_of k found.0 ≡ true) × (length found.0 < 2 ^ 32)) (sym (eqb-true code 103 is)) (short_text_takes a found fits e)
    go false is e = long_text_takes order code a found fits e

some_text_again : (order : Order) (code place : ℕ) (outside : MsgError) (bytes rest : List ℕ) → is_text_of code bytes ≡ true → length bytes < 2 ^ 32
    → cond (eqb code 103) (short_text_at (at place (text_bytes order code bytes ++ rest) outside)) (long_text_at order code (at place (text_bytes order code bytes ++ rest) outside)) ≡ Ok (bytes, at (place + length (text_bytes order code bytes)) rest outside)
some_text_again order code place outside bytes rest is lt = go (eqb code 103) refl
  where
    go : (g : Bool) → eqb code 103 ≡ g → cond g (short_text_at (at place (cond g (short_bytes bytes) (long_bytes order bytes) ++ rest) outside)) (long_text_at order code (at place (cond g (short_bytes bytes) (long_bytes order bytes) ++ rest) outside)) ≡ Ok (bytes, at (place + length (cond g (short_bytes bytes) (long_bytes order bytes))) rest outside)
    go true e = short_text_again place outside bytes rest (subst (λ (k : ℕ). is_text_of k bytes ≡ true) (eqb-true code 103 e) is)
    go false e = long_text_again order code place outside bytes rest is lt

text_value_takes : (order : Order) (levels code : ℕ) (a : At) (found : Value × At) → IsBytes a.rest → text_value_at order code a ≡ Ok found → Takes a (bare_bytes order a.place (basic code) found.0) found.1 × BareFits order levels a.place (basic code) found.0
unfolding text_value_at
text_value_takes order levels code a found fits e =
    let b = bind_ok (cond (eqb code 103) (short_text_at a) (long_text_at order code a)) (λ found. Ok (text found.0, found.1)) found e in
    let t = some_text_takes order code a b.0 fits b.1 in
    let made : Value × At = (text b.0.0, b.0.1) in
    subst (λ (f : Value × At). Takes a (bare_bytes order a.place (basic code) f.0) f.1 × BareFits order levels a.place (basic code) f.0) {x = made} (ok_is made found b.2) (t.0, (t.1, t.2))

text_value_again : (order : Order) (code place : ℕ) (outside : MsgError) (bytes rest : List ℕ) → is_text_of code bytes ≡ true → length bytes < 2 ^ 32 → text_value_at order code (at place (text_bytes order code bytes ++ rest) outside) ≡ Ok (text bytes, at (place + length (text_bytes order code bytes)) rest outside)
unfolding text_value_at
text_value_again order code place outside bytes rest is lt = ap (λ r. r >>= λ found. Ok (text found.0, found.1)) (some_text_again order code place outside bytes rest is lt)

-- only a text's type has texts
text_code_of : (code : ℕ) (bytes : List ℕ) → is_text_of code bytes ≡ true → is_text_code code ≡ true
text_code_of code bytes is = go (eqb code 115) (eqb code 111) (eqb code 103) is
  where
    go : (s o g : Bool) → cond s (is_utf8 bytes && not (list_any (λ byte. eqb byte 0) bytes)) (cond o (is_path bytes) (cond g (is_some (types_of bytes)) false)) ≡ true → ((s || o) || g) ≡ true
    go true o g e = refl
    go false true g e = refl
    go false false true e = refl
    go false false false e = e

-- ---- a number

-- the limit of a boolean is lower than its width allows
within_width : (code bits : ℕ) → bits < limit_of code → bits < 2 ^ (8 * number_len code)
within_width code bits lt = go (eqb code 98) refl lt
  where
    go : (b : Bool) → eqb code 98 ≡ b → bits < cond b 2 (2 ^ (8 * number_len code)) → bits < 2 ^ (8 * number_len code)
    go true is lt = subst (λ (k : ℕ). bits < 2 ^ (8 * number_len k)) (sym (eqb-true code 98 is)) (omega arith)
    go false is lt = lt

counted_is : (code bits : ℕ) (tail : At) (found : Value × At) → bits < 2 ^ (8 * number_len code) → count_at code bits tail ≡ Ok found → ((number bits, tail) ≡ found) × (bits < limit_of code)
counted_is code bits tail found lt e =
    let g = guard_ok (eqb code 98 && ltb 1 bits) faults.BadBool (number bits, tail) found e in
    (g.1, go (eqb code 98) g.0)
  where
    go : (b : Bool) → (b && ltb 1 bits) ≡ false → bits < cond b 2 (2 ^ (8 * number_len code))
    go true low = omega (arith, ltb-false 1 bits low)
    go false low = lt

counted_again : (code bits : ℕ) (tail : At) → bits < limit_of code → count_at code bits tail ≡ Ok (number bits, tail)
counted_again code bits tail lt = go (eqb code 98) lt
  where
    go : (b : Bool) → bits < cond b 2 (2 ^ (8 * number_len code)) → cond {A = Result (Value × At) MsgError} (b && ltb 1 bits) (Err faults.BadBool) (Ok (number bits, tail)) ≡ Ok (number bits, tail)
    go true lt = rw (le-ltb 1 bits (omega arith)) refl
    go false lt = refl

number_value_takes : (order : Order) (levels code : ℕ) (a : At) (found : Value × At) → is_text_code code ≡ false → IsBytes a.rest → number_value_at order code a ≡ Ok found → Takes a (bare_bytes order a.place (basic code) found.0) found.1 × BareFits order levels a.place (basic code) found.0
unfolding number_value_at
number_value_takes order levels code a found no_text fits e =
    let b = bind_ok (item_at (number_len code) a) (λ bytes. count_at code (number_of order (width_of code) bytes.0) bytes.1) found e in
    let t = item_takes (number_len code) a b.0 b.1 in
    let are = t.2 fits in
    let bits = number_of order (width_of code) b.0.0 in
    let c = counted_is code bits b.0.1 found (number_of-lt order code b.0.0 are) b.2 in
    let takes : Takes a (number_bytes order (width_of code) bits) b.0.1 = subst (λ (x : List ℕ). Takes a x b.0.1) (sym (number_bytes-number_of order code b.0.0 t.1 are)) t.0 in
    subst (λ (f : Value × At). Takes a (bare_bytes order a.place (basic code) f.0) f.1 × BareFits order levels a.place (basic code) f.0) c.0 (takes, (no_text, c.1))

number_value_again : (order : Order) (code place : ℕ) (outside : MsgError) (bits : ℕ) (rest : List ℕ) → bits < limit_of code → number_value_at order code (at place (number_bytes order (width_of code) bits ++ rest) outside) ≡ Ok (number bits, at (place + length (number_bytes order (width_of code) bits)) rest outside)
unfolding number_value_at
number_value_again order code place outside bits rest lt =
    rw (item_again (number_len code) place outside (number_bytes order (width_of code) bits) rest (length-number_bytes order code bits), number_of-number_bytes order code bits (within_width code bits lt), counted_again code bits (at (place + number_len code) rest outside) lt, length-number_bytes order code bits) refl

-- ---- a value of a basic type

-- what reads a value of a basic type
abbrev pub basic_at : Order → ℕ → At → Result (Value × At) MsgError
basic_at order code a = cond (is_text_code code) (text_value_at order code a) (number_value_at order code a)

pub basic_takes : (order : Order) (levels code : ℕ) (a : At) (found : Value × At) → IsBytes a.rest → basic_at order code a ≡ Ok found → Takes a (bare_bytes order a.place (basic code) found.0) found.1 × BareFits order levels a.place (basic code) found.0
basic_takes order levels code a found fits e = go (is_text_code code) refl e
  where
    go : (b : Bool) → is_text_code code ≡ b → cond b (text_value_at order code a) (number_value_at order code a) ≡ Ok found → Takes a (bare_bytes order a.place (basic code) found.0) found.1 × BareFits order levels a.place (basic code) found.0
    go true is e = text_value_takes order levels code a found fits e
    go false is e = number_value_takes order levels code a found is fits e

pub basic_again : (order : Order) (levels code place : ℕ) (outside : MsgError) (value : Value) (rest : List ℕ) → BareFits order levels place (basic code) value → basic_at order code (at place (bare_bytes order place (basic code) value ++ rest) outside) ≡ Ok (value, at (place + length (bare_bytes order place (basic code) value)) rest outside)
basic_again order levels code place outside (number bits) rest has = rw has.0 (number_value_again order code place outside bits rest has.1)
basic_again order levels code place outside (text bytes) rest has = rw (text_code_of code bytes has.0) (text_value_again order code place outside bytes rest has.0 has.1)
basic_again order levels code place outside (elements vs) rest has = absurd has
basic_again order levels code place outside (entries es) rest has = absurd has
basic_again order levels code place outside (members vs) rest has = absurd has
basic_again order levels code place outside (of_type t v) rest has = absurd has

-- ---- a variant's signature

typed_is : (read : Option DataType) (end : ℕ) (tail : At) (found : DataType × At) → value_typed read end tail ≡ Ok found → (read ≡ Some found.0) × (end ≡ 0) × (tail ≡ found.1)
typed_is None end tail found e = absurd cc
typed_is (Some type) end tail found e =
    let p = passed_ok (eqb end 0) faults.BadText (type, tail) found e in
    let made : DataType × At = (type, tail) in
    subst (λ (f : DataType × At). (Some type ≡ Some f.0) × (end ≡ 0) × (tail ≡ f.1)) {x = made} p.1 (refl, eqb-true end 0 p.0, refl)

pub signature_takes : (a : At) (found : DataType × At) → signature_at a ≡ Ok found → Takes a (signature_bytes found.0) found.1 × IsOneType found.0
unfolding signature_at
signature_takes a found e =
    let n = bind_ok (byte_at a) (λ len. item_at (len.0 + 1) len.1 >>= λ bytes. value_typed (type_of (take len.0 bytes.0)) (get_or bytes.0 len.0 0) bytes.1) found e in
    let b = bind_ok (item_at (n.0.0 + 1) n.0.1) (λ bytes. value_typed (type_of (take n.0.0 bytes.0)) (get_or bytes.0 n.0.0 0) bytes.1) found n.2 in
    let t = item_takes (n.0.0 + 1) n.0.1 b.0 b.1 in
    let d = typed_is (type_of (take n.0.0 b.0.0)) (get_or b.0.0 n.0.0 0) b.0.1 found b.2 in
    let s = tree_spelled found.0 (take n.0.0 b.0.0) d.0 in
    let spelled : take n.0.0 b.0.0 ≡ spelling found.0 = s.0.spelled in
    let len : n.0.0 ≡ length (spelling found.0) = sym (length-take-le n.0.0 b.0.0 (omega (arith, t.1))) ∙ ap (λ (x : List ℕ). length x) spelled in
    let whole : b.0.0 ≡ spelling found.0 ++ 0 ∷ [] = whole_item n.0.0 b.0.0 t.1 d.1 ∙ ap (λ (x : List ℕ). x ++ 0 ∷ []) spelled in
    let both = Takes-then a (n.0.0 ∷ []) n.0.1 b.0.0 b.0.1 (byte_takes a n.0 n.1).0 t.0 in
    let same : n.0.0 ∷ b.0.0 ≡ signature_bytes found.0 = cc in
    (Takes-as a (n.0.0 ∷ b.0.0) (signature_bytes found.0) b.0.1 found.1 both same d.2, (record { spelled = refl; fits = s.0.fits }, omega (arith, s.1, ap (λ (x : List ℕ). length x) spelled)))

pub signature_again : (type : DataType) (place : ℕ) (outside : MsgError) (rest : List ℕ) → IsOneType type → signature_at (at place (signature_bytes type ++ rest) outside) ≡ Ok (type, at (place + length (signature_bytes type)) rest outside)
unfolding signature_at
signature_again type place outside rest is =
    let word = spelling type in
    let end : place + 1 + (length word + 1) ≡ place + length (signature_bytes type) = omega (arith, length-append word (0 ∷ [])) in
    rw (byte_again place (length word) outside ((word ++ 0 ∷ []) ++ rest), item_again (length word + 1) (place + 1) outside (word ++ 0 ∷ []) rest (omega (arith, length-append word (0 ∷ []))), take_at word (0 ∷ []) (length word) refl, get_or_at word 0 [] 0 (length word) refl, type_of-TypeText type word is.0 is.1)
    (ap (λ (k : ℕ). Ok (type, at k rest outside)) end)
