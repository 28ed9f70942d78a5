-- An array of numbers, any bytes of which are a value, is read where its length is a multiple of theirs.
use Rattle.std.proofs.Common.{◌≡◌, ℕ, zero, suc, ◌+◌, ◌-◌, ◌%◌, ◌<◌, ◌≤◌, Bool, true, false, cond, List, [], ◌∷◌, length, take, drop, Result, Ok, Err, refl, sym, ap, subst, ◌∙◌, arith, add-zero}
use Rattle.std.specs.Prelude.{◌==◌, ◌||◌, nat_lt}
use Rattle.std.specs.List.{list_all}
use Rattle.std.proofs.lemmas.Bool.{eqb-true, eqb-false, ltb-true, ltb-false, eq-eqb, ne_eqb, lt-ltb, le-ltb}
use Rattle.std.proofs.lemmas.List.{length-drop}
use Rattle.std.proofs.Math.Nat.{mod_self, zero-mod, mod-eq_of_lt, mod-eq-sub-mod, add-mod_right, add-mod, mod-mod, mod-lt}
use Rattle.signature.specs.BasicType.{basic_alignment}
use Rattle.signature.specs.DataType.{DataType, basic, variant, array, dict, struct}
use Rattle.signature.specs.Alignment.{alignment_of}
use Rattle.message_value.specs.declared.order.Order.{Order}
use Rattle.message_value.specs.declared.error.MsgError.{MsgError}
use Rattle.message_value.specs.declared.error.MsgError.TheVariants as faults
use Rattle.message_value.specs.Order.{number_of}
use Rattle.message_value.specs.Value.{Value, number}
use Rattle.message_value.specs.Spelling.{padding, number_len, width_of}
use Rattle.message_value.specs.Fits.{is_text_code}
use Rattle.message_value.specs.Reading.{At, ◌>>=◌, item_at, aligned_at, word_at, inside, within_limit, extent_at, each_at, number_value_at, value_at}
use Rattle.message_value.specs.Steps.{ChecksAll, Divides}
use Rattle.message_value.specs.Forms.{AreNumbers, basic_at}
use Rattle.message_value.proofs.OkSteps.{bind_ok, ok_is, not_refused, passed_ok}
use Rattle.message_value.proofs.ReadShorter.{number_some}
use Rattle.message_value.proofs.ValueSteps.{basic_is}

abbrev by_width : Bool → Bool → Bool → ℕ
by_width one two eight = cond one 1 (cond two 2 (cond eight 8 4))

-- a number's place is a multiple of its length
number_aligned : (code : ℕ) → is_text_code code ≡ false → basic_alignment code ≡ number_len code
number_aligned code none = go (code == 121) (code == 115) (code == 111) (code == 103) (code == 110 || code == 113) (code == 120 || code == 116 || code == 100) none
  where
    go : (y s o g two eight : Bool) → (s || o || g) ≡ false → by_width (y || g) two eight ≡ by_width y two eight
    go true s o g two eight e = refl
    go false false false false two eight e = refl
    go false true o g two eight e = absurd cc
    go false false true g two eight e = absurd cc
    go false false false true two eight e = absurd cc

-- ---- one number

-- nothing lies before a multiple
pub padding_none : (alignment place : ℕ) → place % alignment ≡ 0 → padding alignment place ≡ 0
padding_none alignment place e =
    let whole : alignment - 0 ≡ alignment = omega arith in
    rw (e, whole) (mod_self alignment)

pub aligned_here : (alignment : ℕ) (at : At) → at.place % alignment ≡ 0 → aligned_at alignment at ≡ Ok at
unfolding aligned_at item_at
aligned_here alignment at e =
    let enough : nat_lt (length at.rest) 0 ≡ false = le-ltb _ _ (omega arith) in
    rw (padding_none alignment at.place e, add-zero, enough) refl

-- after a number
abbrev past : ℕ → At → At
past len at = record { place = at.place + len; rest = drop len at.rest; outside = at.outside }

item_some : (len : ℕ) (at : At) → len ≤ length at.rest → item_at len at ≡ Ok (take len at.rest, past len at)
unfolding item_at
item_some len at le = let enough : nat_lt (length at.rest) len ≡ false = le-ltb _ _ le in rw enough refl

item_none : (len : ℕ) (at : At) → length at.rest < len → item_at len at ≡ Err at.outside
unfolding item_at
item_none len at lt = let none : nat_lt (length at.rest) len ≡ true = lt-ltb _ _ lt in rw none refl

abbrev bits_of : Order → ℕ → ℕ → At → Value
bits_of order code len at = number (number_of order (width_of code) (take len at.rest))

number_here : (levels : ℕ) (order : Order) (code len : ℕ) (at : At) → AreNumbers len (basic code) → at.place % len ≡ 0 → value_at levels order (basic code) at ≡ (item_at len at >>= λ bytes. Ok (number (number_of order (width_of code) bytes.0), bytes.1))
unfolding basic_at number_value_at
number_here levels order code len at are e =
    let same : basic_alignment code ≡ len = number_aligned code are.0 ∙ are.2 in
    basic_is levels order code at ∙ rw (same, aligned_here len at e, are.0, are.1, are.2) refl

number_some_left : (levels : ℕ) (order : Order) (code len : ℕ) (at : At) → AreNumbers len (basic code) → at.place % len ≡ 0 → len ≤ length at.rest → value_at levels order (basic code) at ≡ Ok (bits_of order code len at, past len at)
number_some_left levels order code len at are e le = number_here levels order code len at are e ∙ rw (item_some len at le) refl

number_none_left : (levels : ℕ) (order : Order) (code len : ℕ) (at : At) → AreNumbers len (basic code) → at.place % len ≡ 0 → length at.rest < len → value_at levels order (basic code) at ≡ Err at.outside
number_none_left levels order code len at are e lt = number_here levels order code len at are e ∙ rw (item_none len at lt) refl

-- ---- one after the other

no_bytes : {X : Type 0} (result : Result X MsgError) (len : ℕ) (n : ℕ) → n ≡ 0 → Divides (n % len == 0) result → (read : Result (List Value) MsgError) → read ≡ Ok [] → ChecksAll result read
no_bytes (Ok x) len n none h read is = ([], is)
no_bytes (Err fault) len n none h read is = absurd (let zero_left : n % len ≡ 0 = ap (λ (k : ℕ). k % len) none ∙ zero-mod len in let even : (n % len == 0) ≡ true = eq-eqb _ _ zero_left in let odd = h.0 in cc)

few_bytes : {X : Type 0} (result : Result X MsgError) (len n : ℕ) → 0 < n → n < len → Divides (n % len == 0) result → (read : Result (List Value) MsgError) → read ≡ Err faults.ArrayLength → ChecksAll result read
few_bytes (Ok x) len n some lt h read is = absurd (let odd : (n % len == 0) ≡ false = ne_eqb _ _ (λ e. let left = mod-eq_of_lt lt in omega arith) in cc)
few_bytes (Err fault) len n some lt h read is = rw h.1 is

one_more_read : {X : Type 0} (result : Result X MsgError) (first : Value) (r : Result (List Value) MsgError) → ChecksAll result r → ChecksAll result (r >>= λ more. Ok (first ∷ more))
one_more_read (Ok x) first r h = (first ∷ h.0, rw h.1 refl)
one_more_read (Err fault) first r h = rw h refl

some_step : (turns : ℕ) (reader : At → Result (Value × At) MsgError) (at tail : At) (first : Value) → (length at.rest == 0) ≡ false → reader at ≡ Ok (first, tail)
    → each_at reader (suc turns) at ≡ (each_at reader turns tail >>= λ more. Ok (first ∷ more))
some_step turns reader at tail first some e = rw (some, e) refl

no_step : (turns : ℕ) (reader : At → Result (Value × At) MsgError) (at : At) (fault : MsgError) → (length at.rest == 0) ≡ false → reader at ≡ Err fault → each_at reader (suc turns) at ≡ Err fault
no_step turns reader at fault some e = rw (some, e) refl

numbers_read : {X : Type 0} (result : Result X MsgError) (levels : ℕ) (order : Order) (code len : ℕ) → AreNumbers len (basic code) → 0 < len → (turns : ℕ) (at : At) → length at.rest ≤ turns → at.place % len ≡ 0 → at.outside ≡ faults.ArrayLength
    → Divides (length at.rest % len == 0) result → ChecksAll result (each_at (value_at levels order (basic code)) turns at)
numbers_read result levels order code len are some zero at enough e outside h = no_bytes result len (length at.rest) (omega arith) h (Ok []) refl
numbers_read result levels order code len are some (suc turns) at enough e outside h =
    go (length at.rest == 0) (nat_lt (length at.rest) len) refl refl (λ left. numbers_read result levels order code len are some turns (past len at) left (add-mod_right at.place len ∙ e) outside)
  where
    go : (none few : Bool) → (length at.rest == 0) ≡ none → nat_lt (length at.rest) len ≡ few
        → (length (drop len at.rest) ≤ turns → Divides (length (drop len at.rest) % len == 0) result → ChecksAll result (each_at (value_at levels order (basic code)) turns (past len at)))
        → ChecksAll result (each_at (value_at levels order (basic code)) (suc turns) at)
    go true few is is' ih = no_bytes result len (length at.rest) (eqb-true _ _ is) h (each_at (value_at levels order (basic code)) (suc turns) at) (rw is refl)
    go false true is is' ih =
        few_bytes result len (length at.rest) (let there = eqb-false _ _ is in omega arith) (ltb-true _ _ is') h (each_at (value_at levels order (basic code)) (suc turns) at)
        (no_step turns (value_at levels order (basic code)) at faults.ArrayLength is (number_none_left levels order code len at are e (ltb-true _ _ is') ∙ ap (λ (f : MsgError). Err f) outside))
    go false false is is' ih =
        let le = ltb-false _ _ is' in
        let left = length-drop len at.rest in
        let same : length at.rest % len ≡ length (drop len at.rest) % len = mod-eq-sub-mod le ∙ ap (λ (k : ℕ). k % len) (sym left) in
        let there = eqb-false _ _ is in
        let more = ih (omega arith) (subst (λ (k : ℕ). Divides (k == 0) result) same h) in
        rw (some_step turns (value_at levels order (basic code)) at (past len at) (bits_of order code len at) is (number_some_left levels order code len at are e le))
        (one_more_read result (bits_of order code len at) (each_at (value_at levels order (basic code)) turns (past len at)) more)

-- ---- the place of the elements

aligned_mod : (a p : ℕ) → 0 < a → (p + padding a p) % a ≡ 0
aligned_mod a p some = go (p % a == 0) refl
  where
    go : (none : Bool) → (p % a == 0) ≡ none → (p + padding a p) % a ≡ 0
    go true is =
        let e = eqb-true _ _ is in
        ap (λ (k : ℕ). (p + k) % a) (padding_none a p e) ∙ rw add-zero e
    go false is =
        let there = eqb-false _ _ is in
        let below = mod-lt p some in
        let short : padding a p ≡ a - p % a = mod-eq_of_lt (omega arith) in
        let whole : p % a + (a - p % a) ≡ a = omega arith in
        add-mod p (padding a p) a ∙ ap (λ (k : ℕ). (p % a + k) % a) (mod-mod (a - p % a) a ∙ short) ∙ ap (λ (k : ℕ). k % a) whole ∙ mod_self a

item_place : (len : ℕ) (at : At) (found : List ℕ × At) → item_at len at ≡ Ok found → found.1.place ≡ at.place + len
unfolding item_at
item_place len at found e = let h = not_refused (nat_lt (length at.rest) len) at.outside (Ok (take len at.rest, past len at)) found e in sym (ap (λ (x : List ℕ × At). x.1.place) (ok_is _ _ h.1))

pub aligned_place : (a : ℕ) (at start : At) → 0 < a → aligned_at a at ≡ Ok start → start.place % a ≡ 0
unfolding aligned_at
aligned_place a at start some e =
    let s = bind_ok (item_at (padding a at.place) at) (λ skipped. cond (list_all (λ byte. byte == 0) skipped.0) (Ok skipped.1) (Err faults.Padding)) start e in
    let same : s.0.1 ≡ start = (passed_ok (list_all (λ byte. byte == 0) s.0.0) faults.Padding s.0.1 start s.2).1 in
    ap (λ (x : At). x.place % a) (sym same) ∙ ap (λ (k : ℕ). k % a) (item_place (padding a at.place) at s.0 s.1) ∙ aligned_mod a at.place some

-- the elements of an array begin at a multiple
pub record Inside (a : ℕ) (inner : At) : Type 0 where
  pub place : inner.place % a ≡ 0
  pub outside : inner.outside ≡ faults.ArrayLength

pub extent_inside : (order : Order) (a : ℕ) (at inner tail : At) → 0 < a → extent_at order a at ≡ Ok (inner, tail) → Inside a inner
unfolding extent_at
extent_inside order a at inner tail some e =
    let found : At × At = (inner, tail) in
    let w = bind_ok (word_at order at) (λ len. within_limit len.0 len.1 >>= λ b. aligned_at a b >>= λ start. item_at len.0 start >>= λ bytes. Ok (inside start.place bytes.0, bytes.1)) found e in
    let l = bind_ok (within_limit w.0.0 w.0.1) (λ b. aligned_at a b >>= λ start. item_at w.0.0 start >>= λ bytes. Ok (inside start.place bytes.0, bytes.1)) found w.2 in
    let s = bind_ok (aligned_at a l.0) (λ start. item_at w.0.0 start >>= λ bytes. Ok (inside start.place bytes.0, bytes.1)) found l.2 in
    let i = bind_ok (item_at w.0.0 s.0) (λ bytes. Ok (inside s.0.place bytes.0, bytes.1)) found s.2 in
    let made : At × At = (inside s.0.place i.0.0, i.0.1) in
    let same = ok_is made found i.2 in
    record { place = ap (λ (x : At × At). x.0.place % a) {x = found} {y = made} (sym {a = made} same) ∙ aligned_place a l.0 s.0 some s.1; outside = ap (λ (x : At × At). x.0.outside) {x = found} {y = made} (sym {a = made} same) }

-- ---- the whole array

pub numbers_some : (len : ℕ) (type : DataType) → AreNumbers len type → 0 < len
numbers_some len (basic code) are = let some = number_some code in let same = are.2 in omega arith
numbers_some len variant are = absurd are
numbers_some len (array t) are = absurd are
numbers_some len (dict k v) are = absurd are
numbers_some len (struct t ts) are = absurd are

pub numbers_checked : {X : Type 0} (result : Result X MsgError) (levels : ℕ) (order : Order) (type : DataType) (len alignment : ℕ) (at inner tail : At) → AreNumbers len type → alignment ≡ alignment_of type → 0 < alignment
    → extent_at order alignment at ≡ Ok (inner, tail) → Divides (length inner.rest % len == 0) result → ChecksAll result (each_at (value_at levels order type) (length inner.rest) inner)
numbers_checked result levels order (basic code) len alignment at inner tail are same some e h =
    let i = extent_inside order alignment at inner tail some e in
    let width : alignment ≡ len = same ∙ number_aligned code are.0 ∙ are.2 in
    let here : inner.place % len ≡ 0 = rw width at i.place in
    numbers_read result levels order code len are (numbers_some len (basic code) are) (length inner.rest) inner (omega arith) here i.outside h
numbers_checked result levels order variant len alignment at inner tail are same some e h = absurd are
numbers_checked result levels order (array t) len alignment at inner tail are same some e h = absurd are
numbers_checked result levels order (dict k v) len alignment at inner tail are same some e h = absurd are
numbers_checked result levels order (struct t ts) len alignment at inner tail are same some e h = absurd are
