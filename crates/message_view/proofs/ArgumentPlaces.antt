-- Where the arguments of a message lie in its bytes.
use Rattle.std.proofs.Common.{◌≡◌, ℕ, ◌+◌, ◌<◌, ◌≤◌, Bool, true, false, cond, eqb, ltb, List, [], ◌∷◌, ◌++◌, length, get_or, Option, Some, None, IfSome, refl, sym, subst, ap, inl, inr, arith}
use Rattle.std.specs.List.{list_any, list_all, All}
use Rattle.std.proofs.lemmas.Bool.{eqb-true, ltb-true, or_cases, and_parts}
use Rattle.std.proofs.lemmas.List.{length-append}
use Rattle.std.proofs.lemmas.List.Elements.{All-nil, All-cons}
use Rattle.signature.specs.Code.{basic_codes}
use Rattle.signature.specs.DataType.{DataType, DataTypes, basic, variant, array, dict, struct, one_more, spelling, Fits, AllFit}
use Rattle.signature.specs.Alignment.{alignment_of}
use Rattle.message_value.specs.declared.order.Order.{Order}
use Rattle.message_value.specs.Order.{order_byte, word_bytes}
use Rattle.message_value.specs.Value.{Value, Values, one_value}
use Rattle.message_value.specs.Value.{text as text_value}
use Rattle.message_value.specs.Spelling.{padding, align_up, zeros, bare_bytes, value_bytes, members_bytes}
use Rattle.message_value.specs.Fits.{max_levels, BareFits, MembersFit}
use Rattle.message_value.specs.Arguments.{Argument, argument_of, arguments_from}
use Rattle.message_value.proofs.WordBytes.{length-word_bytes}
use Rattle.message_value.proofs.ReadItems.{length-zeros}
use Rattle.message_value.specs.Bytes.{AreBytes}
use Rattle.message_view.specs.Header.{kind_byte}
use Rattle.message_view.specs.Message.{Message}
use Rattle.message_view.specs.Places.{slice_at, LiesIn}
use Rattle.message_view.specs.Spelling.{body_place, header_bytes, body_bytes, arguments_of, message_bytes}
use Rattle.message_view.specs.Valid.{Valid}
use Rattle.message_view.proofs.TextBytes.{text_bytes}
use Rattle.message_view.proofs.TextStands.{Stands, stands_here, stands_before, stands_after, stands_slice}

-- ---- one argument

-- the text of an argument that has one, where it stands
abbrev pub TextStands : List ℕ → ℕ → ℕ → ℕ → Option (List ℕ) → Type 0
TextStands bytes start place len None = Unit {0}
TextStands bytes start place len (Some text) = (len ≡ length text) × Stands bytes start place text

-- An argument among bytes that begin at a place.
pub record HasPlace (bytes : List ℕ) (start : ℕ) (a : Argument) : Type 0 where
  pub code : a.code < 256
  pub within : a.place + a.len ≤ start + length bytes
  pub stands : TextStands bytes start a.place a.len a.text

text_before : (bytes more : List ℕ) (start place len : ℕ) (text : Option (List ℕ)) → TextStands bytes start place len text → TextStands (bytes ++ more) start place len text
text_before bytes more start place len None has = tt
text_before bytes more start place len (Some text) has = (has.0, stands_before bytes text more start place has.1)

text_after : (first bytes : List ℕ) (n start place len : ℕ) (text : Option (List ℕ)) → length first ≡ n → TextStands bytes (start + n) place len text → TextStands (first ++ bytes) start place len text
text_after first bytes n start place len None is has = tt
text_after first bytes n start place len (Some text) is has = (has.0, stands_after first bytes text n start place is has.1)

place_before : (bytes more : List ℕ) (start : ℕ) (a : Argument) → HasPlace bytes start a → HasPlace (bytes ++ more) start a
place_before bytes more start a has = record {
  code = has.code;
  within = omega (arith, has.within, length-append bytes more);
  stands = text_before bytes more start a.place a.len a.text has.stands;
}

place_after : (first bytes : List ℕ) (n start : ℕ) (a : Argument) → length first ≡ n → HasPlace bytes (start + n) a → HasPlace (first ++ bytes) start a
place_after first bytes n start a is has = record {
  code = has.code;
  within = omega (arith, has.within, length-append first bytes);
  stands = text_after first bytes n start a.place a.len a.text is has.stands;
}

-- ---- all of them

abbrev pub HavePlaces : List ℕ → ℕ → List Argument → Type 0
HavePlaces bytes start [] = Unit {0}
HavePlaces bytes start (a ∷ more) = HasPlace bytes start a × HavePlaces bytes start more

pub places_after : (first bytes : List ℕ) (n start : ℕ) (arguments : List Argument) → length first ≡ n → HavePlaces bytes (start + n) arguments → HavePlaces (first ++ bytes) start arguments
places_after first bytes n start [] is have = tt
places_after first bytes n start (a ∷ more) is have = (place_after first bytes n start a is have.0, places_after first bytes n start more is have.1)

-- ---- types

one_below : (code : ℕ) (codes : List ℕ) → list_all (λ b. ltb b 256) codes ≡ true → list_any (λ b. eqb code b) codes ≡ true → code < 256
one_below code [] below any = absurd cc
one_below code (c ∷ codes) below any =
    let both = and_parts (ltb c 256) (list_all (λ b. ltb b 256) codes) below in
    elim (or_cases (eqb code c) (list_any (λ b. eqb code b) codes) any) [
      | inl here ↦ let small : c < 256 = ltb-true c 256 both.0 in let same : code ≡ c = eqb-true code c here in omega arith
      | inr there ↦ one_below code codes both.1 there
    ]

-- the first byte of a type
code_below : (type : DataType) → Fits 0 0 type → get_or (spelling type) 0 0 < 256
code_below (basic code) fits = one_below code basic_codes refl fits
code_below variant fits = omega arith
code_below (array t) fits = omega arith
code_below (dict k v) fits = omega arith
code_below (struct t ts) fits = omega arith

-- ---- values

-- a text after its length
text_has : (b : Bool) (order : Order) (code start : ℕ) (text : List ℕ) → code < 256 → AreBytes text
    → HasPlace (cond b (length text ∷ (text ++ 0 ∷ [])) (word_bytes order (length text) ++ (text ++ 0 ∷ []))) start (record { code = code; place = start + cond b 1 4; len = length text; text = Some text })
text_has true order code start text small are = record {
  code = small;
  within = omega (arith, length-append text (0 ∷ []));
  stands = (refl, stands_here (length text ∷ []) text (0 ∷ []) start (start + 1) are refl);
}
text_has false order code start text small are = record {
  code = small;
  within = omega (arith, length-append text (0 ∷ []), length-append (word_bytes order (length text)) (text ++ 0 ∷ []), length-word_bytes order (length text));
  stands = (refl, stands_here (word_bytes order (length text)) text (0 ∷ []) start (start + 4) are (ap (λ (n : ℕ). start + n) (length-word_bytes order (length text))));
}

-- any other value
whole_has : (bytes : List ℕ) (start code : ℕ) → code < 256 → HasPlace bytes start (record { code = code; place = start; len = length bytes; text = None })
whole_has bytes start code small = record { code = small; within = omega arith; stands = tt }

bare_has : (order : Order) (start : ℕ) (type : DataType) (value : Value) → Fits 0 0 type → BareFits order max_levels start type value → HasPlace (bare_bytes order start type value) start (argument_of order start type value)
bare_has order start (basic code) (text_value text) typed fits = text_has (eqb code 103) order code start text (code_below (basic code) typed) (text_bytes code text fits.0)
bare_has order start type value typed fits = whole_has (bare_bytes order start type value) start (get_or (spelling type) 0 0) (code_below type typed)

-- after its padding
value_has : (order : Order) (place : ℕ) (type : DataType) (value : Value) → Fits 0 0 type → BareFits order max_levels (align_up (alignment_of type) place) type value → HasPlace (value_bytes order place type value) place (argument_of order (align_up (alignment_of type) place) type value)
value_has order place type value typed fits =
    let start : ℕ = align_up (alignment_of type) place in
    place_after (zeros (padding (alignment_of type) place)) (bare_bytes order start type value) (padding (alignment_of type) place) place (argument_of order start type value) (length-zeros (padding (alignment_of type) place)) (bare_has order start type value typed fits)

-- one value after the other
pub arguments_have : (order : Order) (place : ℕ) (types : DataTypes) (values : Values) → AllFit 0 0 types → MembersFit order max_levels place types values → HavePlaces (members_bytes order place types values) place (arguments_from order place types values)
arguments_have order place (one_more t ts) (one_value v vs) typed fit =
    let first : List ℕ = value_bytes order place t v in
    let more : List ℕ = members_bytes order (place + length first) ts vs in (
      place_before first more place (argument_of order (align_up (alignment_of t) place) t v) (value_has order place t v typed.0 fit.0),
      places_after first more (length first) place (arguments_from order (place + length first) ts vs) refl (arguments_have order (place + length first) ts vs typed.1 fit.1),
    )
arguments_have order place _ _ typed fit = tt

-- ---- messages

-- the places of a message's arguments
pub message_places : (bytes : List ℕ) (m : Message) → Valid bytes m → HavePlaces (message_bytes m) 0 (arguments_of m)
message_places bytes m valid =
    let header : List ℕ = header_bytes m in
    let body : List ℕ = body_bytes m in
    let pad : List ℕ = zeros (padding 8 (length header)) in
    let w0 : List ℕ = word_bytes m.order (length body) in
    let w1 : List ℕ = word_bytes m.order m.serial in
    let w2 : List ℕ = word_bytes m.order (length header) in
    let r3 : List ℕ = header ++ (pad ++ body) in
    let all : List Argument = arguments_of m in
    places_after (order_byte m.order ∷ kind_byte m.kind ∷ m.flags ∷ 1 ∷ []) (w0 ++ (w1 ++ (w2 ++ r3))) 4 0 all refl
    (places_after w0 (w1 ++ (w2 ++ r3)) 4 4 all (length-word_bytes m.order (length body))
    (places_after w1 (w2 ++ r3) 4 8 all (length-word_bytes m.order m.serial)
    (places_after w2 r3 4 12 all (length-word_bytes m.order (length header))
    (places_after header (pad ++ body) (length header) 16 all refl
    (places_after pad body (padding 8 (length header)) (16 + length header) all (length-zeros (padding 8 (length header)))
    (arguments_have m.order (body_place (length header)) m.types m.arguments valid.types.fits valid.arguments))))))

-- ---- slices

place_lies : (bytes : List ℕ) (a : Argument) → HasPlace bytes 0 a → LiesIn bytes a
place_lies bytes a has = (omega (arith, has.within), go a.text has.stands)
  where
    go : (text : Option (List ℕ)) → TextStands bytes 0 a.place a.len text → IfSome text (λ t. slice_at bytes a.place a.len ≡ t)
    go None stands = tt
    go (Some text) stands = stands_slice bytes text a.place a.len stands.1 stands.0

places_lie : (bytes : List ℕ) (arguments : List Argument) → HavePlaces bytes 0 arguments → All (LiesIn bytes) arguments
places_lie bytes [] have = All-nil (LiesIn bytes)
places_lie bytes (a ∷ more) have = All-cons (LiesIn bytes) a more (place_lies bytes a have.0) (places_lie bytes more have.1)

pub arguments_lie : (bytes : List ℕ) (m : Message) → Valid bytes m → All (LiesIn bytes) (arguments_of m)
arguments_lie bytes m valid = subst (λ (b : List ℕ). All (LiesIn b) (arguments_of m)) (sym valid.spelled) (places_lie (message_bytes m) (arguments_of m) (message_places bytes m valid))
