-- What was asked for is no valid message, is above the limits, or is the message of the bytes.
use Rattle.std.proofs.Common.{◌≡◌, ℕ, ◌+◌, ◌-◌, ◌<◌, ◌≤◌, ◌^◌, Bool, true, false, cond, eqb, ltb, List, [], ◌∷◌, ◌++◌, length, Option, Some, None, refl, sym, ap, subst, ◌∙◌, append_assoc, inl, inr, arith}
use Rattle.std.specs.Prelude.{◌&&◌, not, Vec, Result, Ok, Err, IsErrAnd}
use Rattle.std.proofs.lemmas.Bool.{and_parts}
use Rattle.std.proofs.lemmas.Bool.Decides.{nat_tests}
use Rattle.std.proofs.lemmas.List.{length-append}
use Rattle.signature.specs.DataType.{DataTypes, SigText}
use Rattle.message_value.specs.declared.order.Order.{Order}
use Rattle.message_value.specs.declared.order.Order.TheVariants.{Little}
use Rattle.message_value.specs.Value.{Values}
use Rattle.message_value.specs.Order.{word_bytes}
use Rattle.message_value.specs.Spelling.{padding, zeros, members_bytes}
use Rattle.message_value.specs.Fits.{max_array_len, max_levels}
use Rattle.message_value.proofs.ReadItems.{length-zeros}
use Rattle.message_value.proofs.MovedValues.{Alike, Alike-back, members_moved, members_fit_moved}
use Rattle.message_view.specs.declared.kind.Kind.{Kind}
use Rattle.message_view.specs.declared.kind.Kind.TheVariants as kinds
use Rattle.message_view.specs.Header.{kind_byte, kind_of}
use Rattle.message_view.specs.Message.{Field, Message}
use Rattle.message_view.specs.Spelling.{fixed_len, fields_bytes, header_bytes, body_bytes, body_place, message_bytes}
use Rattle.message_view.specs.Valid.{AreFields, Valid, max_message_len}
use Rattle.message_build.specs.Asked.{Asked, Asks, is_spoiled}
use Rattle.message_build.specs.Building.{IsValidButForSize, AreAsked, AsksTooMuch, AsksNone, Finishes, listed_bytes}
use Rattle.message_build.specs.declared.error.BuildError.{BuildError}
use Rattle.message_build.specs.declared.error.BuildError.TheVariants.{NoMemory}
use Rattle.message_build.specs.declared.field.HeaderField.{HeaderField}
use Rattle.message_build.specs.declared.body_state.BodyState.{BodyState}
use Rattle.message_build.specs.declared.header.Header.{Header}
use Rattle.message_build.specs.MessageBytes.{IsBody, fixed_bytes, whole_bytes}
use Rattle.message_build.specs.Headers.{InRange, request_of, fields_set, is_sound_header, kind_is_own, has_needed}
use Rattle.message_build.specs.HeaderFields.{HoldEach, fields_of, are_allowed}
use Rattle.message_build.proofs.AllowedFields.{AreOnce, fields_are, fields_were}
use Rattle.message_build.proofs.SetFields.{set_once, required_set, signature_set}

-- ---- the message that was asked for

abbrev the : Header → List ℕ → DataTypes → Values → Message
the h s types arguments = record { order = Little; kind = h.kind; flags = h.flags; serial = h.serial; fields = fields_set h s; types = types; arguments = arguments }

abbrev message_with : Order → Kind → ℕ → ℕ → List Field → DataTypes → Values → Message
message_with order kind flags serial fields types arguments = record { order = order; kind = kind; flags = flags; serial = serial; fields = fields; types = types; arguments = arguments }

pub same_message : (o p : Order) (k l : Kind) (f g s t : ℕ) (x y : List Field) (types : DataTypes) (arguments : Values) → o ≡ p → k ≡ l → f ≡ g → s ≡ t → x ≡ y → message_with o k f s x types arguments ≡ message_with p l g t y types arguments
same_message o p k l f g s t x y types arguments order kind flags serial fields =
    ap (λ (v : Order). message_with v k f s x types arguments) order
    ∙ ap (λ (v : Kind). message_with p v f s x types arguments) kind
    ∙ ap (λ (v : ℕ). message_with p l v s x types arguments) flags
    ∙ ap (λ (v : ℕ). message_with p l g v x types arguments) serial
    ∙ ap (λ (v : List Field). message_with p l g t v types arguments) fields

is_the : (h : Header) (s body : List ℕ) (body_state : BodyState) (m : Message) → Asks (request_of h s body body_state) m → m ≡ the h s m.types m.arguments
is_the h s body body_state m asks =
    same_message m.order Little m.kind h.kind m.flags h.flags m.serial h.serial m.fields (fields_set h s) m.types m.arguments asks.order asks.kind asks.flags asks.serial asks.fields

pub body_alike : (n : ℕ) → Alike (body_place n) 0
body_alike n = record { is = omega arith }

-- the bytes of its body
body_is : (h : Header) (s body : List ℕ) (types : DataTypes) (arguments : Values) → body ≡ members_bytes Little 0 types arguments → body_bytes (the h s types arguments) ≡ body
body_is h s body types arguments is =
    let n = length (fields_bytes Little fixed_len (fields_set h s)) in
    members_moved Little (body_place n) 0 (body_alike n) types arguments ∙ sym is

-- the bytes of the message that was asked for
bytes_are : (h : Header) (s body : List ℕ) (types : DataTypes) (arguments : Values) → body ≡ members_bytes Little 0 types arguments → message_bytes (the h s types arguments) ≡ whole_bytes h (fields_set h s) body
bytes_are h s body types arguments is =
    let all = fields_bytes Little fixed_len (fields_set h s) in
    let same = body_is h s body types arguments is in
    ap (λ (b : List ℕ). (108 ∷ kind_byte h.kind ∷ h.flags ∷ 1 ∷ []) ++ (word_bytes Little (length b) ++ (word_bytes Little h.serial ++ (word_bytes Little (length all) ++ (all ++ (zeros (padding 8 (length all)) ++ b)))))) same

-- ---- kinds

kind_was : (kind : Kind) → kind_of (kind_byte kind) ≡ Some kind → kind_is_own kind ≡ true
kind_was kinds.MethodCall e = refl
kind_was kinds.MethodReturn e = refl
kind_was kinds.Error e = refl
kind_was kinds.Signal e = refl
kind_was (kinds.Other byte) e = go (eqb byte 0) (eqb byte 1) (eqb byte 2) (eqb byte 3) (eqb byte 4) refl refl refl refl refl e
  where
    go : (a b c d f : Bool) → eqb byte 0 ≡ a → eqb byte 1 ≡ b → eqb byte 2 ≡ c → eqb byte 3 ≡ d → eqb byte 4 ≡ f
        → cond a None (cond b (Some kinds.MethodCall) (cond c (Some kinds.MethodReturn) (cond d (Some kinds.Error) (cond f (Some kinds.Signal) (Some (kinds.Other byte)))))) ≡ Some (kinds.Other byte) → ltb 4 byte ≡ true
    go true b c d f e0 e1 e2 e3 e4 e = absurd cc
    go false true c d f e0 e1 e2 e3 e4 e = absurd cc
    go false false true d f e0 e1 e2 e3 e4 e = absurd cc
    go false false false true f e0 e1 e2 e3 e4 e = absurd cc
    go false false false false true e0 e1 e2 e3 e4 e = absurd cc
    go false false false false false e0 e1 e2 e3 e4 e = grind (arith, nat_tests)

kind_is : (kind : Kind) → kind_is_own kind ≡ true → kind_of (kind_byte kind) ≡ Some kind
kind_is kinds.MethodCall e = refl
kind_is kinds.MethodReturn e = refl
kind_is kinds.Error e = refl
kind_is kinds.Signal e = refl
kind_is (kinds.Other byte) e =
    let e0 : eqb byte 0 ≡ false = grind (arith, nat_tests) in
    let e1 : eqb byte 1 ≡ false = grind (arith, nat_tests) in
    let e2 : eqb byte 2 ≡ false = grind (arith, nat_tests) in
    let e3 : eqb byte 3 ≡ false = grind (arith, nat_tests) in
    let e4 : eqb byte 4 ≡ false = grind (arith, nat_tests) in
    rw (e0, e1, e2, e3, e4) refl

-- ---- what is not valid

abbrev Refuses : Header → List ℕ → List ℕ → BodyState → Type 0
Refuses h s body body_state = AsksNone (request_of h s body body_state)

the_valid : (h : Header) (s body : List ℕ) (body_state : BodyState) (m : Message) → Asks (request_of h s body body_state) m → IsValidButForSize m → IsValidButForSize (the h s m.types m.arguments)
the_valid h s body body_state m asks valid = subst IsValidButForSize (is_the h s body body_state m asks) valid

not_zero : (n : ℕ) → 0 < n → not (eqb n 0) ≡ true
not_zero n lt = let e : eqb n 0 ≡ false = grind (arith, nat_tests) in rw e refl

pub header_refused : (h : Header) (s body : List ℕ) (body_state : BodyState) → is_sound_header h ≡ false → Refuses h s body body_state
header_refused h s body body_state e m asks valid =
    let v = the_valid h s body body_state m asks valid in
    let kind : kind_is_own h.kind ≡ true = kind_was h.kind v.kind in
    let serial : not (eqb h.serial 0) ≡ true = not_zero h.serial v.serial in
    let needed : has_needed h ≡ true = sym (required_set h.kind h s) ∙ v.required in
    let sound : is_sound_header h ≡ true = rw (kind, serial, needed) refl in
    absurd cc

pub fields_refused : (h : Header) (s body : List ℕ) (body_state : BodyState) (xs : List (Option HeaderField)) → fields_of xs ≡ fields_set h s → are_allowed xs ≡ false → Refuses h s body body_state
fields_refused h s body body_state xs is e m asks valid =
    let v = the_valid h s body body_state m asks valid in
    let allowed : are_allowed xs ≡ true = fields_were fixed_len xs (subst (λ (fs : List Field). AreFields Little fixed_len fs) (sym is) v.fields) in
    absurd cc

pub body_refused : (h : Header) (s body : List ℕ) (body_state : BodyState) → (IsBody s body → ⊥) → Refuses h s body body_state
body_refused h s body body_state refute m asks valid =
    let v = the_valid h s body body_state m asks valid in
    let len = length (fields_bytes Little fixed_len (fields_set h s)) in
    refute (
      m.types,
      m.arguments,
      record {
        typed = subst (λ (t : List ℕ). SigText m.types t) (signature_set h s) v.types;
        fit = members_fit_moved Little max_levels (body_place len) 0 (body_alike len) m.types m.arguments v.arguments;
        spelled = asks.arguments;
        counted = subst (λ (n : ℕ). n < 2 ^ 32) (ap (λ (l : List ℕ). length l) (body_is h s body m.types m.arguments asks.arguments)) v.counted;
      },
    )

-- ---- lengths

same_padding : (n : ℕ) → padding 8 (fixed_len + n) ≡ padding 8 n
same_padding n = omega arith

length-whole_bytes : (h : Header) (fs : List Field) (body : List ℕ) → length (whole_bytes h fs body) ≡ fixed_len + length (fields_bytes Little fixed_len fs) + padding 8 (length (fields_bytes Little fixed_len fs)) + length body
length-whole_bytes h fs body =
    let all = fields_bytes Little fixed_len fs in
    let pad = zeros (padding 8 (length all)) in
    omega (arith, length-append (fixed_bytes Little h (length all) (length body)) (all ++ (pad ++ body)), length-append all (pad ++ body), length-append pad body, length-zeros (padding 8 (length all)))

asked_bytes : (h : Header) (s body : List ℕ) (body_state : BodyState) (m : Message) → Asks (request_of h s body body_state) m → message_bytes m ≡ whole_bytes h (fields_set h s) body
asked_bytes h s body body_state m asks = ap (λ (x : Message). message_bytes x) (is_the h s body body_state m asks) ∙ bytes_are h s body m.types m.arguments asks.arguments

-- ---- what is asked for

-- the message that was asked for, which is valid but for its size
pub record Sound (h : Header) (s body : List ℕ) (body_state : BodyState) : Type 0 where
  pub types : DataTypes
  pub arguments : Values
  pub asks : Asks (request_of h s body body_state) (the h s types arguments)
  pub valid : IsValidButForSize (the h s types arguments)

above_zero : (n : ℕ) → not (eqb n 0) ≡ true → 0 < n
above_zero n e = grind (arith, nat_tests)

pub asked_sound : (h : Header) (s body : List ℕ) (body_state : BodyState) (xs : List (Option HeaderField))
    → fields_of xs ≡ fields_set h s → InRange h → HoldEach xs → is_spoiled body_state ≡ false → is_sound_header h ≡ true → are_allowed xs ≡ true → IsBody s body → Sound h s body body_state
asked_sound h s body body_state xs is range hold whole sound allowed b =
    let types = b.0 in
    let values = b.1 in
    let n = length (fields_bytes Little fixed_len (fields_set h s)) in
    let parts = and_parts (kind_is_own h.kind && not (eqb h.serial 0)) (has_needed h) sound in
    let own = and_parts (kind_is_own h.kind) (not (eqb h.serial 0)) parts.0 in
    let once : AreOnce (fields_of xs) = subst (λ (fs : List Field). AreOnce fs) (sym is) (set_once h s) in
    record {
      types = types;
      arguments = values;
      asks = record { order = refl; kind = refl; flags = refl; serial = refl; fields = refl; types = b.2.typed.spelled; arguments = b.2.spelled; whole = whole };
      valid = record {
        kind = kind_is h.kind own.0;
        kind_fits = range.kind;
        flags = range.flags;
        serial = above_zero h.serial own.1;
        serial_fits = range.serial;
        fields = subst (λ (fs : List Field). AreFields Little fixed_len fs) is (fields_are fixed_len xs hold allowed once);
        required = required_set h.kind h s ∙ parts.1;
        types = subst (λ (t : List ℕ). SigText types t) (sym (signature_set h s)) b.2.typed;
        arguments = members_fit_moved Little max_levels 0 (body_place n) (Alike-back (body_place n) 0 (body_alike n)) types values b.2.fit;
        counted = subst (λ (k : ℕ). k < 2 ^ 32) (sym (ap (λ (l : List ℕ). length l) (body_is h s body types values b.2.spelled))) b.2.counted;
      };
    }

-- ---- what is too large

-- where fields end, of which another list is the same
pub fields_end_is : {xs fs : List Field} {end : ℕ} → xs ≡ fs → end ≡ fixed_len + length (fields_bytes Little fixed_len xs) → end ≡ fixed_len + length (fields_bytes Little fixed_len fs)
fields_end_is is end = end ∙ ap (λ (x : List Field). fixed_len + length (fields_bytes Little fixed_len x)) is

pub fields_above : {xs fs : List Field} → xs ≡ fs → fixed_len + max_array_len < fixed_len + length (fields_bytes Little fixed_len xs) → max_array_len < length (fields_bytes Little fixed_len fs)
fields_above is above = let same = ap (λ (x : List Field). length (fields_bytes Little fixed_len x)) is in omega arith

pub fields_too_large : (h : Header) (s body : List ℕ) (body_state : BodyState) → Sound h s body body_state → max_array_len < length (fields_bytes Little fixed_len (fields_set h s)) → AsksTooMuch (request_of h s body body_state)
fields_too_large h s body body_state m long = (the h s m.types m.arguments, m.asks, m.valid, inl long)

-- how long the message is
asked_len : (h : Header) (s body : List ℕ) (body_state : BodyState) (m : Message) (end : ℕ) → Asks (request_of h s body body_state) m → end ≡ fixed_len + length (fields_bytes Little fixed_len (fields_set h s)) → length (message_bytes m) ≡ end + padding 8 end + length body
asked_len h s body body_state m end asks is =
    let n = length (fields_bytes Little fixed_len (fields_set h s)) in
    let same : padding 8 end ≡ padding 8 n = ap (λ (k : ℕ). padding 8 k) is ∙ same_padding n in
    let len : length (message_bytes m) ≡ fixed_len + n + padding 8 n + length body = ap (λ (l : List ℕ). length l) (asked_bytes h s body body_state m asks) ∙ length-whole_bytes h (fields_set h s) body in
    omega arith

pub message_too_large : (h : Header) (s body : List ℕ) (body_state : BodyState) (end : ℕ) → Sound h s body body_state → end ≡ fixed_len + length (fields_bytes Little fixed_len (fields_set h s)) → max_message_len - (end + padding 8 end) < length body
    → AsksTooMuch (request_of h s body body_state)
message_too_large h s body body_state end m is above =
    let message = the h s m.types m.arguments in
    let len = asked_len h s body body_state message end m.asks is in
    let large : max_message_len < length (message_bytes message) = omega arith in
    (message, m.asks, m.valid, inr large)

-- ---- what is valid

-- a message that is valid but for its size, and not too large
pub sized : (m : Message) → IsValidButForSize m → length (header_bytes m) ≤ max_array_len → length (message_bytes m) ≤ max_message_len → Valid (message_bytes m) m
sized m v short fits = record {
  kind = v.kind;
  kind_fits = v.kind_fits;
  flags = v.flags;
  serial = v.serial;
  serial_fits = v.serial_fits;
  fields = v.fields;
  required = v.required;
  types = v.types;
  arguments = v.arguments;
  fields_fit = short;
  fits = fits;
  spelled = refl;
}

pub built_valid : (h : Header) (s body : List ℕ) (body_state : BodyState) (end : ℕ) (bytes : List ℕ) → Sound h s body body_state
    → end ≡ fixed_len + length (fields_bytes Little fixed_len (fields_set h s)) → end ≤ fixed_len + max_array_len → length body ≤ max_message_len - (end + padding 8 end)
    → bytes ≡ whole_bytes h (fields_set h s) body → AreAsked (request_of h s body body_state) bytes
built_valid h s body body_state end bytes m is short fits spelt =
    let message = the h s m.types m.arguments in
    let len = asked_len h s body body_state message end m.asks is in
    let now : bytes ≡ message_bytes message = spelt ∙ sym (asked_bytes h s body body_state message m.asks) in
    (message, m.asks, subst (λ (b : List ℕ). Valid b message) (sym now) (sized message m.valid (omega arith) (omega arith)))

-- memory is only wanted for a valid message
pub no_memory : {A : Type 0} (a : Asked) (r : Result (Vec ℕ A) BuildError) → IsErrAnd r (λ e. e ≡ NoMemory) → (bytes : List ℕ) × AreAsked a bytes → Finishes a (listed_bytes r)
no_memory a (Ok v) is request_of = absurd is
no_memory a (Err e) is request_of = subst (λ (x : BuildError). Finishes a (Err x)) (sym is) request_of

-- ---- what is written

pub assembled : (h : Header) (fs : List Field) (body b0 b1 b2 b3 b4 : List ℕ) (end : ℕ) → end ≡ fixed_len + length (fields_bytes Little fixed_len fs) → b0 ≡ []
    → b1 ≡ b0 ++ fixed_bytes Little h (end - 16) (length body) → b2 ≡ b1 ++ fields_bytes Little (length b1) fs → b3 ≡ b2 ++ zeros (padding 8 (length b2)) → b4 ≡ b3 ++ body
    → b4 ≡ whole_bytes h fs body
assembled h fs body b0 b1 b2 b3 b4 end is e0 e1 e2 e3 e4 =
    let all = fields_bytes Little fixed_len fs in
    let n = length all in
    let len : end - 16 ≡ n = omega arith in
    let fixed = fixed_bytes Little h n (length body) in
    let f1 : b1 ≡ fixed = e1 ∙ ap (λ (l : List ℕ). l ++ fixed_bytes Little h (end - 16) (length body)) e0 ∙ ap (λ (k : ℕ). fixed_bytes Little h k (length body)) len in
    let l1 : length b1 ≡ fixed_len = ap (λ (l : List ℕ). length l) f1 in
    let f2 : b2 ≡ fixed ++ all = e2 ∙ ap (λ (k : ℕ). b1 ++ fields_bytes Little k fs) l1 ∙ ap (λ (l : List ℕ). l ++ all) f1 in
    let l2 : length b2 ≡ fixed_len + n = ap (λ (l : List ℕ). length l) f2 ∙ length-append fixed all in
    let pad : padding 8 (length b2) ≡ padding 8 n = ap (λ (k : ℕ). padding 8 k) l2 ∙ same_padding n in
    let f3 : b3 ≡ (fixed ++ all) ++ zeros (padding 8 n) = e3 ∙ ap (λ (k : ℕ). b2 ++ zeros k) pad ∙ ap (λ (l : List ℕ). l ++ zeros (padding 8 n)) f2 in
    e4 ∙ ap (λ (l : List ℕ). l ++ body) f3 ∙ append_assoc (fixed ++ all) (zeros (padding 8 n)) body ∙ append_assoc fixed all (zeros (padding 8 n) ++ body)
