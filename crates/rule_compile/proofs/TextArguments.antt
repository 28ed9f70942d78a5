-- Each argument of a valid message whose code is that of a text has a text.
use Rattle.std.proofs.Common.{◌≡◌, ℕ, zero, suc, ◌+◌, true, false, List, length, Some, ◌⊎◌, inl, inr, refl, sym, ◌∙◌, subst, slice_get}
use Rattle.std.proofs.lemmas.Bool.{false≢true}
use Rattle.std.proofs.lemmas.Option.{same_Some}
use Rattle.signature.specs.DataType.{DataType, DataTypes, basic, variant, array, dict, struct, one_more}
use Rattle.signature.specs.Alignment.{alignment_of}
use Rattle.message_value.specs.declared.order.Order.{Order}
use Rattle.message_value.specs.Value.{Value, Values, number, text, one_value}
use Rattle.message_value.specs.Spelling.{align_up, value_bytes}
use Rattle.message_value.specs.Arguments.{Argument, argument_of, arguments_from}
use Rattle.message_value.specs.Fits.{is_text_code, BareFits, MembersFit, max_levels}
use Rattle.message_view.specs.Message.{Message}
use Rattle.message_view.specs.Spelling.{header_bytes, body_place, arguments_of}
use Rattle.message_view.specs.Valid.{Valid}

abbrev HasText : Argument → Type 0
HasText a = (t : List ℕ) × (a.text ≡ Some t)

no_text : (code : ℕ) (P : Type 0) → is_text_code code ≡ false → is_text_code code ≡ true → P
no_text code P none is = absurd (false≢true (sym none ∙ is))

argument_text : (order : Order) (levels place : ℕ) (t : DataType) (v : Value) → BareFits order levels place t v → is_text_code (argument_of order place t v).code ≡ true → HasText (argument_of order place t v)
argument_text order levels place (basic code) (text bytes) fits is = (bytes, refl)
argument_text order levels place (basic code) (number bits) fits is = no_text code _ fits.0 is
argument_text order levels place (basic code) _ fits is = absurd fits
argument_text order levels place variant v fits is = no_text 118 _ refl is
argument_text order levels place (array t) v fits is = no_text 97 _ refl is
argument_text order levels place (dict k t) v fits is = no_text 97 _ refl is
argument_text order levels place (struct t ts) v fits is = no_text 40 _ refl is

text_among : (order : Order) (levels place : ℕ) (ts : DataTypes) (vs : Values) (n : ℕ) (a : Argument) → MembersFit order levels place ts vs → slice_get (arguments_from order place ts vs) n ≡ Some a → is_text_code a.code ≡ true → HasText a
text_among order levels place (one_more t ts) (one_value v vs) zero a fits at is =
    let same = same_Some _ a at in
    subst HasText same (argument_text order levels (align_up (alignment_of t) place) t v fits.0 (subst (λ (b : Argument). is_text_code b.code ≡ true) (sym same) is))
text_among order levels place (one_more t ts) (one_value v vs) (suc n) a fits at is =
    text_among order levels (place + length (value_bytes order place t v)) ts vs n a fits.1 at is
text_among order levels place _ _ n a fits at is = absurd cc

pub argument_has_text : (bytes : List ℕ) (m : Message) (n : ℕ) (a : Argument) → Valid bytes m → slice_get (arguments_of m) n ≡ Some a → is_text_code a.code ≡ true → (t : List ℕ) × (a.text ≡ Some t)
argument_has_text bytes m n a valid at is =
    text_among m.order max_levels (body_place (length (header_bytes m))) m.types m.arguments n a valid.arguments at is

-- the code of a string or of an object path
abbrev pub IsText : ℕ → Type 0
IsText code = (code ≡ 115) ⊎ (code ≡ 111)

pub path_has_text : (bytes : List ℕ) (m : Message) (n : ℕ) (a : Argument) → Valid bytes m → slice_get (arguments_of m) n ≡ Some a → IsText a.code → (t : List ℕ) × (a.text ≡ Some t)
path_has_text bytes m n a valid at (inl e) = argument_has_text bytes m n a valid at (rw e refl)
path_has_text bytes m n a valid at (inr e) = argument_has_text bytes m n a valid at (rw e refl)
