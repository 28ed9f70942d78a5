-- A stamped message has the member, the interface, the path and the argument 0 of the message, and the sender of the stamp.
use Rattle.std.proofs.Common.{◌≡◌, ℕ, Bool, true, false, not, cond, eqb, List, [], ◌∷◌, ◌++◌, filter, length, Option, Some, refl, sym, ap, ◌∙◌}
use Rattle.std.proofs.lemmas.Bool.{and_parts, not-true}
use Rattle.std.specs.Prelude.{slice_get, is_some}
use Rattle.signature.specs.DataType.{DataType, DataTypes, basic, variant, array, dict, struct, no_types, one_more}
use Rattle.message_value.specs.declared.order.Order.{Order}
use Rattle.message_value.specs.Value.{Value, Values, number, text, elements, entries, members, of_type, no_values, one_value}
use Rattle.message_value.specs.Arguments.{argument_of, arguments_from}
use Rattle.message_view.specs.Header.{code_of}
use Rattle.message_view.specs.Message.{Field, Message, field_with}
use Rattle.message_view.specs.Message.{text_in as field_text}
use Rattle.message_view.specs.Spelling.{body_place, header_bytes, arguments_of}
use Rattle.message_build.specs.Stamped.{is_kept, sender_field, with_sender}
use Rattle.message_build.specs.StampedFields.{is_kept_code}
use Rattle.message_build.proofs.KeptFields.{same_with}
use Rattle.match_rule.specs.Arguments.{text_in}
use Rattle.match_rule.specs.FixedTexts.{FixedTexts, texts_of, texts_from, string_in}
use Rattle.router.specs.State.{State}
use Rattle.router.specs.Recipients.{AreRecipients}
use Rattle.router.specs.Reach.{TellsReach}

-- the text of an argument, wherever it lies
text_in-place : (order : Order) (p q : ℕ) (type : DataType) (value : Value) → text_in (Some (argument_of order p type value)) ≡ text_in (Some (argument_of order q type value))
text_in-place order p q (basic code) (number bits) = refl
text_in-place order p q (basic code) (text bytes) = refl
text_in-place order p q (basic code) (elements items) = refl
text_in-place order p q (basic code) (entries pairs) = refl
text_in-place order p q (basic code) (members items) = refl
text_in-place order p q (basic code) (of_type type value) = refl
text_in-place order p q variant value = refl
text_in-place order p q (array element) value = refl
text_in-place order p q (dict key content) value = refl
text_in-place order p q (struct first others) value = refl

first_text-place : (order : Order) (p q : ℕ) (types : DataTypes) (values : Values) → text_in (slice_get (arguments_from order p types values) 0) ≡ text_in (slice_get (arguments_from order q types values) 0)
first_text-place order p q no_types no_values = refl
first_text-place order p q no_types (one_value value more) = refl
first_text-place order p q (one_more type later) no_values = refl
first_text-place order p q (one_more type later) (one_value value more) = text_in-place order _ _ type value

-- the sender is the one that was stamped
own_sender : (fields : List Field) (sender : List ℕ) → field_with 7 (filter is_kept fields ++ sender_field sender ∷ []) ≡ Some (text sender)
own_sender [] sender = refl
own_sender (f ∷ fs) sender = go (is_kept f) refl (own_sender fs sender)
  where
    go : (k : Bool) → is_kept f ≡ k → field_with 7 (filter is_kept fs ++ sender_field sender ∷ []) ≡ Some (text sender) → field_with 7 (cond k (f ∷ filter is_kept fs) (filter is_kept fs) ++ sender_field sender ∷ []) ≡ Some (text sender)
    go true is rest =
        let other : eqb f.code 7 ≡ false = not-true (eqb f.code 7) (and_parts (is_some (code_of f.code)) (not (eqb f.code 7)) is).1 in
        ap (λ (b : Bool). cond b (Some f.value) (field_with 7 (filter is_kept fs ++ sender_field sender ∷ []))) other ∙ rest
    go false is rest = rest

abbrev texts_with : Option Value → Option Value → Option Value → Option Value → Option (ℕ × List ℕ) → FixedTexts
texts_with member interface path sender first = record { member = field_text member; interface = field_text interface; path = field_text path; sender = field_text sender; arg0 = string_in first }

pub stamped_texts : (m : Message) (sender : List ℕ) → texts_of (with_sender m sender) ≡ texts_from (Some sender) m
stamped_texts m sender =
    let stamped = with_sender m sender in
    let same : (code : ℕ) → is_kept_code code ≡ true → field_with code stamped.fields ≡ field_with code m.fields = λ code known. same_with code m.fields sender known in
    let first : text_in (slice_get (arguments_of stamped) 0) ≡ text_in (slice_get (arguments_of m) 0) = first_text-place m.order (body_place (length (header_bytes stamped))) (body_place (length (header_bytes m))) m.types m.arguments in
    ap (λ (v : Option Value). texts_with v (field_with 2 stamped.fields) (field_with 1 stamped.fields) (field_with 7 stamped.fields) (text_in (slice_get (arguments_of stamped) 0))) (same 3 refl)
    ∙ ap (λ (v : Option Value). texts_with (field_with 3 m.fields) v (field_with 1 stamped.fields) (field_with 7 stamped.fields) (text_in (slice_get (arguments_of stamped) 0))) (same 2 refl)
    ∙ ap (λ (v : Option Value). texts_with (field_with 3 m.fields) (field_with 2 m.fields) v (field_with 7 stamped.fields) (text_in (slice_get (arguments_of stamped) 0))) (same 1 refl)
    ∙ ap (λ (v : Option Value). texts_with (field_with 3 m.fields) (field_with 2 m.fields) (field_with 1 m.fields) v (text_in (slice_get (arguments_of stamped) 0))) (own_sender m.fields sender)
    ∙ ap (λ (v : Option (ℕ × List ℕ)). texts_with (field_with 3 m.fields) (field_with 2 m.fields) (field_with 1 m.fields) (Some (text sender)) v) first

module _ {M : Type 0} where
  -- what may reach nobody reaches nobody once it is stamped
  pub stamped_for_nobody : (s : State M) (m : Message) (may_reach : Bool) (from : Option ℕ) (name sender : List ℕ) → name ≡ sender → not may_reach ≡ true → TellsReach s (texts_from (Some name) m) may_reach → AreRecipients s from (with_sender m sender) []
  stamped_for_nobody s m true from name sender same never tells = cc
  stamped_for_nobody s m false from name sender same never tells = tells from (with_sender m sender) (stamped_texts m sender ∙ ap (λ (n : List ℕ). texts_from (Some n) m) (sym same))
