-- The number that is read of a message whose first argument is one.
use Rattle.std.proofs.Common.{◌≡◌, ℕ, ◌+◌, ◌^◌, ◌<◌, List, [], ◌∷◌, ◌++◌, length, drop, Some, refl, sym, ap, subst, ◌∙◌, arith}
use Rattle.signature.specs.DataType.{DataTypes, basic, one_more}
use Rattle.message_value.specs.declared.order.Order.{Order}
use Rattle.message_value.specs.Order.{word_of, word_bytes}
use Rattle.message_value.specs.Value.{Values, number, one_value}
use Rattle.message_value.specs.Spelling.{padding, zeros, members_bytes}
use Rattle.message_value.specs.Fits.{MembersFit}
use Rattle.message_value.specs.Arguments.{arguments_from}
use Rattle.message_value.proofs.WordBytes.{length-number_bytes, number_of-number_bytes}
use Rattle.message_value.proofs.MovedValues.{padding_alike}
use Rattle.message_view.specs.Message.{Message}
use Rattle.message_view.specs.Spelling.{header_bytes, body_place, body_bytes, message_bytes}
use Rattle.message_view.specs.Valid.{Valid}
use Rattle.message_view.proofs.OneMessage.{valid_lies}
use Rattle.message_build.proofs.MessageLaws.{body_alike}
use Rattle.bus_messages.specs.Arguments.{number_from, number_at, first_number}
use Rattle.bus_messages.specs.Calls.{given_by}

four : (order : Order) (bytes rest : List ℕ) → length bytes ≡ 4 → number_from order (bytes ++ rest) ≡ Some (word_of order bytes)
four order [] rest is = absurd (omega (arith, is))
four order (a ∷ []) rest is = absurd (omega (arith, is))
four order (a ∷ b ∷ []) rest is = absurd (omega (arith, is))
four order (a ∷ b ∷ c ∷ []) rest is = absurd (omega (arith, is))
four order (a ∷ b ∷ c ∷ d ∷ []) rest is = refl
four order (a ∷ b ∷ c ∷ d ∷ e ∷ more) rest is = absurd (omega (arith, is))

-- the number that a word begins with
word_first : (order : Order) (n : ℕ) (rest : List ℕ) → n < 2 ^ 32 → number_from order (word_bytes order n ++ rest) ≡ Some n
word_first order n rest lt =
    four order (word_bytes order n) rest (length-number_bytes order 117 n)
    ∙ ap (λ (k : ℕ). Some k) (number_of-number_bytes order 117 n lt)

-- the body stands where the first argument does
body_there : (bytes : List ℕ) (m : Message) → Valid bytes m → drop (body_place (length (header_bytes m))) (message_bytes m) ≡ body_bytes m
body_there bytes m valid =
    let lies = valid_lies bytes m valid in
    ap (λ (b : List ℕ). drop (body_place (length (header_bytes m))) b) (sym valid.spelled)
    ∙ ap (λ (k : ℕ). drop (body_place k) bytes) (sym lies.is_len)
    ∙ lies.is_body

-- a number at a place that is a multiple of four
first_at : (message : List ℕ) (order : Order) (place n : ℕ) (types : DataTypes) (values : Values) → padding 4 place ≡ 0 → n < 2 ^ 32
    → drop place message ≡ members_bytes order place (one_more (basic 117) types) (one_value (number n) values)
    → number_at message order (arguments_from order place (one_more (basic 117) types) (one_value (number n) values)) ≡ Some n
first_at message order place n types values none lt is =
    let start : place + padding 4 place ≡ place = omega (arith, none) in
    let rest = members_bytes order (place + length (zeros (padding 4 place) ++ word_bytes order n)) types values in
    let bytes : members_bytes order place (one_more (basic 117) types) (one_value (number n) values) ≡ word_bytes order n ++ rest =
    ap (λ (k : ℕ). (zeros k ++ word_bytes order n) ++ rest) none in
    ap (λ (p : ℕ). number_from order (drop p message)) start
    ∙ ap (number_from order) (is ∙ bytes)
    ∙ word_first order n rest lt

pub number_is : (bytes : List ℕ) (m : Message) (types : DataTypes) (n : ℕ) (values : Values) → Valid bytes m → m.types ≡ one_more (basic 117) types → m.arguments ≡ one_value (number n) values → first_number (given_by m) ≡ Some n
number_is bytes m types n values valid typed valued =
    let place = body_place (length (header_bytes m)) in
    let none : padding 4 place ≡ 0 = padding_alike place 0 (body_alike (length (header_bytes m))) (basic 117) in
    let fits : MembersFit m.order 64 place (one_more (basic 117) types) (one_value (number n) values) =
    subst (λ (vs : Values). MembersFit m.order 64 place (one_more (basic 117) types) vs) valued
    (subst (λ (ts : DataTypes). MembersFit m.order 64 place ts m.arguments) typed valid.arguments) in
    let body : drop place (message_bytes m) ≡ members_bytes m.order place (one_more (basic 117) types) (one_value (number n) values) =
    body_there bytes m valid ∙ ap (λ (ts : DataTypes). members_bytes m.order place ts m.arguments) typed ∙ ap (members_bytes m.order place (one_more (basic 117) types)) valued in
    ap (λ (ts : DataTypes). number_at (message_bytes m) m.order (arguments_from m.order place ts m.arguments)) typed
    ∙ ap (λ (vs : Values). number_at (message_bytes m) m.order (arguments_from m.order place (one_more (basic 117) types) vs)) valued
    ∙ first_at (message_bytes m) m.order place n types values none fits.0.1 body
