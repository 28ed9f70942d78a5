use Rattle.std.proofs.Common.{◌≡◌, ℕ, Ok, ap, sym, ◌∙◌}
use Rattle.signature.specs.BasicType.{basic_alignment}
use Rattle.message_value.specs.Reading.{aligned_at}
use Rattle.message_view.specs.FieldAnswers.{type_code_of}
use Rattle.message_view.proofs.ValidFields.{value_gone, value_text, value_number, value_as, number_word, word_number}
use Rattle.message_view.proofs.field.FieldType.valid_value.Goals as goal

pub skip_padding-requires-clause-read : goal.skip_padding-requires-clause-read
skip_padding-requires-clause-read c =
    let g = value_gone c.args.order (type_code_of c.args.self) c.args.cursor.now c.requires in
    (g.0, ap (λ (n : ℕ). aligned_at n c.args.cursor.now) c.alignment.ensures ∙ g.1)

pub valid_text-requires : goal.valid_text-requires
valid_text-requires c =
    let gone : aligned_at (basic_alignment (type_code_of c.args.self)) c.args.cursor.now ≡ Ok c.skip_padding.new.cursor = ap (λ (n : ℕ). aligned_at n c.args.cursor.now) (sym c.alignment.ensures) ∙ c.skip_padding.ensures in
    (_, value_text c.args.order (type_code_of c.args.self) c.in-Text.text_type c.args.cursor.now c.skip_padding.new.cursor c.requires (ap type_code_of c.in-Text.is) gone)

pub returns-in-Text-clause-read : goal.returns-in-Text-clause-read
returns-in-Text-clause-read c =
    let gone : aligned_at (basic_alignment (type_code_of c.args.self)) c.args.cursor.now ≡ Ok c.skip_padding.new.cursor = ap (λ (n : ℕ). aligned_at n c.args.cursor.now) (sym c.alignment.ensures) ∙ c.skip_padding.ensures in
    let read = value_text c.args.order (type_code_of c.args.self) c.in-Text.text_type c.args.cursor.now c.skip_padding.new.cursor c.requires (ap type_code_of c.in-Text.is) gone in
    value_as _ _ c.requires _ read c.valid_text.ensures.read

pub valid_word-requires : goal.valid_word-requires
valid_word-requires c =
    let gone : aligned_at (basic_alignment (type_code_of c.args.self)) c.args.cursor.now ≡ Ok c.skip_padding.new.cursor = ap (λ (n : ℕ). aligned_at n c.args.cursor.now) (sym c.alignment.ensures) ∙ c.skip_padding.ensures in
    number_word c.args.order c.skip_padding.new.cursor (_, value_number c.args.order (type_code_of c.args.self) c.args.cursor.now c.skip_padding.new.cursor c.requires (ap type_code_of c.in-Number.is) gone)

pub returns-in-Number-clause-read : goal.returns-in-Number-clause-read
returns-in-Number-clause-read c =
    let gone : aligned_at (basic_alignment (type_code_of c.args.self)) c.args.cursor.now ≡ Ok c.skip_padding.new.cursor = ap (λ (n : ℕ). aligned_at n c.args.cursor.now) (sym c.alignment.ensures) ∙ c.skip_padding.ensures in
    let read = value_number c.args.order (type_code_of c.args.self) c.args.cursor.now c.skip_padding.new.cursor c.requires (ap type_code_of c.in-Number.is) gone in
    value_as _ _ c.requires _ read (word_number c.args.order _ _ _ c.valid_word.ensures)
