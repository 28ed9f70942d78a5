use Rattle.std.proofs.Common.{◌≡◌, ℕ, ap, sym, ◌∙◌, Ok}
use Rattle.signature.specs.BasicType.{byte_of, basic_alignment}
use Rattle.message_value.specs.Reading.{aligned_at}
use Rattle.message_value.proofs.SkipValues.{basic_gone, basic_text, text_end, number_there, number_place, boolean_none, boolean_len}
use Rattle.message_value.proofs.skip.skip_basic.Goals as goal

pub skip_padding-requires-clause-read : goal.skip_padding-requires-clause-read
skip_padding-requires-clause-read c =
    let g = basic_gone c.args.order (byte_of c.args.basic) c.args.cursor.now c.requires in
    (g.0, ap (λ (n : ℕ). aligned_at n c.args.cursor.now) c.alignment.ensures ∙ g.1)

pub skip_value-requires : goal.skip_value-requires
skip_value-requires c =
    let gone : aligned_at (basic_alignment (byte_of c.args.basic)) c.args.cursor.now ≡ Ok c.skip_padding.new.self = ap (λ (n : ℕ). aligned_at n c.args.cursor.now) (sym c.alignment.ensures) ∙ c.skip_padding.ensures.gone in
    (c.requires.0, basic_text c.args.order (byte_of c.args.basic) c.in-Text.text_type c.args.cursor.now c.skip_padding.new.self c.requires.0 gone c.in-Text.ensures c.requires.1)

pub returns-in-Text : goal.returns-in-Text
returns-in-Text c =
    let gone : aligned_at (basic_alignment (byte_of c.args.basic)) c.args.cursor.now ≡ Ok c.skip_padding.new.self = ap (λ (n : ℕ). aligned_at n c.args.cursor.now) (sym c.alignment.ensures) ∙ c.skip_padding.ensures.gone in
    text_end c.args.order (byte_of c.args.basic) c.in-Text.text_type c.args.cursor.now c.skip_padding.new.self c.skip_value.result.now c.skip_value.new.cursor gone c.in-Text.ensures c.skip_value.ensures.read

pub skip-requires : goal.skip-requires
skip-requires c =
    let gone : aligned_at (basic_alignment (byte_of c.args.basic)) c.args.cursor.now ≡ Ok c.skip_padding.new.self = ap (λ (n : ℕ). aligned_at n c.args.cursor.now) (sym c.alignment.ensures) ∙ c.skip_padding.ensures.gone in
    number_there c.args.order (byte_of c.args.basic) 4 c.args.cursor.now c.skip_padding.new.self gone (boolean_none (byte_of c.args.basic) c.in-Boolean.ensures) (boolean_len (byte_of c.args.basic) c.in-Boolean.ensures) c.requires

pub returns-in-Boolean : goal.returns-in-Boolean
returns-in-Boolean c =
    let gone : aligned_at (basic_alignment (byte_of c.args.basic)) c.args.cursor.now ≡ Ok c.skip_padding.new.self = ap (λ (n : ℕ). aligned_at n c.args.cursor.now) (sym c.alignment.ensures) ∙ c.skip_padding.ensures.gone in
    number_place c.args.order (byte_of c.args.basic) 4 c.args.cursor.now c.skip_padding.new.self c.skip.result.now c.skip.new.self gone (boolean_none (byte_of c.args.basic) c.in-Boolean.ensures) (boolean_len (byte_of c.args.basic) c.in-Boolean.ensures) c.skip.ensures.read

pub skip-requires-in-Number : goal.skip-requires-in-Number
skip-requires-in-Number c =
    let gone : aligned_at (basic_alignment (byte_of c.args.basic)) c.args.cursor.now ≡ Ok c.skip_padding.new.self = ap (λ (n : ℕ). aligned_at n c.args.cursor.now) (sym c.alignment.ensures) ∙ c.skip_padding.ensures.gone in
    number_there c.args.order (byte_of c.args.basic) c.in-Number.len c.args.cursor.now c.skip_padding.new.self gone c.in-Number.ensures.0 c.in-Number.ensures.2 c.requires

pub returns-in-Number : goal.returns-in-Number
returns-in-Number c =
    let gone : aligned_at (basic_alignment (byte_of c.args.basic)) c.args.cursor.now ≡ Ok c.skip_padding.new.self = ap (λ (n : ℕ). aligned_at n c.args.cursor.now) (sym c.alignment.ensures) ∙ c.skip_padding.ensures.gone in
    number_place c.args.order (byte_of c.args.basic) c.in-Number.len c.args.cursor.now c.skip_padding.new.self c.skip-in-Number.result.now c.skip-in-Number.new.self gone c.in-Number.ensures.0 c.in-Number.ensures.2 c.skip-in-Number.ensures.read
