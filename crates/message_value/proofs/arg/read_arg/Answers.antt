use Rattle.std.proofs.Common.{ℕ, ap, ap₂, sym, ◌∙◌}
use Rattle.signature.specs.DataType.{DataType}
use Rattle.message_value.specs.Reading.{aligned_at}
use Rattle.message_value.specs.Arguments.{argument_of}
use Rattle.message_value.proofs.SkipValues.{value_gone}
use Rattle.message_value.proofs.ShownSteps.{start_place, start_aligned, value_here, text_of_value}
use Rattle.message_value.proofs.arg.read_arg.Goals as goal

pub skip_padding-requires-clause-read : goal.skip_padding-requires-clause-read
skip_padding-requires-clause-read c =
    let g = value_gone c.args.levels c.args.order c.requires.0 c.args.cursor.now c.requires.2 in
    (g.0, ap (λ (n : ℕ). aligned_at n c.args.cursor.now) (c.alignment.ensures c.requires.0 c.requires.1) ∙ g.1)

pub text_arg-requires : goal.text_arg-requires
text_arg-requires c =
    let gone = ap (λ (n : ℕ). aligned_at n c.args.cursor.now) (sym (c.alignment.ensures c.requires.0 c.requires.1)) ∙ c.skip_padding.ensures.gone in
    (c.requires.2.0, text_of_value c.args.levels c.args.order c.requires.0 c.in-Some.text_type c.args.cursor.now c.skip_padding.new.self c.requires.2.0 (c.in-Some.ensures c.requires.0 c.requires.1) gone c.requires.2.1)

pub other_arg-requires : goal.other_arg-requires
other_arg-requires c =
    let gone = ap (λ (n : ℕ). aligned_at n c.args.cursor.now) (sym (c.alignment.ensures c.requires.0 c.requires.1)) ∙ c.skip_padding.ensures.gone in
    let same = value_here c.args.levels c.args.order c.requires.0 c.args.cursor.now c.skip_padding.new.self gone in
    (c.requires.0, c.requires.1, (c.requires.2.0, sym same ∙ c.requires.2.1))

pub returns-in-Some-clause-shows : goal.returns-in-Some-clause-shows
returns-in-Some-clause-shows c = λ type is found e.
    let gone = ap (λ (n : ℕ). aligned_at n c.args.cursor.now) (sym (c.alignment.ensures type is)) ∙ c.skip_padding.ensures.gone in
    let kind = c.in-Some.ensures type is in
    let r = c.text_arg.ensures found (text_of_value c.args.levels c.args.order type c.in-Some.text_type c.args.cursor.now c.skip_padding.new.self found kind gone e) in
    (r.0, r.1 ∙ ap₂ (λ (p : ℕ) (t : DataType). argument_of c.args.order p t found.0) (start_place type c.args.cursor.now c.skip_padding.new.self gone) (sym kind))

pub returns-in-None-clause-shows : goal.returns-in-None-clause-shows
returns-in-None-clause-shows c = λ type is found e.
    let gone = ap (λ (n : ℕ). aligned_at n c.args.cursor.now) (sym (c.alignment.ensures type is)) ∙ c.skip_padding.ensures.gone in
    let same = value_here c.args.levels c.args.order type c.args.cursor.now c.skip_padding.new.self gone in
    let r = c.other_arg.ensures type is (c.in-None.ensures type is) (start_aligned type c.args.cursor.now c.skip_padding.new.self gone) found (sym same ∙ e) in
    (r.0, r.1 ∙ ap (λ (p : ℕ). argument_of c.args.order p type found.0) (start_place type c.args.cursor.now c.skip_padding.new.self gone))
