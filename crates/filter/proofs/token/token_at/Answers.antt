use Rattle.std.proofs.Common.{◌≡◌, ℕ, ◌+◌, List, true, sym, ap, ◌∙◌, get_or, drop}
use Rattle.std.specs.List.{prefix_len}
use Rattle.filter.specs.Lexis.{is_word_byte}
use Rattle.filter.proofs.Fronts.{word_front, word_token, whole_rest}
use Rattle.filter.proofs.token.token_at.Goals as goal

pub returns-then-is_word_byte-clause-value : goal.returns-then-is_word_byte-clause-value
returns-then-is_word_byte-clause-value c =
    let text : List ℕ = c.args.text.now in
    let place : ℕ = c.args.place in
    let is : is_word_byte (get_or text place 0) ≡ true = sym c.is_word_byte.ensures ∙ c.if-is_word_byte.true in
    rw (word_front place c.word_len-more.result text c.requires.inside) (word_token place (get_or text place 0) (drop (place + 1) text) c.word_len-more.result is (c.word_len-more.ensures.value ∙ ap (prefix_len is_word_byte) (whole_rest text (place + 1))))
