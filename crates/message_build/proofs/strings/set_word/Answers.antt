use Rattle.std.proofs.Common.{◌≡◌, ◌+◌, ℕ, List, ◌++◌, length, take, drop, get_or, sym, ap, ◌∙◌}
use Rattle.message_value.proofs.WordBytes.{length-word_bytes}
use Rattle.message_build.proofs.FourBytes.{four_set, four_bytes}
use Rattle.message_build.proofs.strings.set_word.Goals as goal

pub returns : goal.returns
returns c =
    let bytes = c.args.bytes.now.items in
    let at = c.args.at in
    let word = c.word_of-word.result in
    let four : length word ≡ 4 = ap (λ (l : List ℕ). length l) c.word_of-word.ensures ∙ length-word_bytes c.args.order c.args.n in
    four_set bytes at (get_or word 0 0) (get_or word 1 0) (get_or word 2 0) (get_or word 3 0) c.requires
    ∙ ap (λ (l : List ℕ). take at bytes ++ (l ++ drop (at + 4) bytes)) (sym (four_bytes word four) ∙ c.word_of-word.ensures)
