use Rattle.std.proofs.Common.{◌≡◌, ℕ, List, false, refl}
use Rattle.std.specs.Str.{bytes_eq}
use Rattle.std.proofs.lemmas.Bool.{false_from_ne_true}
use Rattle.std.proofs.lemmas.Slice.Eq.{bytes_eq-Decides}
use Rattle.command_line.specs.CommandRow.{match_word, asm_word, check_word, compile_word, run_word}
use Rattle.command_line.proofs.command_row.CommandRow.of_command.Goals as goal

different : (word known : List ℕ) → (word ≡ known → ⊥) → bytes_eq word known ≡ false
different word known differs = false_from_ne_true (bytes_eq word known) (λ same. differs ((bytes_eq-Decides word known).0 same))

pub returns-in_default : goal.returns-in_default
returns-in_default c =
    let word : List ℕ = c.args.command.now in
    rw (different word match_word c.in_default.not-match, different word asm_word c.in_default.not-asm, different word check_word c.in_default.not-check, different word compile_word c.in_default.not-compile, different word run_word c.in_default.not-run) refl
