-- What words get that are no row of the command line (own).
use Rattle.std.specs.Prelude.{◌≡◌, ◌⊎◌, ℕ, true, List}
use Rattle.std.specs.Borrow.{Bor}
use Rattle.command_line.specs.Asking.{asks_for_text}
use Rattle.command_line.specs.declared.error.Fault.TheVariants.{Usage}
use Rattle.dbusfan_tool.specs.Answer.{Said, saying, failing}

-- a text on standard output alone, where some word asks for one, or that the words are no row
abbrev pub SaysUsage : List (Bor (List ℕ)) → Said → Type 0
SaysUsage words said = ((text : List ℕ) × (asks_for_text words ≡ true) × (said ≡ saying text)) ⊎ (said ≡ failing Usage)
