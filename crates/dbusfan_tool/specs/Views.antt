-- Inner: what the code answers, as the definitions say it.
use Rattle.std.specs.Prelude.{◌≡◌, ◌⊎◌, ℕ, List, [], string_bytes}
use Rattle.dbusfan_tool.specs.declared.answer.Answer.{Answer}
use Rattle.dbusfan_tool.specs.declared.answer.Answer.TheVariants.{Text, Report as Reports, Fault as Fails}
use Rattle.command_line.specs.declared.error.Fault.TheVariants.{Memory}
use Rattle.dbusfan_tool.specs.Answer.{Said, failing, saying, after_lines}

-- how an answer is said
abbrev pub said_by : Answer → Said
said_by (Text text) = saying (string_bytes text)
said_by (Reports output notes status) = record { lines = []; output = string_bytes output; error = string_bytes notes; status = status }
said_by (Fails fault) = failing fault

-- An answer after lines is what may be said; or no line was written and memory is short.
abbrev pub SaysAfter : (Said → Type 0) → List ℕ → Answer → Type 0
SaysAfter allowed written answer = allowed (after_lines written (said_by answer)) ⊎ ((written ≡ []) × (said_by answer ≡ failing Memory))
