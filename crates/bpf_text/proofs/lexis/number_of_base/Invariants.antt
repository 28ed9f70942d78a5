use Rattle.std.proofs.Common.{◌≡◌, ◌<◌, ◌^◌, drop}
use Rattle.bpf_text.specs.Lexis.{number_in}
use Rattle.bpf_text.proofs.Numbers.{number_after}
use Rattle.bpf_text.proofs.lexis.number_of_base.Given as goal

abbrev pub invariant-loop-digit : goal.invariant-loop-digit
invariant-loop-digit l = (number_after l.base l.number (drop l.digit-index l.digits) ≡ number_in l.base l.digits) × (l.number < 2 ^ 32)
