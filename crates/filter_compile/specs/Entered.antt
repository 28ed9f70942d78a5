-- Inner: programs under way.
use Rattle.std.specs.Prelude.{ℕ, List, length}
use Rattle.bpf_code.specs.declared.instruction.Ins.{Ins}

-- a program under way, and where it begins: how many instructions there are from there to the end
pub record Entered : Type 0 where
  pub code : List Ins
  pub entry : ℕ

-- it begins with its first instruction
abbrev pub whole : List Ins → Entered
whole code = record { code = code; entry = length code }
