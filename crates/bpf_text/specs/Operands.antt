-- The operands of an instruction, which stand after its mnemonic (own, in the manner of Linux's `bpf_asm`).
use Rattle.std.specs.Prelude.{ℕ, List}

-- the targets of a conditional jump, of which the last may be left out
pub data Targets : Type 0 where
  One : List ℕ → Targets
  Both : List ℕ → List ℕ → Targets

-- Nothing, #k, #len, [k], [x+k], M[k], 4*([k]&0xf), a name (x, a or a label), and the two forms of a
-- conditional jump, #k and a name with targets.
pub data Operands : Type 0 where
  Absent : Operands
  Number : ℕ → Operands
  Length : Operands
  Place : ℕ → Operands
  Indexed : ℕ → Operands
  Scratch : ℕ → Operands
  Header : ℕ → Operands
  Name : List ℕ → Operands
  NumberTo : ℕ → Targets → Operands
  NameTo : List ℕ → Targets → Operands
