-- The fields of the instructions before a place fit their widths.
use Rattle.std.proofs.Common.{ℕ, ◌+◌, ◌<◌, List, length, get_or, subst, below_more}
use Rattle.std.proofs.lemmas.List.{get_or_default}
use Rattle.bpf_code.specs.declared.instruction.Ins.{Ins}
use Rattle.bpf_text.specs.Used.{IsInRange}

pub one_wider : (program : List Ins) (place : ℕ) (ins : Ins) → place < length program → ((k : ℕ) → k < place → (d : Ins) → IsInRange (get_or program k d)) → IsInRange (get_or program place ins) → (k : ℕ) → k < place + 1 → (d : Ins) → IsInRange (get_or program k d)
one_wider program place ins inside before here =
    below_more (λ (k : ℕ). (d : Ins) → IsInRange (get_or program k d)) place before (λ (d : Ins). subst IsInRange (get_or_default program place ins d inside) here)
