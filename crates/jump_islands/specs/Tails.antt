-- Inner: the last instructions of a source program, lowered: what each step of `lower` adds. Places are those of the
-- source program, from its end.
use Rattle.std.specs.Prelude.{ℕ, ◌+◌, ◌-◌, ◌<◌, ◌≤◌, Bool, ◌&&◌, ◌||◌, List, [], ◌∷◌, ◌++◌, length, slice_index, slice_set, if◌then◌else◌, nat_lt}
use Rattle.bpf_code.specs.declared.instruction.Ins.{Ins}
use Rattle.bpf_code.specs.declared.operation.Test.{Test}
use Rattle.bpf_code.specs.declared.operation.Operand.{Operand}
use Rattle.jump_islands.specs.declared.source_ins.SourceIns.{SourceIns}
use Rattle.jump_islands.specs.declared.source_ins.SourceIns.TheVariants.{Plain, Branch, Jump}
use Rattle.jump_islands.specs.Source.{branch_over, jump_over}

-- The lowered instructions, the last one first. For each place: how many instructions stand from it on
-- (`heights`), and from the nearest instruction on that leads to it, its own or its latest island's (`reaches`).
pub record TailTree : Type 0 where
  pub program : List Ins
  pub heights : List ℕ
  pub reaches : List ℕ

abbrev pub len : TailTree → ℕ
len t = length t.program

abbrev pub height : TailTree → ℕ → ℕ
height t place = slice_index t.heights place

abbrev pub reach : TailTree → ℕ → ℕ
reach t place = slice_index t.reaches place

-- the tail of no instruction
abbrev pub no_tail : TailTree
no_tail = record { program = []; heights = 0 ∷ []; reaches = 0 ∷ [] }

-- one more instruction
abbrev pub with_ins : Ins → TailTree → TailTree
with_ins ins t = record { program = t.program ++ ins ∷ []; heights = t.heights; reaches = t.reaches }

-- one more place, in front of the instructions
abbrev pub with_place : TailTree → TailTree
with_place t = record { program = t.program; heights = t.heights ++ len t ∷ []; reaches = t.reaches ++ len t ∷ [] }

-- the place to which a jump over `over` instructions goes from in front of the tail
abbrev pub place_after : ℕ → TailTree → ℕ
place_after over t = length t.heights - 1 - over

-- the jump to a place
abbrev pub jump_to : ℕ → TailTree → Ins
jump_to place t = jump_over (len t - height t place)

-- one more island, of a place
abbrev pub with_island : ℕ → TailTree → TailTree
with_island place t =
    record { program = t.program ++ jump_to place t ∷ []; heights = t.heights; reaches = slice_set t.reaches place (len t + 1) }

-- one more island, of a place, if it is needed
abbrev pub with_needed : Bool → ℕ → TailTree → TailTree
with_needed needed place t = if needed then with_island place t else t

-- a place is too far for a conditional jump, where the tail after it has `ahead` instructions
abbrev pub is_too_far : ℕ → ℕ → TailTree → Bool
is_too_far place ahead t = nat_lt 255 (ahead - reach t place)

-- the first place needs an island: it is far, or it is once the other has one
abbrev pub is_first_far : ℕ → ℕ → TailTree → Bool
is_first_far hit miss t = is_too_far hit (len t) t || is_too_far miss (len t) t && is_too_far hit (len t + 1) t

abbrev pub with_first : ℕ → ℕ → TailTree → TailTree
with_first hit miss t = with_needed (is_first_far hit miss t) hit t

abbrev pub with_second : ℕ → TailTree → TailTree
with_second miss t = with_needed (is_too_far miss (len t) t) miss t

abbrev pub with_islands : ℕ → ℕ → TailTree → TailTree
with_islands hit miss t = with_second miss (with_first hit miss t)

-- the conditional jump to two places that are near
abbrev pub branch_to : Test → Operand → ℕ → ℕ → ℕ → TailTree → Ins
branch_to test operand k hit miss t = branch_over test operand k (len t - reach t hit) (len t - reach t miss)

abbrev pub with_branch : Test → Operand → ℕ → ℕ → ℕ → TailTree → TailTree
with_branch test operand k hit miss t = with_ins (branch_to test operand k hit miss t) t

abbrev pub with_source_ins : SourceIns → TailTree → TailTree
with_source_ins (Plain ins) t = with_ins ins t
with_source_ins (Branch test operand k hit miss) t =
    with_branch test operand k (place_after hit t) (place_after miss t) (with_islands (place_after hit t) (place_after miss t) t)
with_source_ins (Jump over) t = with_ins (jump_to (place_after over t) t) t

-- one more instruction of the source program
abbrev pub with_source : SourceIns → TailTree → TailTree
with_source ins t = with_place (with_source_ins ins t)

-- a place that the tail has
pub record IsPlace (t : TailTree) (place : ℕ) : Type 0 where
  pub within : place < length t.heights
  pub reached : place < length t.reaches
  pub bounded : height t place ≤ len t
  pub kept : reach t place ≤ len t

-- each place to which a jump goes is one
pub record ArePlaces (t : TailTree) : Type 0 where
  pub each : (over : ℕ) → IsPlace t (place_after over t)
