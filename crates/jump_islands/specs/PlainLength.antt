-- How long a lowered program would be if no two jumps shared an island (own).
use Rattle.std.specs.Prelude.{ℕ, ◌+◌, Bool, ◌&&◌, ◌||◌, List, [], ◌∷◌, take, Option, Some, nat_le, nat_lt, sum_by, if◌then◌else◌}
use Rattle.bpf_code.specs.declared.instruction.Ins.{Ins}
use Rattle.bpf_code.specs.declared.operation.Op.{Op}
use Rattle.bpf_code.specs.declared.operation.Op.TheVariants.{Branch}
use Rattle.bpf_code.specs.Table.{op_of}

-- the farthest that a conditional jump goes
abbrev pub max_distance : ℕ
max_distance = 255

-- A target is far whose span is above that; where the other target is far, from that on, since the island of
-- the other stands between.
abbrev pub is_far : ℕ → ℕ → Bool
is_far span other = nat_lt max_distance span || nat_lt max_distance other && nat_le max_distance span

abbrev pub count : Bool → ℕ
count far = if far then 1 else 0

-- the sum of the sizes that a jump goes over
abbrev pub span : ℕ → List ℕ → ℕ
span distance later = sum_by (λ size. size) (take distance later)

-- the size of an instruction in front of others of these sizes: a conditional jump has an island for each far target
abbrev pub size_of : Option Op → Ins → List ℕ → ℕ
size_of (Some (Branch test operand)) ins later =
    1 + count (is_far (span ins.jt later) (span ins.jf later)) + count (is_far (span ins.jf later) (span ins.jt later))
size_of _ ins later = 1

abbrev pub sizes_of : List Ins → List ℕ
sizes_of [] = []
sizes_of (ins ∷ more) = size_of (op_of ins.code) ins (sizes_of more) ∷ sizes_of more

abbrev pub plain_length : List Ins → ℕ
plain_length source = sum_by (λ size. size) (sizes_of source)
