-- Drafts: source programs whose jumps name labels, at any distance ahead (own).
use Rattle.std.specs.Prelude.{ℕ, ◌+◌, ◌-◌, ◌<◌, List, [], ◌∷◌, Option, slice_get, IfSome}
use Rattle.std.specs.Option.{IsSomeAnd, option_map_or, option_flatten}
use Rattle.bpf_code.specs.declared.instruction.Ins.{Ins}
use Rattle.jump_islands.specs.declared.line.Line.{Line}
use Rattle.jump_islands.specs.declared.line.Line.TheVariants.{Plain, Jumps, Goes}
use Rattle.jump_islands.specs.declared.label.Label.{Label}
use Rattle.jump_islands.specs.Source.{branch_over, jump_over}

-- a draft: its lines, and the place to which each of its labels is bound, if it is
pub record DraftTree : Type 0 where
  pub lines : List Line
  pub bound : List (Option ℕ)

-- the place to which a label is bound
abbrev pub place_of : DraftTree → Label → Option ℕ
place_of draft label = option_flatten (slice_get draft.bound label.number)

-- how many instructions a jump at a place goes over; the labels of a closed draft are bound ahead
abbrev pub distance : DraftTree → ℕ → Label → ℕ
distance draft place label = option_map_or (λ to. to - (place + 1)) (place_of draft label) 0

-- the instruction of a line, with its distances
abbrev pub ins_of : DraftTree → ℕ → Line → Ins
ins_of draft place (Plain ins) = ins
ins_of draft place (Jumps test operand k hit miss) =
    branch_over test operand k (distance draft place hit) (distance draft place miss)
ins_of draft place (Goes to) = jump_over (distance draft place to)

abbrev pub instructions_from : DraftTree → ℕ → List Line → List Ins
instructions_from draft place [] = []
instructions_from draft place (line ∷ lines) = ins_of draft place line ∷ instructions_from draft (place + 1) lines

-- The draft as a source program.
abbrev pub instructions_of : DraftTree → List Ins
instructions_of draft = instructions_from draft 0 draft.lines

-- the label is bound ahead of a place
abbrev pub IsAhead : DraftTree → ℕ → Label → Type 0
IsAhead draft place label = IsSomeAnd (place_of draft label) (λ to. place < to)

-- each label that a line uses is bound ahead of it
abbrev pub LabelsAhead : DraftTree → ℕ → Line → Type 0
LabelsAhead draft place (Plain ins) = Unit {0}
LabelsAhead draft place (Jumps test operand k hit miss) = IsAhead draft place hit × IsAhead draft place miss
LabelsAhead draft place (Goes to) = IsAhead draft place to

-- each used label is bound ahead of its uses
abbrev pub IsClosed : DraftTree → Type 0
IsClosed draft = (place : ℕ) → IfSome (slice_get draft.lines place) (LabelsAhead draft place)
