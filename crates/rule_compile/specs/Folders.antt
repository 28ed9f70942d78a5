-- Inner: texts cut after each `/`, and the piece of a program that compares paths.
use Rattle.std.specs.Prelude.{ℕ, ◌+◌, List, [], ◌∷◌, length, ◌==◌, if◌then◌else◌}
use Rattle.bpf_code.specs.declared.instruction.Ins.{Ins}
use Rattle.bpf_code.specs.declared.operation.Test.TheVariants.{Equal, AtLeast}
use Rattle.match_rule.specs.Bytes.{ends_with}
use Rattle.rule_compile.specs.Code.{same_bytes, has_len, index_text, may_end}

-- a byte in front of the first part
abbrev pub with_front : ℕ → List (List ℕ) → List (List ℕ)
with_front b [] = (b ∷ []) ∷ []
with_front b (part ∷ more) = (b ∷ part) ∷ more

-- the parts of a text: each ends with a `/`, but for the last one, which may have none
abbrev pub parts_of : List ℕ → List (List ℕ)
parts_of [] = []
parts_of (b ∷ bs) = if b == 47 then (b ∷ []) ∷ parts_of bs else with_front b (parts_of bs)

-- The text goes on from a place with these parts of a value: it may end after each `/`, and go on after the value where
-- that ends with one.
abbrev pub follow_parts : ℕ → ℕ → List (List ℕ) → List Ins → List Ins
follow_parts at place [] rest = rest
follow_parts at place (part ∷ []) rest =
    if ends_with 47 part then has_len AtLeast (place + length part) at (same_bytes place part rest)
    else has_len Equal (place + length part) at (same_bytes place part rest)
follow_parts at place (part ∷ next ∷ more) rest =
    has_len AtLeast (place + length part) at (same_bytes place part (may_end at (place + length part) rest (follow_parts at (place + length part) (next ∷ more) rest)))

-- the text equals the value, or one of them ends with `/` and begins the other
abbrev pub is_nested : ℕ → List ℕ → List Ins → List Ins
is_nested at value rest =
    if length value == 0 then has_len Equal 0 at rest else index_text at (follow_parts at 0 (parts_of value) rest)
