-- The messages of a capture that a rule misses by the fewest conditions (own).
use Rattle.std.specs.Prelude.{ℕ, ◌+◌, nat_lt, ◌==◌, List, [], ◌∷◌, ◌++◌, take, codes, decimal, string_bytes, if◌then◌else◌}
use Rattle.std.specs.List.{flat_map}
use Rattle.command_line.specs.Errors.{line_end}
use Rattle.dbusfan_tool.specs.declared.finding.Finding.{Finding}
use Rattle.dbusfan_tool.specs.declared.finding.Finding.TheVariants.{Judged, Cut, NoMessage}
use Rattle.dbusfan_tool.specs.declared.judgement.Judgement.{Judgement}

-- a message that a rule doesn't hold of: its number, how many reasons there are, and their text
pub record Near : Type 0 where
  pub number : ℕ
  pub misses : ℕ
  pub reasons : List ℕ

abbrev pub near_of : ℕ → Judgement → Near
near_of number outcome = record { number = number; misses = outcome.misses; reasons = string_bytes outcome.reasons }

-- after those that have as few reasons or fewer
abbrev pub put_near : Near → List Near → List Near
put_near near [] = near ∷ []
put_near near (other ∷ later) = if nat_lt near.misses other.misses then near ∷ other ∷ later else other ∷ put_near near later

-- one message more, if the rule doesn't hold of it
abbrev pub ranked_with : List Near → ℕ → Finding → List Near
ranked_with before number (Judged outcome) = if outcome.verdict == 0 then put_near (near_of number outcome) before else before
ranked_with before number Cut = before
ranked_with before number (NoMessage fault) = before

-- those that the rule doesn't hold of, by how many reasons there are, and else in the capture's order
abbrev pub ranked : List Near → ℕ → List Finding → List Near
ranked before number [] = before
ranked before number (finding ∷ later) = ranked (ranked_with before number finding) (number + 1) later

-- the first of them
abbrev pub nearest_of : ℕ → List Finding → List Near
nearest_of count findings = take count (ranked [] 1 findings)

abbrev pub near_line : Near → List ℕ
near_line near = decimal near.number ++ codes " no match" ++ near.reasons ++ line_end

abbrev pub near_lines : List Near → List ℕ
near_lines nears = flat_map near_line nears
