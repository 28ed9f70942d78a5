-- Inner: how the nearest messages are kept, no more of them than are wanted.
use Rattle.std.specs.Prelude.{ℕ, suc, nat_lt, ◌==◌, List, [], ◌∷◌, take, if◌then◌else◌}
use Rattle.dbusfan_tool.specs.declared.finding.Finding.{Finding}
use Rattle.dbusfan_tool.specs.declared.finding.Finding.TheVariants.{Judged, Cut, NoMessage}
use Rattle.dbusfan_tool.specs.declared.judgement.Judgement.{Judgement}
use Rattle.dbusfan_tool.specs.declared.wording.Wording.{Wording}
use Rattle.dbusfan_tool.specs.declared.wording.Wording.TheVariants.{OfRule, OfNearest, OfProgram}
use Rattle.dbusfan_tool.specs.Nearest.{Near, near_of, put_near}

-- how many come before the first that has more reasons
abbrev pub place_of : ℕ → List Near → ℕ
place_of misses [] = 0
place_of misses (other ∷ later) = if nat_lt misses other.misses then 0 else suc (place_of misses later)

abbrev pub kept_outcome : ℕ → List Near → ℕ → Judgement → List Near
kept_outcome count kept number outcome = if outcome.verdict == 0 then take count (put_near (near_of number outcome) kept) else kept

abbrev pub kept_with : ℕ → List Near → ℕ → Finding → List Near
kept_with count kept number (Judged outcome) = kept_outcome count kept number outcome
kept_with count kept number Cut = kept
kept_with count kept number (NoMessage fault) = kept

abbrev pub kept_by : Wording → List Near → ℕ → Finding → List Near
kept_by OfRule kept number finding = kept
kept_by (OfNearest count) kept number finding = kept_with count kept number finding
kept_by OfProgram kept number finding = kept
