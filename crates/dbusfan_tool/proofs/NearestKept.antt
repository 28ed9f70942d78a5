-- The nearest messages, with one packet more.
use Rattle.std.proofs.Common.{◌≡◌, ℕ, zero, suc, ◌+◌, Bool, true, false, List, [], ◌∷◌, ◌++◌, take, length, inl, inr, refl, sym, ap, ◌∙◌, arith}
use Rattle.std.specs.Prelude.{nat_lt, ◌==◌}
use Rattle.std.specs.List.{insert}
use Rattle.std.proofs.lemmas.Bool.{cases_Bool}
use Rattle.dbusfan_tool.specs.declared.finding.Finding.{Finding}
use Rattle.dbusfan_tool.specs.declared.finding.Finding.TheVariants.{Judged, Cut, NoMessage}
use Rattle.dbusfan_tool.specs.declared.judgement.Judgement.{Judgement}
use Rattle.dbusfan_tool.specs.declared.wording.Wording.{Wording}
use Rattle.dbusfan_tool.specs.declared.wording.Wording.TheVariants.{OfRule, OfNearest, OfProgram}
use Rattle.dbusfan_tool.specs.Nearest.{Near, near_of, put_near, ranked_with, ranked}
use Rattle.dbusfan_tool.specs.Places.{place_of, kept_outcome, kept_with, kept_by}
use Rattle.dbusfan_tool.specs.Reports.{lines_of, nearest_by}

-- at its place a message comes after those that have as few reasons or fewer
pub put_at_place : (near : Near) (nears : List Near) → insert nears (place_of near.misses nears) near ≡ put_near near nears
put_at_place near [] = refl
put_at_place near (other ∷ later) =
    elim (cases_Bool (nat_lt near.misses other.misses)) [
      | inl fewer ↦ rw fewer refl
      | inr more ↦ rw more (ap (λ (nears : List Near). other ∷ nears) (put_at_place near later))
    ]

take_twice : (n : ℕ) (near : Near) (nears : List Near) → take n (near ∷ take n nears) ≡ take n (near ∷ nears)
take_twice zero near nears = refl
take_twice (suc n) near nears = ap (λ (l : List Near). near ∷ l) (shorter n nears)
  where
    shorter : (n : ℕ) (nears : List Near) → take n (take (suc n) nears) ≡ take n nears
    shorter zero nears = refl
    shorter (suc n) [] = refl
    shorter (suc n) (other ∷ later) = ap (λ (l : List Near). other ∷ l) (shorter n later)

-- the first of all are those of the first
take_put : (n : ℕ) (near : Near) (nears : List Near) → take n (put_near near (take n nears)) ≡ take n (put_near near nears)
take_put zero near nears = refl
take_put (suc n) near [] = refl
take_put (suc n) near (other ∷ later) =
    elim (cases_Bool (nat_lt near.misses other.misses)) [
      | inl fewer ↦ rw fewer (ap (λ (l : List Near). near ∷ l) (take_twice n other later))
      | inr more ↦ rw more (ap (λ (l : List Near). other ∷ l) (take_put n near later))
    ]

kept_one : (n : ℕ) (kept all : List Near) (number : ℕ) (outcome : Judgement) → kept ≡ take n all → kept_outcome n kept number outcome ≡ take n (ranked_with all number (Judged outcome))
kept_one n kept all number outcome is =
    elim (cases_Bool (outcome.verdict == 0)) [
      | inl fails ↦ rw fails (ap (λ (l : List Near). take n (put_near (near_of number outcome) l)) is ∙ take_put n (near_of number outcome) all)
      | inr holds ↦ rw holds is
    ]

kept_more : (n : ℕ) (kept all : List Near) (number : ℕ) (finding : Finding) → kept ≡ take n all → kept_with n kept number finding ≡ take n (ranked_with all number finding)
kept_more n kept all number (Judged outcome) is = kept_one n kept all number outcome is
kept_more n kept all number Cut is = is
kept_more n kept all number (NoMessage fault) is = is

one_more_ranked : (before : List Near) (number : ℕ) (found : List Finding) (finding : Finding) → ranked before number (found ++ finding ∷ []) ≡ ranked_with (ranked before number found) (number + length found) finding
one_more_ranked before number [] finding =
    let same : number + 0 ≡ number = omega arith in
    ap (λ (n : ℕ). ranked_with before n finding) (sym same)
one_more_ranked before number (first ∷ later) finding =
    let place : number + 1 + length later ≡ number + suc (length later) = omega arith in
    one_more_ranked (ranked_with before number first) (number + 1) later finding
    ∙ ap (λ (n : ℕ). ranked_with (ranked (ranked_with before number first) (number + 1) later) n finding) place

-- what is kept are the nearest of all
pub kept_nearest : (words : Wording) (kept : List Near) (found : List Finding) (finding : Finding) (number : ℕ) → kept ≡ nearest_by words found → number ≡ 1 + length found → kept_by words kept number finding ≡ nearest_by words (found ++ finding ∷ [])
kept_nearest OfRule kept found finding number is place = is
kept_nearest OfProgram kept found finding number is place = is
kept_nearest (OfNearest n) kept found finding number is place =
    kept_more n kept (ranked [] 1 found) number finding is
    ∙ ap (λ (p : ℕ). take n (ranked_with (ranked [] 1 found) p finding)) place
    ∙ ap (λ (l : List Near). take n l) (sym (one_more_ranked [] 1 found finding))

-- at first none is
abbrev no_nears : List Near
no_nears = []

none_taken : (n : ℕ) → no_nears ≡ take n no_nears
none_taken zero = refl
none_taken (suc n) = refl

pub none_near : (words : Wording) → [] ≡ nearest_by words []
none_near OfRule = refl
none_near OfProgram = refl
none_near (OfNearest n) = none_taken n

-- at first no line is wanted
pub no_lines : (words : Wording) (each : Bool) → [] ≡ lines_of words each []
no_lines words true = refl
no_lines words false = refl

-- a message at its place, of which the first are kept
pub put_and_kept : (count place : ℕ) (near : Near) (before put after : List Near) → place ≡ place_of near.misses before → put ≡ insert before place near → after ≡ take count put → after ≡ take count (put_near near before)
put_and_kept count place near before put after is puts keeps =
    keeps ∙ ap (λ (l : List Near). take count l) (puts ∙ ap (λ (p : ℕ). insert before p near) is ∙ put_at_place near before)
