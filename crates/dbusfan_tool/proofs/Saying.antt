-- What is said after lines, and how it is told.
use Rattle.std.proofs.Common.{◌≡◌, ◌⊎◌, ℕ, Bool, List, [], ◌∷◌, ◌++◌, Some, refl, ap, subst, sym, inl, inr, ◌∙◌}
use Rattle.command_line.specs.declared.error.Fault.TheVariants.{Memory}
use Rattle.command_line.specs.declared.output.Output.{Output}
use Rattle.command_line.specs.Output.{Puts, PutsParts, none, more, PutsAfterLines}
use Rattle.dbusfan_tool.specs.declared.answer.Answer.{Answer}
use Rattle.dbusfan_tool.specs.declared.answer.Answer.TheVariants.{Text, Report, Fault}
use Rattle.dbusfan_tool.specs.Answer.{Said, Tells, after_lines, failing}
use Rattle.command_line.specs.CommandRow.{Asked}
use Rattle.command_line.specs.Files.{FileRead}
use Rattle.dbusfan_tool.specs.Tool.{Tool, Says}
use Rattle.dbusfan_tool.specs.Views.{said_by, SaysAfter}

-- what may be said by one definition may be by another
pub says_too : (A B : Said → Type 0) (written : List ℕ) (answer : Answer) → ((said : Said) → A said → B said) → SaysAfter A written answer → SaysAfter B written answer
says_too A B written answer as_well (inl says) = inl (as_well (after_lines written (said_by answer)) says)
says_too A B written answer as_well (inr short) = inr short

-- an answer has no lines before it
pub no_lines : (answer : Answer) → after_lines [] (said_by answer) ≡ said_by answer
no_lines (Text text) = refl
no_lines (Report output notes status) = refl
no_lines (Fault fault) = refl

pub says_alone : (A : Said → Type 0) (answer : Answer) → (A (said_by answer) ⊎ (said_by answer ≡ failing Memory)) → SaysAfter A [] answer
says_alone A answer (inl says) = inl (subst A (sym (no_lines answer)) says)
says_alone A answer (inr short) = inr (refl, short)

-- the answer of a row is that of what is asked
pub says_of_row : (reads : List FileRead → Type 0) (row asked : Asked) (answer : Answer) → Some row ≡ Some asked → (Tool reads row (said_by answer) ⊎ (said_by answer ≡ failing Memory)) → SaysAfter (Tool reads asked) [] answer
says_of_row reads row asked answer e says =
    let is : row ≡ asked = cc in
    says_alone (Tool reads asked) answer (subst (λ (a : Asked). Tool reads a (said_by answer) ⊎ (said_by answer ≡ failing Memory)) is says)

short_said : (written : List ℕ) (said : Said) → written ≡ [] → said ≡ failing Memory → after_lines written said ≡ failing Memory
short_said written said empty short = ap (λ (w : List ℕ). after_lines w said) empty ∙ ap (λ (s : Said). after_lines [] s) short

-- what may be said is said
pub says_outcome : (A : Said → Type 0) (written : List ℕ) (answer : Answer) (out : List ℕ → List ℕ → Type 0) (err : List ℕ → Type 0) (failed : Bool) (status : ℕ) → SaysAfter A written answer → Tells (after_lines written (said_by answer)) out err failed status → Says A (λ said. Tells said out err failed status)
says_outcome A written answer out err failed status (inl says) tells = (after_lines written (said_by answer), inl says, tells)
says_outcome A written answer out err failed status (inr short) tells =
    (failing Memory, inr refl, subst (λ (said : Said). Tells said out err failed status) (short_said written (said_by answer) short.0 short.1) tells)

-- where no part was put nothing was
none_put : {W : Type 0} (takes : W → List ℕ → W → Type 0) (flushes : W → W → Type 0) (may_fail : W → Type 0) (before between : Output W) (lines : List ℕ) → PutsParts takes flushes may_fail before between lines → lines ≡ [] → between ≡ before
none_put takes flushes may_fail before between lines none e = refl
none_put takes flushes may_fail before between lines (more {bytes = bytes} {part = part} parts some text) e = absurd (some (no_part bytes part e))
  where
    no_part : (bytes part : List ℕ) → bytes ++ part ≡ [] → part ≡ []
    no_part [] part e = e
    no_part (byte ∷ bytes) part e = absurd (cc)

puts_after : {W : Type 0} (takes : W → List ℕ → W → Type 0) (flushes : W → W → Type 0) (may_fail : W → Type 0) (before between after : Output W) (lines text : List ℕ) → PutsParts takes flushes may_fail before between lines → Puts takes flushes may_fail between after text → PutsAfterLines takes flushes may_fail before after lines text
puts_after {W = W} takes flushes may_fail before between after [] text parts puts =
    subst (λ (o : Output W). Puts takes flushes may_fail o after text) (none_put takes flushes may_fail before between [] parts refl) puts
puts_after takes flushes may_fail before between after (byte ∷ lines) text parts puts = (between, parts, puts)

-- an answer is told after lines
pub tells_after : {W : Type 0} (takes : W → List ℕ → W → Type 0) (flushes : W → W → Type 0) (may_fail : W → Type 0) (before between after : Output W) (written : List ℕ) (said : Said) (err : List ℕ → Type 0) (failed : Bool) (status : ℕ) → PutsParts takes flushes may_fail before between written → Tells said (λ lines. Puts takes flushes may_fail between after) err failed status → Tells (after_lines written said) (PutsAfterLines takes flushes may_fail before after) err failed status
tells_after takes flushes may_fail before between after written said err failed status parts tells =
    record { output = puts_after takes flushes may_fail before between after written said.output parts tells.output; error = tells.error; answered = tells.answered; refused = tells.refused; named = tells.named }
