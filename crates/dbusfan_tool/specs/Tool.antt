-- What the rows of the command line come to (own).
use Rattle.std.specs.Prelude.{◌≡◌, ◌⊎◌, ◌||◌, ℕ, Bool, List, [], Option, Some, None, is_some, Result, Ok, Err, codes, if◌then◌else◌}
use Rattle.command_line.specs.declared.error.Fault.{Fault}
use Rattle.command_line.specs.Errors.{line_end}
use Rattle.command_line.specs.declared.error.Fault.TheVariants.{Memory}
use Rattle.match_rule.specs.RuleTree.{RuleTree}
use Rattle.match_rule.specs.Grammar.{ReadsAs}
use Rattle.filter.specs.FilterTree.{FilterTree}
use Rattle.filter.specs.Grammar.{ReadsAs as ReadsAsFilter}
use Rattle.bpf_code.specs.declared.instruction.Ins.{Ins}
use Rattle.bpf_code.specs.Program.{WellFormed}
use Rattle.summary.specs.declared.edition.Edition.{Edition}
use Rattle.command_line.specs.Files.{FileRead, one_read, two_reads}
use Rattle.command_line.specs.CommandRow.{Asked, to_match, to_match_filter, to_asm, to_check, to_compile, to_compile_filter, to_run}
use Rattle.dbusfan_tool.specs.Program.{Assembles, Checks}
use Rattle.dbusfan_tool.specs.Compiling.{IsRuleFault, Compiles, IsFilterFault, CompilesFilter}
use Rattle.dbusfan_tool.specs.Judges.{by_rule, by_filter, by_program}
use Rattle.dbusfan_tool.specs.FileJudgements.{SaysOfFile}
use Rattle.dbusfan_tool.specs.Answer.{Said, said_of, said_of_asm, said_of_check, saying, failing}

-- what comes before each reason why a rule doesn't match, or each test of a filter, if they are wanted: they follow one another on the line of a
-- capture's message, and of a message alone each has a line
abbrev pub front_of : (why each : Bool) → Option (List ℕ)
front_of why each = if why then Some (if each then codes "; " else line_end) else None

-- What `match` says for a rule's text, what was read, and whether the sender owns the rule's name. The rule's fault comes
-- before those of the file, which is read once, and not where the rule has a fault. A rule is compiled to be judged. Where only the
-- nearest messages are wanted, it is said why they don't match.
pub data Matches (reads : List FileRead → Type 0) (rule file : List ℕ) (owns each why : Bool) (nearest : Option ℕ) : Said → Type 0 where
  no_rule : {fault : Fault} → IsRuleFault rule fault → reads [] → Matches reads rule file owns each why nearest (failing fault)
  judged : {tree : RuleTree} {said : Said} → ReadsAs rule tree → SaysOfFile (λ content. reads (one_read file content)) (by_rule tree owns (front_of (why || is_some nearest) each) nearest) each said → Matches reads rule file owns each why nearest said

-- What `match --filter` says for an expression, what was read, and whether the sender owns each name that the filter asks for:
-- the same as for a rule, but that it may be said which tests hold.
pub data MatchesFilter (reads : List FileRead → Type 0) (expression file : List ℕ) (owns each why : Bool) : Said → Type 0 where
  no_filter : {fault : Fault} → IsFilterFault expression fault → reads [] → MatchesFilter reads expression file owns each why (failing fault)
  filtered : {tree : FilterTree} {said : Said} → ReadsAsFilter expression tree → SaysOfFile (λ content. reads (one_read file content)) (by_filter tree owns (front_of why each)) each said → MatchesFilter reads expression file owns each why said

-- What `run` says for what was read. All faults of the program come before those of the other file: that a file can't be
-- read, then its text's, then that of what the text says. The program's file is read first and once, and the other file
-- once, only after a program that is accepted.
pub data Runs (reads : List FileRead → Type 0) (program file : List ℕ) (edition : Edition) (each trace : Bool) : Said → Type 0 where
  no_program : {fault : Fault} → Checks (λ content. reads (one_read program content)) (Err fault) → Runs reads program file edition each trace (failing fault)
  ran : {code : List Ins} {said : Said} → WellFormed code → SaysOfFile (λ next. Assembles (λ content. reads (two_reads program content file next)) (Ok code)) (by_program code edition trace) each said → Runs reads program file edition each trace said

-- What is said to a row, where `reads` says of a list of reads that these were made, in this order, and no others.
abbrev pub Tool : (List FileRead → Type 0) → Asked → Said → Type 0
Tool reads (to_match rule file owns each why nearest) said = Matches reads rule file owns each why nearest said
Tool reads (to_match_filter expression file owns each why) said = MatchesFilter reads expression file owns each why said
Tool reads (to_asm file) said = (found : Result (List Ins) Fault) × Assembles (λ content. reads (one_read file content)) found × (said ≡ said_of said_of_asm found)
Tool reads (to_check file) said = (found : Result ℕ Fault) × Checks (λ content. reads (one_read file content)) found × (said ≡ said_of said_of_check found)
Tool reads (to_compile rule) said = (found : Result (List ℕ) Fault) × Compiles rule found × reads [] × (said ≡ said_of saying found)
Tool reads (to_compile_filter expression) said = (found : Result (List ℕ) Fault) × CompilesFilter expression found × reads [] × (said ≡ said_of saying found)
Tool reads (to_run program file edition each trace) said = Runs reads program file edition each trace said

-- what the words allow is said, or that memory was short
abbrev pub Says : (Said → Type 0) → (Said → Type 0) → Type 0
Says allowed tells_outcome = (said : Said) × (allowed said ⊎ (said ≡ failing Memory)) × tells_outcome said
