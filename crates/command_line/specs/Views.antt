-- Inner: what the code gathers, and its rows, as those of the definitions.
use Rattle.std.specs.Prelude.{ℕ, List, [], ◌∷◌}
use Rattle.std.specs.Option.{option_map}
use Rattle.command_line.specs.declared.gathered.Names.{Names}
use Rattle.command_line.specs.declared.gathered.Names.TheVariants.{Nothing, One, Two}
use Rattle.command_line.specs.declared.gathered.Gathered.{Gathered}
use Rattle.command_line.specs.declared.options.Options as given
use Rattle.command_line.specs.declared.command_row.CommandRow.{CommandRow}
use Rattle.command_line.specs.declared.command_row.CommandRow.TheVariants.{Match, MatchFilter, Asm, Check, Run, Compile, CompileFilter}
use Rattle.command_line.specs.RowReading.{Gathering}
use Rattle.command_line.specs.CommandRow.{Options, Asked, to_match, to_match_filter, to_asm, to_check, to_compile, to_compile_filter, to_run}

abbrev pub names_of : Names → List (List ℕ)
names_of Nothing = []
names_of (One first) = first.now ∷ []
names_of (Two first second) = first.now ∷ second.now ∷ []

abbrev pub options_of : given.Options → Options
options_of all = record { owns = all.owns; each = all.each; why = all.why; trace = all.trace; nearest = all.nearest; edition = all.edition; filter = option_map (λ word. word.now) all.filter }

abbrev pub gathering_of : Gathered → Gathering
gathering_of all = record { names = names_of all.names; options = options_of all.options; awaited = all.awaited }

-- a row of the code as what it asks for
abbrev pub asked_by : CommandRow → Asked
asked_by (Match rule file owns each why nearest) = to_match rule.now file.now owns each why nearest
asked_by (MatchFilter expression file owns each why) = to_match_filter expression.now file.now owns each why
asked_by (Asm file) = to_asm file.now
asked_by (Check file) = to_check file.now
asked_by (Compile rule) = to_compile rule.now
asked_by (CompileFilter expression) = to_compile_filter expression.now
asked_by (Run program file edition each trace) = to_run program.now file.now edition each trace
