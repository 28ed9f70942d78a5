-- How a fault is named (own).
use Rattle.std.specs.Prelude.{ℕ, List, [], ◌∷◌, ◌++◌, codes}
use Rattle.command_line.specs.declared.error.Fault.{Fault}
use Rattle.command_line.specs.declared.error.Fault.TheVariants.{Rule, Filter, HeavyFilter, Message, Hex, Code, Program, Usage, File, Memory}
use Rattle.message_value.specs.Errors.{name_of as message_name}
use Rattle.match_key.specs.declared.error.RuleError.{RuleError}
use Rattle.match_key.specs.declared.error.RuleError.TheVariants.{NoMemory}
use Rattle.match_key.specs.Errors.{name_of as rule_name}
use Rattle.filter.specs.declared.error.FilterError.{FilterError}
use Rattle.filter.specs.declared.error.FilterError.TheVariants as of_filter
use Rattle.filter.specs.Errors.{fault_text as filter_fault_text}
use Rattle.bpf_code.specs.declared.error.CodeError.{CodeError}
use Rattle.bpf_code.specs.declared.error.CodeError.TheVariants as of_code
use Rattle.bpf_code.specs.Numbers.{code_error_text}
use Rattle.bpf_verify.specs.Numbers.{verify_error_text}
use Rattle.command_line.specs.declared.files.FileError.{FileError}
use Rattle.command_line.specs.declared.files.FileError.TheVariants as of_file
use Rattle.command_line.specs.declared.hex_text.HexError.{HexError}
use Rattle.command_line.specs.declared.hex_text.HexError.TheVariants as of_hex

-- the end of a line
abbrev pub line_end : List ℕ
line_end = 10 ∷ []

-- the word that is at fault, and the name of what is wrong with it, with its line or place, where there is one
abbrev pub fault_text : Fault → List ℕ
fault_text (Rule fault) = codes "rule " ++ rule_name fault
fault_text (Filter at) = codes "filter " ++ filter_fault_text at
fault_text HeavyFilter = codes "filter TooHeavy"
fault_text (Message fault) = codes "message " ++ message_name fault
fault_text Hex = codes "hex"
fault_text (Code fault) = codes "code " ++ code_error_text fault
fault_text (Program fault) = codes "program " ++ verify_error_text fault
fault_text Usage = codes "usage"
fault_text File = codes "file"
fault_text Memory = codes "memory"

-- a fault is one line
abbrev pub fault_line : Fault → List ℕ
fault_line fault = codes "dbusfan: " ++ fault_text fault ++ line_end

abbrev pub fault_status : Fault → ℕ
fault_status (Rule fault) = 2
fault_status (Filter at) = 2
fault_status HeavyFilter = 2
fault_status (Message fault) = 2
fault_status Hex = 2
fault_status (Code fault) = 2
fault_status (Program fault) = 2
fault_status Usage = 3
fault_status File = 4
fault_status Memory = 5

-- what it means for a command that a text is no rule
abbrev pub fault_of_rule : RuleError → Fault
fault_of_rule NoMemory = Memory
fault_of_rule fault = Rule fault

-- what it means for a command that an expression is no filter
abbrev pub fault_of_filter : FilterError → Fault
fault_of_filter (of_filter.Fault at) = Filter at
fault_of_filter of_filter.NoMemory = Memory

-- what it means for a command that a text names no program
abbrev pub fault_of_code : CodeError → Fault
fault_of_code of_code.NoMemory = Memory
fault_of_code fault = Code fault

-- what it means for a command that a file gave no bytes
abbrev pub fault_of_file : FileError → Fault
fault_of_file of_file.File = File
fault_of_file of_file.Memory = Memory

-- what it means for a command that a text spells no bytes
abbrev pub fault_of_hex : HexError → Fault
fault_of_hex of_hex.Hex = Hex
fault_of_hex of_hex.Memory = Memory
