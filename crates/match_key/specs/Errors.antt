-- The names and numbers of the faults of rule texts, and what is said of them (own).
use Rattle.std.specs.Prelude.{ℕ, List, codes}
use Rattle.match_key.specs.declared.error.RuleError.{RuleError}
use Rattle.match_key.specs.declared.error.RuleError.TheVariants.{TooLong, UnknownKey, KeyTwice, BadValue, Unquoted, PathTwice, ArgNumber, NoMemory}

abbrev pub number_of : RuleError → ℕ
number_of TooLong = 1
number_of UnknownKey = 2
number_of KeyTwice = 3
number_of BadValue = 4
number_of Unquoted = 5
number_of PathTwice = 6
number_of ArgNumber = 7
number_of NoMemory = 8

abbrev pub name_of : RuleError → List ℕ
name_of TooLong = codes "TooLong"
name_of UnknownKey = codes "UnknownKey"
name_of KeyTwice = codes "KeyTwice"
name_of BadValue = codes "BadValue"
name_of Unquoted = codes "Unquoted"
name_of PathTwice = codes "PathTwice"
name_of ArgNumber = codes "ArgNumber"
name_of NoMemory = codes "NoMemory"

-- what is wrong, for people
abbrev pub sentence_of : RuleError → List ℕ
sentence_of TooLong = codes "a rule has at most 1,024 bytes"
sentence_of UnknownKey = codes "there is no such key"
sentence_of KeyTwice = codes "a key is given twice"
sentence_of BadValue = codes "a key may not have this value"
sentence_of Unquoted = codes "a value is not closed"
sentence_of PathTwice = codes "path and path_namespace exclude one another"
sentence_of ArgNumber = codes "an argument has a number that its key may not have"
sentence_of NoMemory = codes "there is no memory"
