-- The words of keys (D-Bus Specification, "Match Rules").
use Rattle.std.specs.Prelude.{ℕ, List, [], ◌++◌, codes, decimal}
use Rattle.match_key.specs.ArgNumber.{number_of_arg}
use Rattle.match_key.specs.declared.source.Field.{Field}
use Rattle.match_key.specs.declared.source.Field.TheVariants.{Interface, Member, Path, Destination}
use Rattle.match_key.specs.declared.source.Source.{Source}
use Rattle.match_key.specs.declared.source.Source.TheVariants.{Header, Arg}
use Rattle.match_key.specs.declared.relation.Relation.{Relation}
use Rattle.match_key.specs.declared.relation.Relation.TheVariants.{Equal, PathNamespace, NameNamespace, NestedPath}
use Rattle.match_key.specs.declared.key.Key.{Key}
use Rattle.match_key.specs.declared.key.Key.TheVariants.{Kind, Sender, Eavesdrop, Compares}

abbrev pub field_word : Field → List ℕ
field_word Interface = codes "interface"
field_word Member = codes "member"
field_word Path = codes "path"
field_word Destination = codes "destination"

-- an argument's number is written in decimal digits
abbrev pub source_text : Source → List ℕ
source_text (Header field) = field_word field
source_text (Arg n) = codes "arg" ++ decimal (number_of_arg n)

-- what comes after the source
abbrev pub suffix_of : Relation → List ℕ
suffix_of Equal = []
suffix_of PathNamespace = codes "_namespace"
suffix_of NameNamespace = codes "namespace"
suffix_of NestedPath = codes "path"

abbrev pub key_text : Key → List ℕ
key_text Kind = codes "type"
key_text Sender = codes "sender"
key_text Eavesdrop = codes "eavesdrop"
key_text (Compares source relation) = source_text source ++ suffix_of relation
