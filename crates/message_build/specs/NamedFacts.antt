-- Named facts as the entries of an `a{sv}` (own).
use Rattle.std.specs.Prelude.{List, [], ◌∷◌}
use Rattle.signature.specs.DataType.{basic}
use Rattle.message_value.specs.Value.{Value, Entries, text, number, of_type, no_entries, one_entry}
use Rattle.message_build.specs.declared.facts.Fact.{Fact}
use Rattle.message_build.specs.declared.facts.Fact.TheVariants.{Number, Text}
use Rattle.message_build.specs.declared.facts.NamedFact.{NamedFact}

-- a fact as a variant: a number of type `u`, or a text of type `s`
abbrev pub fact_value : Fact → Value
fact_value (Number n) = of_type (basic 117) (number n)
fact_value (Text string) = of_type (basic 115) (text string.now)

-- each fact under its name
abbrev pub fact_entries : List NamedFact → Entries
fact_entries [] = no_entries
fact_entries (named ∷ more) = one_entry (text named.name.now) (fact_value named.fact) (fact_entries more)
