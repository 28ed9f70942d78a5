-- Inner: the texts that a filter asks for, as they are put together.
use Rattle.std.specs.Prelude.{ℕ, List, Some, ◌==◌, if◌then◌else◌}
use Rattle.match_key.specs.ArgNumber.{number_of_arg}
use Rattle.filter.specs.FilterTree.{FilterTree, FilterTrees, test, all, no_filters, one_more}
use Rattle.filter.specs.declared.test.Equality.TheVariants as equalities
use Rattle.filter.specs.declared.test.Scope.{Scope}
use Rattle.filter.specs.declared.test.Scope.TheVariants.{PathNamespace, ArgNamespace, ArgPath}
use Rattle.filter.specs.declared.test.Test.{Test}
use Rattle.filter.specs.declared.test.Test.TheVariants as tests
use Rattle.filter.specs.declared.test.TextField.TheVariants.{Member, Interface, Path}
use Rattle.filter.specs.declared.test.TextRelation.TheVariants as relations
use Rattle.filter.specs.declared.test.TextSource.{TextSource}
use Rattle.filter.specs.declared.test.TextSource.TheVariants.{Field, Arg}
use Rattle.filter.specs.declared.test.TextType.TheVariants.{String}
use Rattle.entry_table.specs.AttachedProgram.{AskedTexts, nothing_asked}

-- a source has to equal the text
abbrev pub with_text : TextSource → List ℕ → AskedTexts → AskedTexts
with_text (Field Member) text asked = record asked { texts = record asked.texts { member = Some text } }
with_text (Field Interface) text asked = record asked { texts = record asked.texts { interface = Some text } }
with_text (Field Path) text asked = record asked { texts = record asked.texts { path = Some text } }
with_text (Arg n String) text asked =
    if number_of_arg n == 0 then record asked { texts = record asked.texts { arg0 = Some text } } else asked
with_text source text asked = asked

-- the path or argument 0 has to lie in the namespace
abbrev pub with_scope : Scope → List ℕ → AskedTexts → AskedTexts
with_scope PathNamespace text asked = record asked { namespaces = record asked.namespaces { path = Some text } }
with_scope (ArgNamespace n) text asked =
    if number_of_arg n == 0 then record asked { namespaces = record asked.namespaces { arg0 = Some text } } else asked
with_scope (ArgPath n) text asked = asked

abbrev pub with_test : Test → AskedTexts → AskedTexts
with_test (tests.Text source relations.Equal text) asked = with_text source text asked
with_test (tests.Within scope equalities.Equal text) asked = with_scope scope text asked
with_test other asked = asked

abbrev pub with_filter : FilterTree → AskedTexts → AskedTexts
with_filter (test t) asked = with_test t asked
with_filter other asked = asked

abbrev pub with_filters : FilterTrees → AskedTexts → AskedTexts
with_filters no_filters asked = asked
with_filters (one_more f fs) asked = with_filters fs (with_filter f asked)

-- those of the tests at the top, or of those that are joined by `and` there
abbrev pub asked_by : FilterTree → AskedTexts
asked_by (all fs) = with_filters fs nothing_asked
asked_by f = with_filter f nothing_asked
