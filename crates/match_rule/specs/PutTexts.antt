-- Inner: the texts that conditions fix, put in one by one.
use Rattle.std.specs.Prelude.{ℕ, List, Some, ◌==◌, if◌then◌else◌}
use Rattle.match_key.specs.declared.source.Field.TheVariants.{Interface, Member, Path, Destination}
use Rattle.match_key.specs.declared.source.Source.{Source}
use Rattle.match_key.specs.declared.source.Source.TheVariants.{Header, Arg}
use Rattle.match_key.specs.ArgNumber.{number_of_arg}
use Rattle.match_key.specs.declared.relation.Relation.TheVariants.{Equal}
use Rattle.match_rule.specs.declared.condition.Condition.{Condition}
use Rattle.match_rule.specs.declared.condition.Condition.TheVariants.{Sender, Compares}
use Rattle.match_rule.specs.FixedTexts.{FixedTexts, own_sender_in}
use Rattle.match_rule.specs.RuleTree.{or_else}

-- the texts, where a source has to equal this one
abbrev pub with_text : Source → List ℕ → FixedTexts → FixedTexts
with_text (Header Member) text texts = record { member = Some text; interface = texts.interface; path = texts.path; sender = texts.sender; arg0 = texts.arg0 }
with_text (Header Interface) text texts = record { member = texts.member; interface = Some text; path = texts.path; sender = texts.sender; arg0 = texts.arg0 }
with_text (Header Path) text texts = record { member = texts.member; interface = texts.interface; path = Some text; sender = texts.sender; arg0 = texts.arg0 }
with_text (Header Destination) text texts = texts
with_text (Arg n) text texts =
    if number_of_arg n == 0 then record { member = texts.member; interface = texts.interface; path = texts.path; sender = texts.sender; arg0 = Some text } else texts

-- the texts of conditions, where this one stands before them
abbrev pub with_fixed : Condition → FixedTexts → FixedTexts
with_fixed (Compares source Equal text) texts = with_text source text texts
with_fixed (Sender name) texts = record texts { sender = or_else (own_sender_in (Sender name)) texts.sender }
with_fixed c texts = texts
