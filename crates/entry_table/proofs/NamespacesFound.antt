-- A message of which a rule holds lies in the namespaces that the rule asks for.
use Rattle.std.proofs.Common.{◌≡◌, ℕ, List, refl, subst}
use Rattle.std.specs.Prelude.{Option, Some, None, IfSome, IsSomeAnd, slice_get}
use Rattle.message_view.specs.Spelling.{arguments_of}
use Rattle.match_key.specs.ArgNumber.{first_arg}
use Rattle.match_key.specs.declared.relation.Relation.TheVariants.{PathNamespace, NameNamespace}
use Rattle.match_key.specs.declared.source.Field.TheVariants.{Path}
use Rattle.match_key.specs.declared.source.Source.TheVariants.{Header, Arg}
use Rattle.match_rule.specs.Arguments.{text_in}
use Rattle.match_rule.specs.FixedTexts.{string_in}
use Rattle.match_rule.specs.Holds.{InNamespace, compared_text}
use Rattle.match_rule.proofs.FixedFound.{AreFound-Holds, asked_found}
use Rattle.entry_table.specs.Namespaces.{arg0_namespace_asked}
use Rattle.entry_table.specs.OfferedEntries.{OfferedWhereItHolds}

same_string : (found : Option (ℕ × List ℕ)) → compared_text NameNamespace found ≡ string_in found
same_string None = refl
same_string (Some found) = refl

pub fits_where_it_holds : OfferedWhereItHolds
fits_where_it_holds rule m owned h = (
  AreFound-Holds rule m owned h,
  record {
    path = asked_found (Header Path) PathNamespace rule m owned h;
    arg0 = subst (λ (found : Option (List ℕ)). IfSome (arg0_namespace_asked rule) (λ namespace. IsSomeAnd found (λ text. InNamespace text namespace))) (same_string (text_in (slice_get (arguments_of m) 0)))
        (asked_found (Arg first_arg) NameNamespace rule m owned h);
  },
)
