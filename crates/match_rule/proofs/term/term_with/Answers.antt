use Rattle.std.proofs.Common.{◌≡◌, refl, rules}
use Rattle.std.specs.Prelude.{Option, None, Some, ok_or}
use Rattle.std.specs.String.{string_bytes}
use Rattle.std.specs.Str.{is_utf8}
use Rattle.std.proofs.lemmas.Bool.{false_from_ne_true}
use Rattle.std.proofs.lemmas.Str.{IsUtf8-from_is_utf8, is_utf8-from_IsUtf8, IsUtf8-string_bytes}
use Rattle.match_key.specs.declared.error.RuleError.TheVariants.{BadValue}
use Rattle.match_rule.specs.declared.term.Term.{Term}
use Rattle.match_rule.specs.Condition.{term_of}
use Rattle.match_rule.specs.Reading.{Gives, or_fault}
use Rattle.match_rule.proofs.term.term_with.Goals as goal

gives_said : (said : Option Term) → Gives (λ x. x) (ok_or said BadValue) (or_fault BadValue said)
gives_said None = λ other. refl
gives_said (Some term) = refl

-- a value that isn't UTF-8 says nothing
pub returns-in_default : goal.returns-in_default
returns-in_default c = λ other.
    let value = c.args.value.items in
    rw (false_from_ne_true (is_utf8 value) (λ is. let ok = c.in_default.ensures.succeeds (IsUtf8-from_is_utf8 value is) in absurd cc)) refl

pub returns : goal.returns
returns c =
    let text = string_bytes c.in-Ok.text in
    let same : text ≡ c.args.value.items = let ok = c.in-Ok.ensures.ok in search (rules, ok) in
    rw (c.ok_or.ensures.value, c.term_of.ensures, ← same, is_utf8-from_IsUtf8 text (IsUtf8-string_bytes c.in-Ok.text)) (gives_said (term_of c.args.key text))
