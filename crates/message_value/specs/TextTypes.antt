-- The types of texts (D-Bus Specification, "Basic types").
use Rattle.std.specs.Prelude.{ℕ}
use Rattle.message_value.specs.declared.text.TextType.{TextType}
use Rattle.message_value.specs.declared.text.TextType.TheVariants as texts

-- the basic code of a text's type
abbrev pub text_code : TextType → ℕ
text_code texts.String = 115
text_code texts.ObjectPath = 111
text_code texts.Signature = 103
