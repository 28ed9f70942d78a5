-- What is printed of why a value can't be written (own).
use Rattle.std.specs.Prelude.{ℕ, List, codes}
use Rattle.message_value.specs.Errors.{name_of}
use Rattle.value_text.specs.declared.error.TextError.{TextError}
use Rattle.value_text.specs.declared.error.TextError.TheVariants.{Message, NoMemory}

abbrev pub text_error_text : TextError → List ℕ
text_error_text (Message fault) = name_of fault
text_error_text NoMemory = codes "NoMemory"
