-- Tests that may refuse a command (own).
use Rattle.std.specs.Prelude.{Bool, true, false, Result, Ok, Err}
use Rattle.program_table.specs.declared.refusal.Refusal.{Refusal}

infixl 10 ◌>>=◌
abbrev pub ◌>>=◌ : {A B : Type 0} → Result A Refusal → (A → Result B Refusal) → Result B Refusal
(Ok x) >>= f = f x
(Err refusal) >>= f = Err refusal

abbrev pub refuse_if : Bool → Refusal → Result (Unit {0}) Refusal
refuse_if true refusal = Err refusal
refuse_if false refusal = Ok tt
