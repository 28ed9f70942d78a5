-- The numbers and names of errors (own).
use Rattle.std.specs.Prelude.{ℕ, List, codes}
use Rattle.fan_out.specs.declared.error.FanError.{FanError}
use Rattle.fan_out.specs.declared.error.FanError.TheVariants.{Workers, NotStarted}

abbrev pub fan_error_number : FanError → ℕ
fan_error_number Workers = 1
fan_error_number NotStarted = 2

abbrev pub fan_error_name : FanError → List ℕ
fan_error_name Workers = codes "Workers"
fan_error_name NotStarted = codes "NotStarted"
