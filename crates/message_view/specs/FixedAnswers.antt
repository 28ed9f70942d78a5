-- Inner: what a reader of the fixed part answers.
use Rattle.std.specs.Prelude.{◌≡◌, ℕ, ◌≤◌, List, length, slice_index, Option, Some, None, Result, Ok, Err}
use Rattle.message_value.specs.declared.error.MsgError.{MsgError}
use Rattle.message_value.specs.Fits.{max_array_len}
use Rattle.message_view.specs.declared.fixed.Fixed.{Fixed}
use Rattle.message_view.specs.Header.{kind_of}
use Rattle.message_view.specs.Fixed.{order_in, serial_in, fields_len, body_len, whole_len, framing}
use Rattle.message_view.specs.Valid.{max_message_len}
use Rattle.message_view.specs.Spelling.{fixed_len}

-- the fixed part of some bytes
pub record IsFixed (fixed : Fixed) (bytes : List ℕ) : Type 0 where
  pub whole : fixed_len ≤ length bytes
  pub order : fixed.order ≡ order_in bytes
  pub kind : kind_of (slice_index bytes 1) ≡ Some fixed.kind
  pub flags : fixed.flags ≡ slice_index bytes 2
  pub body : fixed.body_len ≡ body_len bytes
  pub serial : fixed.serial ≡ serial_in bytes
  pub fields : fixed.fields_len ≡ fields_len bytes
  pub array_fits : fields_len bytes ≤ max_array_len
  pub fits : whole_len bytes ≤ max_message_len

-- what a reader of the fixed part answers
abbrev pub ReadsFixed : Result (Option Fixed) MsgError → List ℕ → Type 0
ReadsFixed (Ok (Some fixed)) bytes = (framing bytes ≡ Ok (Some (whole_len bytes))) × IsFixed fixed bytes
ReadsFixed (Ok None) bytes = framing bytes ≡ Ok None
ReadsFixed (Err fault) bytes = framing bytes ≡ Err fault
