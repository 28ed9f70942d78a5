-- What the times of a pcapng interface count (draft-ietf-opsawg-pcapng, "Options" and "Interface Description Block").
use Rattle.std.specs.Prelude.{ℕ, zero, suc, ◌+◌, ◌-◌, ◌*◌, ◌/◌, ◌^◌, true, false, List, [], ◌∷◌, length, slice_index, Option, Some, None, Result, Ok, Err, nat_lt, nat_le, ◌==◌, if◌then◌else◌}
use Rattle.captures.specs.declared.order.Order.{Order}
use Rattle.captures.specs.declared.error.CaptureError.{CaptureError}
use Rattle.captures.specs.declared.error.CaptureError.TheVariants as faults
use Rattle.captures.specs.declared.times.Times.{Times}
use Rattle.captures.specs.declared.options.TheConstants.{MAX_DECIMAL, MAX_BINARY}
use Rattle.captures.specs.Standard.{end_of_options, if_tsoffset, if_tsresol, microseconds, nanos_per_second, option_header_len, power_of_two}
use Rattle.captures.specs.Numbers.{half}

-- How many units a second has: a power of 2 where the highest bit is set, else of 10 ("if_tsresol"), if 64 bits
-- suffice.
abbrev pub units_of : ℕ → Option ℕ
units_of resolution =
    if nat_lt resolution power_of_two then (if nat_le resolution MAX_DECIMAL then Some (10 ^ resolution) else None)
    else if nat_le (resolution - power_of_two) MAX_BINARY then Some (2 ^ (resolution - power_of_two)) else None

-- microseconds, where no option says otherwise ("if_tsresol")
abbrev pub usual : Times
usual = record { resolution = microseconds; are_offset = false }

-- a length filled up to whole words ("Options")
abbrev pub padded_len : ℕ → ℕ
padded_len len = (len + 3) / 4 * 4

-- what the option at the front of a list says of the times: if_tsresol has one byte, if_tsoffset moves them
abbrev pub after_option : Order → List ℕ → Times → Result Times CaptureError
after_option order options times =
    if half order options 0 == if_tsresol then (if half order options 2 == 1 then Ok (record { resolution = slice_index options option_header_len; are_offset = times.are_offset }) else Err faults.Resolution)
    else if half order options 0 == if_tsoffset then Ok (record { resolution = times.resolution; are_offset = true })
    else Ok times

-- the options after one
abbrev pub and_then : Result Times CaptureError → (Times → Result Times CaptureError) → Result Times CaptureError
and_then (Err fault) later = Err fault
and_then (Ok times) later = later times

-- What a list of options says, past its first k bytes: each has a code, the length of its value, and the value,
-- filled up to whole words. The list ends with its bytes, or with opt_endofopt ("Options").
abbrev pub times_from : Order → Times → ℕ → List ℕ → Result Times CaptureError
times_from order times k [] = Ok times
times_from order times (suc k) (byte ∷ rest) = times_from order times k rest
times_from order times zero (byte ∷ rest) =
    let options = byte ∷ rest in
    let len = half order options 2 in
    if nat_lt (length options) option_header_len then Ok times
    else if half order options 0 == end_of_options then Ok times
    else if nat_lt (length options) (option_header_len + len) then Err faults.OptionLength
    else and_then (after_option order options times) (λ after. times_from order after (3 + padded_len len) rest)

-- Nanoseconds since 1970 of a time in two words ("Enhanced Packet Block"), where the interface's times have no offset
-- and 64 bits suffice.
abbrev pub in_units : ℕ → Option ℕ → Option ℕ
in_units ticks None = None
in_units ticks (Some units) =
    let n = ticks * nanos_per_second / units in
    if nat_lt n (2 ^ 64) then Some n else None

abbrev pub nanoseconds_in : Times → ℕ → ℕ → Option ℕ
nanoseconds_in times high low = if times.are_offset then None else in_units (high * 2 ^ 32 + low) (units_of times.resolution)
