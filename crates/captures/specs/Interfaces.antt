-- Interfaces of a pcapng section (draft-ietf-opsawg-pcapng, "Interface Description Block").
use Rattle.std.specs.Prelude.{ℕ, List, length, drop, Result, Ok, Err, nat_lt, ◌==◌, ◌||◌, if◌then◌else◌}
use Rattle.captures.specs.declared.order.Order.{Order}
use Rattle.captures.specs.declared.error.CaptureError.{CaptureError}
use Rattle.captures.specs.declared.error.CaptureError.TheVariants as faults
use Rattle.captures.specs.declared.step.Packet.{Packet}
use Rattle.captures.specs.declared.step.Step.{Step}
use Rattle.captures.specs.declared.step.Step.TheVariants.{Message, Other}
use Rattle.captures.specs.declared.times.Times.{Times}
use Rattle.captures.specs.declared.interface.Interface.{Interface}
use Rattle.captures.specs.Standard.{interface_len, linktype_dbus}
use Rattle.captures.specs.Numbers.{half, word}
use Rattle.captures.specs.Options.{usual, times_from}

abbrev pub with_times : ℕ → ℕ → Result Times CaptureError → Result Interface CaptureError
with_times link_type snap_len (Err fault) = Err fault
with_times link_type snap_len (Ok times) = Ok (record { link_type = link_type; snap_len = snap_len; times = times })

-- a body: the link type, two bytes that say nothing, the snap length, and options
abbrev pub interface_of : Order → List ℕ → Result Interface CaptureError
interface_of order body =
    if nat_lt (length body) interface_len then Err faults.BlockLength
    else with_times (half order body 0) (word order body 4) (times_from order usual 0 (drop interface_len body))

-- how many bytes of a packet of this length are kept; the snap length 0 says all ("SnapLen")
abbrev pub kept_len : Interface → ℕ → ℕ
kept_len interface original = if interface.snap_len == 0 || nat_lt original interface.snap_len then original else interface.snap_len

-- a packet of an interface is of D-Bus where its link type says so (own)
abbrev pub step_with : Interface → Packet → Step
step_with interface packet = if interface.link_type == linktype_dbus then Message packet else Other packet.len interface.link_type
