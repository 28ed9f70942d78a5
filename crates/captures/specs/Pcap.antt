-- Files of the format pcap (draft-ietf-opsawg-pcap).
use Rattle.std.specs.Prelude.{ℕ, ◌+◌, ◌*◌, ◌%◌, not, List, length, Option, Some, None, Result, Ok, Err, nat_lt, ◌==◌, ◌&&◌, if◌then◌else◌}
use Rattle.captures.specs.declared.order.Order.{Order}
use Rattle.captures.specs.declared.order.Order.TheVariants.{Little, Big}
use Rattle.captures.specs.declared.error.CaptureError.{CaptureError}
use Rattle.captures.specs.declared.error.CaptureError.TheVariants as faults
use Rattle.captures.specs.declared.step.Step.{Step}
use Rattle.captures.specs.declared.step.Step.TheVariants.{Message, More}
use Rattle.captures.specs.declared.step.TheConstants.{MAX_PACKET_LEN}
use Rattle.captures.specs.declared.pcap.TimeUnit.{TimeUnit}
use Rattle.captures.specs.declared.pcap.TimeUnit.TheVariants.{Micro, Nano}
use Rattle.captures.specs.declared.magic.Magic.{Magic}
use Rattle.captures.specs.declared.magic.Magic.TheVariants as magics
use Rattle.captures.specs.Standard.{big_micro, big_nano, link_types, linktype_dbus, little_micro, little_nano, nanos_per_second, record_header_len, section_type, version_major, version_minor}
use Rattle.captures.specs.Numbers.{half, word}

-- how many nanoseconds a unit of the fractions is (section 4, "Magic Number")
abbrev pub nanoseconds : TimeUnit → ℕ
nanoseconds Micro = 1000
nanoseconds Nano = 1

-- What a file's first four bytes say, read with the highest byte first: the byte order and the unit of a pcap file
-- (section 4, "Magic Number"), or that a section begins (draft-ietf-opsawg-pcapng, "Section Header Block").
abbrev pub magic_of : ℕ → Option Magic
magic_of number =
    if number == big_micro then Some (magics.Pcap Big Micro)
    else if number == little_micro then Some (magics.Pcap Little Micro)
    else if number == big_nano then Some (magics.Pcap Big Nano)
    else if number == little_nano then Some (magics.Pcap Little Nano)
    else if number == section_type then Some magics.Pcapng
    else None

-- the link type, in the low 28 bits of the header's last word (section 4, "LinkType")
abbrev pub link_type : Order → List ℕ → ℕ
link_type order bytes = word order bytes 20 % link_types

-- what is wrong with a file's header (section 4, "General File Structure")
abbrev pub header_fault : Order → List ℕ → Option CaptureError
header_fault order bytes =
    if not (half order bytes 4 == version_major && half order bytes 6 == version_minor) then Some faults.Version
    else if not (link_type order bytes == linktype_dbus) then Some (faults.LinkType (link_type order bytes))
    else None

-- The words of a record before its packet (section 5, "Packet Record").
abbrev pub seconds : Order → List ℕ → ℕ
seconds order bytes = word order bytes 0

abbrev pub fraction : Order → List ℕ → ℕ
fraction order bytes = word order bytes 4

abbrev pub captured_len : Order → List ℕ → ℕ
captured_len order bytes = word order bytes 8

abbrev pub original_len : Order → List ℕ → ℕ
original_len order bytes = word order bytes 12

-- the record that bytes begin with (section 5, "Packet Record")
abbrev pub record_at : Order → TimeUnit → List ℕ → Result Step CaptureError
record_at order unit bytes =
    let len = record_header_len + captured_len order bytes in
    if nat_lt (length bytes) record_header_len then Ok (More record_header_len)
    else if nat_lt MAX_PACKET_LEN (captured_len order bytes) then Err faults.RecordLength
    else if nat_lt (length bytes) len then Ok (More len)
    else Ok (Message (record {
      len = len;
      start = record_header_len;
      end = len;
      time = Some (seconds order bytes * nanos_per_second + fraction order bytes * nanoseconds unit);
      is_cut = nat_lt (captured_len order bytes) (original_len order bytes);
    }))
