-- The numbers of the formats (draft-ietf-opsawg-pcap; draft-ietf-opsawg-pcapng; LINKTYPE_DBUS of tcpdump.org's "Link-Layer Header
-- Types").
use Rattle.std.specs.Prelude.{ℕ}

-- the magic numbers of pcap, read with their highest byte first ("File Header": Magic Number)
abbrev pub big_micro : ℕ
big_micro = 0xa1b2c3d4

abbrev pub little_micro : ℕ
little_micro = 0xd4c3b2a1

abbrev pub big_nano : ℕ
big_nano = 0xa1b23c4d

abbrev pub little_nano : ℕ
little_nano = 0x4d3cb2a1

abbrev pub magic_len : ℕ
magic_len = 4

-- the version of pcap files, the bytes of their header and of a record's, and one more than the link types ("File Header",
-- "Packet Record")
abbrev pub version_major : ℕ
version_major = 2

abbrev pub version_minor : ℕ
version_minor = 4

abbrev pub file_header_len : ℕ
file_header_len = 24

abbrev pub record_header_len : ℕ
record_header_len = 16

abbrev pub link_types : ℕ
link_types = 0x10000000

abbrev pub linktype_dbus : ℕ
linktype_dbus = 231

abbrev pub nanos_per_second : ℕ
nanos_per_second = 1000000000

-- the types of blocks ("Section Header Block Format" and those after it)
abbrev pub section_type : ℕ
section_type = 0x0a0d0d0a

abbrev pub interface_type : ℕ
interface_type = 1

abbrev pub obsolete_type : ℕ
obsolete_type = 2

abbrev pub simple_type : ℕ
simple_type = 3

abbrev pub enhanced_type : ℕ
enhanced_type = 6

-- the bytes before a block's body, those after it, and those of a block without one ("General Block Structure")
abbrev pub block_header_len : ℕ
block_header_len = 8

abbrev pub trailer_len : ℕ
trailer_len = 4

abbrev pub min_block_len : ℕ
min_block_len = 12

-- the byte-order magic, read with its highest byte first, and where it ends; the bytes of the body before its options; and the
-- versions, of which 1.2 is the same as 1.0 ("Section Header Block")
abbrev pub big_magic : ℕ
big_magic = 0x1a2b3c4d

abbrev pub little_magic : ℕ
little_magic = 0x4d3c2b1a

abbrev pub magic_end : ℕ
magic_end = 12

abbrev pub section_len : ℕ
section_len = 16

abbrev pub section_major : ℕ
section_major = 1

abbrev pub section_minor : ℕ
section_minor = 0

abbrev pub section_minor_too : ℕ
section_minor_too = 2

-- the bytes of a body before the options of an interface, before a packet with a time, and before one of a Simple Packet Block
abbrev pub interface_len : ℕ
interface_len = 8

abbrev pub timed_len : ℕ
timed_len = 20

abbrev pub untimed_len : ℕ
untimed_len = 4

-- the bytes before an option's value, and the codes of options ("Options", "Interface Description Block")
abbrev pub option_header_len : ℕ
option_header_len = 4

abbrev pub end_of_options : ℕ
end_of_options = 0

abbrev pub if_tsresol : ℕ
if_tsresol = 9

abbrev pub if_tsoffset : ℕ
if_tsoffset = 14

-- the bit of a resolution that is a power of 2, and the resolution where no option says one (if_tsresol)
abbrev pub power_of_two : ℕ
power_of_two = 0x80

abbrev pub microseconds : ℕ
microseconds = 6
