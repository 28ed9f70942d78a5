-- The limits of a server (own).
use Rattle.std.specs.Prelude.{ℕ, List, codes}
use Rattle.server.specs.declared.limit.Limit.{Limit}
use Rattle.server.specs.declared.limit.Limit.TheVariants.{Rules, AllRules, Instructions, AllInstructions, Names, AllNames, Claims, Calls, Messages, Bytes, Unfinished, Silence, Clients, Newcomers, Hello}
use Rattle.server.specs.declared.limits.Limits.{Limits}

-- the name of a limit, as words have it; its number where no other is asked for; the highest one that may be asked for; and what
-- the number counts
pub record LimitRow : Type 0 where
  pub name : List ℕ
  pub standard : ℕ
  pub most : ℕ
  pub unit : List ℕ

abbrev pub row : List ℕ → ℕ → ℕ → List ℕ → LimitRow
row name standard most unit = record { name = name; standard = standard; most = most; unit = unit }

abbrev pub highest : ℕ
highest = 4294967295

-- the table of limits; the standard numbers of rules, names, calls, newcomers and hello are dbus-daemon's own
abbrev pub row_of : Limit → LimitRow
row_of Rules = row (codes "rules") 512 highest (codes "rules and programs")
row_of AllRules = row (codes "all-rules") 16384 65534 (codes "rules and programs")
row_of Instructions = row (codes "instructions") 65536 highest (codes "instructions")
row_of AllInstructions = row (codes "all-instructions") 4096000 highest (codes "instructions")
row_of Names = row (codes "names") 512 highest (codes "names")
row_of AllNames = row (codes "all-names") 1024 1024 (codes "names")
row_of Claims = row (codes "claims") 4096 4096 (codes "claims")
row_of Calls = row (codes "calls") 50000 highest (codes "calls")
row_of Messages = row (codes "messages") 100000 highest (codes "messages")
row_of Bytes = row (codes "bytes") 67108864 highest (codes "bytes")
row_of Unfinished = row (codes "unfinished") 33554432 highest (codes "bytes")
row_of Silence = row (codes "silence") 30 highest (codes "seconds")
row_of Clients = row (codes "clients") 256 4096 (codes "clients")
row_of Newcomers = row (codes "newcomers") 64 highest (codes "connections")
row_of Hello = row (codes "hello") 30 highest (codes "seconds")

-- the number of each limit among these
abbrev pub number_of : Limits → Limit → ℕ
number_of limits Rules = limits.shares.entries
number_of limits AllRules = limits.capacity.entries
number_of limits Instructions = limits.shares.instructions
number_of limits AllInstructions = limits.all_instructions
number_of limits Names = limits.shares.names
number_of limits AllNames = limits.capacity.names
number_of limits Claims = limits.capacity.claims
number_of limits Calls = limits.shares.calls
number_of limits Messages = limits.room.messages
number_of limits Bytes = limits.room.bytes
number_of limits Unfinished = limits.unfinished
number_of limits Silence = limits.silence
number_of limits Clients = limits.capacity.connections
number_of limits Newcomers = limits.newcomers
number_of limits Hello = limits.hello
