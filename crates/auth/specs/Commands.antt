-- What a client can say in a line (D-Bus Specification, "Authentication Protocol").
use Rattle.std.specs.Prelude.{ℕ, ◌%◌, ◌==◌, ◌&&◌, Bool, List, [], ◌∷◌, length, Option, Some, None, codes, if◌then◌else◌}
use Rattle.std.specs.List.{list_all}
use Rattle.std.specs.Char.{is_ascii_hexdigit}
use Rattle.std.specs.Str.{bytes_eq}
use Rattle.auth.specs.declared.command.Command.{Command}
use Rattle.auth.specs.declared.command.Command.TheVariants.{AskExternal, Claim, Trace, AskCookie, OtherAuth, Response, OtherData, Begin, Cancel, Complaint, Unknown}

abbrev pub space : ℕ
space = 32

-- a line's first word, and what follows its space where there is one
pub record Words : Type 0 where
  pub word : List ℕ
  pub more : Option (List ℕ)

abbrev pub with_letter : ℕ → Words → Words
with_letter byte words = record { word = byte ∷ words.word; more = words.more }

-- a word ends at the first space
abbrev pub words_of : List ℕ → Words
words_of [] = record { word = []; more = None }
words_of (byte ∷ bytes) = if byte == space then record { word = []; more = Some bytes } else with_letter byte (words_of bytes)

-- an even number of hexadecimal digits, also none
abbrev pub is_hexadecimal : List ℕ → Bool
is_hexadecimal text = length text % 2 == 0 && list_all is_ascii_hexdigit text

-- one of three commands: for no text, for a hexadecimal one, and for any other
abbrev pub by_text : Command → Command → Command → Option (List ℕ) → Command
by_text bare hexadecimal other None = bare
by_text bare hexadecimal other (Some text) = if is_hexadecimal text then hexadecimal else other

-- the mechanism, and the user that is claimed
abbrev pub mechanism : Words → Command
mechanism words =
    if bytes_eq words.word (codes "EXTERNAL") then by_text AskExternal Claim OtherAuth words.more
    else if bytes_eq words.word (codes "ANONYMOUS") then by_text Trace Trace OtherAuth words.more
    else if bytes_eq words.word (codes "DBUS_COOKIE_SHA1") then by_text OtherAuth AskCookie OtherAuth words.more
    else OtherAuth

abbrev pub auth_command : Option (List ℕ) → Command
auth_command None = OtherAuth
auth_command (Some text) = mechanism (words_of text)

-- the command, if no text follows its word
abbrev pub alone : Command → Option (List ℕ) → Command
alone command None = command
alone command (Some text) = Unknown

abbrev pub command_in : Words → Command
command_in words =
    if bytes_eq words.word (codes "AUTH") then auth_command words.more
    else if bytes_eq words.word (codes "DATA") then by_text Response Response OtherData words.more
    else if bytes_eq words.word (codes "BEGIN") then alone Begin words.more
    else if bytes_eq words.word (codes "CANCEL") then alone Cancel words.more
    else if bytes_eq words.word (codes "ERROR") then Complaint
    else Unknown

-- the command of a line
abbrev pub command_of : List ℕ → Command
command_of line = command_in (words_of line)

-- what follows a word; no byte where nothing does
abbrev pub text_in : Option (List ℕ) → List ℕ
text_in None = []
text_in (Some text) = text

abbrev pub claim_after : Option (List ℕ) → List ℕ
claim_after None = []
claim_after (Some text) = text_in (words_of text).more

-- what a line says after its word, and where that is AUTH after the mechanism
abbrev pub claim_in : Words → List ℕ
claim_in words = if bytes_eq words.word (codes "AUTH") then claim_after words.more else text_in words.more

abbrev pub claim_of : List ℕ → List ℕ
claim_of line = claim_in (words_of line)
