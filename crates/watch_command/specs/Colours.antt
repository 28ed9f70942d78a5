-- Colours of lines on a terminal, by the control function SELECT GRAPHIC RENDITION (ECMA-48, 8.3.117), and where there are any
-- (no-color.org).
use Rattle.std.specs.Prelude.{ℕ, Bool, true, false, not, ◌||◌, ◌==◌, List, [], ◌∷◌, ◌++◌, take, drop, codes, Option, Some, None, if◌then◌else◌}
use Rattle.std.specs.List.{prefix_len}
use Rattle.std.specs.Str.{bytes_eq}
use Rattle.message_view.specs.declared.kind.Kind.{Kind}
use Rattle.message_view.specs.declared.kind.Kind.TheVariants.{MethodCall, MethodReturn, Error, Signal, Other as OtherKind}
use Rattle.watch_command.specs.declared.style.Device.{Device}
use Rattle.watch_command.specs.declared.style.Device.TheVariants.{Terminal, Other}
use Rattle.watch_command.specs.declared.style.Style.{Style}
use Rattle.watch_command.specs.declared.style.Style.TheVariants.{Coloured, Plain}
use Rattle.watch_command.specs.declared.style.Rendition.{Rendition}
use Rattle.watch_command.specs.declared.style.Rendition.TheVariants.{Default, Faint, Red, Green, Blue, Cyan}

-- a variable has a value that isn't empty
abbrev pub is_set : Option (List ℕ) → Bool
is_set None = false
is_set (Some []) = false
is_set (Some (b ∷ later)) = true

-- TERM names a terminal that knows no control sequences
abbrev pub is_dumb : Option (List ℕ) → Bool
is_dumb None = false
is_dumb (Some term) = bytes_eq term (codes "dumb")

-- how lines look, by what standard output is and by the variables NO_COLOR and TERM
abbrev pub style_by : Device → Option (List ℕ) → Option (List ℕ) → Style
style_by Terminal no_color term = if is_set no_color || is_dumb term then Plain else Coloured
style_by Other no_color term = Plain

-- the control sequence of a rendition: ESC, `[`, its number and `m`
abbrev pub sequence : Rendition → List ℕ
sequence Default = 27 ∷ codes "[0m"
sequence Faint = 27 ∷ codes "[2m"
sequence Red = 27 ∷ codes "[31m"
sequence Green = 27 ∷ codes "[32m"
sequence Blue = 27 ∷ codes "[34m"
sequence Cyan = 27 ∷ codes "[36m"

-- a text in a rendition, and the default one after it
abbrev pub with_rendition : Rendition → List ℕ → List ℕ
with_rendition rendition text = sequence rendition ++ text ++ sequence Default

-- the colour of each kind of message
abbrev pub colour_of : Kind → Option Rendition
colour_of MethodCall = Some Blue
colour_of MethodReturn = Some Green
colour_of Error = Some Red
colour_of Signal = Some Cyan
colour_of (OtherKind byte) = None

-- a byte of a word, which a blank ends
abbrev pub is_of_word : ℕ → Bool
is_of_word b = not (b == 32)

-- how many bytes the first word of a line has
abbrev pub word_len : List ℕ → ℕ
word_len line = prefix_len is_of_word line

abbrev pub with_colour : Option Rendition → List ℕ → List ℕ
with_colour None line = line
with_colour (Some colour) line = with_rendition colour (take (word_len line) line) ++ drop (word_len line) line

-- a message's line: its first word, which is the message's kind, has the colour of that kind
abbrev pub shown_line : Style → Kind → List ℕ → List ℕ
shown_line Coloured kind line = with_colour (colour_of kind) line
shown_line Plain kind line = line

-- a time in front of a line, which is faint
abbrev pub shown_time : Style → List ℕ → List ℕ
shown_time Coloured time = with_rendition Faint time
shown_time Plain time = time
