use Rattle.std.proofs.Common.{◌≡◌, ◌≤◌, ◌-◌, length, drop}
use Rattle.filter.specs.Readers.{state_of}
use Rattle.filter.specs.Reading.{reads, items_of}
use Rattle.filter.specs.Steps.{start}
use Rattle.filter.specs.Tokens.{items_from}
use Rattle.filter.proofs.reading.read_bytes.Given as goal

-- reading on from the place gives what reading all gives
abbrev pub invariant-loop-place : goal.invariant-loop-place
invariant-loop-place l =
    (reads (state_of l.reader) (length l.text) (items_from 0 l.place (drop l.place l.text)) ≡ reads start (length l.text) (items_of l.text))
    × (l.place ≤ length l.text)

abbrev pub decreases-loop-place : goal.decreases-loop-place
decreases-loop-place l = length l.text - l.place
