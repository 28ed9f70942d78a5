-- What is left is judged as all of it is.
use Rattle.std.proofs.Common.{◌≡◌, drop}
use Rattle.std.specs.Prelude.{Some}
use Rattle.endpoints.specs.declared.escapes.Awaited.TheVariants.{AnyByte}
use Rattle.endpoints.specs.Escapes.{whole_from}
use Rattle.endpoints.proofs.escapes.has_whole_escapes.Given as goal

abbrev pub invariant-loop-byte : goal.invariant-loop-byte
invariant-loop-byte l =
    whole_from (Some l.awaited) (drop l.byte-index l.byte-items) ≡ whole_from (Some AnyByte) l.value
