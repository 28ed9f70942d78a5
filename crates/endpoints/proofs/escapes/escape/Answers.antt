-- Escapes are read as the bytes that were escaped.
use Rattle.std.proofs.Common.{arith, refl}
use Rattle.std.proofs.lemmas.List.Elements.{All-from_get_or}
use Rattle.percent_encoding.proofs.PercentLemmas.{round_trip, IsByte}
use Rattle.endpoints.proofs.escapes.escape.Goals as goal

pub returns : goal.returns
returns c =
    let small = All-from_get_or IsByte c.args.bytes.now 0 (λ i within. omega (arith, c.type_inv.bytes i)) in
    rw (c.in_ok-append_to.ensures.ok, c.new-value.ensures.bytes, c.percent_encode.ensures.text) (round_trip _ _ refl small)
