use Rattle.std.proofs.Common.{◌≡◌, ◌++◌, drop}
use Rattle.std.specs.Prelude.{string_bytes}
use Rattle.dbusfan_tool.specs.Listing.{listing_of}
use Rattle.dbusfan_tool.proofs.assembling.listing.Given as goal

abbrev pub invariant-loop-ins : goal.invariant-loop-ins
invariant-loop-ins l = string_bytes l.text ++ listing_of (drop l.ins-index l.program) ≡ listing_of l.program
