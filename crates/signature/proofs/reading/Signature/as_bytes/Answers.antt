use Rattle.std.proofs.Common.{subst}
use Rattle.signature.specs.DataType.{SigText}
use Rattle.signature.proofs.Signatures.{some_types}
use Rattle.signature.proofs.reading.Signature.as_bytes.Goals as goal

pub returns-clause-spelled : goal.returns-clause-spelled
returns-clause-spelled c =
    let found = some_types c.self.inside.text.now c.self.invariant in
    (found.0, subst (SigText found.0) c.self.view_is found.1)
