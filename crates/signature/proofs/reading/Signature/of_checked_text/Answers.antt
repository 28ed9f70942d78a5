use Rattle.signature.proofs.Signatures.{fault_of-SigText}
use Rattle.signature.proofs.reading.Signature.of_checked_text.Goals as goal

pub invariant_of-result : goal.invariant_of-result
invariant_of-result c = fault_of-SigText c.requires.0 c.args.text.now c.requires.1
