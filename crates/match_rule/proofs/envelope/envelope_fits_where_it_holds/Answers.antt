use Rattle.match_rule.proofs.EnvelopeFound.{EnvelopeFits-Holds}
use Rattle.match_rule.proofs.envelope.envelope_fits_where_it_holds.Goals as goal

pub returns : goal.returns
returns c = EnvelopeFits-Holds
