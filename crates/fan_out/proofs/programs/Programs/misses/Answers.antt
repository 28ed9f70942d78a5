use Rattle.fan_out.proofs.Missing.{fits_or_missed}
use Rattle.fan_out.proofs.programs.Programs.misses.Goals as goal

pub returns : goal.returns
returns c =
    fits_or_missed c.args.self.now.view.now c.args.filter.now c.envelope_fits_where_it_holds.ensures c.fits_envelope.result c.fits_envelope.ensures
