use Rattle.std.proofs.Common.{◌-◌, vec_len}
use Rattle.monitors.proofs.monitors.show_all.Given as goal

abbrev pub decreases-monitors : goal.decreases-monitors
decreases-monitors g l = vec_len l.list - l.place
