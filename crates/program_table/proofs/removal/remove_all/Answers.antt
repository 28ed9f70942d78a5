use Rattle.std.proofs.Common.{◌∙◌}
use Rattle.owners.specs.Queues.{without_all}
use Rattle.program_table.specs.Ties.{registrations_of}
use Rattle.program_table.proofs.Tying.{settled_tie, settled_view}
use Rattle.program_table.proofs.Gone.{none_gone, more_gone, all_gone}
use Rattle.program_table.proofs.removal.remove_all.Goals as goal

pub theirs-init : goal.theirs-init
theirs-init c = (c.requires, none_gone c.args.connection c.args.names.now c.args.entries.now c.requires)

pub theirs-preserved : goal.theirs-preserved
theirs-preserved c = (
  c.remove_any.ensures.tied,
  more_gone c.args.connection (registrations_of c.args.names.now c.args.entries.now) (registrations_of c.theirs.names c.theirs.entries) (registrations_of c.remove_any.new.names c.remove_any.new.entries) c.theirs.invariant.1 c.remove_any.ensures.gone,
)

pub returns-clause-tied : goal.returns-clause-tied
returns-clause-tied c =
    settled_tie c.remove_any.new.names c.drop_all.new.self c.remove_any.new.entries (without_all c.args.connection c.remove_any.new.names.claims) c.remove_any.ensures.tied c.drop_all.ensures.registry c.drop_all.ensures.after

pub returns-clause-gone : goal.returns-clause-gone
returns-clause-gone c =
    let first = registrations_of c.args.names.now c.args.entries.now in
    let left = registrations_of c.remove_any.new.names c.remove_any.new.entries in
    settled_view c.remove_any.new.names c.drop_all.new.self c.remove_any.new.entries (without_all c.args.connection c.remove_any.new.names.claims) c.remove_any.ensures.tied c.drop_all.ensures.after
    ∙ all_gone c.args.connection first left
    (more_gone c.args.connection first (registrations_of c.theirs.names c.theirs.entries) left c.theirs.invariant.1 c.remove_any.ensures.gone)
    (c.remove_any.ensures.last c.theirs-test.false)
