use Rattle.match_rule.proofs.NamespaceFound.{not_elsewhere}
use Rattle.match_rule.proofs.path_namespace.not_elsewhere_where_it_holds.Goals as goal

pub returns : goal.returns
returns c = not_elsewhere
