-- Inner: how a client's holdings are kept.
use Rattle.peers.specs.declared.holdings.Holdings.{Holdings}
use Rattle.peers.specs.Holdings.{HoldingsState}

-- what clauses see of them
abbrev pub holdings_of : Holdings → HoldingsState
holdings_of held = record { rules = held.rules; programs = held.programs.items; names = held.names.items }
