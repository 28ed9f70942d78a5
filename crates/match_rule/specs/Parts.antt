-- What is true of the conditions of each rule that was read (own).
use Rattle.std.specs.Prelude.{Bool, true, false, not, ◌&&◌, List, [], ◌∷◌}
use Rattle.std.specs.List.{list_all, list_any}
use Rattle.signature.specs.Name.{is_bus_name}
use Rattle.match_rule.specs.declared.condition.Condition.{Condition}
use Rattle.match_rule.specs.declared.condition.Condition.TheVariants.{Sender}

abbrev pub is_sender : Condition → Bool
is_sender (Sender name) = true
is_sender _ = false

-- at most one condition asks for a sender
abbrev pub has_one_sender : List Condition → Bool
has_one_sender [] = true
has_one_sender (c ∷ cs) = not (is_sender c && list_any is_sender cs) && has_one_sender cs

-- the sender that a condition asks for is a bus name
abbrev pub has_sender_name : Condition → Bool
has_sender_name (Sender name) = is_bus_name name
has_sender_name _ = true

abbrev pub have_sender_names : List Condition → Bool
have_sender_names conditions = list_all has_sender_name conditions
