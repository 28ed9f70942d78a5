-- What each command is answered and does: the table of commands, a row a case. The refusals of a row are tested in its
-- order (D-Bus Specification, "Message Bus Messages": AddMatch, RemoveMatch, RequestName, ReleaseName).
use Rattle.std.specs.Prelude.{◌≡◌, ℕ, ◌+◌, Bool, true, false, not, [], ◌∷◌, ◌++◌, Some, is_ok, Result, Ok, Err, nat_le, if◌then◌else◌}
use Rattle.match_rule.specs.RuleTree.{sender_name_of}
use Rattle.owners.specs.Registry.{least_of}
use Rattle.entry_table.specs.declared.entry.Filter.TheVariants.{Rule, Attached}
use Rattle.program_table.specs.declared.command.Command.{Command}
use Rattle.program_table.specs.declared.command.Command.TheVariants.{Limit, Connect, AddRule, RemoveRule, Attach, Detach, Request, Release, DropOne, Close}
use Rattle.program_table.specs.declared.command.Reply.{Reply}
use Rattle.program_table.specs.declared.command.Reply.TheVariants as replies
use Rattle.program_table.specs.declared.refusal.Refusal.{Refusal}
use Rattle.program_table.specs.declared.refusal.Refusal.TheVariants as refusals
use Rattle.program_table.specs.declared.capacity.Capacity.{Capacity}
use Rattle.program_table.specs.Capacities.{entry_within, rule_within, claim_within}
use Rattle.program_table.specs.Connections.{are_full, is_connected, with_command, without_connection}
use Rattle.program_table.specs.Registrations.{Registrations, with_entry, with_sender, without_entry, with_request, without_claim, without_all_of}
use Rattle.program_table.specs.State.{State}
use Rattle.program_table.specs.Refusals.{◌>>=◌, refuse_if}
use Rattle.program_table.specs.Answers.{oldest_with, add_rule_answer, remove_rule_answer, attach_answer, detach_answer, request_answer, release_answer, drop_answer}

-- how many commands can be counted
abbrev pub max_commands : ℕ
max_commands = 18446744073709551615

-- the reply of a row
abbrev pub reply_of : Result Reply Refusal → Reply
reply_of (Ok reply) = reply
reply_of (Err refusal) = replies.Refused refusal

module _ {M : Type 0} where
  -- the connection is there
  abbrev pub refuse_unconnected : ℕ → State M → Result (Unit {0}) Refusal
  refuse_unconnected c s = refuse_if (not (is_connected c s.connections)) refusals.Closed

  abbrev pub connect_row : State M → Result Reply Refusal
  connect_row s = do
    few ← refuse_if (are_full s.capacity.connections s.connections) refusals.ConnectionsFull
    Ok (replies.Connected (s.last_connection + 1))

  -- A row: what refuses the command, in this order, and what it is answered where nothing does.
  abbrev pub row : State M → Command M → Result Reply Refusal
  row s (Limit most) = Ok replies.Done
  row s (Connect m) = connect_row s
  row s (AddRule c compiled) = do
    there ← refuse_unconnected c s
    within ← rule_within s.capacity (sender_name_of compiled.rule) s.registrations
    add_rule_answer compiled s.registrations
  row s (RemoveRule c rule) = do
    there ← refuse_unconnected c s
    remove_rule_answer c rule s.registrations
  row s (Attach c attachment) = do
    there ← refuse_unconnected c s
    within ← entry_within s.capacity s.registrations
    attach_answer s.registrations
  row s (Detach c id) = do
    there ← refuse_unconnected c s
    detach_answer c id s.registrations
  row s (Request c name flags) = do
    there ← refuse_unconnected c s
    within ← claim_within s.capacity name c flags s.registrations
    request_answer name c flags s.registrations
  row s (Release c name) = do
    there ← refuse_unconnected c s
    Ok (release_answer name c s.registrations)
  row s (DropOne c) = do
    there ← refuse_unconnected c s
    Ok (drop_answer c s.registrations)
  row s (Close c) = do
    there ← refuse_unconnected c s
    Ok replies.Done

  -- once as many commands were accepted as can be counted, each one is refused
  abbrev pub answer_of : State M → Command M → Result Reply Refusal
  answer_of s command = if nat_le max_commands s.commands then Err refusals.Closed else row s command

  -- one more command of the connection was accepted, and led to these registrations
  abbrev pub with_registrations : ℕ → State M → Registrations → State M
  with_registrations c s r = record s { commands = s.commands + 1; connections = with_command c s.connections; registrations = r }

  -- a new connection, whose Connect is its first command
  abbrev pub with_connection : M → State M → State M
  with_connection m s = record s {
    commands = s.commands + 1;
    connections = s.connections ++ record { number = s.last_connection + 1; mailbox = m; commands = 1 } ∷ [];
    last_connection = s.last_connection + 1;
  }

  -- from now on there may be as much as this
  abbrev pub with_capacity : Capacity → State M → State M
  with_capacity most s = record s { commands = s.commands + 1; capacity = most }

  -- the connection is gone, with its entries and its claims
  abbrev pub close_state : ℕ → State M → State M
  close_state c s = record s {
    commands = s.commands + 1;
    connections = without_connection c s.connections;
    registrations = without_all_of c s.registrations;
  }

  -- What an accepted command does.
  abbrev pub effect : State M → Command M → State M
  effect s (Limit most) = with_capacity most s
  effect s (Connect m) = with_connection m s
  effect s (AddRule c compiled) =
      with_registrations c s (with_sender (sender_name_of compiled.rule) (with_entry c (Rule compiled) s.registrations))
  effect s (RemoveRule c rule) = with_registrations c s (without_entry c (oldest_with c rule s.registrations.entries) s.registrations)
  effect s (Attach c attachment) = with_registrations c s (with_entry c (Attached attachment) s.registrations)
  effect s (Detach c id) = with_registrations c s (without_entry c (Some id) s.registrations)
  effect s (Request c name flags) = with_registrations c s (with_request name c flags s.registrations)
  effect s (Release c name) = with_registrations c s (without_claim c (Some name) s.registrations)
  effect s (DropOne c) = with_registrations c s (without_claim c (least_of c s.registrations.claims) s.registrations)
  effect s (Close c) = close_state c s

  -- the command is accepted
  abbrev pub is_accepted : State M → Command M → Bool
  is_accepted s command = is_ok (answer_of s command)

  -- the command's mailbox, rule or program is shared, which takes memory
  abbrev pub is_sharing : Command M → Bool
  is_sharing (Connect m) = true
  is_sharing (AddRule c compiled) = true
  is_sharing (Attach c attachment) = true
  is_sharing _ = false

  abbrev pub reply_to : State M → Command M → Reply
  reply_to s command = reply_of (answer_of s command)

  -- a refused command changes nothing
  abbrev pub next_of : State M → Command M → State M
  next_of s command = if is_accepted s command then effect s command else s

  -- in this state the command has this reply, and leads to the next state
  pub record Does (s : State M) (command : Command M) (reply : Reply) (next : State M) : Type 0 where
    pub replies : reply ≡ reply_to s command
    pub leads : next ≡ next_of s command
