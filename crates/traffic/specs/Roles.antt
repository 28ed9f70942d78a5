-- What a message is among calls and answers (D-Bus Specification, "Message Types": an answer's REPLY_SERIAL is the serial of its
-- call, and "Message Format": the flag NO_REPLY_EXPECTED, the lowest).
use Rattle.std.specs.Prelude.{ℕ, ◌==◌, bit_and, List, Option, Some, None, if◌then◌else◌}
use Rattle.message_view.specs.declared.kind.Kind.{Kind}
use Rattle.message_view.specs.declared.kind.Kind.TheVariants.{MethodCall, MethodReturn, Error, Signal, Other}
use Rattle.message_view.specs.Message.{Message, sender_of, destination_of, reply_serial_of, or_empty}
use Rattle.traffic.specs.declared.role.Exchange.{Exchange}
use Rattle.traffic.specs.declared.role.Role.{Role}
use Rattle.traffic.specs.declared.role.Role.TheVariants as shown

-- a call: its caller, its serial and its callee, without whom it has an empty name
pub record CallText : Type 0 where
  pub caller : List ℕ
  pub serial : ℕ
  pub callee : List ℕ

-- what a message is: a call that wants an answer or none, an answer to a call, or neither
pub data MessageRole : Type 0 where
  call : CallText → MessageRole
  one_way : CallText → MessageRole
  return : CallText → MessageRole
  error : CallText → MessageRole
  neither : MessageRole

-- a call is from its sender, to its destination
abbrev pub call_in : Message → CallText
call_in m = record { caller = or_empty (sender_of m); serial = m.serial; callee = or_empty (destination_of m) }

-- an answer is to its destination, from its sender
abbrev pub answered_in : Message → ℕ → CallText
answered_in m serial = record { caller = or_empty (destination_of m); serial = serial; callee = or_empty (sender_of m) }

abbrev pub role_of_answer : (CallText → MessageRole) → Message → Option ℕ → MessageRole
role_of_answer role m None = neither
role_of_answer role m (Some serial) = role (answered_in m serial)

abbrev pub role_of_call : Message → MessageRole
role_of_call m = if bit_and m.flags 1 == 0 then call (call_in m) else one_way (call_in m)

abbrev pub role_by : Kind → Message → MessageRole
role_by MethodCall m = role_of_call m
role_by MethodReturn m = role_of_answer return m (reply_serial_of m)
role_by Error m = role_of_answer error m (reply_serial_of m)
role_by Signal m = neither
role_by (Other byte) m = neither

abbrev pub role_of : Message → MessageRole
role_of m = role_by m.kind m

-- a call as the code has it
abbrev pub shown_call : Exchange → CallText
shown_call it = record { caller = it.caller.now; serial = it.serial; callee = it.callee.now }

abbrev pub shown_role : Role → MessageRole
shown_role (shown.Call it) = call (shown_call it)
shown_role (shown.OneWay it) = one_way (shown_call it)
shown_role (shown.Return it) = return (shown_call it)
shown_role (shown.Error it) = error (shown_call it)
shown_role shown.Other = neither
