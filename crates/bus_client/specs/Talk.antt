-- How an authentication talk goes on (own).
use Rattle.std.specs.Prelude.{ℕ, Bool, true, false}
use Rattle.bus_client.specs.declared.talk.Stage.{Stage}
use Rattle.bus_client.specs.declared.talk.Stage.TheVariants.{External, ExternalData, Anonymous, AnonymousData, Descriptors}
use Rattle.bus_client.specs.declared.talk.Answer.{Answer}
use Rattle.bus_client.specs.declared.talk.Answer.TheVariants as answers
use Rattle.bus_client.specs.declared.transport.Transport.{Transport}
use Rattle.bus_client.specs.declared.transport.Transport.TheVariants.{Unix, Tcp}

-- how many lines a client may still say after the line of a stage, BEGIN not counted
abbrev pub lines_left : Stage → ℕ
lines_left External = 4
lines_left ExternalData = 3
lines_left Anonymous = 2
lines_left AnonymousData = 1
lines_left Descriptors = 0

-- whether a client asks for file descriptors after an answer: once it is accepted, if the transport passes them
abbrev pub may_ask : Transport → Stage → Answer → Bool
may_ask _ Descriptors _ = false
may_ask Unix _ answers.Ok = true
may_ask _ _ _ = false

-- whether messages begin after an answer: once the client has asked for descriptors, and whether it gets them or not; where
-- the transport passes none, once it is accepted
abbrev pub may_begin : Transport → Stage → Answer → Bool
may_begin _ Descriptors answers.Agree = true
may_begin _ Descriptors answers.Error = true
may_begin _ Descriptors _ = false
may_begin Tcp _ answers.Ok = true
may_begin _ _ _ = false
