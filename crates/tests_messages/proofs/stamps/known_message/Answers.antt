use Rattle.tests_messages.proofs.stamps.known_message.Goals as goal

pub of_message-known-requires : goal.of_message-known-requires
of_message-known-requires g c = rw c.as_slice-2.ensures.value c.in_ok-stamped.ensures.valid
