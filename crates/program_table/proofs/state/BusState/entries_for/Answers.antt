use Rattle.program_table.proofs.state.BusState.entries_for.Goals as goal

pub returns-clause-state : goal.returns-clause-state
returns-clause-state g c = rw (← c.self.view_is) (record {
  rising = c.last.ensures.sound.rising;
  below_last = c.last.ensures.sound.below_last;
  few = c.last.ensures.sound.few;
  numbered = c.self.invariant.0.numbered;
  counted = c.self.invariant.0.counted;
  registrations = c.entries_for.ensures.sound;
  of_connections = c.self.invariant.1.entries;
  claims_of_connections = c.self.invariant.1.claims;
})
