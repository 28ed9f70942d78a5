use Rattle.std.proofs.Common.{◌≡◌, false, Some, subst}
use Rattle.std.specs.Prelude.{MatchOption, slice_get}
use Rattle.program_table.specs.Connections.{numbers_of, is_connected}
use Rattle.program_table.specs.ConnectionList.{ConnectionList}
use Rattle.program_table.proofs.Places.{place_told}
use Rattle.program_table.proofs.connections.Connections.place_of.Goals as goal

pub returns : goal.returns
returns g c =
    let evidence = place_told c.args.number c.as_slice.result.now c.place_of.result c.place_of.ensures in
    let P : ConnectionList _ → Type 0 = λ r. MatchOption c.place_of.result (is_connected c.args.number r.connections ≡ false) (λ place. slice_get (numbers_of r.connections) place ≡ Some c.args.number) in
    subst P c.self.view_is (rw (← c.as_slice.ensures.value) evidence)
