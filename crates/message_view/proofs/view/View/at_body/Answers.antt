use Rattle.std.proofs.Common.{refl, ap, ◌∙◌, arith}
use Rattle.message_view.specs.Reading.{body_at}
use Rattle.message_view.proofs.Views.{body_cursor, body_fits}
use Rattle.message_view.proofs.view.View.at_body.Goals as goal

pub new-requires : goal.new-requires
new-requires c =
    let fits = body_fits c.self.inside.bytes.now _ _ _ c.self.invariant in
    omega (arith, fits.0, fits.1)

pub returns : goal.returns
returns c = body_cursor c.self.inside.bytes.now _ _ _ _ c.new.result c.self.invariant refl c.new.ensures ∙ ap body_at c.self.view_is
