use Rattle.std.proofs.Common.{ap, subst, arith, ℕ, ◌≡◌, ◌∙◌, Ok}
use Rattle.message_value.specs.Reading.{At, item_at}
use Rattle.message_value.specs.Spelling.{padding}
use Rattle.message_value.proofs.SkipTexts.{padding_fits, padding_gone}
use Rattle.message_value.proofs.cursor.Cursor.skip_padding.Goals as goal

pub skip-requires : goal.skip-requires
skip-requires c =
    let fits = padding_fits c.args.alignment c.args.self.now c.requires.read.0 c.requires.read.1 in
    let same : c.padding.result ≡ padding c.args.alignment c.args.self.now.place = c.padding.ensures ∙ ap (λ (at : At). padding c.args.alignment at.place) c.skip.view_is in
    omega (arith, fits, same)

pub returns-clause-gone : goal.returns-clause-gone
returns-clause-gone c =
    let same : c.padding.result ≡ padding c.args.alignment c.args.self.now.place = c.padding.ensures ∙ ap (λ (at : At). padding c.args.alignment at.place) c.skip.view_is in
    let item = subst (λ (n : ℕ). item_at n c.args.self.now ≡ Ok (c.skip-2.result.now, c.skip-2.new.self)) same c.skip-2.ensures.read in
    padding_gone c.args.alignment c.args.self.now c.requires.read.0 (c.skip-2.result.now, c.skip-2.new.self) c.requires.read.1 item
