use Rattle.std.proofs.Common.{◌≡◌, ◌++◌, ℕ, List, [], ◌∷◌, refl, ◌∙◌}
use Rattle.summary.proofs.image.Image.fill.Goals as goal

no_words : (words bytes : List ℕ) → words ++ bytes ≡ [] → words ≡ []
no_words [] bytes e = refl
no_words (w ∷ ws) bytes e = absurd cc

pub put_summary-requires : goal.put_summary-requires
put_summary-requires c = no_words c.self.inside.words c.self.inside.message.now (c.self.view_is ∙ c.requires)
