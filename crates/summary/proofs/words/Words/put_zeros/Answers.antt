use Rattle.std.proofs.Common.{◌+◌, ◌*◌, ◌≤◌, List, ◌++◌, ap, ◌∙◌, arith, replicate, ℕ}
use Rattle.summary.specs.ImageBytes.{words_bytes}
use Rattle.summary.proofs.WordPlaces.{length_shown, more_zeros, more_left}
use Rattle.summary.proofs.words.Words.put_zeros.Goals as goal

pub invariant_of-self : goal.invariant_of-self
invariant_of-self c =
    let len = length_shown c.self.inside.bytes c.args.self.now c.self.inside.len c.self.told c.self.invariant.0 c.self.view_is in
    (omega (arith, len, c.requires), more_left c.self.inside.bytes c.self.inside.len c.args.count c.self.invariant.1)

pub returns : goal.returns
returns c =
    let len = length_shown c.self.inside.bytes c.args.self.now c.self.inside.len c.self.told c.self.invariant.0 c.self.view_is in
    let room : c.self.inside.len + 4 * c.args.count ≤ 976 = omega (arith, len, c.requires) in
    more_zeros c.self.inside.bytes c.self.inside.len c.args.count room c.self.invariant.1
    ∙ ap (λ (x : List ℕ). x ++ words_bytes (replicate {A = ℕ} c.args.count 0)) c.self.view_is
