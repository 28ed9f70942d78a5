use Rattle.std.proofs.Common.{◌≡◌, ◌+◌, ◌-◌, ◌≤◌, length, ap, ◌∙◌, arith}
use Rattle.summary.proofs.WordPlaces.{length_shown, zeros_go_on}
use Rattle.summary.proofs.words.Words.put.Goals as goal

pub invariant_of-self : goal.invariant_of-self
invariant_of-self c =
    let len = length_shown c.self.inside.bytes c.args.self.now c.self.inside.len c.self.told c.self.invariant.0 c.self.view_is in
    let room : c.self.inside.len + 4 ≤ 976 = omega (arith, len, c.requires) in
    let four : length c.copy_from_slice.new.self ≡ 4 = ap length (c.copy_from_slice.ensures.after ∙ c.to_be_bytes.ensures) in
    let is : c.self.inside.len + 4 - c.self.inside.len ≡ 4 = omega arith in
    (room, zeros_go_on c.self.inside.bytes c.copy_from_slice.new.self c.self.inside.len (c.self.inside.len + 4 - c.self.inside.len) c.self.told room four is c.self.invariant.1)
