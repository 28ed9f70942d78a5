use Rattle.std.proofs.Common.{◌≡◌, ◌+◌, ◌-◌, ◌≤◌, length, ap, ◌∙◌, arith}
use Rattle.summary.proofs.WordPlaces.{length_shown, put_front, zeros_after}
use Rattle.summary.proofs.words.Words.set.Goals as goal

pub invariant_of-self : goal.invariant_of-self
invariant_of-self c =
    let len = length_shown c.self.inside.bytes c.args.self.now c.self.inside.len c.self.told c.self.invariant.0 c.self.view_is in
    let inside : c.args.at + 4 ≤ c.self.inside.len = omega (arith, len, c.requires) in
    let four : length c.copy_from_slice.new.self ≡ 4 = ap length (c.copy_from_slice.ensures.after ∙ c.to_be_bytes.ensures) in
    let is : c.args.at + 4 - c.args.at ≡ 4 = omega arith in
    (c.self.invariant.0, zeros_after c.self.inside.bytes c.copy_from_slice.new.self c.self.inside.len c.args.at (c.args.at + 4 - c.args.at) c.self.told c.self.invariant.0 inside four is c.self.invariant.1)

pub returns : goal.returns
returns c =
    let len = length_shown c.self.inside.bytes c.args.self.now c.self.inside.len c.self.told c.self.invariant.0 c.self.view_is in
    let few = c.self.invariant.0 in
    let within : c.self.inside.len ≤ length c.self.inside.bytes = omega (arith, c.self.told, few) in
    let inside : c.args.at + 4 ≤ c.self.inside.len = omega (arith, len, c.requires) in
    let four : length c.copy_from_slice.new.self ≡ 4 = ap length (c.copy_from_slice.ensures.after ∙ c.to_be_bytes.ensures) in
    let is : c.args.at + 4 - c.args.at ≡ 4 = omega arith in
    rw (← c.self.view_is, ← c.to_be_bytes.ensures, ← c.copy_from_slice.ensures.after) (put_front c.self.inside.bytes c.copy_from_slice.new.self c.self.inside.len c.args.at (c.args.at + 4 - c.args.at) within inside four is)
