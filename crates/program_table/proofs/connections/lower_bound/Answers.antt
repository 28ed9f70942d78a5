use Rattle.std.proofs.Common.{◌≡◌, ℕ, ◌+◌, ◌-◌, ◌/◌, ◌<◌, ◌≤◌, List, length, get_or, arith}
use Rattle.std.proofs.lemmas.List.{get_or-map, length-map}
use Rattle.std.proofs.lemmas.List.Kept.{AllPairs-from_increasing}
use Rattle.std.specs.List.Sorted.{IsStrictlyIncreasing}
use Rattle.program_table.specs.declared.connection.Connection.{Connection}
use Rattle.program_table.specs.Connections.{numbers_of}
use Rattle.program_table.proofs.connections.lower_bound.Invariants.{IsBetween}
use Rattle.program_table.proofs.connections.lower_bound.Goals as goal

le_below : (xs : List ℕ) (k m : ℕ) → IsStrictlyIncreasing xs → k ≤ m → m < length xs → get_or xs k 0 ≤ get_or xs m 0
le_below xs k m h below within = grind (arith, AllPairs-from_increasing xs h k m 0)

go_right : (xs : List ℕ) (n low high m x : ℕ) → get_or xs m 0 ≡ x → IsStrictlyIncreasing xs → IsBetween xs n low high → m < high → low ≤ m → x < n → IsBetween xs n (m + 1) high
go_right xs n low high m x e h b below from here = record {
  ordered = omega arith;
  within = b.within;
  below = λ k less. omega (arith, le_below xs k m h (omega arith) (omega (arith, b.within)), here);
  above = b.above;
}

go_left : (xs : List ℕ) (n low high m x : ℕ) → get_or xs m 0 ≡ x → IsStrictlyIncreasing xs → IsBetween xs n low high → m < high → low ≤ m → n ≤ x → IsBetween xs n low m
go_left xs n low high m x e h b below from here = record {
  ordered = from;
  within = omega (arith, b.within);
  below = b.below;
  above = λ k least within. omega (arith, le_below xs m k h least within, here);
}

number_at : {M : Type 0} (cs : List (Connection M)) (k : ℕ) (d : Connection M) → k < length cs → get_or (numbers_of cs) k 0 ≡ (get_or cs k d).number
number_at cs k d within = get_or-map (λ (x : Connection _). x.number) cs k d 0 within

pub loop-low-preserved-then-list-middle : goal.loop-low-preserved-then-list-middle
loop-low-preserved-then-list-middle g c =
    let m = c.loop-low.low + (c.loop-low.high - c.loop-low.low) / 2 in
    let within : m < length c.args.list.now = omega (arith, length-map c.args.list.now (λ (x : Connection _). x.number)) in
    let e = number_at c.args.list.now m c.index-list-middle.result within in
    go_right (numbers_of c.args.list.now) c.args.number c.loop-low.low c.loop-low.high m _ e c.requires c.loop-low.invariant (omega arith) (omega arith) c.if-list-middle.true

pub loop-low-preserved : goal.loop-low-preserved
loop-low-preserved g c =
    let m = c.loop-low.low + (c.loop-low.high - c.loop-low.low) / 2 in
    let within : m < length c.args.list.now = omega (arith, length-map c.args.list.now (λ (x : Connection _). x.number)) in
    let e = number_at c.args.list.now m c.index-list-middle.result within in
    go_left (numbers_of c.args.list.now) c.args.number c.loop-low.low c.loop-low.high m _ e c.requires c.loop-low.invariant (omega arith) (omega arith) c.if-list-middle.false
