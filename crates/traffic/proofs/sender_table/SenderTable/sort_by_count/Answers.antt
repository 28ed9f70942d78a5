use Rattle.std.proofs.Common.{rules, of_calls, ℕ, Global}
use Rattle.std.proofs.lemmas.Fn.{always_returns_same}
use Rattle.std.proofs.lemmas.Result.{on_ok_weaker}
use Rattle.std.specs.Prelude.{String}
use Rattle.traffic.specs.Senders.{rarity}
use Rattle.traffic.specs.declared.sender_table.Messages.{Messages}
use Rattle.traffic.proofs.sender_table.SenderTable.sort_by_count.Goals as goal

pub returns : goal.returns
returns c =
    let key : String Global × Messages → ℕ = λ row. rarity row.1 in
    let computes = always_returns_same _ _ _ (λ a r f k. search (rules, of_calls)) in
    on_ok_weaker c.sort_by_key.result
    (λ sorted. record {
      named = c.sort_keys.new.self.entries;
      names = record { sorted = c.in_ok-sort_keys.ensures.sorted; same = rw (← c.self.view_is) c.sort_keys.ensures.reordered.0 };
      sorted = sorted key computes;
      ties = c.sort_by_key.ensures.stable key computes;
      same = c.sort_by_key.ensures.reordered.0;
    })
    c.sort_by_key.ensures.sorted
