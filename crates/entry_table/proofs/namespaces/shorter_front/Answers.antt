use Rattle.std.proofs.Common.{◌≡◌, ◌∷◌, ℕ, List, sym, subst}
use Rattle.std.specs.Prelude.{Some, None}
use Rattle.memchr.specs.Find.{IsLastByte, is_byte}
use Rattle.entry_table.specs.Fronts.{shorter_fronts}
use Rattle.entry_table.proofs.Fronts.{last_front, no_last_front, ends_at_boundary}
use Rattle.entry_table.proofs.namespaces.shorter_front.Goals as goal

pub returns-in-None : goal.returns-in-None
returns-in-None c =
    no_last_front c.args.divider c.args.text.now (subst (λ (t : List ℕ). IsLastByte (is_byte c.args.divider) t None) c.as_bytes.ensures.value c.in-None.ensures)

pub split_at-requires : goal.split_at-requires
split_at-requires c =
    ends_at_boundary c.args.divider c.in-Some.end c.args.text.now c.requires (subst (λ (t : List ℕ). IsLastByte (is_byte c.args.divider) t (Some c.in-Some.end)) c.as_bytes.ensures.value c.in-Some.ensures)

pub returns-in-Some : goal.returns-in-Some
returns-in-Some c =
    subst (λ (f : List ℕ). shorter_fronts c.args.divider c.args.text.now ≡ f ∷ shorter_fronts c.args.divider f) (sym c.split_at.ensures.front)
    (last_front c.args.divider c.in-Some.end c.args.text.now (subst (λ (t : List ℕ). IsLastByte (is_byte c.args.divider) t (Some c.in-Some.end)) c.as_bytes.ensures.value c.in-Some.ensures))
