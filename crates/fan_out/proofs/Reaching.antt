-- Where messages with some texts are offered to no entry, none of them reaches anybody.
use Rattle.std.proofs.Common.{◌≡◌, true, false, List, [], ◌∷◌, sym, subst, arith}
use Rattle.std.specs.Prelude.{Contains}
use Rattle.match_rule.specs.FixedTexts.{FixedTexts}
use Rattle.entry_table.specs.declared.entry.Entry.{Entry}
use Rattle.entry_table.specs.OfferedEntries.{OfferedWhereItHolds, AreOffered}
use Rattle.program_table.specs.State.{State}
use Rattle.fan_out.specs.Reach.{TellsReach}
use Rattle.fan_out.proofs.Places.{contains_here, contains_none}
use Rattle.fan_out.proofs.Offering.{among_offered}

module _ {M : Type 0} where
  pub nobody_reached : (s : State M) (texts : FixedTexts) (offers : List Entry) → OfferedWhereItHolds → AreOffered s.registrations.entries texts offers → offers ≡ [] → TellsReach s texts false
  nobody_reached s texts offers found are none sender m same = record {
    rising = λ k short. absurd (omega (arith, short));
    exact = λ n. (
      (λ there. absurd (contains_none n there)),
      (λ here. let among = (among_offered s sender m offers n found (subst (λ (t : FixedTexts). AreOffered s.registrations.entries t offers) (sym same) are)).1 here in absurd (contains_none among.0 (subst (λ (es : List Entry). Contains es among.0) none among.1))),
    );
  }

  pub somebody_reached : (s : State M) (texts : FixedTexts) (offers rest : List Entry) (e : Entry) → AreOffered s.registrations.entries texts offers → offers ≡ e ∷ rest → TellsReach s texts true
  somebody_reached s texts offers rest e are first =
      let both = (are.exact e).0 (subst (λ (es : List Entry). Contains es e) (sym first) (contains_here e rest)) in
      (e, both.0, both.1)
