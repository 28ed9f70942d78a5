-- A filter's program says whether the filter matches.
use Rattle.std.proofs.Common.{◌≡◌, ◌↔◌, ℕ, Bool, true, ◌&&◌, List, Option, Some, None, get_or, refl, sym, ap, subst, ◌∙◌}
use Rattle.std.specs.Prelude.{IsTrue, IfSome, is_some, nat_eq, slice_get, unwrap_or}
use Rattle.std.specs.Option.{option_eq}
use Rattle.std.proofs.lemmas.Bool.{eqb-true}
use Rattle.std.proofs.lemmas.List.Quantifiers.{position-Some}
use Rattle.std.proofs.lemmas.Option.{slice_get-get_or}
use Rattle.std.proofs.lemmas.Slice.Eq.{bytes_eq-Decides}
use Rattle.bpf_code.specs.declared.instruction.Ins.{Ins}
use Rattle.bpf_code.specs.Steps.{Ends}
use Rattle.message_view.specs.Message.{Message}
use Rattle.message_view.specs.Valid.{Valid}
use Rattle.match_rule.specs.RuleTree.{sender_name_of}
use Rattle.match_rule.specs.Holds.{Holds}
use Rattle.match_rule.specs.Envelope.{EnvelopeFits}
use Rattle.match_rule.specs.FixedTexts.{fixed_texts, texts_of, AreFound}
use Rattle.summary.specs.ImageBytes.{image_bytes}
use Rattle.summary.specs.Sets.{has_slot}
use Rattle.rule_compile.specs.Compiled.{AgreeOn}
use Rattle.entry_table.specs.AttachedProgram.{AttachedProgram}
use Rattle.entry_table.specs.CompiledRule.{CompiledRule}
use Rattle.entry_table.specs.Envelopes.{FilterFits}
use Rattle.entry_table.specs.Namespaces.{AreInside}
use Rattle.entry_table.specs.OfferedEntries.{texts_fixed, namespaces_fixed, IsFor}
use Rattle.entry_table.specs.declared.entry.Filter.{Filter}
use Rattle.entry_table.specs.declared.entry.Filter.TheVariants.{Rule, Attached}
use Rattle.program_table.specs.Registrations.{Registrations}
use Rattle.program_table.specs.SlotNames.{is_name, slot_of, sender_asked}
use Rattle.program_table.specs.IsState.{slot_in, is_own_slot}
use Rattle.program_table.specs.Recipients.{is_owned, is_owned_at, AreOwnedSlots, FilterMatches}
use Rattle.fan_out.specs.Answers.{Says, SaysRest, IsAnswer}
use Rattle.fan_out.proofs.SlotSets.{same_words}

-- a program has at most one verdict over an image
abbrev pub EndInOneWay : Type 0
EndInOneWay = (program : List Ins) (image : List ℕ) (v w n m : ℕ) → Ends program image v n → Ends program image w m → (v ≡ w) × (n ≡ m)

same_slot : (slot : Option ℕ) (k : ℕ) → option_eq nat_eq slot (Some k) ≡ true → slot ≡ Some k
same_slot None k e = cc
same_slot (Some j) k e = let s : j ≡ k = eqb-true j k e in ap (λ (n : ℕ). Some n) s

-- the slot that a rule was compiled for is the name's
own_slot : (name : List ℕ) (slot : Option ℕ) (slots : List (Option (List ℕ))) → is_own_slot (Some name) slot slots ≡ true → (k : ℕ) × (slot ≡ Some k) × (slot_of name slots ≡ Some k)
own_slot name slot slots e = go (slot_of name slots) refl e
  where
    go : (o : Option ℕ) → slot_of name slots ≡ o → (is_some o && option_eq nat_eq slot o) ≡ true → (k : ℕ) × (slot ≡ Some k) × (slot_of name slots ≡ Some k)
    go None is f = cc
    go (Some k) is f = (k, same_slot slot k f, is)

named : (name : List ℕ) (o : Option (List ℕ)) → is_name name o ≡ true → o ≡ Some name
named name None e = cc
named name (Some other) e = let s : other ≡ name = (bytes_eq-Decides other name).0 e in ap (λ (n : List ℕ). Some n) s

name_at : (name : List ℕ) (slots : List (Option (List ℕ))) (k : ℕ) → slot_of name slots ≡ Some k → slice_get slots k ≡ Some (Some name)
name_at name slots k e =
    let found = position-Some (is_name name) slots k None e in
    slice_get-get_or slots k None found.0 ∙ ap (λ (o : Option (List ℕ)). Some o) (named name (get_or slots k None) found.1)

-- the owned slots are those of the owned names
module _ (r : Registrations) (sender : Option ℕ) (words : List ℕ) (owned : AreOwnedSlots r sender words) where
  agree_at : (asked : Option (List ℕ)) (slot : Option ℕ) → is_own_slot asked slot r.slots ≡ true → IfSome asked (λ name. is_owned r sender name ≡ has_slot words (unwrap_or slot 0))
  agree_at None slot e = tt
  agree_at (Some name) slot e =
      let own = own_slot name slot r.slots e in
      rw own.1 (sym (owned.owned own.0 ∙ ap (is_owned_at r sender) (name_at name r.slots own.0 own.2)))

  module _ (bytes : List ℕ) (m : Message) (valid : Valid bytes m) (one_way : EndInOneWay) where
    rule_decided : (compiled : CompiledRule) (answer : Bool) → is_own_slot (sender_name_of compiled.rule) compiled.slot r.slots ≡ true → AreFound (fixed_texts compiled.rule) (texts_of m) → EnvelopeFits compiled.rule m → SaysRest compiled bytes words answer → (IsTrue answer ↔ Holds compiled.rule m (is_owned r sender))
    rule_decided compiled answer own found fits rest =
        let run = rest.says.ends.ends m valid in
        let agrees : AgreeOn compiled.rule compiled.slot (is_owned r sender) words = agree_at (sender_name_of compiled.rule) compiled.slot own in
        let holds = rest.rest.decides bytes m words (is_owned r sender) rest.says.verdict run.0 valid owned.set agrees found fits run.1 in
        ((λ yes. holds.0 (rest.says.same.0 yes)), (λ held. rest.says.same.1 (holds.1 held)))

    attached_decided : (attached : AttachedProgram) (answer : Bool) → IsFor attached.asked m → Says attached.edition bytes words attached.program answer → (IsTrue answer ↔ FilterMatches r sender m (Attached attached))
    attached_decided attached answer meant says =
        let run = says.ends.ends m valid in (
          (λ yes. (meant, words, says.verdict, run.0, owned, says.same.0 yes, run.1)),
          (λ (theirs_too, others, verdict, steps, theirs, positive, ends).
              let same : others ≡ words = same_words others words theirs.set owned.set (λ slot. theirs.owned slot ∙ sym (owned.owned slot)) in
              let over : Ends attached.program (image_bytes attached.edition m words) verdict steps = subst (λ (ws : List ℕ). Ends attached.program (image_bytes attached.edition m ws) verdict steps) same ends in
              let one = one_way attached.program (image_bytes attached.edition m words) says.verdict verdict run.0 steps run.1 over in
              says.same.1 (rw one.0 positive)),
        )

    pub filter_decided : (filter : Filter) (answer : Bool) → is_own_slot (sender_asked filter) (slot_in filter) r.slots ≡ true → AreFound (texts_fixed filter) (texts_of m) × AreInside (namespaces_fixed filter) (texts_of m) → FilterFits filter m → IsAnswer bytes words filter answer → (IsTrue answer ↔ FilterMatches r sender m filter)
    filter_decided (Rule compiled) answer own offered fits rest = rule_decided compiled answer own offered.0 fits rest
    filter_decided (Attached attached) answer own offered fits says = attached_decided attached answer offered says
