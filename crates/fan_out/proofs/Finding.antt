-- What is found among the entries that a message is offered to are the recipients.
use Rattle.std.proofs.Common.{◌≡◌, inl, inr, ℕ, ◌≤◌, Bool, true, false, List, [], ◌∷◌, length, Option, sym, ap, subst, ◌∙◌, arith}
use Rattle.std.specs.Prelude.{Contains, replicate, slice_get}
use Rattle.std.specs.List.{list_all}
use Rattle.std.proofs.lemmas.List.Sums.{length-filter, count_by-le-length}
use Rattle.std.proofs.lemmas.Bool.{and_parts}
use Rattle.message_view.specs.Message.{Message}
use Rattle.message_view.specs.Valid.{Valid}
use Rattle.entry_table.specs.declared.entry.Entry.{Entry}
use Rattle.entry_table.specs.OfferedEntries.{OfferedWhereItHolds, AreOffered}
use Rattle.match_rule.specs.FixedTexts.{texts_of}
use Rattle.program_table.specs.Connections.{numbers_of, is_connected}
use Rattle.program_table.specs.State.{State}
use Rattle.program_table.specs.IsState.{has_own_slot, IsState}
use Rattle.program_table.specs.Recipients.{AreOwnedSlots, AreRecipients}
use Rattle.program_table.specs.Candidates.{is_candidate}
use Rattle.fan_out.specs.Pieces.{IsInPiece, ArePieceRecipients}
use Rattle.fan_out.specs.Marks.{marked_numbers}
use Rattle.fan_out.specs.Marking.{AreDecided, AreMarked, AreMarkedRecipients}
use Rattle.fan_out.proofs.Places.{contains_cases, contains_none, none_marked, marked_from, from_marked, rising_marked}
use Rattle.fan_out.proofs.Deciding.{EndInOneWay, filter_decided}
use Rattle.fan_out.proofs.Offering.{among_offered, offered_few}

all_at : {X : Type 0} (p : X → Bool) (x : X) (xs : List X) → list_all p xs ≡ true → Contains xs x → p x ≡ true
all_at p x [] e there = absurd (contains_none x there)
all_at p x (y ∷ xs) e there = elim (contains_cases y x xs there) [
  | inl same ↦ subst (λ (z : _). p z ≡ true) same (and_parts (p y) (list_all p xs) e).0
  | inr later ↦ all_at p x xs (and_parts (p y) (list_all p xs) e).1 later
]

in_whole : (n : ℕ) → IsInPiece 1 1 n
in_whole n = omega arith

module _ {M : Type 0} where
  -- the programs of the entries that a message is offered to tell which of them match
  offered_decided : (s : State M) (sender : Option ℕ) (m : Message) (bytes words : List ℕ) (offers : List Entry) → IsState s → AreOwnedSlots s.registrations sender words → Valid bytes m → EndInOneWay → AreOffered s.registrations.entries (texts_of m) offers → AreDecided s sender m bytes words offers
  offered_decided s sender m bytes words offers is owned valid one_way are = record {
    connected = λ e there. all_at (λ (x : Entry). is_connected x.connection s.connections) e s.registrations.entries is.of_connections ((are.exact e).0 there).0;
    decided = λ e there fits answer answered. filter_decided s.registrations sender words owned bytes m valid one_way e.filter answer (all_at (has_own_slot s.registrations.slots) e s.registrations.entries is.registrations.own_slots ((are.exact e).0 there).0) ((are.exact e).0 there).1 (fits m valid) answered;
  }

  pub recipients_marked : (s : State M) (sender : Option ℕ) (m : Message) (bytes words : List ℕ) (part of : ℕ) (offers : List Entry) (marks : List Bool) → IsState s → AreOwnedSlots s.registrations sender words → Valid bytes m → EndInOneWay → OfferedWhereItHolds → AreOffered s.registrations.entries (texts_of m) offers → (AreDecided s sender m bytes words offers → AreMarked s sender m part of offers marks) → AreMarkedRecipients s sender m part of marks
  recipients_marked s sender m bytes words part of offers marks is owned valid one_way found are marked =
      let exact = (marked (offered_decided s sender m bytes words offers is owned valid one_way are)).exact in
      record {
        exact = λ n. let same = among_offered s sender m offers n found are in (
          (λ mark. let here = (exact n).0 mark in (same.0 here.0, here.1)),
          (λ here. (exact n).1 (same.1 here.0, here.1)),
        );
      }

  -- each entry that a message is offered to is of a connection
  pub offered_connected : (s : State M) (m : Message) (offers : List Entry) → IsState s → AreOffered s.registrations.entries (texts_of m) offers → (e : Entry) → Contains offers e → is_connected e.connection s.connections ≡ true
  offered_connected s m offers is are e there = all_at (λ (x : Entry). is_connected x.connection s.connections) e s.registrations.entries is.of_connections ((are.exact e).0 there).0

  -- a message that is offered to no entry has no recipient
  pub nobody_marked : (s : State M) (sender : Option ℕ) (m : Message) (part of size : ℕ) (offers : List Entry) (marks : List Bool) → OfferedWhereItHolds → AreOffered s.registrations.entries (texts_of m) offers → offers ≡ [] → marks ≡ replicate size false → AreMarkedRecipients s sender m part of marks
  nobody_marked s sender m part of size offers marks found are none e = record {
    exact = λ n. (
      (λ marked. absurd (none_marked size marked.0 (sym (ap (λ (ms : List Bool). slice_get ms marked.0) e) ∙ marked.2))),
      (λ here. let among = (among_offered s sender m offers n found are).1 here.0 in absurd (contains_none among.0 (subst (λ (es : List Entry). Contains es among.0) none among.1))),
    );
  }

  pub offered_fit : (s : State M) (m : Message) (offers : List Entry) → IsState s → AreOffered s.registrations.entries (texts_of m) offers → length offers ≤ 65534
  offered_fit s m offers is are =
      let few = offered_few s m offers are in
      let kept = length-filter (λ (e : Entry). is_candidate m e.filter) s.registrations.entries in
      let most = count_by-le-length (λ (e : Entry). is_candidate m e.filter) s.registrations.entries in
      omega (arith, few, kept, most, is.registrations.few_entries)

  -- the recipients of a piece from its marks
  pub piece_listed : (s : State M) (sender : Option ℕ) (m : Message) (part of : ℕ) (numbers : List ℕ) (marks : List Bool) → IsState s → AreMarkedRecipients s sender m part of marks → numbers ≡ marked_numbers (numbers_of s.connections) marks → ArePieceRecipients s sender m part of numbers
  piece_listed s sender m part of numbers marks is marked e = rw e (record {
    rising = rising_marked (numbers_of s.connections) marks is.rising;
    exact = λ n. (
      (λ there. (marked.exact n).0 (marked_from (numbers_of s.connections) marks n there)),
      (λ here. from_marked (numbers_of s.connections) marks n ((marked.exact n).1 here)),
    );
  })

  -- all of them, where there is one piece
  pub whole_listed : (s : State M) (sender : Option ℕ) (m : Message) (numbers : List ℕ) → ArePieceRecipients s sender m 1 1 numbers → AreRecipients s sender m numbers
  whole_listed s sender m numbers listed = record {
    rising = listed.rising;
    exact = λ n. ((λ there. ((listed.exact n).0 there).0), (λ here. (listed.exact n).1 (here, in_whole n)));
  }

  pub recipients_listed : (s : State M) (sender : Option ℕ) (m : Message) (numbers : List ℕ) (marks : List Bool) → IsState s → AreMarkedRecipients s sender m 1 1 marks → numbers ≡ marked_numbers (numbers_of s.connections) marks → AreRecipients s sender m numbers
  recipients_listed s sender m numbers marks is marked e = whole_listed s sender m numbers (piece_listed s sender m 1 1 numbers marks is marked e)
