-- Inner: the search for recipients, entry by entry.
use Rattle.std.specs.Prelude.{◌≡◌, ◌⊎◌, ◌↔◌, ℕ, ◌+◌, ◌≤◌, Bool, IsTrue, true, false, List, Option, Contains, length, MatchBool}
use Rattle.message_view.specs.Message.{Message}
use Rattle.message_view.specs.Valid.{Valid}
use Rattle.entry_table.specs.declared.entry.Entry.{Entry}
use Rattle.entry_table.specs.declared.entry.Filter.{Filter}
use Rattle.entry_table.specs.Envelopes.{FilterFits}
use Rattle.summary.specs.declared.edition.Edition.TheVariants.{One}
use Rattle.program_table.specs.Registrations.{Registrations}
use Rattle.program_table.specs.Connections.{numbers_of, is_connected}
use Rattle.program_table.specs.State.{State}
use Rattle.program_table.specs.Recipients.{FilterMatches, IsRecipient}
use Rattle.fan_out.specs.Pieces.{IsInPiece}
use Rattle.fan_out.specs.Answers.{IsAnswer, edition_of}
use Rattle.fan_out.specs.Marks.{IsMarked, IsUnmarked, IsMarkedMore, mark_count}

-- nothing was run
pub record IsPassedOver (before after : List Bool) (runs later : ℕ) : Type 0 where
  pub kept : after ≡ before
  pub none_run : later ≡ runs

-- the filter matches no message of these bytes, whoever sent it
abbrev pub IsMissed : List ℕ → Filter → Type 0
IsMissed bytes filter = (r : Registrations) (sender : Option ℕ) (m : Message) → Valid bytes m → FilterMatches r sender m filter → ⊥

-- the envelope of the message of these bytes is as the filter asks
abbrev pub IsFit : List ℕ → Filter → Type 0
IsFit bytes filter = (m : Message) → Valid bytes m → FilterFits filter m

-- the entry's program was run, and its connection is marked where it matches
pub record IsAsked (numbers : List ℕ) (part of : ℕ) (bytes words : List ℕ) (e : Entry) (before after : List Bool) (runs later : ℕ) : Type 0 where
  pub inside : IsInPiece part of e.connection
  pub unmarked : IsUnmarked numbers before e.connection
  pub fits : IsFit bytes e.filter
  pub answer : Bool
  pub answered : IsAnswer bytes words e.filter answer
  pub marked : MatchBool answer (IsMarkedMore numbers e.connection before after) (after ≡ before)
  pub one_run : later ≡ runs + 1

module _ {M : Type 0} where
  -- why an entry may be passed over: it can't match, or is of another piece, of no connection, or of a connection that is
  -- marked already
  abbrev pub NeedsNoRun : State M → ℕ → ℕ → List ℕ → Entry → List Bool → Type 0
  NeedsNoRun s part of bytes e marks =
      IsMissed bytes e.filter
      ⊎ ((IsInPiece part of e.connection → ⊥)
      ⊎ ((is_connected e.connection s.connections ≡ false)
      ⊎ IsMarked (numbers_of s.connections) marks e.connection))

  -- the entry's connection is of the piece, and isn't marked, and the envelope is as the entry asks
  pub record MayBeMarked (s : State M) (part of : ℕ) (bytes : List ℕ) (e : Entry) (marks : List Bool) : Type 0 where
    pub inside : IsInPiece part of e.connection
    pub unmarked : IsUnmarked (numbers_of s.connections) marks e.connection
    pub fits : IsFit bytes e.filter

  -- nothing was run, and the entry's program has to be, over an image
  pub record NeedsImage (s : State M) (part of : ℕ) (bytes : List ℕ) (e : Entry) (before after : List Bool) (runs later : ℕ) : Type 0 where
    pub passed : IsPassedOver before after runs later
    pub unmarked : MayBeMarked s part of bytes e before

  -- so, and the program reads edition 1
  pub record ReadsOne (s : State M) (part of : ℕ) (bytes : List ℕ) (e : Entry) (before after : List Bool) (runs later : ℕ) : Type 0 where
    pub needs : NeedsImage s part of bytes e before after runs later
    pub edition : edition_of e.filter ≡ One

  -- an entry is passed over, or its program is run
  abbrev pub Considers : State M → ℕ → ℕ → List ℕ → List ℕ → Entry → List Bool → List Bool → ℕ → ℕ → Type 0
  Considers s part of bytes words e before after runs later =
      (IsPassedOver before after runs later × NeedsNoRun s part of bytes e before)
      ⊎ IsAsked (numbers_of s.connections) part of bytes words e before after runs later

  -- one of the entries is of this connection, and matches
  abbrev pub MatchesAmong : State M → Option ℕ → Message → List Entry → ℕ → Type 0
  MatchesAmong s sender m entries n =
      (e : Entry) × Contains entries e × (e.connection ≡ n) × FilterMatches s.registrations sender m e.filter

  -- each entry is of a connection, and its program tells whether it matches, where the envelope is as it asks
  pub record AreDecided (s : State M) (sender : Option ℕ) (m : Message) (bytes words : List ℕ) (entries : List Entry) : Type 0 where
    pub connected : (e : Entry) → Contains entries e → is_connected e.connection s.connections ≡ true
    pub decided : (e : Entry) → Contains entries e → IsFit bytes e.filter → (answer : Bool) → IsAnswer bytes words e.filter answer → (IsTrue answer ↔ FilterMatches s.registrations sender m e.filter)

  -- exactly the connections of the piece with an entry that matches are marked
  pub record AreMarked (s : State M) (sender : Option ℕ) (m : Message) (part of : ℕ) (entries : List Entry) (marks : List Bool) : Type 0 where
    pub exact : (n : ℕ) → IsMarked (numbers_of s.connections) marks n ↔ (MatchesAmong s sender m entries n × IsInPiece part of n)

  -- the marks of the entries so far, of all that a message is offered to
  pub record AreMarkedSoFar (s : State M) (part of : ℕ) (bytes words : List ℕ) (all left : List Entry) (marks : List Bool) (runs : ℕ) : Type 0 where
    pub rest : (e : Entry) → Contains left e → Contains all e
    pub few : runs + length left ≤ length all
    pub enough : mark_count marks ≤ runs
    pub exact :
        (sender : Option ℕ) (m : Message)
        → Valid bytes m
        → AreDecided s sender m bytes words all
        → (n : ℕ)
        → (IsMarked (numbers_of s.connections) marks n ⊎ (MatchesAmong s sender m left n × IsInPiece part of n))
        ↔ (MatchesAmong s sender m all n × IsInPiece part of n)

  -- exactly the recipients of the piece are marked
  pub record AreMarkedRecipients (s : State M) (sender : Option ℕ) (m : Message) (part of : ℕ) (marks : List Bool) : Type 0 where
    pub exact : (n : ℕ) → IsMarked (numbers_of s.connections) marks n ↔ (IsRecipient s sender m n × IsInPiece part of n)
