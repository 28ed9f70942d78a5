-- Programs that clients attach (own).
use Rattle.std.specs.Prelude.{ℕ, ◌≡◌, ◌⊎◌, ◌<◌, Bool, List, [], ◌∷◌, length, Option, Some, None, Result, Err}
use Rattle.bpf_code.specs.declared.instruction.Ins.{Ins}
use Rattle.bpf_code.specs.Program.{WellFormed}
use Rattle.message_view.specs.Message.{Message}
use Rattle.message_build.specs.Asked.{Asked}
use Rattle.entry_table.specs.AttachedProgram.{AskedTexts}
use Rattle.entry_table.specs.OfferedEntries.{IsFor}
use Rattle.filter.specs.Errors.{fault_text}
use Rattle.filter.specs.FilterTree.{FilterTree}
use Rattle.filter.specs.Grammar.{ReadsAs}
use Rattle.filter.specs.Reading.{filter_at}
use Rattle.filter.specs.Weights.{weight_of}
use Rattle.filter.specs.declared.error.FaultAt.{FaultAt}
use Rattle.filter_compile.specs.Compiled.{IsCompiled}
use Rattle.filter_compile.specs.Holds.{FilterHolds}
use Rattle.filter_compile.specs.Names.{names_of}
use Rattle.summary.specs.declared.edition.Edition.{Edition}
use Rattle.summary.specs.declared.edition.Edition.TheVariants.{Two}
use Rattle.bus_messages.specs.FilterFaults.{sender_name_text}
use Rattle.bus_messages.specs.Sent.{bad_filter_asked}
use Rattle.bus_messages.specs.declared.error_name.ErrorName.TheVariants.{NoMemory}
use Rattle.bus_messages.specs.declared.exceeded.Exceeded.TheVariants.{FilterWeight}
use Rattle.router.specs.Calls.{Once}
use Rattle.router.specs.Readings.{Attaches}
use Rattle.peers.specs.declared.error.AnswerError.{AnswerError}
use Rattle.peers.specs.declared.refused.Refused.{Refused}
use Rattle.peers.specs.declared.refused.Refused.TheVariants.{Error}
use Rattle.peers.specs.declared.request.Request.{Request}
use Rattle.peers.specs.declared.shares.Shares.{Shares}
use Rattle.peers.specs.Answers.{IsAnswered, IsRefused}
use Rattle.peers.specs.Holdings.{after_attach}
use Rattle.peers.specs.PeerState.{PeerState, name_of}
use Rattle.peers.specs.Refusals.{beyond}
use Rattle.peers.specs.Rows.{NumbersEntry}
use Rattle.peers.specs.Shares.{WithinShare, WithinMemory, WithinAll, program_limit}

-- the error BadFilter that a call is answered with
unfoldable pub bad_filter_with : ℕ → List ℕ → Request → List ℕ → Asked
bad_filter_with serial to request fault = bad_filter_asked serial (Some to) request.serial fault

-- A well-formed program whose verdict on the image of a message is nonzero exactly where the filter holds of the message.
abbrev pub IsProgramOf : FilterTree → List Ins → Type 0
IsProgramOf filter program = WellFormed program × IsCompiled filter program

-- each message of which the filter holds has these texts
abbrev pub AsksFor : FilterTree → AskedTexts → Type 0
AsksFor filter messages = (m : Message) (owned : List ℕ → Bool) → FilterHolds filter m owned → IsFor messages m

-- why a filter has no program: only one above this weight may be too heavy
abbrev pub IsRefusedFor : FilterTree → Refused → Type 0
IsRefusedFor filter why = ((why ≡ beyond FilterWeight) × (4096 < weight_of filter)) ⊎ (why ≡ Error NoMemory)

-- the first of names, or none where there are none
abbrev pub IsFirst : List (List ℕ) → Option (List ℕ) → Type 0
IsFirst names None = names ≡ []
IsFirst names (Some name) = (others : List (List ℕ)) × (names ≡ name ∷ others)

module _ {M : Type 0} where
  -- A program of this length is to be attached, for the messages with these texts, if the shares of the client and of all
  -- clients have room for it: the client is told its entry's id.
  abbrev pub AttachesProgram : Shares → Request → Edition → ℕ → List Ins → AskedTexts → PeerState M → Result (Unit {0}) AnswerError → PeerState M → Type 0
  AttachesProgram shares request edition len program messages v result w =
      WithinShare (program_limit shares len v.holdings) request
      (WithinMemory request (WithinAll request (NumbersEntry request (λ asked pass. Once (λ before next. Attaches edition program messages v.pass before asked pass next)) (after_attach len) v result w) v result w) v result w) v result w

  -- the call is answered with the error BadFilter
  abbrev pub IsBadFilter : Request → List ℕ → PeerState M → Result (Unit {0}) AnswerError → PeerState M → Type 0
  IsBadFilter request fault v result w = IsAnswered request (bad_filter_with v.serial (name_of v) request fault) v result w

  -- A filter is too heavy; or it asks who owns a name; or its program is attached, which needs to know of no owner, for the
  -- messages with some texts that it asks for.
  abbrev pub AttachesTree : Shares → Request → FilterTree → PeerState M → Result (Unit {0}) AnswerError → PeerState M → Type 0
  AttachesTree shares request filter v result w =
      ((4096 < weight_of filter) × IsRefused request (beyond FilterWeight) v result w)
      ⊎ (((name : List ℕ) × (others : List (List ℕ)) × (names_of filter ≡ name ∷ others) × IsBadFilter request (sender_name_text name) v result w)
      ⊎ ((program : List Ins) × (messages : AskedTexts) × (names_of filter ≡ []) × IsProgramOf filter program × AsksFor filter messages × AttachesProgram shares request Two (length program) program messages v result w))

  -- AttachFilter: the text reads as a filter whose program is attached, or it is answered with its first fault.
  abbrev pub AttachesFilter : Shares → Request → List ℕ → PeerState M → Result (Unit {0}) AnswerError → PeerState M → Type 0
  AttachesFilter shares request text v result w =
      WithinMemory request
      (((filter : FilterTree) × ReadsAs text filter × AttachesTree shares request filter v result w)
      ⊎ ((at : FaultAt) × (filter_at text ≡ Err at) × IsBadFilter request (fault_text at) v result w)) v result w
