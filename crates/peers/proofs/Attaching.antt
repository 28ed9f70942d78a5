-- Filters that are attached, and what is answered of others.
use Rattle.std.specs.Prelude.{option_map}
use Rattle.std.proofs.Common.{◌≡◌, ℕ, Bor, List, [], Option, None, Some, Result, length, inl, inr, sym, subst}
use Rattle.bpf_code.specs.declared.instruction.Ins.{Ins}
use Rattle.message_build.specs.Building.{AreAsked}
use Rattle.filter.specs.FilterTree.{FilterTree}
use Rattle.filter_compile.specs.Names.{names_of}
use Rattle.entry_table.specs.AttachedProgram.{AskedTexts}
use Rattle.summary.specs.declared.edition.Edition.TheVariants.{Two}
use Rattle.bus_messages.specs.Sent.{bad_filter_asked}
use Rattle.bus_messages.specs.declared.error_name.ErrorName.TheVariants as names
use Rattle.peers.specs.declared.error.AnswerError.{AnswerError}
use Rattle.peers.specs.declared.request.Request.{Request}
use Rattle.peers.specs.declared.shares.Shares.{Shares}
use Rattle.peers.specs.Answers.{IsEither, fault_asked}
use Rattle.peers.specs.AskedTexts.{asked_by}
use Rattle.peers.specs.Attachments.{AsksFor, AttachesProgram, AttachesTree, IsFirst, IsProgramOf, bad_filter_with}
use Rattle.peers.specs.PeerState.{PeerState, name_of}
use Rattle.peers.specs.Shares.{WithinMemory}
use Rattle.peers.proofs.Asking.{asks_for}

-- the error is the message that a builder is asked for
pub bad_filter_is : (serial : ℕ) (to : List ℕ) (request : Request) (fault bytes : List ℕ) → AreAsked (bad_filter_asked serial (Some to) request.serial fault) bytes → AreAsked (bad_filter_with serial to request fault) bytes
unfolding bad_filter_with
bad_filter_is serial to request fault bytes h = h

-- no name is the first where there is none
none_first : (names : List (List ℕ)) (found : Option (Bor (List ℕ))) → found ≡ None → IsFirst names (option_map (λ (text : Bor (List ℕ)). text.now) found) → names ≡ []
none_first names None e h = h
none_first names (Some text) e h = absurd (cc)

module _ {M : Type 0} where
  -- the error was built with the serial and the name of the client
  pub fault_said : (request : Request) (fault : List ℕ) (v : PeerState M) (serial : ℕ) (to bytes : List ℕ) → serial ≡ v.serial → to ≡ name_of v → AreAsked (bad_filter_asked serial (Some to) request.serial fault) bytes
      → IsEither (bad_filter_with v.serial (name_of v) request fault) (fault_asked v request names.NoMemory) bytes
  fault_said request fault v serial to bytes s t built =
      let A : ℕ → List ℕ → Type 0 = λ n x. AreAsked (bad_filter_with n x request fault) bytes in
      inl (subst (A v.serial) t (subst (λ n. A n to) s (bad_filter_is serial to request fault bytes built)))

  -- the program of a filter that asks who owns no name, for messages with the texts that the filter asks for
  pub with_program : (shares : Shares) (request : Request) (filter : FilterTree) (len : ℕ) (program : List Ins) (messages : AskedTexts) (found : Option (Bor (List ℕ))) (v w : PeerState M) (result : Result (Unit {0}) AnswerError) → len ≡ length program → found ≡ None
      → IsFirst (names_of filter) (option_map (λ (text : Bor (List ℕ)). text.now) found) → IsProgramOf filter program → messages ≡ asked_by filter → AttachesProgram shares request Two len program messages v result w → WithinMemory request (AttachesTree shares request filter v result w) v result w
  with_program shares request filter len program messages found v w result e none first made asked attached =
      let P : ℕ → Type 0 = λ n. AttachesProgram shares request Two n program messages v result w in
      inl (inr (inr (program, messages, none_first (names_of filter) found none first, made, subst (AsksFor filter) (sym asked) (asks_for filter), subst P e attached)))
