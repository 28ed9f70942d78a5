-- Steps at what is left of some bytes, of which the first were taken.
use Rattle.std.proofs.Common.{◌≡◌, ℕ, ◌+◌, List, [], ◌∷◌, ◌++◌, drop, Some, Ok, Err, subst}
use Rattle.std.proofs.lemmas.List.{drop-drop}
use Rattle.captures.specs.declared.error.CaptureError.{CaptureError}
use Rattle.captures.specs.declared.step.Packet.{Packet}
use Rattle.captures.specs.declared.step.Step.TheVariants.{Message, Other, Skip, More}
use Rattle.captures.specs.Reading.{Reading, step_at}
use Rattle.captures.specs.Contents.{contents, message_in}
use Rattle.dbusfan_tool.specs.declared.finding.Finding.{Finding}
use Rattle.dbusfan_tool.specs.Judges.{Judge}
use Rattle.dbusfan_tool.specs.Findings.{IsFinding, IsReport}
use Rattle.dbusfan_tool.specs.CaptureSteps.{IsAt, Waits}
use Rattle.dbusfan_tool.proofs.Captured.{finds, passes_over, skips, fails, waits_at}

module _ (judge : Judge) (came : List ℕ) (found : List Finding) (passed : ℕ) (reading after : Reading) (bytes rest : List ℕ) (taken : ℕ) (at : IsAt judge came found passed reading (drop taken bytes)) (same : rest ≡ drop taken bytes) where
  pub takes_message : (packet : Packet) (finding : Finding) → step_at reading rest ≡ Ok (record { step = Message packet; after = after }) → IsFinding judge (message_in packet rest) finding → IsAt judge came (found ++ finding ∷ []) passed after (drop (taken + packet.len) bytes)
  takes_message packet finding e is =
      subst (λ (left : List ℕ). IsAt judge came (found ++ finding ∷ []) passed after left) (drop-drop packet.len taken bytes)
      (finds judge came found passed reading after (drop taken bytes) at packet finding
      (subst (λ (r : List ℕ). step_at reading r ≡ Ok (record { step = Message packet; after = after })) same e)
      (subst (λ (r : List ℕ). IsFinding judge (message_in packet r) finding) same is))

  pub takes_other : (len link_type : ℕ) → step_at reading rest ≡ Ok (record { step = Other len link_type; after = after }) → IsAt judge came found (passed + 1) after (drop (taken + len) bytes)
  takes_other len link_type e =
      subst (λ (left : List ℕ). IsAt judge came found (passed + 1) after left) (drop-drop len taken bytes)
      (passes_over judge came found passed reading after (drop taken bytes) at len link_type (subst (λ (r : List ℕ). step_at reading r ≡ Ok (record { step = Other len link_type; after = after })) same e))

  pub takes_skip : (len : ℕ) → step_at reading rest ≡ Ok (record { step = Skip len; after = after }) → IsAt judge came found passed after (drop (taken + len) bytes)
  takes_skip len e =
      subst (λ (left : List ℕ). IsAt judge came found passed after left) (drop-drop len taken bytes)
      (skips judge came found passed reading after (drop taken bytes) at len (subst (λ (r : List ℕ). step_at reading r ≡ Ok (record { step = Skip len; after = after })) same e))

  pub takes_none : (len : ℕ) → step_at reading rest ≡ Ok (record { step = More len; after = after }) → IsAt judge came found passed after (drop taken bytes) × Waits after (drop taken bytes)
  takes_none len e =
      waits_at judge came found passed reading after (drop taken bytes) len at (subst (λ (r : List ℕ). step_at reading r ≡ Ok (record { step = More len; after = after })) same e)

  pub takes_fault : (fault : CaptureError) → step_at reading rest ≡ Err fault → (more : List ℕ) → IsReport judge (contents (came ++ more)) (record { findings = found; passed_over = passed; fault = Some fault })
  takes_fault fault e more =
      fails judge came found passed reading after (drop taken bytes) at fault (subst (λ (r : List ℕ). step_at reading r ≡ Err fault) same e) more
