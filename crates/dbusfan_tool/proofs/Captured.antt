-- What is found of a capture, step by step, whatever bytes come later.
use Rattle.std.proofs.Common.{◌≡◌, ℕ, suc, ◌+◌, ◌-◌, List, [], ◌∷◌, ◌++◌, drop, Some, Result, Ok, Err, refl, sym, ap, subst, ◌∙◌, arith, append_assoc, append-nil}
use Rattle.std.specs.Result.{result_err}
use Rattle.captures.specs.declared.error.CaptureError.{CaptureError}
use Rattle.captures.specs.declared.error.CaptureError.TheVariants as faults
use Rattle.captures.specs.declared.step.Packet.{Packet}
use Rattle.captures.specs.declared.step.Step.TheVariants.{Message, Other, Skip, More}
use Rattle.captures.specs.declared.packets.Format.{Format}
use Rattle.captures.specs.declared.packets.Format.TheVariants as formats
use Rattle.captures.specs.Reading.{Reading, Progress, start, step_at, end_in, end_of}
use Rattle.captures.specs.Contents.{TimedMessage, Contents, contents, message_in, ahead, ending, by_progress, contents_past, contents_of}
use Rattle.captures.proofs.FileContents.{one_call, fault_stays}
use Rattle.dbusfan_tool.proofs.Waiting.{stays_waiting}
use Rattle.dbusfan_tool.specs.declared.finding.Finding.{Finding}
use Rattle.dbusfan_tool.specs.Judges.{Judge}
use Rattle.dbusfan_tool.specs.Findings.{IsFinding, AreFindings, AreFirst, IsReport}
use Rattle.dbusfan_tool.specs.CaptureSteps.{IsFar, IsAt, Waits}

-- ---- where no more bytes come

short_of : (format : Format) (byte : ℕ) (rest : List ℕ) → end_in format (byte ∷ rest) ≡ Err faults.Short
short_of formats.Unread byte rest = refl
short_of (formats.Pcap order unit) byte rest = refl
short_of (formats.Pcapng order) byte rest = refl

ends : (reading : Reading) (bytes : List ℕ) (len : ℕ) → step_at reading bytes ≡ Ok (record { step = More len; after = reading }) → contents_of reading bytes ≡ ending (end_of reading bytes)
ends reading [] len e = refl
ends reading (byte ∷ rest) len e =
    ap (λ (r : Result Progress CaptureError). by_progress r (byte ∷ rest) (λ after len. contents_past (len - 1) after rest)) e
    ∙ ap ending (sym (short_of reading.format byte rest))

-- ---- one packet more

one_more_finding : (judge : Judge) (packets : List TimedMessage) (found : List Finding) (packet : TimedMessage) (finding : Finding) → AreFindings judge packets found → IsFinding judge packet finding → AreFindings judge (packets ++ packet ∷ []) (found ++ finding ∷ [])
one_more_finding judge [] [] packet finding are is = (is, tt)
one_more_finding judge (first ∷ packets) (found ∷ later) packet finding are is = (are.0, one_more_finding judge packets later packet finding are.1 is)
one_more_finding judge [] (found ∷ later) packet finding are is = absurd are
one_more_finding judge (first ∷ packets) [] packet finding are is = absurd are

module _ (judge : Judge) (came : List ℕ) (found : List Finding) (passed : ℕ) where
  -- what is left, once a step was taken
  module _ (reading after : Reading) (bytes : List ℕ) (at : IsAt judge came found passed reading bytes) where
    abbrev Left : List ℕ → Contents → Type 0
    Left more left = IsFar judge (contents (came ++ more)) found passed left

    pub finds : (packet : Packet) (finding : Finding) → step_at reading bytes ≡ Ok (record { step = Message packet; after = after }) → IsFinding judge (message_in packet bytes) finding → IsAt judge came (found ++ finding ∷ []) passed after (drop packet.len bytes)
    finds packet finding e is = λ more.
        let left = contents_of after (drop packet.len bytes ++ more) in
        let now : Left more (ahead (Message packet) bytes left) = subst (Left more) (one_call reading (record { step = Message packet; after = after }) bytes more e refl) (at more) in
        record {
          packets = now.packets ++ message_in packet bytes ∷ [];
          messages = now.messages ∙ sym (append_assoc now.packets (message_in packet bytes ∷ []) left.messages);
          findings = one_more_finding judge now.packets found (message_in packet bytes) finding now.findings is;
          passed_over = now.passed_over;
          fault = now.fault;
        }

    pub passes_over : (len link_type : ℕ) → step_at reading bytes ≡ Ok (record { step = Other len link_type; after = after }) → IsAt judge came found (passed + 1) after (drop len bytes)
    passes_over len link_type e = λ more.
        let left = contents_of after (drop len bytes ++ more) in
        let now : Left more (ahead (Other len link_type) bytes left) = subst (Left more) (one_call reading (record { step = Other len link_type; after = after }) bytes more e refl) (at more) in
        let sum : passed + suc left.passed_over ≡ (contents (came ++ more)).passed_over = now.passed_over in
        record { packets = now.packets; messages = now.messages; findings = now.findings; passed_over = omega arith; fault = now.fault }

    pub skips : (len : ℕ) → step_at reading bytes ≡ Ok (record { step = Skip len; after = after }) → IsAt judge came found passed after (drop len bytes)
    skips len e = λ more. subst (Left more) (one_call reading (record { step = Skip len; after = after }) bytes more e refl) (at more)

    -- an end
    reports : (more : List ℕ) (end : Result (Unit {0}) CaptureError) → contents_of reading (bytes ++ more) ≡ ending end → IsReport judge (contents (came ++ more)) (record { findings = found; passed_over = passed; fault = result_err end })
    reports more (Ok _) e =
        let now : Left more (ending (Ok tt)) = subst (Left more) e (at more) in
        let all : (contents (came ++ more)).messages ≡ now.packets = now.messages ∙ append-nil now.packets in
        record { findings = subst (λ (m : List TimedMessage). AreFindings judge m found) (sym all) now.findings; passed_over = omega (arith, now.passed_over); fault = now.fault }
    reports more (Err fault) e =
        let now : Left more (ending (Err fault)) = subst (Left more) e (at more) in
        let all : (contents (came ++ more)).messages ≡ now.packets = now.messages ∙ append-nil now.packets in
        record { findings = subst (λ (m : List TimedMessage). AreFindings judge m found) (sym all) now.findings; passed_over = omega (arith, now.passed_over); fault = now.fault }

    pub fails : (fault : CaptureError) → step_at reading bytes ≡ Err fault → (more : List ℕ) → IsReport judge (contents (came ++ more)) (record { findings = found; passed_over = passed; fault = Some fault })
    fails fault e more = reports more (Err fault) (fault_stays reading bytes more fault e)

  module _ (reading : Reading) (rest : List ℕ) (at : IsAt judge came found passed reading rest) where
    pub has_ended : Waits reading rest → IsReport judge (contents came) (record { findings = found; passed_over = passed; fault = result_err (end_of reading rest) })
    has_ended waits =
        let left : contents_of reading (rest ++ []) ≡ ending (end_of reading rest) = ap (contents_of reading) (append-nil rest) ∙ ends reading rest waits.0 waits.1 in
        let whole = reports reading reading rest at [] (end_of reading rest) left in
        subst (λ (all : List ℕ). IsReport judge (contents all) (record { findings = found; passed_over = passed; fault = result_err (end_of reading rest) })) (append-nil came) whole

    pub comes : (piece : List ℕ) → IsAt judge (came ++ piece) found passed reading (rest ++ piece)
    comes piece = λ more.
        subst (λ (all : List ℕ). IsFar judge (contents all) found passed (contents_of reading ((rest ++ piece) ++ more))) (sym (append_assoc came piece more))
        (subst (λ (left : List ℕ). IsFar judge (contents (came ++ (piece ++ more))) found passed (contents_of reading left)) (sym (append_assoc rest piece more)) (at (piece ++ more)))

    pub are_first : (more : List ℕ) → AreFirst judge (contents (came ++ more)) found
    are_first more =
        let far = at more in
        record { packets = far.packets; later = (contents_of reading (rest ++ more)).messages; all_are = far.messages; found = far.findings }

-- no packet was taken
pub begins : (judge : Judge) (bytes : List ℕ) → IsAt judge bytes [] 0 start bytes
begins judge bytes = λ more. record { packets = []; messages = refl; findings = tt; passed_over = omega arith; fault = refl }

pub all_are_first : (judge : Judge) (came more : List ℕ) (found : List Finding) (passed : ℕ) (fault : CaptureError) → IsReport judge (contents (came ++ more)) (record { findings = found; passed_over = passed; fault = Some fault }) → AreFirst judge (contents (came ++ more)) found
all_are_first judge came more found passed fault is =
    record { packets = (contents (came ++ more)).messages; later = []; all_are = sym (append-nil (contents (came ++ more)).messages); found = is.findings }

-- where more bytes are needed, the reading stays
pub waits_at : (judge : Judge) (came : List ℕ) (found : List Finding) (passed : ℕ) (reading after : Reading) (rest : List ℕ) (len : ℕ) → IsAt judge came found passed reading rest → step_at reading rest ≡ Ok (record { step = More len; after = after }) → IsAt judge came found passed after rest × Waits after rest
waits_at judge came found passed reading after rest len at e =
    let same : reading ≡ after = sym (stays_waiting reading after rest len e) in
    (subst (λ (r : Reading). IsAt judge came found passed r rest) same at, (len, subst (λ (r : Reading). step_at r rest ≡ Ok (record { step = More len; after = after })) same e))
