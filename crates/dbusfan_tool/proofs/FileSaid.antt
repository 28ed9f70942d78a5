-- What is said of a file, from what its steps answer.
use Rattle.std.proofs.Common.{◌≡◌, ◌⊎◌, ℕ, ◌≤◌, Bool, true, false, not, List, [], ◌++◌, length, Option, Some, None, Result, Ok, Err, nat_lt, refl, sym, ap, subst, inl, inr, ◌∙◌, arith, append-nil}
use Rattle.std.specs.Prelude.{◌||◌, ◌&&◌, is_some}
use Rattle.std.specs.Result.{IsErrAnd}
use Rattle.std.specs.Global.{Vec}
use Rattle.std.proofs.lemmas.Bool.{le-ltb}
use Rattle.dbusfan_tool.specs.declared.judgement.Judgement.{Judgement}
use Rattle.captures.specs.declared.order.Order.TheVariants.{Big}
use Rattle.captures.specs.declared.magic.Magic.{Magic}
use Rattle.captures.specs.declared.magic.Magic.TheVariants as magics
use Rattle.captures.specs.Beginnings.{is_capture, begins_as}
use Rattle.captures.specs.Blocks.{order_of}
use Rattle.captures.specs.Numbers.{word}
use Rattle.captures.specs.Pcap.{magic_of}
use Rattle.captures.proofs.Choices.{fails}
use Rattle.captures.proofs.Grown.{same_word, still_enough}
use Rattle.command_line.specs.declared.error.Fault.{Fault}
use Rattle.command_line.specs.declared.error.Fault.TheVariants.{File, Memory}
use Rattle.command_line.specs.declared.files.FileError.{FileError}
use Rattle.command_line.specs.declared.hex_text.HexError.{HexError}
use Rattle.command_line.specs.declared.hex_text.HexError.TheVariants as of_hex
use Rattle.command_line.specs.Errors.{fault_of_file, fault_of_hex}
use Rattle.bpf_code.specs.declared.instruction.Ins.{Ins}
use Rattle.bpf_code.specs.Program.{WellFormed}
use Rattle.summary.specs.declared.edition.Edition.{Edition}
use Rattle.command_line.specs.Files.{Content, Whole, Broken, ReadsFile, MadeReads, two_reads}
use Rattle.command_line.specs.HexText.{bytes_of_hex}
use Rattle.dbusfan_tool.specs.declared.answer.Answer.{Answer}
use Rattle.dbusfan_tool.specs.declared.answer.Answer.TheVariants.{Fault as Failing}
use Rattle.dbusfan_tool.specs.declared.beginning.Beginning.{Beginning}
use Rattle.dbusfan_tool.specs.declared.capturing.CaptureEnd.{CaptureEnd}
use Rattle.dbusfan_tool.specs.declared.finding.Finding.{Finding}
use Rattle.dbusfan_tool.specs.declared.wording.Wording.{Wording}
use Rattle.dbusfan_tool.specs.Answer.{Said, after_lines, failing}
use Rattle.dbusfan_tool.specs.Judges.{Judge, by_program}
use Rattle.dbusfan_tool.specs.Program.{Assembles}
use Rattle.dbusfan_tool.specs.Tool.{Runs, ran}
use Rattle.dbusfan_tool.proofs.Programs.{assembled_as}
use Rattle.dbusfan_tool.specs.Findings.{Report}
use Rattle.dbusfan_tool.specs.Reports.{words_of, lines_of, said_of_capture, said_of_outcome}
use Rattle.dbusfan_tool.specs.FileJudgements.{bytes_of, of_message, of_capture, Found, Finds, no_file, no_hex, no_message, message, capture, BreaksOff, broken, short, SaysOfFile}
use Rattle.dbusfan_tool.specs.FirstBytes.{FailsToRead, IsSure, Continues, EndsCapture, BreaksCapture, FindsMessage}
use Rattle.dbusfan_tool.specs.Views.{said_by, SaysAfter}
use Rattle.dbusfan_tool.proofs.StepFaults.{file_fault, hex_fault}
use Rattle.dbusfan_tool.proofs.Saying.{no_lines}

-- ---- whether a file is a capture

-- twelve bytes say it, whatever comes after them
pub same_kind : (bytes more : List ℕ) → 12 ≤ length bytes → is_capture (bytes ++ more) ≡ is_capture bytes
same_kind bytes more le =
    let four : nat_lt (length bytes) 4 ≡ false = le-ltb (length bytes) 4 (omega arith) in
    let twelve : nat_lt (length bytes) 12 ≡ false = le-ltb (length bytes) 12 le in
    let four_still : nat_lt (length (bytes ++ more)) 4 ≡ false = still_enough bytes more 4 four in
    let twelve_still : nat_lt (length (bytes ++ more)) 12 ≡ false = still_enough bytes more 12 twelve in
    let first : word Big (bytes ++ more) 0 ≡ word Big bytes 0 = same_word Big bytes more 0 (omega arith) in
    let last : word Big (bytes ++ more) 8 ≡ word Big bytes 8 = same_word Big bytes more 8 (omega arith) in
    fails (nat_lt (length (bytes ++ more)) 4) false (begins_as (magic_of (word Big (bytes ++ more) 0)) (bytes ++ more)) four_still
    ∙ ap (λ (n : ℕ). begins_as (magic_of n) (bytes ++ more)) first
    ∙ go (magic_of (word Big bytes 0)) (twelve_still ∙ sym twelve) last
    ∙ sym (fails (nat_lt (length bytes) 4) false (begins_as (magic_of (word Big bytes 0)) bytes) four)
  where
    go : (magic : Option Magic) → nat_lt (length (bytes ++ more)) 12 ≡ nat_lt (length bytes) 12 → word Big (bytes ++ more) 8 ≡ word Big bytes 8 → begins_as magic (bytes ++ more) ≡ begins_as magic bytes
    go None enough last = refl
    go (Some (magics.Pcap order unit)) enough last = refl
    go (Some magics.Pcapng) enough last =
        ap (λ (b : Bool). not b && is_some (order_of (word Big (bytes ++ more) 8))) enough
        ∙ ap (λ (n : ℕ). not (nat_lt (length bytes) 12) && is_some (order_of n)) last

pub kind_stays : (beginning : Beginning) (bytes : List ℕ) → IsSure beginning → Continues beginning.is_open beginning.bytes.items bytes → is_capture bytes ≡ is_capture beginning.bytes.items
kind_stays beginning bytes sure goes_on = go beginning.is_open sure goes_on
  where
    go : (open_still : Bool) → (open_still ≡ true → 12 ≤ length beginning.bytes.items) → Continues open_still beginning.bytes.items bytes → is_capture bytes ≡ is_capture beginning.bytes.items
    go true sure goes_on = ap is_capture goes_on.1 ∙ same_kind beginning.bytes.items goes_on.0 (sure refl)
    go false sure goes_on = ap is_capture goes_on

pub neither : (a b : Bool) → (a || b) ≡ false → (a ≡ false) × (b ≡ false)
neither true b e = absurd (cc)
neither false b e = (refl, e)

-- ---- the message of a file

module _ (gave : Content → Type 0) (judge : Judge) where
  abbrev Fails : Fault → Type 0
  Fails fault = Finds gave judge false (Err fault) ⊎ (fault ≡ Memory)

  pub hands_on : (found : Result Judgement Fault) (fault : Fault) → IsErrAnd found (λ f. f ≡ fault) → Fails fault → FindsMessage gave judge found
  hands_on (Ok outcome) fault is none = absurd is
  hands_on (Err f) fault is none = subst Fails (sym is) none

  pub of_file_fault : (error : FileError) → ReadsFile gave (Err error) → Fails (fault_of_file error)
  of_file_fault error gives = file_fault Fails (inr refl) gave (λ came broken. inl (no_file broken)) error gives

  pub of_hex_fault : (error : HexError) (text : List ℕ) → gave (Whole text) → is_capture text ≡ false → (◌≡◌ {A = Result (Vec ℕ) HexError} (Err error) (Err of_hex.Hex) → bytes_of_hex text ≡ None) → Fails (fault_of_hex error)
  of_hex_fault error text gives other none = hex_fault Fails (inr refl) text (λ is. inl (no_hex gives refl other is)) error none

  -- ---- what is said of a file

  -- it can't be read
  pub not_read : (each : Bool) (fault : Fault) → FailsToRead gave fault → SaysAfter (SaysOfFile gave judge each) [] (Failing fault)
  not_read each fault (inl unread) =
      let says : SaysOfFile gave judge each (failing File) = inl (Err File, no_file unread.2, refl) in
      inl (subst (λ (f : Fault). SaysOfFile gave judge each (failing f)) (sym unread.1) says)
  not_read each fault (inr memory) = inr (refl, ap failing memory)

  -- its one message was judged
  pub said_of_message : (each : Bool) (outcome : Judgement) (words : Wording) (answer : Answer) → each ≡ false → words ≡ words_of judge → Finds gave judge false (Ok (of_message outcome)) → ((said_by answer ≡ said_of_outcome words outcome) ⊎ (said_by answer ≡ failing Memory)) → SaysAfter (SaysOfFile gave judge each) [] answer
  said_of_message each outcome words answer one words_are finds (inl said) =
      let found : Finds gave judge each (Ok (of_message outcome)) = subst (λ (e : Bool). Finds gave judge e (Ok (of_message outcome))) (sym one) finds in
      inl (inl (Ok (of_message outcome), found, no_lines answer ∙ said ∙ ap (λ (w : Wording). said_of_outcome w outcome) words_are))
  said_of_message each outcome words answer one words_are finds (inr memory) = inr (refl, memory)

  pub fault_of_message : (each : Bool) (fault : Fault) → each ≡ false → Fails fault → SaysAfter (SaysOfFile gave judge each) [] (Failing fault)
  fault_of_message each fault one (inl finds) =
      let found : Finds gave judge each (Err fault) = subst (λ (e : Bool). Finds gave judge e (Err fault)) (sym one) finds in
      inl (inl (Err fault, found, refl))
  fault_of_message each fault one (inr memory) = inr (refl, ap failing memory)

  -- its messages were judged
  capture_still : (each : Bool) (beginning : Beginning) (bytes : List ℕ) → (each || is_capture beginning.bytes.items) ≡ true → (each ≡ false → IsSure beginning) → Continues beginning.is_open beginning.bytes.items bytes → (each || is_capture bytes) ≡ true
  capture_still true beginning bytes is sure goes_on = refl
  capture_still false beginning bytes is sure goes_on = kind_stays beginning bytes (sure refl) goes_on ∙ is

  breaks_off : (each : Bool) (written : List ℕ) (words : Wording) (fault : Fault) (findings : List Finding) → words ≡ words_of judge → BreaksOff gave judge fault findings → written ≡ lines_of words each findings → SaysAfter (SaysOfFile gave judge each) written (Failing fault)
  breaks_off true written words fault findings words_are breaks lines =
      let all : written ≡ lines_of (words_of judge) true findings = lines ∙ ap (λ (w : Wording). lines_of w true findings) words_are in
      inl (inr (fault, findings, refl, breaks, ap (λ (text : List ℕ). after_lines text (failing fault)) all))
  breaks_off false written words fault findings words_are (broken gives first) lines =
      inl (inl (Err File, no_file gives, ap (λ (text : List ℕ). after_lines text (failing File)) lines))
  breaks_off false written words fault findings words_are (short gives first) lines = inr (lines, refl)

  pub said_of_break : (each : Bool) (written : List ℕ) (words : Wording) (fault : Fault) → words ≡ words_of judge → BreaksCapture judge words each written gave fault → SaysAfter (SaysOfFile gave judge each) written (Failing fault)
  said_of_break each written words fault words_are breaks = breaks_off each written words fault breaks.0 words_are breaks.1 breaks.2

  pub said_of_end : (each : Bool) (beginning : Beginning) (written : List ℕ) (words : Wording) (end : CaptureEnd) (answer : Answer) → words ≡ words_of judge
      → (each || is_capture beginning.bytes.items) ≡ true → (each ≡ false → IsSure beginning) → (ends : EndsCapture judge words each beginning written gave end)
      → ((after_lines written (said_by answer) ≡ said_of_capture words each (record { findings = ends.found; passed_over = ends.passed; fault = end.fault })) ⊎ (said_by answer ≡ failing Memory))
      → SaysAfter (SaysOfFile gave judge each) written answer
  said_of_end each beginning written words end answer words_are is sure ends (inl said) =
      let report : Report = record { findings = ends.found; passed_over = ends.passed; fault = end.fault } in
      inl (inl (Ok (of_capture report), capture ends.gives (capture_still each beginning (bytes_of ends.content) is sure ends.goes_on) ends.reports, said ∙ ap (λ (w : Wording). said_of_capture w each report) words_are))
  said_of_end each beginning written words end answer words_are is sure ends (inr memory) =
      let lines : written ≡ lines_of words each ends.found = sym (append-nil written) ∙ ap (λ (text : List ℕ). written ++ text) (sym ends.none_left) ∙ ends.tally.lines_are in
      let says = breaks_off each written words Memory ends.found words_are (short ends.gives ends.first) lines in
      elim says [
        | inl says ↦ inl (subst (λ (said : Said). SaysOfFile gave judge each (after_lines written said)) (sym memory) says)
        | inr none ↦ inr (none.0, memory)
      ]

-- ---- what a file gave may be said in another way

finds_as : {gave gives : Content → Type 0} {judge : Judge} {each : Bool} {found : Result Found Fault} → ((content : Content) → gave content → gives content) → Finds gave judge each found → Finds gives judge each found
finds_as as_well (no_file {came} g) = no_file (as_well (Broken came) g)
finds_as as_well (no_hex {text} g one other none) = no_hex (as_well (Whole text) g) one other none
finds_as as_well (no_message {text} g one spells fault) = no_message (as_well (Whole text) g) one spells fault
finds_as as_well (message {text} g one spells is) = message (as_well (Whole text) g) one spells is
finds_as as_well (capture {content} g is reports) = capture (as_well content g) is reports

breaks_as : {gave gives : Content → Type 0} {judge : Judge} {fault : Fault} {findings : List Finding} → ((content : Content) → gave content → gives content) → BreaksOff gave judge fault findings → BreaksOff gives judge fault findings
breaks_as as_well (broken {came} g first) = broken (as_well (Broken came) g) first
breaks_as as_well (short {content} g first) = short (as_well content g) first

pub says_as : (gave gives : Content → Type 0) (judge : Judge) (each : Bool) (said : Said) → ((content : Content) → gave content → gives content) → SaysOfFile gave judge each said → SaysOfFile gives judge each said
says_as gave gives judge each said as_well (inl found) = inl (found.0, finds_as as_well found.1, found.2)
says_as gave gives judge each said as_well (inr breaks) = inr (breaks.0, breaks.1, breaks.2, breaks_as as_well breaks.3, breaks.4)

-- a program was read, and then the file
pub ran_after : {F : Type 0} (gives : F → List ℕ → Content → F → Type 0) (before between after : F) (program file : List ℕ) (edition : Edition) (each trace : Bool) (code : List Ins) (said : Said) → Assembles (λ content. gives before program content between) (Ok code) → WellFormed code → SaysOfFile (λ next. gives between file next after) (by_program code edition trace) each said → Runs (MadeReads gives before after) program file edition each trace said
ran_after gives before between after program file edition each trace code said reads fine says =
    ran fine (says_as (λ next. gives between file next after) (λ next. Assembles (λ content. MadeReads gives before after (two_reads program content file next)) (Ok code)) (by_program code edition trace) each said
    (λ next second. assembled_as (λ content first. (between, first, second)) reads) says)
