-- What is found of a capture that is read in pieces.
use Rattle.std.proofs.Common.{◌≡◌, ℕ, Bool, true, false, List, [], ◌++◌, drop, Some, Result, Ok, Err, refl, sym, ap, subst, ◌∙◌, append_assoc, append-nil}
use Rattle.std.specs.Prelude.{string_bytes}
use Rattle.std.specs.Result.{result_err, IsErrAnd, MatchResult}
use Rattle.captures.specs.declared.error.CaptureError.{CaptureError}
use Rattle.captures.specs.Reading.{Reading, start, end_of}
use Rattle.captures.specs.Contents.{contents}
use Rattle.command_line.specs.declared.error.Fault.{Fault}
use Rattle.command_line.specs.declared.error.Fault.TheVariants.{Memory}
use Rattle.command_line.specs.declared.files.FileError.{FileError}
use Rattle.command_line.specs.declared.files.FileError.TheVariants as of_file
use Rattle.command_line.specs.Errors.{fault_of_file}
use Rattle.command_line.specs.Files.{Content, Whole, ReadsPiece}
use Rattle.dbusfan_tool.specs.declared.beginning.Beginning.{Beginning}
use Rattle.dbusfan_tool.specs.declared.capturing.CaptureEnd.{CaptureEnd}
use Rattle.dbusfan_tool.specs.declared.finding.Finding.{Finding}
use Rattle.dbusfan_tool.specs.declared.tally.Tally.{Tally}
use Rattle.dbusfan_tool.specs.declared.wording.Wording.{Wording}
use Rattle.dbusfan_tool.specs.Judges.{Judge}
use Rattle.dbusfan_tool.specs.Findings.{AreFirst, IsReport, Report, Reports}
use Rattle.dbusfan_tool.specs.FileJudgements.{bytes_of, broken, short}
use Rattle.dbusfan_tool.specs.Reports.{lines_of}
use Rattle.dbusfan_tool.specs.Tallies.{IsTally}
use Rattle.dbusfan_tool.specs.declared.capturing.Taken.{Taken}
use Rattle.dbusfan_tool.specs.declared.capturing.Taken.TheVariants.{Until, Faulty}
use Rattle.dbusfan_tool.specs.declared.program_judge.ProgramJudge.{ProgramJudge}
use Rattle.dbusfan_tool.specs.Serving.{Serves}
use Rattle.dbusfan_tool.specs.CaptureSteps.{IsAt, Waits, TakesTo, so_far}
use Rattle.dbusfan_tool.specs.FirstBytes.{Continues, EndsCapture, BreaksCapture}
use Rattle.dbusfan_tool.proofs.Captured.{begins, comes, has_ended, are_first, all_are_first}

more_of : (is_open : Bool) (first came piece : List ℕ) → is_open ≡ true → Continues is_open first came → Continues is_open first (came ++ piece)
more_of true first came piece e goes_on = (goes_on.0 ++ piece, ap (λ (bytes : List ℕ). bytes ++ piece) goes_on.1 ∙ append_assoc first goes_on.0 piece)
more_of false first came piece e goes_on = absurd (cc)

none_of : (is_open : Bool) (first : List ℕ) → Continues is_open first first
none_of true first = ([], sym (append-nil first))
none_of false first = refl

module _ (judge : Judge) (words : Wording) (each : Bool) (beginning : Beginning) (gave : Content → Type 0) where
  -- What was found of a file so far, of which these bytes are left.
  pub record SoFar (puts : List ℕ → Type 0) (reading : Reading) (tally : Tally) (rest : List ℕ) (is_open : Bool) : Type 0 where
    pub came : List ℕ
    pub written : List ℕ
    pub found : List Finding
    pub passed : ℕ
    pub gives : gave (so_far is_open came)
    pub goes_on : Continues beginning.is_open beginning.bytes.items came
    pub opened : is_open ≡ true → beginning.is_open ≡ true
    pub puts_lines : puts written
    pub tally_is : IsTally words each tally written found passed
    pub none_left : string_bytes tally.lines ≡ []
    pub at : IsAt judge came found passed reading rest

  pub starts : (puts : List ℕ → Type 0) (tally : Tally) → gave (so_far beginning.is_open beginning.bytes.items) → puts [] → IsTally words each tally [] [] 0 → string_bytes tally.lines ≡ [] → SoFar puts start tally beginning.bytes.items beginning.is_open
  starts puts tally gives none tally_is empty = record {
    came = beginning.bytes.items;
    written = [];
    found = [];
    passed = 0;
    gives = gives;
    goes_on = none_of beginning.is_open beginning.bytes.items;
    opened = λ e. e;
    puts_lines = none;
    tally_is = tally_is;
    none_left = empty;
    at = begins judge beginning.bytes.items;
  }

  written_are : (tally : Tally) (written : List ℕ) (found : List Finding) (passed : ℕ) → IsTally words each tally written found passed → string_bytes tally.lines ≡ [] → written ≡ lines_of words each found
  written_are tally written found passed tally_is empty = sym (append-nil written) ∙ ap (λ (text : List ℕ). written ++ text) (sym empty) ∙ tally_is.lines_are

  firsts : (is_open : Bool) (came : List ℕ) (found : List Finding) → ((more : List ℕ) → AreFirst judge (contents (came ++ more)) found) → (more : List ℕ) → AreFirst judge (contents (bytes_of (so_far is_open came) ++ more)) found
  firsts true came found first more = first more
  firsts false came found first more = first more

  reports_of : (is_open : Bool) (came : List ℕ) (report : Report) → ((more : List ℕ) → IsReport judge (contents (came ++ more)) report) → Reports judge (so_far is_open came) report
  reports_of true came report is = is
  reports_of false came report is = subst (λ (all : List ℕ). IsReport judge (contents all) report) (append-nil came) (is [])

  goes_on_to : (is_open : Bool) (came : List ℕ) → Continues beginning.is_open beginning.bytes.items came → Continues beginning.is_open beginning.bytes.items (bytes_of (so_far is_open came))
  goes_on_to true came goes_on = goes_on
  goes_on_to false came goes_on = goes_on

  -- memory is short
  pub breaks_short : (puts : List ℕ → Type 0) (reading : Reading) (tally : Tally) (rest : List ℕ) (is_open : Bool) → SoFar puts reading tally rest is_open → (written : List ℕ) × puts written × BreaksCapture judge words each written gave Memory
  breaks_short puts reading tally rest is_open so =
      (so.written, so.puts_lines, (so.found, short so.gives (firsts is_open so.came so.found (are_first judge so.came so.found so.passed reading rest so.at)), written_are tally so.written so.found so.passed so.tally_is so.none_left))

  -- the packets of the bytes that are there were taken, and their lines written
  module _ (puts after_puts : List ℕ → Type 0) (reading after : Reading) (tally counted left : Tally) (bytes : List ℕ) (is_open : Bool) (so : SoFar puts reading tally bytes is_open)
      (put : (written : List ℕ) → puts written → after_puts (written ++ string_bytes counted.lines))
      (same : (written : List ℕ) (found : List Finding) (passed : ℕ) → IsTally words each counted written found passed → IsTally words each left (written ++ string_bytes counted.lines) found passed)
      (empty : string_bytes left.lines ≡ []) where
    pub took : (len : ℕ) → TakesTo judge words each so.came so.written bytes after counted (Until len) → SoFar after_puts after left (drop len bytes) is_open
    took len takes = record {
      came = so.came;
      written = so.written ++ string_bytes counted.lines;
      found = takes.0;
      passed = takes.1;
      gives = so.gives;
      goes_on = so.goes_on;
      opened = so.opened;
      puts_lines = put so.written so.puts_lines;
      tally_is = same so.written takes.0 takes.1 takes.2;
      none_left = empty;
      at = takes.4;
    }

    pub met_fault : (fault : CaptureError) → TakesTo judge words each so.came so.written bytes after counted (Faulty fault) → (written : List ℕ) × after_puts written × EndsCapture judge words each beginning written gave (record { tally = left; fault = Some fault })
    met_fault fault takes =
        let report : Report = record { findings = takes.0; passed_over = takes.1; fault = Some fault } in (
          so.written ++ string_bytes counted.lines,
          put so.written so.puts_lines,
          record {
            content = so_far is_open so.came;
            found = takes.0;
            passed = takes.1;
            gives = so.gives;
            goes_on = goes_on_to is_open so.came so.goes_on;
            tally = same so.written takes.0 takes.1 takes.2;
            none_left = empty;
            reports = reports_of is_open so.came report takes.3;
            first = firsts is_open so.came takes.0 (λ more. all_are_first judge so.came more takes.0 takes.1 fault (takes.3 more));
          },
        )

  -- the file has ended
  pub ended : (puts : List ℕ → Type 0) (reading : Reading) (tally : Tally) (rest : List ℕ) → SoFar puts reading tally rest false → Waits reading rest → (written : List ℕ) × puts written × EndsCapture judge words each beginning written gave (record { tally = tally; fault = result_err (end_of reading rest) })
  ended puts reading tally rest so waits = (
    so.written,
    so.puts_lines,
    record {
      content = Whole so.came;
      found = so.found;
      passed = so.passed;
      gives = so.gives;
      goes_on = so.goes_on;
      tally = so.tally_is;
      none_left = so.none_left;
      reports = has_ended judge so.came so.found so.passed reading rest so.at waits;
      first = are_first judge so.came so.found so.passed reading rest so.at;
    },
  )

module _ (judge : Judge) (words : Wording) (each : Bool) (beginning : Beginning) (gave gives : Content → Type 0) (puts : List ℕ → Type 0) (reading : Reading) (tally : Tally) (rest after : List ℕ) (so : SoFar judge words each beginning gave puts reading tally rest true) where
  -- the next piece of the file
  pub piece_comes : (is_open : Bool) → ReadsPiece gives so.came rest after (Ok is_open) → SoFar judge words each beginning gives puts reading tally after is_open
  piece_comes true reads = record {
    came = so.came ++ reads.0;
    written = so.written;
    found = so.found;
    passed = so.passed;
    gives = reads.2;
    goes_on = more_of beginning.is_open beginning.bytes.items so.came reads.0 (so.opened refl) so.goes_on;
    opened = so.opened;
    puts_lines = so.puts_lines;
    tally_is = so.tally_is;
    none_left = so.none_left;
    at = subst (λ (bytes : List ℕ). IsAt judge (so.came ++ reads.0) so.found so.passed reading bytes) (sym reads.1) (comes judge so.came so.found so.passed reading rest so.at reads.0);
  }
  piece_comes false reads = record {
    came = so.came;
    written = so.written;
    found = so.found;
    passed = so.passed;
    gives = reads.1;
    goes_on = so.goes_on;
    opened = λ e. absurd (cc);
    puts_lines = so.puts_lines;
    tally_is = so.tally_is;
    none_left = so.none_left;
    at = subst (λ (bytes : List ℕ). IsAt judge so.came so.found so.passed reading bytes) (sym reads.0) so.at;
  }

  pub piece_fails : (error : FileError) → ReadsPiece gives so.came rest after (Err error) → (written : List ℕ) × puts written × BreaksCapture judge words each written gives (fault_of_file error)
  piece_fails of_file.File reads =
      (so.written, so.puts_lines, (so.found, broken reads (are_first judge so.came so.found so.passed reading rest so.at), written_are judge words each beginning gives tally so.written so.found so.passed so.tally_is so.none_left))
  piece_fails of_file.Memory reads =
      (so.written, so.puts_lines, (so.found, short reads (are_first judge so.came so.found so.passed reading rest so.at), written_are judge words each beginning gives tally so.written so.found so.passed so.tally_is so.none_left))

-- what is taken of bytes that are lent, by a judge that judges as it is said
abbrev pub TakesLent : ProgramJudge → Reading → Tally → List ℕ → Reading → Tally → Taken → Type 0
TakesLent program_judge reading tally lent after counted taken =
    (judge : Judge) (words : Wording) (each : Bool) (came written : List ℕ) (found : List Finding) (passed : ℕ) → Serves judge program_judge → IsTally words each tally written found passed → IsAt judge came found passed reading lent → TakesTo judge words each came written lent after counted taken

-- the packets of the bytes that are there were taken until more are needed, and their lines written
pub took_lent : (judge : Judge) (words : Wording) (each : Bool) (beginning : Beginning) (gave : Content → Type 0) (puts after_puts : List ℕ → Type 0) (reading after : Reading) (tally counted left : Tally) (bytes lent : List ℕ) (is_open : Bool) (program_judge : ProgramJudge) (taken : Taken) (len : ℕ)
    → SoFar judge words each beginning gave puts reading tally bytes is_open
    → ((written : List ℕ) → puts written → after_puts (written ++ string_bytes counted.lines))
    → ((written : List ℕ) (found : List Finding) (passed : ℕ) → IsTally words each counted written found passed → IsTally words each left (written ++ string_bytes counted.lines) found passed)
    → string_bytes left.lines ≡ []
    → Serves judge program_judge → lent ≡ bytes → taken ≡ Until len → TakesLent program_judge reading tally lent after counted taken
    → SoFar judge words each beginning gave after_puts after left (drop len bytes) is_open × Waits after (drop len bytes)
took_lent judge words each beginning gave puts after_puts reading after tally counted left bytes lent is_open program_judge taken len so put same empty serves here is all =
    let lent_takes : TakesTo judge words each so.came so.written bytes after counted taken = subst (λ (b : List ℕ). TakesLent program_judge reading tally b after counted taken) here all judge words each so.came so.written so.found so.passed serves so.tally_is so.at in
    let takes : TakesTo judge words each so.came so.written bytes after counted (Until len) = subst (λ (t : Taken). TakesTo judge words each so.came so.written bytes after counted t) is lent_takes in
    (took judge words each beginning gave puts after_puts reading after tally counted left bytes is_open so put same empty len takes, takes.5)

-- a step's fault is handed on
pub broke : (judge : Judge) (words : Wording) (each : Bool) (beginning : Beginning) (gave : Content → Type 0) (written : List ℕ) (result : Result CaptureEnd Fault) (fault : Fault) → IsErrAnd result (λ f. f ≡ fault) → BreaksCapture judge words each written gave fault → MatchResult result (EndsCapture judge words each beginning written gave) (BreaksCapture judge words each written gave)
broke judge words each beginning gave written (Ok end) fault is breaks = absurd is
broke judge words each beginning gave written (Err f) fault is breaks = subst (λ (f : Fault). BreaksCapture judge words each written gave f) (sym is) breaks
