-- What is found and said of a capture, with one packet more.
use Rattle.std.proofs.Common.{◌≡◌, ℕ, suc, ◌+◌, Bool, true, false, cond, List, [], ◌∷◌, ◌++◌, length, Option, refl, sym, ap, ◌∙◌, arith, append_assoc, append-nil, length-append}
use Rattle.std.specs.Prelude.{◌==◌, string_bytes, if◌then◌else◌}
use Rattle.captures.specs.declared.error.CaptureError.{CaptureError}
use Rattle.dbusfan_tool.specs.declared.finding.Finding.{Finding}
use Rattle.dbusfan_tool.specs.declared.finding.Finding.TheVariants.{Judged, Cut, NoMessage}
use Rattle.dbusfan_tool.specs.declared.tally.Tally.{Tally}
use Rattle.dbusfan_tool.specs.declared.wording.Wording.{Wording}
use Rattle.dbusfan_tool.specs.Answer.{Said, after_lines}
use Rattle.dbusfan_tool.specs.Findings.{judged_count, accepted_count}
use Rattle.dbusfan_tool.specs.Reports.{verdict_line, verdict_lines, note_line, note_lines, lines_of, last_line, passed_over_line, capture_line, capture_status, nearest_by, said_of_capture}
use Rattle.dbusfan_tool.specs.Nearest.{near_lines}
use Rattle.dbusfan_tool.specs.Places.{kept_by}
use Rattle.dbusfan_tool.specs.Tallies.{IsTally}
use Rattle.dbusfan_tool.proofs.NearestKept.{kept_nearest}

-- ---- one finding more

one_more_line : (words : Wording) (number : ℕ) (found : List Finding) (finding : Finding) → verdict_lines words number (found ++ finding ∷ []) ≡ verdict_lines words number found ++ verdict_line words (number + length found) finding
one_more_line words number [] finding =
    let same : number + 0 ≡ number = omega arith in
    append-nil (verdict_line words number finding) ∙ ap (λ (n : ℕ). verdict_line words n finding) (sym same)
one_more_line words number (first ∷ later) finding =
    let place : number + 1 + length later ≡ number + suc (length later) = omega arith in
    ap (λ (text : List ℕ). verdict_line words number first ++ text) (one_more_line words (number + 1) later finding)
    ∙ sym (append_assoc (verdict_line words number first) (verdict_lines words (number + 1) later) (verdict_line words (number + 1 + length later) finding))
    ∙ ap (λ (n : ℕ). (verdict_line words number first ++ verdict_lines words (number + 1) later) ++ verdict_line words n finding) place

one_more_note : (number : ℕ) (found : List Finding) (finding : Finding) → note_lines number (found ++ finding ∷ []) ≡ note_lines number found ++ note_line (number + length found) finding
one_more_note number [] finding =
    let same : number + 0 ≡ number = omega arith in
    append-nil (note_line number finding) ∙ ap (λ (n : ℕ). note_line n finding) (sym same)
one_more_note number (first ∷ later) finding =
    let place : number + 1 + length later ≡ number + suc (length later) = omega arith in
    ap (λ (text : List ℕ). note_line number first ++ text) (one_more_note (number + 1) later finding)
    ∙ sym (append_assoc (note_line number first) (note_lines (number + 1) later) (note_line (number + 1 + length later) finding))
    ∙ ap (λ (n : ℕ). (note_line number first ++ note_lines (number + 1) later) ++ note_line n finding) place

one_more_judged : (found : List Finding) (finding : Finding) → judged_count (found ++ finding ∷ []) ≡ judged_count found + judged_count (finding ∷ [])
one_more_judged [] finding = let e : judged_count (finding ∷ []) ≡ 0 + judged_count (finding ∷ []) = omega arith in e
one_more_judged (Judged outcome ∷ later) finding = let e = one_more_judged later finding in let s : suc (judged_count (later ++ finding ∷ [])) ≡ suc (judged_count later) + judged_count (finding ∷ []) = omega (arith, e) in s
one_more_judged (Cut ∷ later) finding = one_more_judged later finding
one_more_judged (NoMessage fault ∷ later) finding = one_more_judged later finding

either_sum : (test : Bool) (x y z : ℕ) → x ≡ y + z → cond test x (suc x) ≡ cond test y (suc y) + z
either_sum true x y z e = e
either_sum false x y z e = let s : suc x ≡ suc y + z = omega (arith, e) in s

one_more_accepted : (found : List Finding) (finding : Finding) → accepted_count (found ++ finding ∷ []) ≡ accepted_count found + accepted_count (finding ∷ [])
one_more_accepted [] finding = let e : accepted_count (finding ∷ []) ≡ 0 + accepted_count (finding ∷ []) = omega arith in e
one_more_accepted (Judged outcome ∷ later) finding = either_sum (outcome.verdict == 0) _ _ _ (one_more_accepted later finding)
one_more_accepted (Cut ∷ later) finding = one_more_accepted later finding
one_more_accepted (NoMessage fault ∷ later) finding = one_more_accepted later finding

either_line : (words : Wording) (each : Bool) (found : List Finding) (finding : Finding) → lines_of words each (found ++ finding ∷ []) ≡ lines_of words each found ++ (if each then verdict_line words (1 + length found) finding else [])
either_line words true found finding = one_more_line words 1 found finding
either_line words false found finding = refl

-- a text that has a length has bytes
pub some_bytes : (len : ℕ) (bytes : List ℕ) → len ≡ length bytes → (len == 0) ≡ false → bytes ≡ [] → ⊥
some_bytes len bytes is test e =
    let zero : len ≡ 0 = is ∙ ap (λ (all : List ℕ). length all) e in
    let yes : (len == 0) ≡ true = ap (λ (n : ℕ). n == 0) zero in
    let no : true ≡ false = sym yes ∙ test in
    cc

-- what is said, by its parts
abbrev said_with : (lines output error : List ℕ) (status : ℕ) → Said
said_with lines output error status = record { lines = lines; output = output; error = error; status = status }

same_said : (a b c d e f : List ℕ) (m n : ℕ) → a ≡ b → c ≡ d → e ≡ f → m ≡ n → said_with a c e m ≡ said_with b d f n
same_said a b c d e f m n ab cd ef mn =
    ap (λ (x : List ℕ). said_with x c e m) ab ∙ ap (λ (x : List ℕ). said_with b x e m) cd ∙ ap (λ (x : List ℕ). said_with b d x m) ef ∙ ap (λ (x : ℕ). said_with b d f x) mn

module _ (words : Wording) (each : Bool) (written : List ℕ) (found : List Finding) (passed : ℕ) where
  -- a finding was taken: its lines were put, then it was counted
  pub one_more : (old between counted kept : Tally) (finding : Finding) (number : ℕ) → IsTally words each old written found passed
      → number ≡ old.packets + 1
      → string_bytes between.lines ≡ string_bytes old.lines ++ (if old.each then verdict_line old.words number finding else [])
      → string_bytes between.notes ≡ string_bytes old.notes ++ note_line number finding
      → between ≡ record old { lines = between.lines; notes = between.notes }
      → counted ≡ record between { judged = between.judged + judged_count (finding ∷ []); accepted = between.accepted + accepted_count (finding ∷ []) }
      → kept.nearest.items ≡ kept_by counted.words counted.nearest.items number finding
      → kept ≡ record counted { nearest = kept.nearest }
      → IsTally words each (record kept { packets = number }) written (found ++ finding ∷ []) passed
  one_more old between counted kept finding number tally number_is lines notes puts counts keeps rest =
      let place : number ≡ 1 + length found = omega (arith, number_is, tally.packets_are) in
      let line : (if old.each then verdict_line old.words number finding else []) ≡ (if each then verdict_line words (1 + length found) finding else []) =
      ap (λ (b : Bool). if b then verdict_line old.words number finding else []) tally.each_is
      ∙ ap (λ (w : Wording). if each then verdict_line w number finding else []) tally.words_are
      ∙ ap (λ (n : ℕ). if each then verdict_line words n finding else []) place in
      record {
        words_are = ap (λ (t : Tally). t.words) rest ∙ ap (λ (t : Tally). t.words) counts ∙ ap (λ (t : Tally). t.words) puts ∙ tally.words_are;
        each_is = ap (λ (t : Tally). t.each) rest ∙ ap (λ (t : Tally). t.each) counts ∙ ap (λ (t : Tally). t.each) puts ∙ tally.each_is;
        lines_are =
            ap (λ (t : Tally). written ++ string_bytes t.lines) rest ∙ ap (λ (t : Tally). written ++ string_bytes t.lines) counts ∙ ap (λ (text : List ℕ). written ++ text) lines
            ∙ sym (append_assoc written (string_bytes old.lines) (if old.each then verdict_line old.words number finding else []))
            ∙ ap (λ (text : List ℕ). text ++ (if old.each then verdict_line old.words number finding else [])) tally.lines_are
            ∙ ap (λ (text : List ℕ). lines_of words each found ++ text) line
            ∙ sym (either_line words each found finding);
        notes_are =
            ap (λ (t : Tally). string_bytes t.notes) rest ∙ ap (λ (t : Tally). string_bytes t.notes) counts ∙ notes
            ∙ ap (λ (text : List ℕ). text ++ note_line number finding) tally.notes_are
            ∙ ap (λ (n : ℕ). note_lines 1 found ++ note_line n finding) place
            ∙ sym (one_more_note 1 found finding);
        packets_are = let e : number ≡ length (found ++ finding ∷ []) = simp length-append (omega (arith, place)) in e;
        judged_are =
            ap (λ (t : Tally). t.judged) rest ∙ ap (λ (t : Tally). t.judged) counts ∙ ap (λ (t : Tally). t.judged + judged_count (finding ∷ [])) puts
            ∙ ap (λ (n : ℕ). n + judged_count (finding ∷ [])) tally.judged_are ∙ sym (one_more_judged found finding);
        accepted_are =
            ap (λ (t : Tally). t.accepted) rest ∙ ap (λ (t : Tally). t.accepted) counts ∙ ap (λ (t : Tally). t.accepted + accepted_count (finding ∷ [])) puts
            ∙ ap (λ (n : ℕ). n + accepted_count (finding ∷ [])) tally.accepted_are ∙ sym (one_more_accepted found finding);
        passed_over_are = ap (λ (t : Tally). t.passed_over) rest ∙ ap (λ (t : Tally). t.passed_over) counts ∙ ap (λ (t : Tally). t.passed_over) puts ∙ tally.passed_over_are;
        nearest_are =
            keeps
            ∙ ap (λ (t : Tally). kept_by t.words t.nearest.items number finding) counts
            ∙ ap (λ (t : Tally). kept_by t.words t.nearest.items number finding) puts
            ∙ ap (λ (w : Wording). kept_by w old.nearest.items number finding) tally.words_are
            ∙ kept_nearest words old.nearest.items found finding number tally.nearest_are place;
      }

  -- the lines were written
  pub all_written : (old new : Tally) → IsTally words each old written found passed → new ≡ record old { lines = new.lines } → string_bytes new.lines ≡ [] → IsTally words each new (written ++ string_bytes old.lines) found passed
  all_written old new tally is empty = record {
    words_are = ap (λ (t : Tally). t.words) is ∙ tally.words_are;
    each_is = ap (λ (t : Tally). t.each) is ∙ tally.each_is;
    lines_are = ap (λ (text : List ℕ). (written ++ string_bytes old.lines) ++ text) empty ∙ append-nil (written ++ string_bytes old.lines) ∙ tally.lines_are;
    notes_are = ap (λ (t : Tally). string_bytes t.notes) is ∙ tally.notes_are;
    packets_are = ap (λ (t : Tally). t.packets) is ∙ tally.packets_are;
    judged_are = ap (λ (t : Tally). t.judged) is ∙ tally.judged_are;
    accepted_are = ap (λ (t : Tally). t.accepted) is ∙ tally.accepted_are;
    passed_over_are = ap (λ (t : Tally). t.passed_over) is ∙ tally.passed_over_are;
    nearest_are = ap (λ (t : Tally). t.nearest.items) is ∙ tally.nearest_are;
  }

  -- all that is said at the end, where all lines were written
  pub said_at_end : (tally : Tally) (fault : Option CaptureError) (listed output notes : List ℕ) (status : ℕ) → IsTally words each tally written found passed → string_bytes tally.lines ≡ []
      → listed ≡ string_bytes tally.lines ++ near_lines tally.nearest.items
      → output ≡ listed ++ last_line tally.words tally.each tally.accepted tally.judged
      → notes ≡ string_bytes tally.notes ++ passed_over_line tally.passed_over ++ capture_line fault
      → status ≡ capture_status fault tally.accepted
      → after_lines written (record { lines = []; output = output; error = notes; status = status }) ≡ said_of_capture words each (record { findings = found; passed_over = passed; fault = fault })
  said_at_end tally fault listed output notes status is empty listed_is output_is notes_is status_is =
      let lines : written ≡ lines_of words each found =
      sym (append-nil written) ∙ ap (λ (text : List ℕ). written ++ text) (sym empty) ∙ is.lines_are in
      let nearest : listed ≡ near_lines (nearest_by words found) =
      listed_is ∙ ap (λ (text : List ℕ). text ++ near_lines tally.nearest.items) empty ∙ ap near_lines is.nearest_are in
      let last : output ≡ near_lines (nearest_by words found) ++ last_line words each (accepted_count found) (judged_count found) =
      output_is
      ∙ ap (λ (text : List ℕ). text ++ last_line tally.words tally.each tally.accepted tally.judged) nearest
      ∙ ap (λ (w : Wording). near_lines (nearest_by words found) ++ last_line w tally.each tally.accepted tally.judged) is.words_are
      ∙ ap (λ (b : Bool). near_lines (nearest_by words found) ++ last_line words b tally.accepted tally.judged) is.each_is
      ∙ ap (λ (n : ℕ). near_lines (nearest_by words found) ++ last_line words each n tally.judged) is.accepted_are
      ∙ ap (λ (n : ℕ). near_lines (nearest_by words found) ++ last_line words each (accepted_count found) n) is.judged_are in
      let noted : notes ≡ note_lines 1 found ++ passed_over_line passed ++ capture_line fault =
      notes_is ∙ ap (λ (text : List ℕ). text ++ passed_over_line tally.passed_over ++ capture_line fault) is.notes_are
      ∙ ap (λ (n : ℕ). note_lines 1 found ++ passed_over_line n ++ capture_line fault) is.passed_over_are in
      let ended : status ≡ capture_status fault (accepted_count found) = status_is ∙ ap (λ (n : ℕ). capture_status fault n) is.accepted_are in
      same_said _ _ _ _ _ _ _ _ lines last noted ended
