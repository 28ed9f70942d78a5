-- A talk by bytes in two cuts is the talk by all of them.
use Rattle.std.proofs.Common.{◌≡◌, ℕ, ◌+◌, ◌≤◌, Bool, true, false, cond, List, [], ◌∷◌, ◌++◌, length, refl, sym, ap, ◌∙◌, arith, append_assoc, length-append}
use Rattle.std.specs.Prelude.{nat_lt, nat_le, ◌==◌}
use Rattle.std.proofs.lemmas.Bool.Decides.{nat_tests}
use Rattle.auth.specs.declared.command.Command.{Command}
use Rattle.auth.specs.declared.command.Command.TheVariants.{AskExternal}
use Rattle.auth.specs.declared.stage.Stage.{Stage}
use Rattle.auth.specs.declared.stage.Stage.TheVariants.{Opening, Start, Data, Challenged, Ready, Begun, Failed}
use Rattle.auth.specs.declared.stage.Reply.{Reply}
use Rattle.auth.specs.declared.stage.Reply.TheVariants.{Rejected}
use Rattle.auth.specs.Lines.{max_line_len, Pieces, pieces_of}
use Rattle.auth.specs.LineStates.{whole_piece}
use Rattle.auth.specs.Stages.{max_rejections, is_over, start_row, data_row, challenged_row, ready_row, row_of, reply_bytes}
use Rattle.auth.specs.Talk.{Standing, Outcome, at_stage, no_answer, refusal, row_answer, command_at, hear, wait, after, by_pieces, talk_in, by_lines, start_of, talk}
use Rattle.auth.proofs.LineEnds.{continue_line, pieces_of-append, LastIsOpen, last_open, first_len, first_whole}

-- ---- a talk that is over

pub over_stays : (s : Standing) (piece : List ℕ) (later : List (List ℕ)) → is_over s.stage ≡ true → by_pieces s piece later ≡ no_answer s
over_stays s piece [] over = rw over refl
over_stays s piece (next ∷ later) over = rw over (over_stays s next later over)

-- ---- the rest of a line

-- the bytes that came of the next line aren't looked at
abbrev pub with_line : Standing → List ℕ → Standing
with_line s line = record { terms = s.terms; stage = s.stage; rejections = s.rejections; line = line }

line_aside : (s : Standing) (line piece : List ℕ) (later : List (List ℕ)) → is_over s.stage ≡ false → by_pieces s piece later ≡ by_pieces (with_line s line) piece later
line_aside s line piece [] on = rw on refl
line_aside s line piece (next ∷ later) on = rw on refl

-- a line that is too long already, and what comes after it
long_refused : (s : Standing) (pieces : Pieces) → is_over s.stage ≡ false → max_line_len ≤ length pieces.first + 1 → (pieces.later ≡ [] → max_line_len ≤ length pieces.first) → talk_in s pieces ≡ refusal s
long_refused s pieces on long alone = go pieces.later alone
  where
    go : (later : List (List ℕ)) → (later ≡ [] → max_line_len ≤ length pieces.first) → by_pieces s pieces.first later ≡ refusal s
    go [] alone = let len : max_line_len ≤ length pieces.first = alone refl in let test : nat_le max_line_len (length pieces.first) ≡ true = grind (arith, nat_tests) in rw (on, test) refl
    go (next ∷ later) alone =
        let test : nat_lt max_line_len (length pieces.first + 2) ≡ true = grind (arith, nat_tests) in
        rw (on, test) (over_stays (at_stage s Failed) next later refl)

-- a rest without a line end, and the bytes after it
rest_goes_on : (s : Standing) (rest bytes : List ℕ) → pieces_of rest ≡ whole_piece rest → talk_in s (pieces_of (rest ++ bytes)) ≡ after (wait s rest).answers (by_lines (wait s rest).standing bytes)
rest_goes_on s rest bytes is = go (is_over s.stage) refl (nat_le max_line_len (length rest)) refl
  where
    go : (over : Bool) → is_over s.stage ≡ over → (long : Bool) → nat_le max_line_len (length rest) ≡ long → talk_in s (pieces_of (rest ++ bytes)) ≡ after (wait s rest).answers (by_lines (wait s rest).standing bytes)
    go true over long l =
        rw over (over_stays s (pieces_of (rest ++ bytes)).first (pieces_of (rest ++ bytes)).later over ∙ sym (over_stays s (pieces_of (s.line ++ bytes)).first (pieces_of (s.line ++ bytes)).later over))
    go false on true long =
        let len : max_line_len ≤ length rest = grind (arith, nat_tests) in
        let first : length rest ≤ length (pieces_of (rest ++ bytes)).first + 1 = first_len rest bytes is in
        let one : max_line_len ≤ length (pieces_of (rest ++ bytes)).first + 1 = omega arith in
        let alone : (pieces_of (rest ++ bytes)).later ≡ [] → max_line_len ≤ length (pieces_of (rest ++ bytes)).first =
        λ none. omega (arith, ap (λ (x : List ℕ). length x) (first_whole (rest ++ bytes) none), length-append rest bytes) in
        rw (on, long) (long_refused s (pieces_of (rest ++ bytes)) on one alone ∙ sym (over_stays (at_stage s Failed) (pieces_of bytes).first (pieces_of bytes).later refl))
    go false on false short = rw (on, short) (line_aside s rest (pieces_of (rest ++ bytes)).first (pieces_of (rest ++ bytes)).later on)

after_after : (front back : List ℕ) (t : Outcome) → after front (after back t) ≡ after (front ++ back) t
after_after front back t = ap (λ (x : List ℕ). record { standing = t.standing; answers = x }) (sym (append_assoc front back t.answers))

pieces_go_on : (s : Standing) (piece : List ℕ) (later : List (List ℕ)) (bytes : List ℕ) → LastIsOpen piece later
    → talk_in s (continue_line piece later bytes) ≡ after (by_pieces s piece later).answers (by_lines (by_pieces s piece later).standing bytes)
pieces_go_on s piece [] bytes is = rest_goes_on s piece bytes is
pieces_go_on s line (next ∷ later) bytes is =
    ap (after (hear s line).answers) (pieces_go_on (hear s line).standing next later bytes is)
    ∙ after_after (hear s line).answers (by_pieces (hear s line).standing next later).answers (by_lines (by_pieces (hear s line).standing next later).standing bytes)

pub lines_in_cuts : (s : Standing) (front back : List ℕ) → by_lines s (front ++ back) ≡ after (by_lines s front).answers (by_lines (by_lines s front).standing back)
lines_in_cuts s front back =
    ap (λ (x : List ℕ). talk_in s (pieces_of x)) (sym (append_assoc s.line front back))
    ∙ ap (talk_in s) (pieces_of-append (s.line ++ front) back)
    ∙ pieces_go_on s (pieces_of (s.line ++ front)).first (pieces_of (s.line ++ front)).later back (last_open (s.line ++ front))

-- ---- no line leads before the first byte

abbrev is_opening : Stage → Bool
is_opening Opening = true
is_opening _ = false

start_opened : (command : Command) → is_opening (start_row command).stage ≡ false
start_opened AskExternal = refl
start_opened _ = refl

data_opened : (command : Command) → is_opening (data_row command).stage ≡ false
data_opened AskExternal = refl
data_opened _ = refl

challenged_opened : (command : Command) → is_opening (challenged_row command).stage ≡ false
challenged_opened AskExternal = refl
challenged_opened _ = refl

ready_opened : (command : Command) → is_opening (ready_row command).stage ≡ false
ready_opened AskExternal = refl
ready_opened _ = refl

row_opened : (stage : Stage) (command : Command) → is_opening stage ≡ false → is_opening (row_of stage command).stage ≡ false
row_opened Opening command is = is
row_opened Start command is = start_opened command
row_opened Data command is = data_opened command
row_opened Challenged command is = challenged_opened command
row_opened Ready command is = ready_opened command
row_opened Begun command is = refl
row_opened Failed command is = refl

row_answer_opened : (s : Standing) (reply : Reply) (stage : Stage) → is_opening stage ≡ false → is_opening (row_answer s (record { reply = reply; stage = stage })).standing.stage ≡ false
row_answer_opened s Rejected stage is = go (nat_lt s.rejections max_rejections)
  where
    go : (t : Bool) → is_opening (cond t (record { standing = record { terms = s.terms; stage = stage; rejections = s.rejections + 1; line = [] }; answers = reply_bytes s.terms Rejected }) (refusal s)).standing.stage ≡ false
    go true = is
    go false = refl
row_answer_opened s _ stage is = is

hear_opened : (s : Standing) (line : List ℕ) → is_opening s.stage ≡ false → is_opening (hear s line).standing.stage ≡ false
hear_opened s line is = go (is_over s.stage) (nat_lt max_line_len (length line + 2))
  where
    go : (over long : Bool) → is_opening (cond over (no_answer s) (cond long (refusal s) (row_answer s (row_of s.stage (command_at s line))))).standing.stage ≡ false
    go true long = is
    go false true = refl
    go false false = row_answer_opened s (row_of s.stage (command_at s line)).reply (row_of s.stage (command_at s line)).stage (row_opened s.stage (command_at s line) is)

wait_opened : (s : Standing) (rest : List ℕ) → is_opening s.stage ≡ false → is_opening (wait s rest).standing.stage ≡ false
wait_opened s rest is = go (is_over s.stage) (nat_le max_line_len (length rest))
  where
    go : (over long : Bool) → is_opening (cond over (no_answer s) (cond long (refusal s) (no_answer (with_line s rest)))).standing.stage ≡ false
    go true long = is
    go false true = refl
    go false false = is

pieces_opened : (s : Standing) (piece : List ℕ) (later : List (List ℕ)) → is_opening s.stage ≡ false → is_opening (by_pieces s piece later).standing.stage ≡ false
pieces_opened s piece [] is = wait_opened s piece is
pieces_opened s line (next ∷ later) is = pieces_opened (hear s line).standing next later (hear_opened s line is)

-- ---- the whole talk

lines_talk : (s : Standing) (bytes : List ℕ) → is_opening s.stage ≡ false → by_lines s bytes ≡ talk s bytes
lines_talk s bytes is = go s.stage refl is
  where
    go : (stage : Stage) → s.stage ≡ stage → is_opening stage ≡ false → by_lines s bytes ≡ talk s bytes
    go Opening at is = absurd cc
    go Start at is = rw at refl
    go Data at is = rw at refl
    go Challenged at is = rw at refl
    go Ready at is = rw at refl
    go Begun at is = let over : is_over s.stage ≡ true = rw at refl in over_stays s (pieces_of (s.line ++ bytes)).first (pieces_of (s.line ++ bytes)).later over ∙ rw at refl
    go Failed at is = let over : is_over s.stage ≡ true = rw at refl in over_stays s (pieces_of (s.line ++ bytes)).first (pieces_of (s.line ++ bytes)).later over ∙ rw at refl

lines_then_talk : (s : Standing) (front back : List ℕ) → is_opening s.stage ≡ false → by_lines s (front ++ back) ≡ after (by_lines s front).answers (talk (by_lines s front).standing back)
lines_then_talk s front back is =
    lines_in_cuts s front back
    ∙ ap (after (by_lines s front).answers) (lines_talk (by_lines s front).standing back (pieces_opened s (pieces_of (s.line ++ front)).first (pieces_of (s.line ++ front)).later is))

abbrev Cuts : Standing → List ℕ → List ℕ → Type 0
Cuts s front back = talk s (front ++ back) ≡ after (talk s front).answers (talk (talk s front).standing back)

opening_cuts : (s : Standing) (front back : List ℕ) → s.stage ≡ Opening → Cuts s front back
opening_cuts s [] back at = rw at refl
opening_cuts s (first ∷ front) back at = rw at (go (first == 0))
  where
    go : (zero_first : Bool) → cond zero_first (by_lines (start_of s) (front ++ back)) (refusal s) ≡ after (cond zero_first (by_lines (start_of s) front) (refusal s)).answers (talk (cond zero_first (by_lines (start_of s) front) (refusal s)).standing back)
    go true = lines_then_talk (start_of s) front back refl
    go false = refl

pub in_cuts : (s : Standing) (front back : List ℕ) → talk s (front ++ back) ≡ after (talk s front).answers (talk (talk s front).standing back)
in_cuts s front back = go s.stage refl
  where
    by_line_talk : is_opening s.stage ≡ false → Cuts s front back
    by_line_talk is =
        let whole : by_lines s (front ++ back) ≡ talk s (front ++ back) = lines_talk s (front ++ back) is in
        let part : by_lines s front ≡ talk s front = lines_talk s front is in
        sym whole ∙ lines_then_talk s front back is ∙ ap (λ (x : Outcome). after x.answers (talk x.standing back)) part

    go : (stage : Stage) → s.stage ≡ stage → Cuts s front back
    go Opening at = opening_cuts s front back at
    go Start at = by_line_talk (rw at refl)
    go Data at = by_line_talk (rw at refl)
    go Challenged at = by_line_talk (rw at refl)
    go Ready at = by_line_talk (rw at refl)
    go Begun at = by_line_talk (rw at refl)
    go Failed at = by_line_talk (rw at refl)
