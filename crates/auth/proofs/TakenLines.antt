-- What a talk comes to by the bytes of one line.
use Rattle.std.proofs.Common.{◌≡◌, ℕ, ◌+◌, ◌-◌, ◌≤◌, Bool, true, false, cond, List, [], ◌∷◌, ◌++◌, take, drop, length, refl, sym, ap, subst, ◌∙◌, arith, length-append}
use Rattle.std.specs.Prelude.{nat_lt, nat_le}
use Rattle.std.proofs.lemmas.Bool.Decides.{nat_tests}
use Rattle.std.proofs.lemmas.List.{append_assoc, append-nil, take-append-drop, length-take-le}
use Rattle.std.proofs.Math.Seq.{take-add}
use Rattle.auth.specs.declared.stage.Stage.{Stage}
use Rattle.auth.specs.declared.stage.Stage.TheVariants.{Failed}
use Rattle.auth.specs.declared.stage.Reply.{Reply}
use Rattle.auth.specs.declared.stage.Reply.TheVariants.{Rejected}
use Rattle.auth.specs.Lines.{max_line_len, pieces_of, len_through, through_line}
use Rattle.auth.specs.LineStates.{whole_piece, ended_piece}
use Rattle.auth.specs.Stages.{max_rejections, is_over, row_of, reply_bytes}
use Rattle.auth.specs.Talk.{Standing, Outcome, at_stage, no_answer, refusal, row_answer, command_at, hear, wait, after, by_pieces, talk_in, by_lines}
use Rattle.auth.proofs.LineEnds.{continue_line, pieces_of-append, first_len}
use Rattle.auth.proofs.Talks.{over_stays, with_line, lines_in_cuts}

-- ---- after an answer no line has begun

row_answer_line : (s : Standing) (reply : Reply) (stage : Stage) → (row_answer s (record { reply = reply; stage = stage })).standing.line ≡ []
row_answer_line s Rejected stage = go (nat_lt s.rejections max_rejections)
  where
    go : (t : Bool) → (cond t (record { standing = record { terms = s.terms; stage = stage; rejections = s.rejections + 1; line = [] }; answers = reply_bytes s.terms Rejected }) (refusal s)).standing.line ≡ []
    go true = refl
    go false = refl
row_answer_line s _ stage = refl

hear_line : (s : Standing) (line : List ℕ) → is_over s.stage ≡ false → (hear s line).standing.line ≡ []
hear_line s line on = rw on (go (nat_lt max_line_len (length line + 2)))
  where
    go : (long : Bool) → (cond long (refusal s) (row_answer s (row_of s.stage (command_at s line)))).standing.line ≡ []
    go true = refl
    go false = row_answer_line s (row_of s.stage (command_at s line)).reply (row_of s.stage (command_at s line)).stage

wait_none : (s : Standing) → s.line ≡ [] → wait s [] ≡ no_answer s
wait_none s none = go (is_over s.stage)
  where
    go : (over : Bool) → cond over (no_answer s) (no_answer (with_line s [])) ≡ no_answer s
    go true = refl
    go false = ap (λ (x : List ℕ). no_answer (with_line s x)) (sym none)

-- an ended line, and nothing after it
heard : (s : Standing) (line : List ℕ) → is_over s.stage ≡ false → by_pieces s line ([] ∷ []) ≡ hear s line
heard s line on =
    ap (after (hear s line).answers) (wait_none (hear s line).standing (hear_line s line on))
    ∙ ap (λ (x : List ℕ). record { standing = (hear s line).standing; answers = x }) (append-nil (hear s line).answers)

-- ---- bytes of one line

-- bytes that come after a line, of which the first n are taken
pub record Takes (line bytes longer : List ℕ) (n : ℕ) : Type 0 where
  pub within : n ≤ length bytes
  pub is : longer ≡ line ++ take n bytes

longer_len : (line bytes longer : List ℕ) (n : ℕ) → Takes line bytes longer n → length longer ≡ length line + n
longer_len line bytes longer n t = ap (λ (x : List ℕ). length x) t.is ∙ length-append line (take n bytes) ∙ ap (λ (k : ℕ). length line + k) (length-take-le n bytes t.within)

all_bytes : (line bytes longer : List ℕ) (n : ℕ) → Takes line bytes longer n → line ++ bytes ≡ longer ++ drop n bytes
all_bytes line bytes longer n t =
    ap (λ (x : List ℕ). line ++ x) (sym (take-append-drop n bytes))
    ∙ sym (append_assoc line (take n bytes) (drop n bytes))
    ∙ ap (λ (x : List ℕ). x ++ drop n bytes) (sym t.is)

pub ended_len : (line bytes longer : List ℕ) (n : ℕ) → Takes line bytes longer n → 2 ≤ length longer → pieces_of longer ≡ ended_piece longer → n ≡ through_line line bytes
ended_len line bytes longer n t long_enough ends =
    let pieces : pieces_of (line ++ bytes) ≡ continue_line (take (length longer - 2) longer) ([] ∷ []) (drop n bytes) =
    ap pieces_of (all_bytes line bytes longer n t) ∙ pieces_of-append longer (drop n bytes) ∙ ap (λ p. continue_line p.first p.later (drop n bytes)) ends in
    let said : through_line line bytes ≡ length (take (length longer - 2) longer) + 2 - length line = ap (len_through (length line) (length bytes)) pieces in
    let len : length (take (length longer - 2) longer) ≡ length longer - 2 = length-take-le (length longer - 2) longer (omega arith) in
    let all : length longer ≡ length line + n = longer_len line bytes longer n t in
    omega (arith, said, len, all, long_enough)

pub ended_talk : (s : Standing) (bytes longer : List ℕ) (n : ℕ) → Takes s.line bytes longer n → is_over s.stage ≡ false → pieces_of longer ≡ ended_piece longer → by_lines s (take n bytes) ≡ hear s (take (length longer - 2) longer)
ended_talk s bytes longer n t on ends =
    ap (λ (x : List ℕ). talk_in s (pieces_of x)) (sym t.is) ∙ ap (talk_in s) ends ∙ heard s (take (length longer - 2) longer) on

full_len : (line bytes longer : List ℕ) (n : ℕ) → Takes line bytes longer n → pieces_of longer ≡ whole_piece longer → n ≤ through_line line bytes
full_len line bytes longer n t open_line =
    let long : length longer ≤ length (pieces_of (line ++ bytes)).first + 1 = subst (λ (x : List ℕ). length longer ≤ length (pieces_of x).first + 1) (sym (all_bytes line bytes longer n t)) (first_len longer (drop n bytes) open_line) in
    let all : length longer ≡ length line + n = longer_len line bytes longer n t in
    go (pieces_of (line ++ bytes)).first (pieces_of (line ++ bytes)).later (omega (arith, long, all)) t.within
  where
    go : (first : List ℕ) (later : List (List ℕ)) → length line + n ≤ length first + 1 → n ≤ length bytes → n ≤ len_through (length line) (length bytes) (record { first = first; later = later })
    go first [] long within = within
    go first (next ∷ later) long within = omega arith

pub full_talk : (s : Standing) (bytes longer : List ℕ) (n : ℕ) → Takes s.line bytes longer n → is_over s.stage ≡ false → pieces_of longer ≡ whole_piece longer → length longer ≡ max_line_len → by_lines s (take (through_line s.line bytes) bytes) ≡ refusal s
full_talk s bytes longer n t on open_line full =
    let test : nat_le max_line_len (length longer) ≡ true = grind (arith, nat_tests) in
    let waits : wait s longer ≡ refusal s = rw (on, test) refl in
    let front : by_lines s (take n bytes) ≡ refusal s = ap (λ (x : List ℕ). talk_in s (pieces_of x)) (sym t.is) ∙ ap (talk_in s) open_line ∙ waits in
    let m : ℕ = through_line s.line bytes - n in
    let sum : through_line s.line bytes ≡ n + m = let le : n ≤ through_line s.line bytes = full_len s.line bytes longer n t open_line in omega arith in
    let cut : take (through_line s.line bytes) bytes ≡ take n bytes ++ take m (drop n bytes) = ap (λ (k : ℕ). take k bytes) sum ∙ take-add n m bytes in
    ap (by_lines s) cut
    ∙ lines_in_cuts s (take n bytes) (take m (drop n bytes))
    ∙ ap (λ (x : Outcome). after x.answers (by_lines x.standing (take m (drop n bytes)))) front
    ∙ over_stays (at_stage s Failed) (pieces_of (take m (drop n bytes))).first (pieces_of (take m (drop n bytes))).later refl

-- what a whole line comes to
pub ended_fed : (s : Standing) (bytes longer text : List ℕ) (n : ℕ) (answer : Outcome) → Takes s.line bytes longer n → is_over s.stage ≡ false → 2 ≤ length longer → pieces_of longer ≡ ended_piece longer
    → text ≡ take (length longer - 2) longer → hear (with_line s []) text ≡ answer → by_lines s (take (through_line s.line bytes) bytes) ≡ answer
ended_fed s bytes longer text n answer t on long_enough ends text_is gives =
    let aside : hear s text ≡ hear (with_line s []) text = rw on refl in
    ap (λ (k : ℕ). by_lines s (take k bytes)) (sym (ended_len s.line bytes longer n t long_enough ends))
    ∙ ended_talk s bytes longer n t on ends
    ∙ ap (hear s) (sym text_is)
    ∙ aside
    ∙ gives
