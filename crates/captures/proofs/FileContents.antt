-- What calls of the reader gave is what the file contains.
use Rattle.std.proofs.Common.{◌≡◌, ℕ, zero, suc, ◌-◌, ◌<◌, ◌≤◌, true, List, [], ◌∷◌, ◌++◌, length, drop, Result, Ok, Err, refl, sym, ap, ◌∙◌, arith, append_assoc}
use Rattle.std.proofs.lemmas.List.{drop-append-le}
use Rattle.captures.specs.declared.error.CaptureError.{CaptureError}
use Rattle.captures.specs.declared.step.Step.{Step}
use Rattle.captures.specs.declared.step.Step.TheVariants.{Message, Other, Skip, More}
use Rattle.captures.specs.declared.packets.Format.{Format}
use Rattle.captures.specs.declared.packets.Format.TheVariants as formats
use Rattle.captures.specs.Reading.{Reading, Progress, step_in, step_at}
use Rattle.captures.specs.Contents.{Contents, len_of, takes, IsWithin, ahead, ending, by_step, by_progress, contents_past, contents_of, Call, bytes_of, AreCalls, all_ahead}
use Rattle.captures.proofs.Parts.{same_part}
use Rattle.captures.proofs.StepsStay.{is_taken, step_stays}
use Rattle.captures.proofs.StepsWithin.{step_within}

past : (reading : Reading) (k : ℕ) (bytes : List ℕ) → contents_past k reading bytes ≡ contents_past 0 reading (drop k bytes)
past reading zero bytes = refl
past reading (suc k) [] = refl
past reading (suc k) (byte ∷ rest) = past reading k rest

-- nothing is progress of no bytes, and no fault is in them
none_taken : (reading : Reading) → is_taken (step_at reading []) ≡ true → ⊥
none_taken reading settled = go reading.format settled
  where
    go : (format : Format) → is_taken (step_in format reading []) ≡ true → ⊥
    go formats.Unread settled = cc
    go (formats.Pcap order unit) settled = cc
    go (formats.Pcapng order) settled = cc

-- a step that takes some bytes leaves those after it
shifted : (after : Reading) (len byte : ℕ) (rest : List ℕ) → 0 < len → contents_past (len - 1) after rest ≡ contents_of after (drop len (byte ∷ rest))
shifted after zero byte rest some = absurd (omega arith)
shifted after (suc k) byte rest some =
    ap (λ (n : ℕ). contents_past n after rest) (let e : suc k - 1 ≡ k = omega arith in e) ∙ past after k rest

step_ahead : (step : Step) (after : Reading) (byte : ℕ) (rest : List ℕ) → takes step ≡ true → 0 < len_of step
    → by_step step (byte ∷ rest) (λ len. contents_past (len - 1) after rest) ≡ ahead step (byte ∷ rest) (contents_of after (drop (len_of step) (byte ∷ rest)))
step_ahead (Message packet) after byte rest takes some = ap (ahead (Message packet) (byte ∷ rest)) (shifted after packet.len byte rest some)
step_ahead (Other len link_type) after byte rest takes some = ap (ahead (Other len link_type) (byte ∷ rest)) (shifted after len byte rest some)
step_ahead (Skip len) after byte rest takes some = shifted after len byte rest some
step_ahead (More len) after byte rest takes some = absurd cc

some_taken : (bytes : List ℕ) (step : Step) → takes step ≡ true → IsWithin bytes step → (0 < len_of step) × (len_of step ≤ length bytes)
some_taken bytes (Message packet) takes within = (within.0, within.3)
some_taken bytes (Other len link_type) takes within = within
some_taken bytes (Skip len) takes within = within
some_taken bytes (More len) takes within = absurd cc

same_ahead : (step : Step) (bytes more : List ℕ) (later : Contents) → IsWithin bytes step → ahead step (bytes ++ more) later ≡ ahead step bytes later
same_ahead (Message packet) bytes more later within =
    ap (λ (message : List ℕ). let all : Contents = record { messages = record { message = message; time = packet.time; is_cut = packet.is_cut } ∷ later.messages; passed_over = later.passed_over; fault = later.fault } in all)
    (same_part bytes more packet.start packet.end within.1 (omega (arith, within.2, within.3)))
same_ahead (Other len link_type) bytes more later within = refl
same_ahead (Skip len) bytes more later within = refl
same_ahead (More len) bytes more later within = refl

pub one_call : (reading : Reading) (progress : Progress) (bytes more : List ℕ) → step_at reading bytes ≡ Ok progress → takes progress.step ≡ true
    → contents_of reading (bytes ++ more) ≡ ahead progress.step bytes (contents_of progress.after (drop (len_of progress.step) bytes ++ more))
one_call reading progress [] more e some = absurd (none_taken reading (ap is_taken e ∙ some))
one_call reading progress (byte ∷ rest) more e some =
    let within : IsWithin (byte ∷ rest) progress.step = step_within reading (byte ∷ rest) progress e in
    let lens = some_taken (byte ∷ rest) progress.step some within in
    ap (λ (r : Result Progress CaptureError). by_progress r (byte ∷ (rest ++ more)) (λ after len. contents_past (len - 1) after (rest ++ more))) (step_stays reading (byte ∷ rest) more (ap is_taken e ∙ some) ∙ e)
    ∙ step_ahead progress.step progress.after byte (rest ++ more) some lens.0
    ∙ same_ahead progress.step (byte ∷ rest) more _ within
    ∙ ap (λ (left : List ℕ). ahead progress.step (byte ∷ rest) (contents_of progress.after left)) (drop-append-le (len_of progress.step) (byte ∷ rest) more lens.1)

pub fault_stays : (reading : Reading) (bytes more : List ℕ) (fault : CaptureError) → step_at reading bytes ≡ Err fault → contents_of reading (bytes ++ more) ≡ ending (Err fault)
fault_stays reading [] more fault e = absurd (none_taken reading (ap is_taken e))
fault_stays reading (byte ∷ rest) more fault e =
    ap (λ (r : Result Progress CaptureError). by_progress r (byte ∷ (rest ++ more)) (λ after len. contents_past (len - 1) after (rest ++ more))) (step_stays reading (byte ∷ rest) more (ap is_taken e) ∙ e)

pub calls_first : (calls : List Call) (reading last : Reading) (unread left more : List ℕ) → AreCalls calls reading unread last left
    → contents_of reading (unread ++ (bytes_of calls ++ more)) ≡ all_ahead calls unread (contents_of last (left ++ more))
calls_first [] reading last unread left more (same, unread_is) =
    ap (λ (r : Reading). contents_of r (unread ++ more)) same ∙ ap (λ (u : List ℕ). contents_of last (u ++ more)) unread_is
calls_first (call ∷ calls) reading last unread left more (e, some, are) =
    let bytes = unread ++ call.piece in
    let rest = bytes_of calls ++ more in
    let joined : unread ++ ((call.piece ++ bytes_of calls) ++ more) ≡ bytes ++ rest = ap (λ (x : List ℕ). unread ++ x) (append_assoc call.piece (bytes_of calls) more) ∙ sym (append_assoc unread call.piece rest) in
    ap (contents_of reading) joined ∙ one_call reading call.progress bytes rest e some
    ∙ ap (ahead call.progress.step bytes) (calls_first calls call.progress.after last (drop (len_of call.progress.step) bytes) left more are)
