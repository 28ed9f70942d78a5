-- A step that took something, or a fault, stays the same, whatever comes after the bytes.
use Rattle.std.proofs.Common.{◌≡◌, ℕ, ◌+◌, ◌*◌, ◌%◌, ◌≤◌, Bool, true, false, not, cond, List, ◌++◌, length, Option, Some, None, Result, Ok, Err, refl, ap, ◌∙◌, arith}
use Rattle.std.specs.Prelude.{nat_lt, ◌==◌, ◌&&◌, IfOk}
use Rattle.std.proofs.lemmas.Bool.{ltb-false}
use Rattle.captures.specs.declared.order.Order.{Order}
use Rattle.captures.specs.declared.order.Order.TheVariants.{Big}
use Rattle.captures.specs.declared.error.CaptureError.{CaptureError}
use Rattle.captures.specs.declared.error.CaptureError.TheVariants as faults
use Rattle.captures.specs.declared.step.Step.{Step}
use Rattle.captures.specs.declared.step.Step.TheVariants.{Message, More}
use Rattle.captures.specs.declared.magic.Magic.{Magic}
use Rattle.captures.specs.declared.magic.Magic.TheVariants as magics
use Rattle.captures.specs.declared.pcap.TimeUnit.{TimeUnit}
use Rattle.captures.specs.declared.block.Framing.{Framing}
use Rattle.captures.specs.declared.block.Framing.TheVariants.{Wants, Whole}
use Rattle.captures.specs.declared.packets.Format.{Format}
use Rattle.captures.specs.declared.packets.Format.TheVariants as formats
use Rattle.captures.specs.Numbers.{half, word}
use Rattle.captures.specs.Pcap.{nanoseconds, header_fault, magic_of, record_at}
use Rattle.captures.specs.Blocks.{framing_at}
use Rattle.captures.specs.BlockLengths.{IsFramed}
use Rattle.captures.specs.Reading.{Reading, Progress, staying, heading, block_step, body_step, header_step, first_of, first_step, step_in, step_at}
use Rattle.captures.specs.Contents.{takes}
use Rattle.captures.proofs.Choices.{Stays, stays_past}
use Rattle.captures.proofs.Grown.{same_word, same_half, still_enough, is_framed, framing_stays}
use Rattle.captures.proofs.Parts.{framing_there, same_body}

abbrev pub is_taken : Result Progress CaptureError → Bool
is_taken (Err fault) = true
is_taken (Ok progress) = takes progress.step

abbrev is_answered : Result Step CaptureError → Bool
is_answered (Err fault) = true
is_answered (Ok step) = takes step

staying_stays : (reading : Reading) (x y : Result Step CaptureError) → Stays is_answered x y → Stays is_taken (staying reading x) (staying reading y)
staying_stays reading (Err fault) y stays settled = ap (staying reading) (stays refl)
staying_stays reading (Ok step) y stays settled = ap (staying reading) (stays settled)

-- ---- pcap

-- a record of these words
abbrev pub record_as : TimeUnit → ℕ → ℕ → ℕ → ℕ → ℕ → Result Step CaptureError
record_as unit have seconds fraction captured original =
    cond (nat_lt 134217728 captured) (Err faults.RecordLength)
    (cond (nat_lt have (16 + captured)) (Ok (More (16 + captured)))
    (Ok (Message (record { len = 16 + captured; start = 16; end = 16 + captured; time = Some (seconds * 1000000000 + fraction * nanoseconds unit); is_cut = nat_lt captured original }))))

record_as_stays : (unit : TimeUnit) (bytes more : List ℕ) (seconds fraction captured original : ℕ) → Stays is_answered (record_as unit (length bytes) seconds fraction captured original) (record_as unit (length (bytes ++ more)) seconds fraction captured original)
record_as_stays unit bytes more seconds fraction captured original = go (nat_lt 134217728 captured)
  where
    go : (b : Bool) → Stays is_answered (cond b (Err faults.RecordLength) (cond (nat_lt (length bytes) (16 + captured)) (Ok (More (16 + captured))) (Ok (Message (record { len = 16 + captured; start = 16; end = 16 + captured; time = Some (seconds * 1000000000 + fraction * nanoseconds unit); is_cut = nat_lt captured original })))))
        (cond b (Err faults.RecordLength) (cond (nat_lt (length (bytes ++ more)) (16 + captured)) (Ok (More (16 + captured))) (Ok (Message (record { len = 16 + captured; start = 16; end = 16 + captured; time = Some (seconds * 1000000000 + fraction * nanoseconds unit); is_cut = nat_lt captured original })))))
    go true settled = refl
    go false settled = stays_past is_answered (nat_lt (length bytes) (16 + captured)) _ _ _ _ refl (still_enough bytes more (16 + captured)) (λ _ _. refl) settled

record_stays : (order : Order) (unit : TimeUnit) (bytes more : List ℕ) → Stays is_answered (record_at order unit bytes) (record_at order unit (bytes ++ more))
record_stays order unit bytes more =
    stays_past is_answered (nat_lt (length bytes) 16) _ _ _ _ refl (still_enough bytes more 16) (λ (enough : nat_lt (length bytes) 16 ≡ false) settled.
    let le : 16 ≤ length bytes = ltb-false (length bytes) 16 enough in
    let a : word order (bytes ++ more) 0 ≡ word order bytes 0 = same_word order bytes more 0 (omega arith) in
    let b : word order (bytes ++ more) 4 ≡ word order bytes 4 = same_word order bytes more 4 (omega arith) in
    let c : word order (bytes ++ more) 8 ≡ word order bytes 8 = same_word order bytes more 8 (omega arith) in
    let d : word order (bytes ++ more) 12 ≡ word order bytes 12 = same_word order bytes more 12 (omega arith) in
    let have = length (bytes ++ more) in
    ap (λ (n : ℕ). record_as unit have n (word order (bytes ++ more) 4) (word order (bytes ++ more) 8) (word order (bytes ++ more) 12)) a
    ∙ ap (λ (n : ℕ). record_as unit have (word order bytes 0) n (word order (bytes ++ more) 8) (word order (bytes ++ more) 12)) b
    ∙ ap (λ (n : ℕ). record_as unit have (word order bytes 0) (word order bytes 4) n (word order (bytes ++ more) 12)) c
    ∙ ap (λ (n : ℕ). record_as unit have (word order bytes 0) (word order bytes 4) (word order bytes 8) n) d
    ∙ record_as_stays unit bytes more (word order bytes 0) (word order bytes 4) (word order bytes 8) (word order bytes 12) settled)

-- the fault of a header of these words
abbrev fault_as : ℕ → ℕ → ℕ → Option CaptureError
fault_as major minor link =
    cond (not (major == 2 && minor == 4)) (Some faults.Version)
    (cond (not (link % 268435456 == 231)) (Some (faults.LinkType (link % 268435456))) None)

same_fault : (order : Order) (bytes more : List ℕ) → 24 ≤ length bytes → header_fault order (bytes ++ more) ≡ header_fault order bytes
same_fault order bytes more le =
    ap (λ (n : ℕ). fault_as n (half order (bytes ++ more) 6) (word order (bytes ++ more) 20)) (same_half order bytes more 4 (omega arith))
    ∙ ap (λ (n : ℕ). fault_as (half order bytes 4) n (word order (bytes ++ more) 20)) (same_half order bytes more 6 (omega arith))
    ∙ ap (λ (n : ℕ). fault_as (half order bytes 4) (half order bytes 6) n) (same_word order bytes more 20 (omega arith))

header_stays : (reading : Reading) (order : Order) (unit : TimeUnit) (bytes more : List ℕ) → Stays is_taken (header_step reading order unit bytes) (header_step reading order unit (bytes ++ more))
header_stays reading order unit bytes more =
    stays_past is_taken (nat_lt (length bytes) 24) _ _ _ _ refl (still_enough bytes more 24) (λ (enough : nat_lt (length bytes) 24 ≡ false) settled.
    ap (heading 24 (record { format = formats.Pcap order unit; interfaces = reading.interfaces })) (same_fault order bytes more (ltb-false (length bytes) 24 enough)))

-- ---- pcapng

-- only a whole block, or a fault, is more than a wish for more bytes
framed_where_taken : (reading : Reading) (bytes : List ℕ) (framing : Result Framing CaptureError) → is_taken (block_step reading bytes framing) ≡ true → is_framed framing ≡ true
framed_where_taken reading bytes (Err fault) settled = refl
framed_where_taken reading bytes (Ok (Wants len)) settled = settled
framed_where_taken reading bytes (Ok (Whole block)) settled = refl

same_block : (reading : Reading) (bytes more : List ℕ) (framing : Result Framing CaptureError) → IfOk framing (IsFramed bytes) → block_step reading (bytes ++ more) framing ≡ block_step reading bytes framing
same_block reading bytes more (Err fault) there = refl
same_block reading bytes more (Ok (Wants len)) there = refl
same_block reading bytes more (Ok (Whole block)) there = ap (body_step block.kind reading block) (same_body block bytes more there.0 there.1)

block_stays : (reading : Reading) (order : Order) (bytes more : List ℕ) → Stays is_taken (block_step reading bytes (framing_at order bytes)) (block_step reading (bytes ++ more) (framing_at order (bytes ++ more)))
block_stays reading order bytes more settled =
    ap (block_step reading (bytes ++ more)) (framing_stays order bytes more (framed_where_taken reading bytes (framing_at order bytes) settled))
    ∙ same_block reading bytes more (framing_at order bytes) (framing_there order bytes)

-- ---- both

first_of_stays : (reading : Reading) (bytes more : List ℕ) (magic : Option Magic) → Stays is_taken (first_of reading bytes magic) (first_of reading (bytes ++ more) magic)
first_of_stays reading bytes more None settled = refl
first_of_stays reading bytes more (Some (magics.Pcap order unit)) settled = header_stays reading order unit bytes more settled
first_of_stays reading bytes more (Some magics.Pcapng) settled = block_stays reading Big bytes more settled

first_stays : (reading : Reading) (bytes more : List ℕ) → Stays is_taken (first_step reading bytes) (first_step reading (bytes ++ more))
first_stays reading bytes more =
    stays_past is_taken (nat_lt (length bytes) 4) _ _ _ _ refl (still_enough bytes more 4) (λ (enough : nat_lt (length bytes) 4 ≡ false) settled.
    ap (λ (w : ℕ). first_of reading (bytes ++ more) (magic_of w)) (same_word Big bytes more 0 (ltb-false (length bytes) 4 enough))
    ∙ first_of_stays reading bytes more (magic_of (word Big bytes 0)) settled)

step_in_stays : (format : Format) (reading : Reading) (bytes more : List ℕ) → Stays is_taken (step_in format reading bytes) (step_in format reading (bytes ++ more))
step_in_stays formats.Unread reading bytes more settled = first_stays reading bytes more settled
step_in_stays (formats.Pcap order unit) reading bytes more settled = staying_stays reading (record_at order unit bytes) (record_at order unit (bytes ++ more)) (record_stays order unit bytes more) settled
step_in_stays (formats.Pcapng order) reading bytes more settled = block_stays reading order bytes more settled

pub step_stays : (reading : Reading) (bytes more : List ℕ) → is_taken (step_at reading bytes) ≡ true → step_at reading (bytes ++ more) ≡ step_at reading bytes
step_stays reading bytes more settled = step_in_stays reading.format reading bytes more settled
