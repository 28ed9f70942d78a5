-- Files that were written are read.
use Rattle.std.proofs.Common.{◌≡◌, ℕ, ◌+◌, ◌-◌, ◌*◌, ◌/◌, ◌%◌, ◌≤◌, Bool, false, List, [], ◌∷◌, ◌++◌, length, drop, take, map, Some, None, Result, Ok, refl, ap, ◌∙◌, arith, length-append}
use Rattle.std.specs.Prelude.{nat_lt, slice_range}
use Rattle.std.proofs.lemmas.Bool.{le-ltb}
use Rattle.std.proofs.lemmas.Nat.{from_le_bytes-to_le_bytes_4}
use Rattle.std.proofs.lemmas.List.{drop_all, take_all}
use Rattle.captures.specs.declared.order.Order.TheVariants.{Little}
use Rattle.captures.specs.declared.step.Step.TheVariants.{Message, Skip}
use Rattle.captures.specs.declared.error.CaptureError.{CaptureError}
use Rattle.captures.specs.declared.pcap.TimeUnit.{TimeUnit}
use Rattle.captures.specs.declared.pcap.TimeUnit.TheVariants.{Micro, Nano}
use Rattle.captures.specs.declared.packets.Format.TheVariants as formats
use Rattle.captures.specs.Numbers.{word}
use Rattle.captures.specs.Pcap.{nanoseconds}
use Rattle.captures.specs.Reading.{Reading, Progress, start, staying, step_at}
use Rattle.captures.specs.Contents.{Contents, contents, contents_of, ahead}
use Rattle.captures.specs.Writing.{header_bytes, record_bytes, Record, Fits, AllFit, records_of, file_of, message_again, contents_again}
use Rattle.captures.proofs.Choices.{fails}
use Rattle.captures.proofs.FileContents.{one_call}
use Rattle.captures.proofs.StepsStay.{record_as}

-- after the header
abbrev after_header : TimeUnit → Reading
after_header unit = record { format = formats.Pcap Little unit; interfaces = [] }

header_read : (unit : TimeUnit) → step_at start (header_bytes unit) ≡ Ok (record { step = Skip 24; after = after_header unit })
header_read Micro = refl
header_read Nano = refl

words_read : (unit : TimeUnit) (time len : ℕ) (message : List ℕ) → time ≤ 4294967295999999999 → len ≤ 134217728
    → (word Little (record_bytes unit time len ++ message) 0 ≡ time / 1000000000) × (word Little (record_bytes unit time len ++ message) 4 ≡ time % 1000000000 / nanoseconds unit)
    × (word Little (record_bytes unit time len ++ message) 8 ≡ len) × (word Little (record_bytes unit time len ++ message) 12 ≡ len)
words_read Micro time len message early small =
    (from_le_bytes-to_le_bytes_4 (time / 1000000000) (omega arith), from_le_bytes-to_le_bytes_4 (time % 1000000000 / 1000) (omega arith), from_le_bytes-to_le_bytes_4 len (omega arith), from_le_bytes-to_le_bytes_4 len (omega arith))
words_read Nano time len message early small =
    (from_le_bytes-to_le_bytes_4 (time / 1000000000) (omega arith), from_le_bytes-to_le_bytes_4 (time % 1000000000 / 1) (omega arith), from_le_bytes-to_le_bytes_4 len (omega arith), from_le_bytes-to_le_bytes_4 len (omega arith))

-- the record of a message, as one of its words
abbrev progress_again : TimeUnit → Record → Progress
progress_again unit entry = record { step = Message (record { len = 16 + length entry.message; start = 16; end = 16 + length entry.message; time = Some (entry.time / nanoseconds unit * nanoseconds unit); is_cut = false }); after = after_header unit }

abbrev record_of : TimeUnit → Record → List ℕ
record_of unit entry = record_bytes unit entry.time (length entry.message) ++ entry.message

whole_units : (unit : TimeUnit) (time : ℕ) → time / 1000000000 * 1000000000 + time % 1000000000 / nanoseconds unit * nanoseconds unit ≡ time / nanoseconds unit * nanoseconds unit
whole_units Micro time = omega arith
whole_units Nano time = omega arith

-- a record of these words, all of which is there
abbrev read_as : TimeUnit → ℕ → ℕ → ℕ → ℕ → ℕ → Result Progress CaptureError
read_as unit have seconds fraction captured original = staying (after_header unit) (record_as unit have seconds fraction captured original)

record_read : (unit : TimeUnit) (entry : Record) → Fits entry → step_at (after_header unit) (record_of unit entry) ≡ Ok (progress_again unit entry)
record_read unit entry fits =
    let bytes = record_of unit entry in
    let n = length entry.message in
    let words = words_read unit entry.time n entry.message fits.time fits.message in
    let have : length bytes ≡ 16 + n = length-append (record_bytes unit entry.time n) entry.message in
    let sixteen : nat_lt (length bytes) 16 ≡ false = le-ltb (length bytes) 16 (omega (arith, have)) in
    let there : nat_lt (length bytes) (16 + n) ≡ false = le-ltb (length bytes) (16 + n) (omega (arith, have)) in
    let small : nat_lt 134217728 n ≡ false = le-ltb 134217728 n fits.message in
    let whole : nat_lt n n ≡ false = le-ltb n n (omega arith) in
    ap (staying (after_header unit)) (fails (nat_lt (length bytes) 16) _ _ sixteen)
    ∙ ap (λ (w : ℕ). read_as unit (length bytes) w (word Little bytes 4) (word Little bytes 8) (word Little bytes 12)) words.0
    ∙ ap (λ (w : ℕ). read_as unit (length bytes) (entry.time / 1000000000) w (word Little bytes 8) (word Little bytes 12)) words.1
    ∙ ap (λ (w : ℕ). read_as unit (length bytes) (entry.time / 1000000000) (entry.time % 1000000000 / nanoseconds unit) w (word Little bytes 12)) words.2
    ∙ ap (λ (w : ℕ). read_as unit (length bytes) (entry.time / 1000000000) (entry.time % 1000000000 / nanoseconds unit) n w) words.3
    ∙ ap (staying (after_header unit)) (fails (nat_lt 134217728 n) _ _ small ∙ fails (nat_lt (length bytes) (16 + n)) _ _ there)
    ∙ ap (λ (time : ℕ). let r : Result Progress CaptureError = Ok (record { step = Message (record { len = 16 + n; start = 16; end = 16 + n; time = Some time; is_cut = nat_lt n n }); after = after_header unit }) in r) (whole_units unit entry.time)
    ∙ ap (λ (cut : Bool). let r : Result Progress CaptureError = Ok (record { step = Message (record { len = 16 + n; start = 16; end = 16 + n; time = Some (entry.time / nanoseconds unit * nanoseconds unit); is_cut = cut }); after = after_header unit }) in r) whole

-- what stands in a record is its message, and nothing is left of it
message_there : (unit : TimeUnit) (entry : Record) → slice_range (record_of unit entry) 16 (16 + length entry.message) ≡ entry.message
message_there unit entry =
    let n = length entry.message in
    ap (λ (k : ℕ). take k entry.message) (let e : 16 + n - 16 ≡ n = omega arith in e) ∙ take_all n entry.message (omega arith)

nothing_left : (unit : TimeUnit) (entry : Record) (more : List ℕ) → drop (16 + length entry.message) (record_of unit entry) ++ more ≡ more
nothing_left unit entry more =
    let n = length entry.message in
    ap (λ (left : List ℕ). left ++ more) (drop_all (16 + n) (record_of unit entry) (omega (arith, length-append (record_bytes unit entry.time n) entry.message)))

records_read : (unit : TimeUnit) (all : List Record) → AllFit all → contents_of (after_header unit) (records_of unit all) ≡ contents_again unit all
records_read unit [] fit = refl
records_read unit (entry ∷ later) (fits, fit) =
    one_call (after_header unit) (progress_again unit entry) (record_of unit entry) (records_of unit later) (record_read unit entry fits) refl
    ∙ ap (λ (left : List ℕ). ahead (progress_again unit entry).step (record_of unit entry) (contents_of (after_header unit) left)) (nothing_left unit entry (records_of unit later))
    ∙ ap (ahead (progress_again unit entry).step (record_of unit entry)) (records_read unit later fit)
    ∙ ap (λ (message : List ℕ). let c : Contents = record { messages = record { message = message; time = Some (entry.time / nanoseconds unit * nanoseconds unit); is_cut = false } ∷ map (message_again unit) later; passed_over = 0; fault = None } in c) (message_there unit entry)

pub file_read : (unit : TimeUnit) (all : List Record) → AllFit all → contents (file_of unit all) ≡ contents_again unit all
file_read unit all fit =
    one_call start (record { step = Skip 24; after = after_header unit }) (header_bytes unit) (records_of unit all) (header_read unit) refl
    ∙ after unit
    ∙ records_read unit all fit
  where
    after : (u : TimeUnit) → contents_of (after_header unit) (drop 24 (header_bytes u) ++ records_of unit all) ≡ contents_of (after_header unit) (records_of unit all)
    after Micro = refl
    after Nano = refl
