-- What loads give of a number that lies in an image, in either byte order.
use Rattle.std.proofs.Common.{◌≡◌, ℕ, zero, suc, ◌+◌, ◌/◌, ◌%◌, ◌^◌, ◌<◌, List, length, Some, refl, ap, ◌∙◌, arith}
use Rattle.std.specs.Int.{byte_at, bytes_low_first, bytes_high_first}
use Rattle.bpf_code.specs.Loads.{load}
use Rattle.bpf_code.specs.declared.operation.Width.TheVariants.{Word, Half, Byte}
use Rattle.summary.specs.Shown.{Lies}
use Rattle.rule_compile.specs.Code.{half_number, four}
use Rattle.filter_compile.proofs.HighBytes.{low_first_at}
use Rattle.filter_compile.proofs.Units.{unit_loads}

low_len : (i k n : ℕ) → length (bytes_low_first i k n) ≡ k
low_len i zero n = refl
low_len i (suc k) n = let h = low_len (suc i) k n in omega (arith, h)

-- the lowest byte first
pub little_loads : (image : List ℕ) (place k n i : ℕ) → Lies image place (bytes_low_first 0 k n) → i < k → load Byte image (place + i) ≡ Some (byte_at i n)
little_loads image place k n i lies inside =
    let len = low_len 0 k n in
    let e : 0 + i ≡ i = omega arith in
    unit_loads Byte image place (bytes_low_first 0 k n) i lies (omega (arith, len, inside))
    ∙ ap (λ (b : ℕ). Some b) (low_first_at 0 k i n inside ∙ ap (λ (j : ℕ). byte_at j n) e)

-- four bytes of a number
four_low : (n : ℕ) → four (byte_at 3 n) (byte_at 2 n) (byte_at 1 n) (byte_at 0 n) ≡ n % 2 ^ 32
four_low n = omega arith

four_high : (n : ℕ) → n < 2 ^ 64 → four (byte_at 7 n) (byte_at 6 n) (byte_at 5 n) (byte_at 4 n) ≡ n / 2 ^ 32
four_high n small = omega (arith, small)

-- the highest byte first
pub big_eight_high : (image : List ℕ) (place n : ℕ) → Lies image place (bytes_high_first 8 n) → n < 2 ^ 64 → load Word image (place + 0) ≡ Some (n / 2 ^ 32)
big_eight_high image place n lies small =
    unit_loads Word image place (bytes_high_first 8 n) 0 lies (omega arith) ∙ ap (λ (w : ℕ). Some w) (four_high n small)

pub big_eight_low : (image : List ℕ) (place n : ℕ) → Lies image place (bytes_high_first 8 n) → load Word image (place + 4) ≡ Some (n % 2 ^ 32)
big_eight_low image place n lies =
    unit_loads Word image place (bytes_high_first 8 n) 4 lies (omega arith) ∙ ap (λ (w : ℕ). Some w) (four_low n)

pub big_four : (image : List ℕ) (place n : ℕ) → Lies image place (bytes_high_first 4 n) → n < 2 ^ 32 → load Word image (place + 0) ≡ Some n
big_four image place n lies small =
    let e : n % 2 ^ 32 ≡ n = omega (arith, small) in
    unit_loads Word image place (bytes_high_first 4 n) 0 lies (omega arith) ∙ ap (λ (w : ℕ). Some w) (four_low n ∙ e)

pub big_two : (image : List ℕ) (place n : ℕ) → Lies image place (bytes_high_first 2 n) → n < 2 ^ 16 → load Half image (place + 0) ≡ Some n
big_two image place n lies small =
    let e : half_number (byte_at 1 n) (byte_at 0 n) ≡ n = omega (arith, small) in
    unit_loads Half image place (bytes_high_first 2 n) 0 lies (omega arith) ∙ ap (λ (w : ℕ). Some w) e

pub big_one : (image : List ℕ) (place n : ℕ) → Lies image place (bytes_high_first 1 n) → load Byte image (place + 0) ≡ Some (byte_at 0 n)
big_one image place n lies = unit_loads Byte image place (bytes_high_first 1 n) 0 lies (omega arith)

-- the highest byte, by which the sign is told
pub big_top : (image : List ℕ) (place k n : ℕ) → Lies image place (bytes_high_first (suc k) n) → load Byte image (place + 0) ≡ Some (byte_at k n)
big_top image place k n lies = unit_loads Byte image place (bytes_high_first (suc k) n) 0 lies (omega arith)
