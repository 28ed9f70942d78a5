-- Numbers by their bytes: what is left of a number after its lowest bytes, and the bytes of numbers as they lie in messages.
use Rattle.std.proofs.Common.{◌≡◌, ℕ, zero, suc, ◌+◌, ◌/◌, ◌%◌, ◌<◌, ◌↔◌, refl, ap, ◌∙◌, arith, slice_index}
use Rattle.std.specs.Int.{byte_at, bytes_low_first}

-- without its lowest j bytes
abbrev pub high : ℕ → ℕ → ℕ
high zero n = n
high (suc j) n = high j n / 256

-- what is less without its lowest bytes is less
pub high_less : (j a b : ℕ) → high j a < high j b → a < b
high_less zero a b less = less
high_less (suc j) a b less = high_less j a b (omega (arith, less))

-- of two numbers that are alike above a byte the byte decides
pub byte_decides : (x y : ℕ) → x / 256 ≡ y / 256 → ((y % 256 < x % 256) ↔ (y < x)) × ((x % 256 ≡ y % 256) ↔ (x ≡ y))
byte_decides x y same = (
  (λ less. omega (arith, same, less), λ less. omega (arith, same, less)),
  (λ e. omega (arith, same, e), λ e. omega (arith, e)),
)

-- a byte of a number
pub byte_high : (j n : ℕ) → j < 8 → byte_at j n ≡ high j n % 256
byte_high zero n small = refl
byte_high (suc zero) n small = refl
byte_high (suc (suc zero)) n small = omega arith
byte_high (suc (suc (suc zero))) n small = omega arith
byte_high (suc (suc (suc (suc zero)))) n small = omega arith
byte_high (suc (suc (suc (suc (suc zero))))) n small = omega arith
byte_high (suc (suc (suc (suc (suc (suc zero)))))) n small = omega arith
byte_high (suc (suc (suc (suc (suc (suc (suc zero))))))) n small = omega arith
byte_high (suc (suc (suc (suc (suc (suc (suc (suc j)))))))) n small = absurd (omega (arith, small))

-- the byte at a place, the lowest first
pub low_first_at : (i k j n : ℕ) → j < k → slice_index (bytes_low_first i k n) j ≡ byte_at (i + j) n
low_first_at i zero j n inside = absurd (omega (arith, inside))
low_first_at i (suc k) zero n inside = let e : i ≡ i + 0 = omega arith in ap (λ (i : ℕ). byte_at i n) e
low_first_at i (suc k) (suc j) n inside =
    let e : suc i + j ≡ i + suc j = omega arith in
    low_first_at (suc i) k j n (omega (arith, inside)) ∙ ap (λ (i : ℕ). byte_at i n) e
