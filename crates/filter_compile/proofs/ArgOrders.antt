-- What is compared from the entries on, in a message of type `l` and in one of type `B`.
use Rattle.std.proofs.Common.{ℕ, ◌+◌, ◌/◌, ◌%◌, ◌^◌, List, [], length, refl}
use Rattle.bpf_code.specs.declared.instruction.Ins.{Ins}
use Rattle.bpf_code.specs.declared.operation.Test.{Test}
use Rattle.bpf_code.specs.declared.operation.Width.TheVariants as widths
use Rattle.rule_compile.proofs.Bytes.{At}
use Rattle.filter_compile.specs.ArgCode.{ladder, wide, littles, bigs}
use Rattle.filter_compile.specs.Pieces.{indexed_test}
use Rattle.filter_compile.specs.declared.exits.Exits.{Exits}
use Rattle.filter_compile.proofs.ArgSizes.{decides_piece, ladder_grows}
use Rattle.filter_compile.proofs.Entries.{Decides, decides_on}
use Rattle.filter_compile.proofs.Ladders.{extends_ladder, extends_rung}
use Rattle.filter_compile.proofs.TwoExits.{Before, joined, Tests, extends_indexed}

module _ (image : List ℕ) (place : ℕ) (base : List Ins) (exits : Exits) (test : Test) (k : ℕ) where
  abbrev Decided : List Ins → ℕ → Type 0 → Type 0
  Decided code entry C = Decides image (At place) base exits code entry C

  -- ---- type `l`

  pub upon_littles : Before base (littles test k exits base).code
  upon_littles = extends_ladder test k 7 exits base

  -- the lowest bytes, from their entry in the whole ladder on
  low : (d j : ℕ) (C : Type 0) → Tests image (At place) C (ladder test k j) → Decided (ladder test k (d + j) exits base) (length (ladder test k j exits base)) C
  low d j C t =
      decides_on image (At place) base exits (ladder test k j exits base) (ladder test k (d + j) exits base) (length (ladder test k j exits base)) C (ladder_grows test k d j exits base) (decides_piece image (At place) base exits base C (ladder test k j) ([], refl) t)

  pub little_decides_one : (C : Type 0) → Tests image (At place) C (ladder test k 0) → Decided (littles test k exits base).code (littles test k exits base).sizes.one C
  little_decides_one C t = low 7 0 C t

  pub little_decides_two : (C : Type 0) → Tests image (At place) C (ladder test k 1) → Decided (littles test k exits base).code (littles test k exits base).sizes.two C
  little_decides_two C t = low 6 1 C t

  pub little_decides_four : (C : Type 0) → Tests image (At place) C (ladder test k 3) → Decided (littles test k exits base).code (littles test k exits base).sizes.four C
  little_decides_four C t = low 4 3 C t

  pub little_decides_eight : (C : Type 0) → Tests image (At place) C (ladder test k 7) → Decided (littles test k exits base).code (littles test k exits base).sizes.eight C
  little_decides_eight C t = low 0 7 C t

  -- ---- type `B`, in front of a code

  module _ (one : ℕ) (rest : List Ins) (above : Before base rest) where
    eight : List Ins
    eight = wide test k exits rest

    four : List Ins
    four = indexed_test widths.Word 0 test (k % 2 ^ 32) exits eight

    grows_eight : Before rest eight
    unfolding eight
    grows_eight = extends_rung test widths.Word 0 (k / 2 ^ 32) (indexed_test widths.Word 4 test (k % 2 ^ 32)) (extends_indexed widths.Word 4 test (k % 2 ^ 32)) exits rest

    upon_eight : Before base eight
    upon_eight = joined base rest eight grows_eight above

    grows_four : Before eight four
    unfolding four
    grows_four = extends_indexed widths.Word 0 test (k % 2 ^ 32) exits eight

    upon_four : Before base four
    upon_four = joined base eight four grows_four upon_eight

    grows_two : Before four (bigs test k exits one rest).code
    unfolding four eight
    grows_two = extends_indexed widths.Half 0 test (k % 2 ^ 16) exits four

    pub grows_bigs : Before rest (bigs test k exits one rest).code
    grows_bigs =
        joined rest eight (bigs test k exits one rest).code (joined eight four (bigs test k exits one rest).code grows_two grows_four) grows_eight

    pub upon_bigs : Before base (bigs test k exits one rest).code
    upon_bigs = joined base four (bigs test k exits one rest).code grows_two upon_four

    -- more in front
    from_four : (entry : ℕ) (C : Type 0) → Decided four entry C → Decided (bigs test k exits one rest).code entry C
    from_four entry C d = decides_on image (At place) base exits four (bigs test k exits one rest).code entry C grows_two d

    from_eight : (entry : ℕ) (C : Type 0) → Decided eight entry C → Decided (bigs test k exits one rest).code entry C
    from_eight entry C d = from_four entry C (decides_on image (At place) base exits eight four entry C grows_four d)

    pub big_decides_one : (C : Type 0) → Decided rest one C → Decided (bigs test k exits one rest).code one C
    big_decides_one C d = from_eight one C (decides_on image (At place) base exits rest eight one C grows_eight d)

    pub big_decides_two : (C : Type 0) → Tests image (At place) C (indexed_test widths.Half 0 test (k % 2 ^ 16)) → Decided (bigs test k exits one rest).code (bigs test k exits one rest).sizes.two C
    unfolding four eight
    big_decides_two C t = decides_piece image (At place) base exits four C (indexed_test widths.Half 0 test (k % 2 ^ 16)) upon_four t

    pub big_decides_four : (C : Type 0) → Tests image (At place) C (indexed_test widths.Word 0 test (k % 2 ^ 32)) → Decided (bigs test k exits one rest).code (bigs test k exits one rest).sizes.four C
    unfolding four eight
    big_decides_four C t =
        from_four (length four) C (decides_piece image (At place) base exits eight C (indexed_test widths.Word 0 test (k % 2 ^ 32)) upon_eight t)

    pub big_decides_eight : (C : Type 0) → Tests image (At place) C (wide test k) → Decided (bigs test k exits one rest).code (bigs test k exits one rest).sizes.eight C
    unfolding four eight
    big_decides_eight C t = from_eight (length eight) C (decides_piece image (At place) base exits rest C (wide test k) above t)
