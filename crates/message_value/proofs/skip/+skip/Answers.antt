use Rattle.std.proofs.Common.{◌-◌, ℕ, sym, subst, ◌∙◌, arith}
use Rattle.signature.specs.BasicType.{byte_of}
use Rattle.signature.specs.DataType.{variant, array, dict, struct, one_more}
use Rattle.message_value.specs.Reading.{value_at, variant_at, array_at, dict_at, struct_at, extent_at, IsRead}
use Rattle.message_value.specs.Steps.{Reaches}
use Rattle.message_value.specs.Forms.{basic_at}
use Rattle.message_value.proofs.ValueSteps.{aligned_one}
use Rattle.message_value.proofs.SkipValues.{kind_gone, opened, basic_same, read_same, Reaches-same, array_extent, array_end, dict_extent, dict_end, struct_read, struct_end, variant_signature, variant_value, variant_end, next_ahead, all_ahead, ahead_end}
use Rattle.message_value.proofs.skip.+skip.Goals as goal

-- ---- members

pub skip_members-loop-member-init : goal.skip_members-loop-member-init
skip_members-loop-member-init t c =
    (tt, tt, λ types found is fit e. all_ahead c.into_iter-member-iterator.result (value_at c.args.levels c.args.order) c.args.cursor.now types found (c.into_iter-member-iterator.ensures.into_iter_gives ∙ is) fit e)

pub skip_members-skip_value-requires : goal.skip_members-skip_value-requires
skip_members-skip_value-requires t c =
    let ahead = c.loop-member.invariant.2 c.requires.0 c.requires.3.0 c.requires.1 c.requires.2 c.requires.3.1 in
    let n = next_ahead c.loop-member.member-iterator c.in-Some.member c.next.new.self (value_at c.args.levels c.args.order) c.loop-member.cursor c.requires.3.0.1 ahead c.in-Some.ensures.steps in
    (omega (arith, c.decreases), (n.type, n.spelled, n.read))

pub skip_members-loop-member-preserved : goal.skip_members-loop-member-preserved
skip_members-loop-member-preserved t c = (
  tt,
  tt,
  λ types found is fit e.
      let n = next_ahead c.loop-member.member-iterator c.in-Some.member c.next.new.self (value_at c.args.levels c.args.order) c.loop-member.cursor found.1 (c.loop-member.invariant.2 types found is fit e) c.in-Some.ensures.steps in
      n.on c.skip_value.new.cursor (c.skip_value.ensures n.type n.spelled),
)

pub skip_members-returns : goal.skip_members-returns
skip_members-returns t c = λ types is fit found e.
    ahead_end c.loop-member.member-iterator (value_at c.args.levels c.args.order) c.loop-member.cursor found.1 (c.loop-member.invariant.2 types found is fit e) c.in-None.ensures.steps.0

-- ---- variants

pub skip_variant-skip_signature-value_type-requires : goal.skip_variant-skip_signature-value_type-requires
skip_variant-skip_signature-value_type-requires t c = variant_signature (value_at c.args.levels c.args.order) c.args.cursor.now c.requires

pub skip_variant-skip_value-requires : goal.skip_variant-skip_value-requires
skip_variant-skip_value-requires t c =
    let found = c.skip_signature-value_type.ensures in
    (omega (arith, c.decreases), (found.0, found.1, variant_value (value_at c.args.levels c.args.order) c.args.cursor.now c.skip_signature-value_type.new.cursor found.0 found.2 c.requires))

pub skip_variant-returns : goal.skip_variant-returns
skip_variant-returns t c =
    let found = c.skip_signature-value_type.ensures in
    variant_end c.skip_value.new.cursor (value_at c.args.levels c.args.order) c.args.cursor.now c.skip_signature-value_type.new.cursor found.0 found.2 (c.skip_value.ensures found.0 found.1)

-- ---- values

pub skip_value-skip_basic-requires : goal.skip_value-skip_basic-requires
skip_value-skip_basic-requires t c =
    let same = basic_same c.args.levels c.args.order c.requires.0 (byte_of c.in-Basic.basic) c.args.cursor.now (c.in-Basic.ensures.parts c.requires.0 c.requires.1) in
    read_same (basic_at c.args.order (byte_of c.in-Basic.basic) c.args.cursor.now) (value_at c.args.levels c.args.order c.requires.0 c.args.cursor.now) same c.requires.2

pub skip_value-returns-in-Basic : goal.skip_value-returns-in-Basic
skip_value-returns-in-Basic t c = λ type is.
    let same = basic_same c.args.levels c.args.order type (byte_of c.in-Basic.basic) c.args.cursor.now (c.in-Basic.ensures.parts type is) in
    Reaches-same c.skip_basic.new.cursor (basic_at c.args.order (byte_of c.in-Basic.basic) c.args.cursor.now) (value_at c.args.levels c.args.order type c.args.cursor.now) same c.skip_basic.ensures

pub skip_value-overflow_sub-levels : goal.skip_value-overflow_sub-levels
skip_value-overflow_sub-levels t c =
    (opened c.args.levels c.args.order c.requires.0 variant c.args.cursor.now c.args.cursor.now (c.in-Variant.ensures.parts c.requires.0 c.requires.1) tt (aligned_one c.args.cursor.now) c.requires.2).0

pub skip_value-skip_variant-requires : goal.skip_value-skip_variant-requires
skip_value-skip_variant-requires t c =
    let o = opened c.args.levels c.args.order c.requires.0 variant c.args.cursor.now c.args.cursor.now (c.in-Variant.ensures.parts c.requires.0 c.requires.1) tt (aligned_one c.args.cursor.now) c.requires.2 in
    (omega (arith, c.decreases, o.0), read_same (variant_at (value_at (c.args.levels - 1) c.args.order) c.args.cursor.now) (value_at c.args.levels c.args.order c.requires.0 c.args.cursor.now) o.1 c.requires.2)

pub skip_value-returns-in-Variant : goal.skip_value-returns-in-Variant
skip_value-returns-in-Variant t c = λ type is found e.
    let o = opened c.args.levels c.args.order type variant c.args.cursor.now c.args.cursor.now (c.in-Variant.ensures.parts type is) tt (aligned_one c.args.cursor.now) (found, e) in
    c.skip_variant.ensures found (sym o.1 ∙ e)

pub skip_value-skip_padding-requires-clause-read : goal.skip_value-skip_padding-requires-clause-read
skip_value-skip_padding-requires-clause-read t c =
    let a = c.in-Array.ensures.parts c.requires.0 c.requires.1 in
    kind_gone c.args.levels c.args.order c.requires.0 (array a.0) c.args.cursor.now a.1 c.requires.2

pub skip_value-skip_array-requires-clause-read : goal.skip_value-skip_array-requires-clause-read
skip_value-skip_array-requires-clause-read t c =
    let a = c.in-Array.ensures.parts c.requires.0 c.requires.1 in
    let o = opened c.args.levels c.args.order c.requires.0 (array a.0) c.args.cursor.now c.skip_padding.new.self a.1 tt c.skip_padding.ensures.gone c.requires.2 in
    let reader = value_at (c.args.levels - 1) c.args.order in
    let extent = array_extent reader c.args.order a.0 c.skip_padding.new.self (read_same (array_at reader c.args.order a.0 c.skip_padding.new.self) (value_at c.args.levels c.args.order c.requires.0 c.args.cursor.now) o.1 c.requires.2) in
    subst (λ (n : ℕ). IsRead (extent_at c.args.order n c.skip_padding.new.self)) (sym (c.alignment.ensures a.0 a.2)) extent

pub skip_value-returns-in-Array : goal.skip_value-returns-in-Array
skip_value-returns-in-Array t c = λ type is found e.
    let a = c.in-Array.ensures.parts type is in
    let o = opened c.args.levels c.args.order type (array a.0) c.args.cursor.now c.skip_padding.new.self a.1 tt c.skip_padding.ensures.gone (found, e) in
    let extent = subst (λ (n : ℕ). Reaches c.skip_array.new.cursor (extent_at c.args.order n c.skip_padding.new.self)) (c.alignment.ensures a.0 a.2) c.skip_array.ensures in
    array_end c.skip_array.new.cursor (value_at (c.args.levels - 1) c.args.order) c.args.order a.0 c.skip_padding.new.self extent found (sym o.1 ∙ e)

pub skip_value-skip_padding-requires-in-Dict-clause-read : goal.skip_value-skip_padding-requires-in-Dict-clause-read
skip_value-skip_padding-requires-in-Dict-clause-read t c =
    let a = c.in-Dict.ensures.parts c.requires.0 c.requires.1 in
    kind_gone c.args.levels c.args.order c.requires.0 (dict (byte_of c.in-Dict.field-0) a.0) c.args.cursor.now a.1 c.requires.2

pub skip_value-skip_array-requires-in-Dict-clause-read : goal.skip_value-skip_array-requires-in-Dict-clause-read
skip_value-skip_array-requires-in-Dict-clause-read t c =
    let a = c.in-Dict.ensures.parts c.requires.0 c.requires.1 in
    let k = byte_of c.in-Dict.field-0 in
    let o = opened c.args.levels c.args.order c.requires.0 (dict k a.0) c.args.cursor.now c.skip_padding-in-Dict.new.self a.1 tt c.skip_padding-in-Dict.ensures.gone c.requires.2 in
    let reader = value_at (c.args.levels - 1) c.args.order in
    dict_extent reader c.args.order k a.0 c.skip_padding-in-Dict.new.self (read_same (dict_at reader c.args.order k a.0 c.skip_padding-in-Dict.new.self) (value_at c.args.levels c.args.order c.requires.0 c.args.cursor.now) o.1 c.requires.2)

pub skip_value-returns-in-Dict : goal.skip_value-returns-in-Dict
skip_value-returns-in-Dict t c = λ type is found e.
    let a = c.in-Dict.ensures.parts type is in
    let k = byte_of c.in-Dict.field-0 in
    let o = opened c.args.levels c.args.order type (dict k a.0) c.args.cursor.now c.skip_padding-in-Dict.new.self a.1 tt c.skip_padding-in-Dict.ensures.gone (found, e) in
    dict_end c.skip_array-in-Dict.new.cursor (value_at (c.args.levels - 1) c.args.order) c.args.order k a.0 c.skip_padding-in-Dict.new.self c.skip_array-in-Dict.ensures found (sym o.1 ∙ e)

pub skip_value-skip_padding-requires-in-Struct-clause-read : goal.skip_value-skip_padding-requires-in-Struct-clause-read
skip_value-skip_padding-requires-in-Struct-clause-read t c =
    let a = c.in-Struct.ensures.parts c.requires.0 c.requires.1 in
    kind_gone c.args.levels c.args.order c.requires.0 (struct a.0 a.1) c.args.cursor.now a.2 c.requires.2

pub skip_value-overflow_sub-levels-in-Struct : goal.skip_value-overflow_sub-levels-in-Struct
skip_value-overflow_sub-levels-in-Struct t c =
    let a = c.in-Struct.ensures.parts c.requires.0 c.requires.1 in
    (opened c.args.levels c.args.order c.requires.0 (struct a.0 a.1) c.args.cursor.now c.skip_padding-in-Struct.new.self a.2 tt c.skip_padding-in-Struct.ensures.gone c.requires.2).0

pub skip_value-skip_members-requires : goal.skip_value-skip_members-requires
skip_value-skip_members-requires t c =
    let a = c.in-Struct.ensures.parts c.requires.0 c.requires.1 in
    let o = opened c.args.levels c.args.order c.requires.0 (struct a.0 a.1) c.args.cursor.now c.skip_padding-in-Struct.new.self a.2 tt c.skip_padding-in-Struct.ensures.gone c.requires.2 in
    let reader = value_at (c.args.levels - 1) c.args.order in
    let read = struct_read reader a.0 a.1 c.skip_padding-in-Struct.new.self (read_same (struct_at reader a.0 a.1 c.skip_padding-in-Struct.new.self) (value_at c.args.levels c.args.order c.requires.0 c.args.cursor.now) o.1 c.requires.2) in
    (omega (arith, c.decreases, o.0), (one_more a.0 a.1, a.3, a.4, read))

pub skip_value-returns-in-Struct : goal.skip_value-returns-in-Struct
skip_value-returns-in-Struct t c = λ type is found e.
    let a = c.in-Struct.ensures.parts type is in
    let o = opened c.args.levels c.args.order type (struct a.0 a.1) c.args.cursor.now c.skip_padding-in-Struct.new.self a.2 tt c.skip_padding-in-Struct.ensures.gone (found, e) in
    struct_end c.skip_members.new.cursor (value_at (c.args.levels - 1) c.args.order) a.0 a.1 c.skip_padding-in-Struct.new.self (c.skip_members.ensures (one_more a.0 a.1) a.3 a.4) found (sym o.1 ∙ e)
