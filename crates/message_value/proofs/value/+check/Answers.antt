use Rattle.std.proofs.Common.{ℕ, ◌<◌, Result, Ok, sym, ◌∙◌, arith}
use Rattle.std.proofs.lemmas.Result.{err_from_is_err_and}
use Rattle.signature.specs.BasicType.{byte_of}
use Rattle.signature.specs.DataType.{variant, array, dict, struct, one_more}
use Rattle.message_value.specs.declared.error.MsgError.{MsgError}
use Rattle.message_value.specs.Reading.{value_at, entry_at}
use Rattle.message_value.proofs.ReadShorter.{value_shorter, entry_shorter}
use Rattle.message_value.proofs.ValueSteps.{unaligned, too_deep, aligned_one, basic_checked, variant_checked, array_checked, dict_checked, struct_checked, no_signature_at, after_signature, no_extent, after_extent, no_dict_extent, after_dict_extent, unaligned_entry, no_key, after_key, alignment_some}
use Rattle.message_value.proofs.NumberArrays.{numbers_some, numbers_checked}
use Rattle.message_value.proofs.ArrayTurns.{all_left, goes_on, stops, at_end}
use Rattle.message_value.proofs.MemberTurns.{all_members, next_member, no_more}
use Rattle.message_value.proofs.value.+check.Goals as goal

abbrev ok_unit : Result ℕ MsgError
ok_unit = Ok 0

-- ---- arrays

pub check_array-extent-requires : goal.check_array-extent-requires
check_array-extent-requires t c =
    let same = c.alignment.ensures c.requires.0 c.requires.1 in
    let some = alignment_some c.requires.0 in
    omega arith

pub check_array-returns-in_err-inner : goal.check_array-returns-in_err-inner
check_array-returns-in_err-inner t c = λ type is.
    let p = err_from_is_err_and c.from_residual.result c.from_residual.ensures.1 in
    rw (p.1, p.2) (no_extent (value_at c.args.levels c.args.order) c.args.order type c.alignment.result c.args.cursor.now _ (c.alignment.ensures type is) c.in_err-inner.ensures)

pub check_array-check_fixed-requires : goal.check_array-check_fixed-requires
check_array-check_fixed-requires t c = numbers_some c.in-Some.len c.requires.0 (c.in-Some.ensures c.requires.0 c.requires.1)

pub check_array-check_elements-requires : goal.check_array-check_elements-requires
check_array-check_elements-requires t c = (omega (arith, c.decreases), c.requires)

pub check_array-returns-in-Some : goal.check_array-returns-in-Some
check_array-returns-in-Some t c = λ type is.
    let same = c.alignment.ensures type is in
    let above = alignment_some type in
    let some : 0 < c.alignment.result = omega arith in
    after_extent c.check_fixed.result c.extent.new.self (value_at c.args.levels c.args.order) c.args.order type c.alignment.result c.args.cursor.now c.in_ok-inner.inner same c.in_ok-inner.ensures
    (numbers_checked c.check_fixed.result c.args.levels c.args.order type c.in-Some.len c.alignment.result c.args.cursor.now c.in_ok-inner.inner c.extent.new.self (c.in-Some.ensures type is) same some c.in_ok-inner.ensures c.check_fixed.ensures)

pub check_array-returns-in-None : goal.check_array-returns-in-None
check_array-returns-in-None t c = λ type is.
    after_extent c.check_elements.result c.extent.new.self (value_at c.args.levels c.args.order) c.args.order type c.alignment.result c.args.cursor.now c.in_ok-inner.inner (c.alignment.ensures type is) c.in_ok-inner.ensures (c.check_elements.ensures type is)

-- ---- elements

pub check_elements-loop-inner-init : goal.check_elements-loop-inner-init
check_elements-loop-inner-init t c = λ type is. all_left (value_at c.args.levels c.args.order type) c.args.inner

pub check_elements-loop-inner-smaller : goal.check_elements-loop-inner-smaller
check_elements-loop-inner-smaller t c =
    let found = c.in_ok-check_value.ensures c.requires.0 c.requires.1 in
    value_shorter c.args.levels c.args.order c.requires.0 c.loop-inner.inner (found.0, c.check_value.new.cursor) found.1

pub check_elements-loop-inner-preserved : goal.check_elements-loop-inner-preserved
check_elements-loop-inner-preserved t c = λ type is.
    let found = c.in_ok-check_value.ensures type is in
    goes_on (value_at c.args.levels c.args.order type) c.loop-inner.inner c.check_value.new.cursor _ (c.loop-inner.invariant type is) (sym c.loop-inner-test.ensures) found
    (value_shorter c.args.levels c.args.order type c.loop-inner.inner (found.0, c.check_value.new.cursor) found.1)

pub check_elements-returns-in_err-check_value : goal.check_elements-returns-in_err-check_value
check_elements-returns-in_err-check_value t c = λ type is.
    let p = err_from_is_err_and c.from_residual.result c.from_residual.ensures.1 in
    rw (p.1, p.2) (stops (value_at c.args.levels c.args.order type) c.loop-inner.inner _ _ (c.loop-inner.invariant type is) (sym c.loop-inner-test.ensures) (c.in_err-check_value.ensures type is))

pub check_elements-returns : goal.check_elements-returns
check_elements-returns t c = λ type is. at_end (value_at c.args.levels c.args.order type) c.loop-inner.inner _ (c.loop-inner.invariant type is) (sym c.loop-inner-test.ensures)

-- ---- dicts

pub check_dict-returns-in_err-inner : goal.check_dict-returns-in_err-inner
check_dict-returns-in_err-inner t c = λ type is.
    let p = err_from_is_err_and c.from_residual.result c.from_residual.ensures.1 in
    rw (p.1, p.2) (no_dict_extent (value_at c.args.levels c.args.order) c.args.order (byte_of c.args.key) type c.args.cursor.now _ c.in_err-inner.ensures)

pub check_dict-loop-inner-init : goal.check_dict-loop-inner-init
check_dict-loop-inner-init t c = λ type is. all_left (entry_at (value_at c.args.levels c.args.order) (byte_of c.args.key) type) c.in_ok-inner.inner

pub check_dict-loop-inner-smaller : goal.check_dict-loop-inner-smaller
check_dict-loop-inner-smaller t c =
    let found = c.in_ok-check_entry.ensures c.requires.0 c.requires.1 in
    entry_shorter c.args.levels c.args.order (byte_of c.args.key) c.requires.0 c.loop-inner.inner (found.0, c.check_entry.new.cursor) found.1

pub check_dict-loop-inner-preserved : goal.check_dict-loop-inner-preserved
check_dict-loop-inner-preserved t c = λ type is.
    let found = c.in_ok-check_entry.ensures type is in
    goes_on (entry_at (value_at c.args.levels c.args.order) (byte_of c.args.key) type) c.loop-inner.inner c.check_entry.new.cursor _ (c.loop-inner.invariant type is) (sym c.loop-inner-test.ensures) found
    (entry_shorter c.args.levels c.args.order (byte_of c.args.key) type c.loop-inner.inner (found.0, c.check_entry.new.cursor) found.1)

pub check_dict-returns-in_err-check_entry : goal.check_dict-returns-in_err-check_entry
check_dict-returns-in_err-check_entry t c = λ type is.
    let p = err_from_is_err_and c.from_residual-in_err-check_entry.result c.from_residual-in_err-check_entry.ensures.1 in
    let reader = entry_at (value_at c.args.levels c.args.order) (byte_of c.args.key) type in
    after_dict_extent c.from_residual-in_err-check_entry.result c.extent.new.self (value_at c.args.levels c.args.order) c.args.order (byte_of c.args.key) type c.args.cursor.now c.in_ok-inner.inner c.in_ok-inner.ensures
    (rw (p.1, p.2) (stops reader c.loop-inner.inner _ _ (c.loop-inner.invariant type is) (sym c.loop-inner-test.ensures) (c.in_err-check_entry.ensures type is)))

pub check_dict-returns : goal.check_dict-returns
check_dict-returns t c = λ type is.
    after_dict_extent ok_unit c.extent.new.self (value_at c.args.levels c.args.order) c.args.order (byte_of c.args.key) type c.args.cursor.now c.in_ok-inner.inner c.in_ok-inner.ensures
    (at_end (entry_at (value_at c.args.levels c.args.order) (byte_of c.args.key) type) c.loop-inner.inner _ (c.loop-inner.invariant type is) (sym c.loop-inner-test.ensures))

pub check_entry-returns-in_err-align : goal.check_entry-returns-in_err-align
check_entry-returns-in_err-align t c = λ type is.
    let p = err_from_is_err_and c.from_residual.result c.from_residual.ensures.1 in
    rw (p.1, p.2) (unaligned_entry (value_at c.args.levels c.args.order) (byte_of c.args.key) type c.args.cursor.now _ c.in_err-align.ensures)

pub check_entry-returns-in_err-check_basic : goal.check_entry-returns-in_err-check_basic
check_entry-returns-in_err-check_basic t c = λ type is.
    let p = err_from_is_err_and c.from_residual-in_err-check_basic.result c.from_residual-in_err-check_basic.ensures.1 in
    rw (p.1, p.2) (no_key c.args.levels c.args.order (byte_of c.args.key) type c.args.cursor.now _ _ c.in_ok-align.ensures c.in_err-check_basic.ensures)

pub check_entry-returns : goal.check_entry-returns
check_entry-returns t c = λ type is.
    after_key c.check_value.result c.check_value.new.cursor c.args.levels c.args.order (byte_of c.args.key) type c.args.cursor.now _ _ c.in_ok-align.ensures c.in_ok-check_basic.ensures (c.check_value.ensures type is)

-- ---- members

pub check_members-loop-member-init : goal.check_members-loop-member-init
check_members-loop-member-init t c =
    (tt, tt, λ types is fit. all_members c.into_iter-member-iterator.result (value_at c.args.levels c.args.order) c.args.cursor.now types (c.into_iter-member-iterator.ensures.into_iter_gives ∙ is) fit)

pub check_members-loop-member-preserved : goal.check_members-loop-member-preserved
check_members-loop-member-preserved t c = (
  tt,
  tt,
  λ types is fit.
      let n = next_member c.loop-member.member-iterator c.in-Some.member c.next.new.self (value_at c.args.levels c.args.order) c.loop-member.cursor _ (c.loop-member.invariant.2 types is fit) c.in-Some.ensures.steps in
      n.on c.check_value.new.cursor (c.in_ok-check_value.ensures n.type n.spelled),
)

pub check_members-returns-in_err-check_value : goal.check_members-returns-in_err-check_value
check_members-returns-in_err-check_value t c = λ types is fit.
    let p = err_from_is_err_and c.from_residual.result c.from_residual.ensures.1 in
    let n = next_member c.loop-member.member-iterator c.in-Some.member c.next.new.self (value_at c.args.levels c.args.order) c.loop-member.cursor _ (c.loop-member.invariant.2 types is fit) c.in-Some.ensures.steps in
    rw (p.1, p.2) (n.fails _ (c.in_err-check_value.ensures n.type n.spelled))

pub check_members-returns : goal.check_members-returns
check_members-returns t c = λ types is fit.
    no_more c.loop-member.member-iterator (value_at c.args.levels c.args.order) c.loop-member.cursor _ (c.loop-member.invariant.2 types is fit) c.in-None.ensures.steps.0

-- ---- values

pub check_value-returns-in-Basic : goal.check_value-returns-in-Basic
check_value-returns-in-Basic t c = λ type is.
    basic_checked c.check_basic.result c.check_basic.new.cursor c.args.levels c.args.order type _ c.args.cursor.now (c.in-Basic.ensures.parts type is) c.check_basic.ensures

pub check_value-returns-in_err-deeper-in-Variant : goal.check_value-returns-in_err-deeper-in-Variant
check_value-returns-in_err-deeper-in-Variant t c = λ type is.
    let p = err_from_is_err_and c.from_residual.result c.from_residual.ensures.1 in
    rw (p.1, p.2) (too_deep c.args.levels c.args.order type variant c.args.cursor.now c.args.cursor.now _ (c.in-Variant.ensures.parts type is) tt (aligned_one c.args.cursor.now) c.in_err-deeper-in-Variant.ensures)

pub check_value-returns-in_ok-deeper-in-Variant : goal.check_value-returns-in_ok-deeper-in-Variant
check_value-returns-in_ok-deeper-in-Variant t c = λ type is.
    variant_checked c.check_variant.result c.check_variant.new.cursor c.args.levels _ c.args.order type c.args.cursor.now (c.in-Variant.ensures.parts type is) c.in_ok-deeper-in-Variant.ensures c.check_variant.ensures

pub check_value-check_array-requires : goal.check_value-check_array-requires
check_value-check_array-requires t c =
    let a = c.in-Array.ensures.parts c.in-Array.ensures.spelled.0 c.in-Array.ensures.spelled.1 in
    (omega (arith, c.decreases, c.in_ok-deeper-in-Array.ensures), (a.0, a.2))

pub check_value-check_dict-requires : goal.check_value-check_dict-requires
check_value-check_dict-requires t c =
    let d = c.in-Dict.ensures.parts c.in-Dict.ensures.spelled.0 c.in-Dict.ensures.spelled.1 in
    (omega (arith, c.decreases, c.in_ok-deeper-in-Dict.ensures), (d.0, d.2))

pub check_value-returns-in_err-align-in-Array : goal.check_value-returns-in_err-align-in-Array
check_value-returns-in_err-align-in-Array t c = λ type is.
    let p = err_from_is_err_and c.from_residual-in_err-align-in-Array.result c.from_residual-in_err-align-in-Array.ensures.1 in
    let a = c.in-Array.ensures.parts type is in
    rw (p.1, p.2) (unaligned c.args.levels c.args.order type (array a.0) c.args.cursor.now _ a.1 c.in_err-align-in-Array.ensures)

pub check_value-returns-in_err-deeper-in-Array : goal.check_value-returns-in_err-deeper-in-Array
check_value-returns-in_err-deeper-in-Array t c = λ type is.
    let p = err_from_is_err_and c.from_residual-in_err-deeper-in-Array.result c.from_residual-in_err-deeper-in-Array.ensures.1 in
    let a = c.in-Array.ensures.parts type is in
    rw (p.1, p.2) (too_deep c.args.levels c.args.order type (array a.0) c.args.cursor.now _ _ a.1 tt c.in_ok-align-in-Array.ensures c.in_err-deeper-in-Array.ensures)

pub check_value-returns-in_ok-deeper-in-Array : goal.check_value-returns-in_ok-deeper-in-Array
check_value-returns-in_ok-deeper-in-Array t c = λ type is.
    let a = c.in-Array.ensures.parts type is in
    array_checked c.check_array.result c.check_array.new.cursor c.args.levels _ c.args.order type a.0 c.args.cursor.now _ a.1 c.in_ok-deeper-in-Array.ensures c.in_ok-align-in-Array.ensures (c.check_array.ensures a.0 a.2)

pub check_value-returns-in_err-align-in-Dict : goal.check_value-returns-in_err-align-in-Dict
check_value-returns-in_err-align-in-Dict t c = λ type is.
    let p = err_from_is_err_and c.from_residual-in_err-align-in-Dict.result c.from_residual-in_err-align-in-Dict.ensures.1 in
    let a = c.in-Dict.ensures.parts type is in
    rw (p.1, p.2) (unaligned c.args.levels c.args.order type (dict (byte_of c.in-Dict.key) a.0) c.args.cursor.now _ a.1 c.in_err-align-in-Dict.ensures)

pub check_value-returns-in_err-deeper-in-Dict : goal.check_value-returns-in_err-deeper-in-Dict
check_value-returns-in_err-deeper-in-Dict t c = λ type is.
    let p = err_from_is_err_and c.from_residual-in_err-deeper-in-Dict.result c.from_residual-in_err-deeper-in-Dict.ensures.1 in
    let a = c.in-Dict.ensures.parts type is in
    rw (p.1, p.2) (too_deep c.args.levels c.args.order type (dict (byte_of c.in-Dict.key) a.0) c.args.cursor.now _ _ a.1 tt c.in_ok-align-in-Dict.ensures c.in_err-deeper-in-Dict.ensures)

pub check_value-returns-in_ok-deeper-in-Dict : goal.check_value-returns-in_ok-deeper-in-Dict
check_value-returns-in_ok-deeper-in-Dict t c = λ type is.
    let a = c.in-Dict.ensures.parts type is in
    dict_checked c.check_dict.result c.check_dict.new.cursor c.args.levels _ c.args.order type (byte_of c.in-Dict.key) a.0 c.args.cursor.now _ a.1 c.in_ok-deeper-in-Dict.ensures c.in_ok-align-in-Dict.ensures (c.check_dict.ensures a.0 a.2)

pub check_value-returns-in_err-align-in-Struct : goal.check_value-returns-in_err-align-in-Struct
check_value-returns-in_err-align-in-Struct t c = λ type is.
    let p = err_from_is_err_and c.from_residual-in_err-align-in-Struct.result c.from_residual-in_err-align-in-Struct.ensures.1 in
    let a = c.in-Struct.ensures.parts type is in
    rw (p.1, p.2) (unaligned c.args.levels c.args.order type (struct a.0 a.1) c.args.cursor.now _ a.2 c.in_err-align-in-Struct.ensures)

pub check_value-returns-in_err-deeper-in-Struct : goal.check_value-returns-in_err-deeper-in-Struct
check_value-returns-in_err-deeper-in-Struct t c = λ type is.
    let p = err_from_is_err_and c.from_residual-in_err-deeper-in-Struct.result c.from_residual-in_err-deeper-in-Struct.ensures.1 in
    let a = c.in-Struct.ensures.parts type is in
    rw (p.1, p.2) (too_deep c.args.levels c.args.order type (struct a.0 a.1) c.args.cursor.now _ _ a.2 tt c.in_ok-align-in-Struct.ensures c.in_err-deeper-in-Struct.ensures)

pub check_value-returns-in_ok-deeper-in-Struct : goal.check_value-returns-in_ok-deeper-in-Struct
check_value-returns-in_ok-deeper-in-Struct t c = λ type is.
    let a = c.in-Struct.ensures.parts type is in
    struct_checked c.check_members.result c.check_members.new.cursor c.args.levels _ c.args.order type a.0 a.1 c.args.cursor.now _ a.2 c.in_ok-deeper-in-Struct.ensures c.in_ok-align-in-Struct.ensures (c.check_members.ensures (one_more a.0 a.1) a.3 a.4)

-- ---- variants

pub check_variant-returns-in_err-value_type : goal.check_variant-returns-in_err-value_type
check_variant-returns-in_err-value_type t c =
    let p = err_from_is_err_and c.from_residual.result c.from_residual.ensures.1 in
    rw (p.1, p.2) (no_signature_at (value_at c.args.levels c.args.order) c.args.cursor.now _ c.in_err-value_type.ensures)

pub check_variant-returns : goal.check_variant-returns
check_variant-returns t c =
    let found = c.in_ok-value_type.ensures in
    after_signature c.check_value.result c.check_value.new.cursor (value_at c.args.levels c.args.order) c.args.cursor.now c.signature.new.self found.0 found.3 (c.check_value.ensures found.0 found.1)
