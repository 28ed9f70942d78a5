use Rattle.std.proofs.Common.{length, subst, arith, ◌∙◌, sym, ap}
use Rattle.std.specs.List.{sum_by}
use Rattle.signature.proofs.PartTexts.{not_empty, variant_parts, dict_parts, array_parts, struct_parts, basic_parts, is_basic_code, members_fault, members_texts, members_shorter}
use Rattle.signature.specs.DataType.{TypeText, basic, dict, one_more}
use Rattle.signature.proofs.one_type.OneType.parts.Goals as goal

pub bounds-text-0 : goal.bounds-text-0
bounds-text-0 c = not_empty c.self.invariant.0 c.self.inside.text.now c.self.invariant.1

pub bounds-text-1 : goal.bounds-text-1
bounds-text-1 c = let a = array_parts c.self.invariant.0 c.self.inside.text.now c.self.invariant.1 c.in-97.is in let l = a.long in omega arith

pub bounds-text-2 : goal.bounds-text-2
bounds-text-2 c = let a = dict_parts c.self.invariant.0 c.self.inside.text.now c.self.invariant.1 c.in-97.is c.if-text-eq123.true in let l = a.long in omega arith

pub slice_bounds-new-count : goal.slice_bounds-new-count
slice_bounds-new-count c = let a = dict_parts c.self.invariant.0 c.self.inside.text.now c.self.invariant.1 c.in-97.is c.if-text-eq123.true in let l = a.long in omega arith

pub slice_bounds-new-start : goal.slice_bounds-new-start
slice_bounds-new-start c = let a = dict_parts c.self.invariant.0 c.self.inside.text.now c.self.invariant.1 c.in-97.is c.if-text-eq123.true in let l = a.long in omega arith

pub new-value-requires : goal.new-value-requires
new-value-requires c =
    let a = dict_parts c.self.invariant.0 c.self.inside.text.now c.self.invariant.1 c.in-97.is c.if-text-eq123.true in
    (a.parts.0, a.parts.2)

pub of_code-requires : goal.of_code-requires
of_code-requires c =
    (dict_parts c.self.invariant.0 c.self.inside.text.now c.self.invariant.1 c.in-97.is c.if-text-eq123.true).key

pub new-requires : goal.new-requires
new-requires c =
    let a = (array_parts c.self.invariant.0 c.self.inside.text.now c.self.invariant.1 c.in-97.is).parts c.if-text-eq123.false in
    (a.0, a.2)

pub slice_bounds-new-count-in-40 : goal.slice_bounds-new-count-in-40
slice_bounds-new-count-in-40 c = let a = struct_parts c.self.invariant.0 c.self.inside.text.now c.self.invariant.1 c.in-40.is in let l = a.long in omega arith

pub slice_bounds-new-start-in-40 : goal.slice_bounds-new-start-in-40
slice_bounds-new-start-in-40 c = let a = struct_parts c.self.invariant.0 c.self.inside.text.now c.self.invariant.1 c.in-40.is in let l = a.long in omega arith

pub new-requires-in-40 : goal.new-requires-in-40
new-requires-in-40 c =
    let a = struct_parts c.self.invariant.0 c.self.inside.text.now c.self.invariant.1 c.in-40.is in
    members_fault (one_more a.first a.others) _ a.members a.fit

pub of_code-requires-in_default : goal.of_code-requires-in_default
of_code-requires-in_default c =
    let is = basic_parts c.self.invariant.0 c.self.inside.text.now c.self.invariant.1 (λ e. omega arith) (λ e. omega arith) (λ e. omega arith) in
    is_basic_code c.self.invariant.0 _ c.self.invariant.1.fits is

pub returns-in-118-clause-parts : goal.returns-in-118-clause-parts
returns-in-118-clause-parts c = λ t is.
    let here = subst (TypeText t) (sym c.self.view_is) is in
    variant_parts t c.self.inside.text.now here c.in-118.is

pub returns-in-97-clause-parts : goal.returns-in-97-clause-parts
returns-in-97-clause-parts c = λ t is.
    let here = subst (TypeText t) (sym c.self.view_is) is in
    let a = (dict_parts t c.self.inside.text.now here c.in-97.is c.if-text-eq123.true).parts in
    (a.0, a.1 ∙ ap (λ k. dict k a.0) (sym c.of_code.ensures), subst (TypeText a.0) (sym c.new-value.ensures) a.2)

pub returns-in-97-2-clause-parts : goal.returns-in-97-2-clause-parts
returns-in-97-2-clause-parts c = λ t is.
    let here = subst (TypeText t) (sym c.self.view_is) is in
    let a = (array_parts t c.self.inside.text.now here c.in-97.is).parts c.if-text-eq123.false in
    (a.0, a.1, subst (TypeText a.0) (sym c.new.ensures) a.2)

pub returns-in-40-clause-parts : goal.returns-in-40-clause-parts
returns-in-40-clause-parts c = λ t is.
    let here = subst (TypeText t) (sym c.self.view_is) is in
    let a = struct_parts t c.self.inside.text.now here c.in-40.is in
    (a.first, a.others, a.is, c.new-in-40.ensures ∙ members_texts (one_more a.first a.others) _ a.members a.fit, a.fit)

pub returns-in-40-clause-shorter : goal.returns-in-40-clause-shorter
returns-in-40-clause-shorter c =
    let text = c.self.inside.text.now in
    let a = struct_parts c.self.invariant.0 text c.self.invariant.1 c.in-40.is in
    let members = c.new-in-40.ensures ∙ members_texts (one_more a.first a.others) _ a.members a.fit in
    let shorter = members_shorter (one_more a.first a.others) text a.long a.members in
    let all = ap (sum_by length) members in
    let whole = ap length c.self.view_is in
    omega arith

pub returns-in_default-clause-parts : goal.returns-in_default-clause-parts
returns-in_default-clause-parts c = λ t is.
    let here = subst (TypeText t) (sym c.self.view_is) is in
    basic_parts t c.self.inside.text.now here (λ e. omega arith) (λ e. omega arith) (λ e. omega arith) ∙ ap basic (sym c.of_code-in_default.ensures)
