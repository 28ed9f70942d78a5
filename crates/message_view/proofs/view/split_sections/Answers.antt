use Rattle.std.proofs.Common.{◌∙◌, arith}
use Rattle.std.proofs.lemmas.Result.{err_from_is_err_and}
use Rattle.message_view.proofs.Framed.{array_is, skipped_is, body_is, fields_fail, header_fails, header_passes, extents_there, types_there}
use Rattle.message_view.proofs.view.split_sections.Goals as goal

pub returns-in_err-read : goal.returns-in_err-read
returns-in_err-read c =
    let p = err_from_is_err_and c.from_residual.result c.from_residual.ensures.1 in
    let is = c.requires.fixed.1 in
    let array = array_is c.args.fixed.now c.args.bytes.now _ _ is c.split_at.ensures.back c.split_at-2.ensures.front c.split_at-2.ensures.front_len in
    rw (p.1, p.2) (fields_fail c.args.fixed.now c.args.bytes.now _ _ is array c.in_err-read.ensures.read)

pub returns-in-Some : goal.returns-in-Some
returns-in-Some c =
    let is = c.requires.fixed.1 in
    let array = array_is c.args.fixed.now c.args.bytes.now _ _ is c.split_at.ensures.back c.split_at-2.ensures.front c.split_at-2.ensures.front_len in
    let skip = skipped_is c.args.fixed.now c.args.bytes.now _ _ _ _ is c.split_at.ensures.back c.split_at-2.ensures.back c.padding.ensures c.split_at-3.ensures.front in
    header_fails c.args.fixed.now c.read.new.self c.args.bytes.now _ _ _ is array c.in_ok-read.ensures.read skip (λ front same. c.in-Some.ensures front same)

pub signature-found-requires : goal.signature-found-requires
signature-found-requires c =
    let is = c.requires.fixed.1 in
    let array = array_is c.args.fixed.now c.args.bytes.now _ _ is c.split_at.ensures.back c.split_at-2.ensures.front c.split_at-2.ensures.front_len in
    let skip = skipped_is c.args.fixed.now c.args.bytes.now _ _ _ _ is c.split_at.ensures.back c.split_at-2.ensures.back c.padding.ensures c.split_at-3.ensures.front in
    let header = header_passes c.args.fixed.now c.read.new.self c.args.bytes.now _ _ array c.in_ok-read.ensures.read skip (λ front same. c.in_default.ensures front same) in
    (header.front, header.shows, types_there c.args.bytes.now header.front (λ i. omega (arith, c.type_inv.bytes i)) c.requires.whole header.read)

pub returns : goal.returns
returns c =
    let is = c.requires.fixed.1 in
    let array = array_is c.args.fixed.now c.args.bytes.now _ _ is c.split_at.ensures.back c.split_at-2.ensures.front c.split_at-2.ensures.front_len in
    let skip = skipped_is c.args.fixed.now c.args.bytes.now _ _ _ _ is c.split_at.ensures.back c.split_at-2.ensures.back c.padding.ensures c.split_at-3.ensures.front in
    let body = body_is c.args.fixed.now c.args.bytes.now _ _ _ _ is c.split_at.ensures.back c.split_at-2.ensures.back c.padding.ensures c.split_at-3.ensures.back in
    let header = header_passes c.args.fixed.now c.read.new.self c.args.bytes.now _ _ array c.in_ok-read.ensures.read skip (λ front same. c.in_default.ensures front same) in
    record {
      front = header.front;
      read = header.read;
      passes = header.passes;
      shows = header.shows;
      typed = c.signature-found.ensures header.front header.shows;
      body = body;
      lie = extents_there c.args.fixed.now c.read.new.self c.args.bytes.now header.front is (c.in_ok-read.ensures.lie header.front (array ∙ header.read));
    }
