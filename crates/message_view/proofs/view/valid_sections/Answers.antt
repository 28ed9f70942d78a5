use Rattle.std.proofs.Common.{◌∙◌, arith}
use Rattle.message_view.proofs.Framed.{array_is, body_is, extents_there, types_there}
use Rattle.message_view.proofs.Views.{known_header}
use Rattle.message_view.proofs.view.valid_sections.Goals as goal

pub read_valid-requires-clause-valid : goal.read_valid-requires-clause-valid
read_valid-requires-clause-valid c =
    let is = c.requires.fixed.1 in
    let array = array_is c.args.fixed.now c.args.bytes.now _ _ is c.split_at.ensures.back c.split_at-2.ensures.front c.split_at-2.ensures.front_len in
    let header = known_header c.args.fixed.now c.args.bytes.now c.requires.valid.0 c.requires.valid.1 is in
    (header.front, array ∙ header.read)

pub signature-found-requires : goal.signature-found-requires
signature-found-requires c =
    let is = c.requires.fixed.1 in
    let array = array_is c.args.fixed.now c.args.bytes.now _ _ is c.split_at.ensures.back c.split_at-2.ensures.front c.split_at-2.ensures.front_len in
    let header = known_header c.args.fixed.now c.args.bytes.now c.requires.valid.0 c.requires.valid.1 is in
    (header.front, c.read_valid.ensures.read header.front (array ∙ header.read), types_there c.args.bytes.now header.front (λ i. omega (arith, c.type_inv.bytes i)) c.requires.whole header.read)

pub returns : goal.returns
returns c =
    let is = c.requires.fixed.1 in
    let array = array_is c.args.fixed.now c.args.bytes.now _ _ is c.split_at.ensures.back c.split_at-2.ensures.front c.split_at-2.ensures.front_len in
    let body = body_is c.args.fixed.now c.args.bytes.now _ _ _ _ is c.split_at.ensures.back c.split_at-2.ensures.back c.padding.ensures c.split_at-3.ensures.back in
    let header = known_header c.args.fixed.now c.args.bytes.now c.requires.valid.0 c.requires.valid.1 is in
    let shows = c.read_valid.ensures.read header.front (array ∙ header.read) in
    record {
      front = header.front;
      read = header.read;
      passes = header.passes;
      shows = shows;
      typed = c.signature-found.ensures header.front shows;
      body = body;
      lie = extents_there c.args.fixed.now c.read_valid.new.self c.args.bytes.now header.front is (c.read_valid.ensures.lie header.front (array ∙ header.read));
    }
