use Rattle.std.proofs.Common.{List, ℕ, drop, sym}
use Rattle.command_line.specs.Files.{Content}
use Rattle.command_line.specs.Output.{PutsParts, none}
use Rattle.dbusfan_tool.proofs.FileCaptured.{starts, breaks_short, took_lent, met_fault, ended, piece_comes, piece_fails, broke}
use Rattle.dbusfan_tool.proofs.capturing.judge_capture.Goals as goal

pub loop-init : goal.loop-init
loop-init g c judge before name serves gives =
    let gave : Content → Type 0 = λ content. g.F.Files.gives before name content c.args.files.now in
    let puts : List ℕ → Type 0 = λ written. PutsParts g.O.Writer.takes g.O.Writer.flushes g.O.Writer.may_fail c.args.out.now c.args.out.now written in
    rw c.new-packets.ensures (starts judge c.args.program_judge.now.words c.args.each c.args.beginning gave puts c.new-tally.result gives none c.new-tally.ensures.none c.new-tally.ensures.written)

pub returns-in_err-taken : goal.returns-in_err-taken
returns-in_err-taken g c judge before name serves gives =
    let gave : Content → Type 0 = λ content. g.F.Files.gives before name content c.loop.files in
    let short = breaks_short judge c.args.program_judge.now.words c.args.each c.args.beginning gave _ _ _ _ _ (c.loop.invariant judge before name serves gives) in
    (short.0, short.1, broke judge c.args.program_judge.now.words c.args.each c.args.beginning gave short.0 _ _ c.from_residual.ensures.1 short.2)

pub returns : goal.returns
returns g c judge before name serves gives =
    let gave : Content → Type 0 = λ content. g.F.Files.gives before name content c.loop.files in
    breaks_short judge c.args.program_judge.now.words c.args.each c.args.beginning gave _ _ _ _ _ (c.loop.invariant judge before name serves gives)

pub returns-in-Faulty : goal.returns-in-Faulty
returns-in-Faulty g c judge before name serves gives =
    let gave : Content → Type 0 = λ content. g.F.Files.gives before name content c.loop.files in
    let puts : List ℕ → Type 0 = λ written. PutsParts g.O.Writer.takes g.O.Writer.flushes g.O.Writer.may_fail c.args.out.now c.loop.out written in
    let after_puts : List ℕ → Type 0 = λ written. PutsParts g.O.Writer.takes g.O.Writer.flushes g.O.Writer.may_fail c.args.out.now c.put_lines.new.out written in
    let so = c.loop.invariant judge before name serves gives in
    let all = rw c.deref.ensures.value at c.in_ok-taken.ensures.takes in
    let takes = rw c.in-Faulty.is at (all judge c.args.program_judge.now.words c.args.each so.came so.written so.found so.passed serves so.tally_is so.at) in
    met_fault judge c.args.program_judge.now.words c.args.each c.args.beginning gave puts after_puts c.loop.packets c.take_packets.new.packets c.loop.tally c.take_packets.new.tally c.put_lines.new.self c.loop.bytes.items c.loop.is_open so (λ written puts. c.put_lines.ensures.put c.args.out.now written puts) (λ written found passed is. c.put_lines.ensures.same c.args.program_judge.now.words c.args.each written found passed is) c.put_lines.ensures.none_left c.in-Faulty.fault takes

pub returns-then-out : goal.returns-then-out
returns-then-out g c judge before name serves gives =
    let gave : Content → Type 0 = λ content. g.F.Files.gives before name content c.loop.files in
    let puts : List ℕ → Type 0 = λ written. PutsParts g.O.Writer.takes g.O.Writer.flushes g.O.Writer.may_fail c.args.out.now c.loop.out written in
    let after_puts : List ℕ → Type 0 = λ written. PutsParts g.O.Writer.takes g.O.Writer.flushes g.O.Writer.may_fail c.args.out.now c.put_lines.new.out written in
    let now = took_lent judge c.args.program_judge.now.words c.args.each c.args.beginning gave puts after_puts c.loop.packets c.take_packets.new.packets c.loop.tally c.take_packets.new.tally c.put_lines.new.self c.loop.bytes.items _ c.loop.is_open c.args.program_judge.now _ c.in-Until.len (c.loop.invariant judge before name serves gives) (λ written puts. c.put_lines.ensures.put c.args.out.now written puts) (c.put_lines.ensures.same c.args.program_judge.now.words c.args.each) c.put_lines.ensures.none_left serves c.deref.ensures.value c.in-Until.is c.in_ok-taken.ensures.takes in
    breaks_short judge c.args.program_judge.now.words c.args.each c.args.beginning gave after_puts _ _ _ _ now.0

pub left_after-requires : goal.left_after-requires
left_after-requires g c =
    let within = rw c.deref.ensures.value at c.in_ok-taken.ensures.within in
    rw c.in-Until.is at within

pub returns-in_err-bytes : goal.returns-in_err-bytes
returns-in_err-bytes g c judge before name serves gives =
    let gave : Content → Type 0 = λ content. g.F.Files.gives before name content c.loop.files in
    let puts : List ℕ → Type 0 = λ written. PutsParts g.O.Writer.takes g.O.Writer.flushes g.O.Writer.may_fail c.args.out.now c.loop.out written in
    let after_puts : List ℕ → Type 0 = λ written. PutsParts g.O.Writer.takes g.O.Writer.flushes g.O.Writer.may_fail c.args.out.now c.put_lines.new.out written in
    let now = took_lent judge c.args.program_judge.now.words c.args.each c.args.beginning gave puts after_puts c.loop.packets c.take_packets.new.packets c.loop.tally c.take_packets.new.tally c.put_lines.new.self c.loop.bytes.items _ c.loop.is_open c.args.program_judge.now _ c.in-Until.len (c.loop.invariant judge before name serves gives) (λ written puts. c.put_lines.ensures.put c.args.out.now written puts) (c.put_lines.ensures.same c.args.program_judge.now.words c.args.each) c.put_lines.ensures.none_left serves c.deref.ensures.value c.in-Until.is c.in_ok-taken.ensures.takes in
    let short = breaks_short judge c.args.program_judge.now.words c.args.each c.args.beginning gave after_puts _ _ _ _ now.0 in
    (short.0, short.1, broke judge c.args.program_judge.now.words c.args.each c.args.beginning gave short.0 _ _ c.from_residual-in_err-bytes.ensures.1 short.2)

pub returns-then-not-is_open : goal.returns-then-not-is_open
returns-then-not-is_open g c judge before name serves gives =
    let gave : Content → Type 0 = λ content. g.F.Files.gives before name content c.loop.files in
    let puts : List ℕ → Type 0 = λ written. PutsParts g.O.Writer.takes g.O.Writer.flushes g.O.Writer.may_fail c.args.out.now c.loop.out written in
    let after_puts : List ℕ → Type 0 = λ written. PutsParts g.O.Writer.takes g.O.Writer.flushes g.O.Writer.may_fail c.args.out.now c.put_lines.new.out written in
    let now = took_lent judge c.args.program_judge.now.words c.args.each c.args.beginning gave puts after_puts c.loop.packets c.take_packets.new.packets c.loop.tally c.take_packets.new.tally c.put_lines.new.self c.loop.bytes.items _ c.loop.is_open c.args.program_judge.now _ c.in-Until.len (c.loop.invariant judge before name serves gives) (λ written puts. c.put_lines.ensures.put c.args.out.now written puts) (c.put_lines.ensures.same c.args.program_judge.now.words c.args.each) c.put_lines.ensures.none_left serves c.deref.ensures.value c.in-Until.is c.in_ok-taken.ensures.takes in
    let closed = rw c.if-not-is_open.true at now.0 in
    rw (c.err-fault.ensures.value, c.end.ensures, c.deref-then-not-is_open.ensures.value, c.in_ok-bytes.ensures) (ended judge c.args.program_judge.now.words c.args.each c.args.beginning gave after_puts c.take_packets.new.packets c.put_lines.new.self (drop c.in-Until.len c.loop.bytes.items) closed now.1)

pub returns-in_err-is_open : goal.returns-in_err-is_open
returns-in_err-is_open g c judge before name serves gives =
    let gave : Content → Type 0 = λ content. g.F.Files.gives before name content c.loop.files in
    let puts : List ℕ → Type 0 = λ written. PutsParts g.O.Writer.takes g.O.Writer.flushes g.O.Writer.may_fail c.args.out.now c.loop.out written in
    let after_puts : List ℕ → Type 0 = λ written. PutsParts g.O.Writer.takes g.O.Writer.flushes g.O.Writer.may_fail c.args.out.now c.put_lines.new.out written in
    let now = took_lent judge c.args.program_judge.now.words c.args.each c.args.beginning gave puts after_puts c.loop.packets c.take_packets.new.packets c.loop.tally c.take_packets.new.tally c.put_lines.new.self c.loop.bytes.items _ c.loop.is_open c.args.program_judge.now _ c.in-Until.len (c.loop.invariant judge before name serves gives) (λ written puts. c.put_lines.ensures.put c.args.out.now written puts) (c.put_lines.ensures.same c.args.program_judge.now.words c.args.each) c.put_lines.ensures.none_left serves c.deref.ensures.value c.in-Until.is c.in_ok-taken.ensures.takes in
    let open_still = rw (sym c.in_ok-bytes.ensures, c.if-not-is_open.false) at now.0 in
    let later : Content → Type 0 = λ content. g.F.Files.gives before name content c.read_piece.new.self in
    let short = piece_fails judge c.args.program_judge.now.words c.args.each c.args.beginning gave later after_puts _ _ _ c.loop.bytes.items open_still c.in_err-is_open.field-0.0 (c.in_err-is_open.ensures before name open_still.came open_still.gives) in
    (short.0, short.1, broke judge c.args.program_judge.now.words c.args.each c.args.beginning later short.0 _ _ c.from_residual-in_err-is_open.ensures.1 short.2)

pub loop-preserved : goal.loop-preserved
loop-preserved g c judge before name serves gives =
    let gave : Content → Type 0 = λ content. g.F.Files.gives before name content c.loop.files in
    let puts : List ℕ → Type 0 = λ written. PutsParts g.O.Writer.takes g.O.Writer.flushes g.O.Writer.may_fail c.args.out.now c.loop.out written in
    let after_puts : List ℕ → Type 0 = λ written. PutsParts g.O.Writer.takes g.O.Writer.flushes g.O.Writer.may_fail c.args.out.now c.put_lines.new.out written in
    let now = took_lent judge c.args.program_judge.now.words c.args.each c.args.beginning gave puts after_puts c.loop.packets c.take_packets.new.packets c.loop.tally c.take_packets.new.tally c.put_lines.new.self c.loop.bytes.items _ c.loop.is_open c.args.program_judge.now _ c.in-Until.len (c.loop.invariant judge before name serves gives) (λ written puts. c.put_lines.ensures.put c.args.out.now written puts) (c.put_lines.ensures.same c.args.program_judge.now.words c.args.each) c.put_lines.ensures.none_left serves c.deref.ensures.value c.in-Until.is c.in_ok-taken.ensures.takes in
    let open_still = rw (sym c.in_ok-bytes.ensures, c.if-not-is_open.false) at now.0 in
    let later : Content → Type 0 = λ content. g.F.Files.gives before name content c.read_piece.new.self in
    piece_comes judge c.args.program_judge.now.words c.args.each c.args.beginning gave later after_puts _ _ _ _ open_still c.in_ok-is_open.is_open (c.in_ok-is_open.ensures before name open_still.came open_still.gives)
