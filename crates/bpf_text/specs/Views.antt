-- Inner: operands without where their names lie in memory.
use Rattle.std.specs.Prelude.{map}
use Rattle.bpf_text.specs.declared.operands.Operands.{Operands as Lent}
use Rattle.bpf_text.specs.declared.operands.Operands.TheVariants as lent
use Rattle.bpf_text.specs.declared.operands.Targets.{Targets as LentTargets}
use Rattle.bpf_text.specs.declared.operands.Targets.TheVariants as lent_targets
use Rattle.bpf_text.specs.declared.row.Jumps.{Jumps as LentJumps}
use Rattle.bpf_text.specs.declared.row.Jumps.TheVariants as lent_jumps
use Rattle.bpf_text.specs.declared.row.LabelIns.{LabelIns as LentRow}
use Rattle.bpf_text.specs.declared.draft.Noted.{Noted as LentNoted}
use Rattle.std.specs.Option.{option_map}
use Rattle.bpf_text.specs.Sketches.{Noted, Sketch}
use Rattle.bpf_text.specs.declared.draft.Draft.{Draft as LentDraft}
use Rattle.bpf_text.specs.Rows.{LabelIns, Jumps, Stays, Goes, Parts}
use Rattle.bpf_text.specs.Operands.{Operands, Absent, Number, Length, Place, Indexed, Scratch, Header, Name, NumberTo, NameTo, Targets, One, Both}

abbrev pub targets_view : LentTargets → Targets
targets_view (lent_targets.One first) = One first.now
targets_view (lent_targets.Both first second) = Both first.now second.now

abbrev pub operands_view : Lent → Operands
operands_view lent.Absent = Absent
operands_view (lent.Number k) = Number k
operands_view lent.Length = Length
operands_view (lent.Place k) = Place k
operands_view (lent.Indexed k) = Indexed k
operands_view (lent.Scratch k) = Scratch k
operands_view (lent.Header k) = Header k
operands_view (lent.Name name) = Name name.now
operands_view (lent.NumberTo k targets) = NumberTo k (targets_view targets)
operands_view (lent.NameTo name targets) = NameTo name.now (targets_view targets)

abbrev pub jumps_view : LentJumps → Jumps
jumps_view lent_jumps.Stays = Stays
jumps_view (lent_jumps.Goes label) = Goes label.now
jumps_view (lent_jumps.Parts targets) = Parts (targets_view targets)

abbrev pub row_view : LentRow → LabelIns
row_view row = record { op = row.op; k = row.k; jumps = jumps_view row.jumps }

abbrev pub noted_view : LentNoted → Noted
noted_view noted = record { again = noted.again; row = option_map row_view noted.row }

abbrev pub sketch_view : LentDraft → Sketch
sketch_view draft = record { labels = draft.labels; lines = map noted_view draft.lines.items; count = draft.count }
