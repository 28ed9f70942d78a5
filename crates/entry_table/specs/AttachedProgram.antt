-- An attached program (own).
use Rattle.std.specs.Prelude.{List}
use Rattle.bpf_code.specs.declared.instruction.Ins.{Ins}
use Rattle.match_rule.specs.FixedTexts.{FixedTexts, no_texts}
use Rattle.summary.specs.declared.edition.Edition.{Edition}
use Rattle.entry_table.specs.Namespaces.{Namespaces, no_namespaces}

-- the texts and namespaces of the messages that a program is for
pub record AskedTexts : Type 0 where
  pub texts : FixedTexts
  pub namespaces : Namespaces

-- those of a program that is for all messages
abbrev pub nothing_asked : AskedTexts
nothing_asked = record { texts = no_texts; namespaces = no_namespaces }

-- the edition of the images that a program reads, its instructions, and the messages that it is for
pub record AttachedProgram : Type 0 where
  pub edition : Edition
  pub program : List Ins
  pub asked : AskedTexts
