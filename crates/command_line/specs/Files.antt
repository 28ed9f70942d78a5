-- Reads of files (own).
use Rattle.std.specs.Prelude.{◌≡◌, Bool, true, false, List, [], ◌∷◌, ◌++◌, ℕ, ⊤, Result, Ok, Err}
use Rattle.std.specs.Global.{Vec}
use Rattle.command_line.specs.declared.files.FileError.{FileError}
use Rattle.command_line.specs.declared.files.FileError.TheVariants.{File, Memory}

-- What a file gave: all its bytes; its first bytes, where no more were asked for; or its first bytes, after which it can't
-- be read. A file that isn't there can't be read after no byte.
pub data Content : Type 0 where
  Whole : List ℕ → Content
  Begun : List ℕ → Content
  Broken : List ℕ → Content

-- A read answers the bytes that the file gave, or that it can't be read; it says nothing where memory is short.
abbrev pub ReadsFile : (Content → Type 0) → Result (Vec ℕ) FileError → Type 0
ReadsFile gave (Ok bytes) = gave (Whole bytes.items)
ReadsFile gave (Err File) = (came : List ℕ) × gave (Broken came)
ReadsFile gave (Err Memory) = ⊤

-- A file was opened, or it can't be.
abbrev pub OpensFile : (Content → Type 0) → Result (Unit {0}) FileError → Type 0
OpensFile gave (Ok _) = gave (Begun [])
OpensFile gave (Err File) = gave (Broken [])
OpensFile gave (Err Memory) = ⊤

-- A piece was put after the bytes that were there, or there was none.
abbrev pub PutsPiece : List ℕ → List ℕ → Bool → Type 0
PutsPiece before after true = (piece : List ℕ) × (after ≡ before ++ piece)
PutsPiece before after false = after ≡ before

-- What the next bytes come to of an open file, of which some came before: a piece, put after the bytes that were there;
-- or none, and what came is all; or that it can't be read. Where memory is short nothing came.
abbrev pub ReadsPiece : (Content → Type 0) → (came before after : List ℕ) → Result Bool FileError → Type 0
ReadsPiece gave came before after (Ok true) = (piece : List ℕ) × (after ≡ before ++ piece) × gave (Begun (came ++ piece))
ReadsPiece gave came before after (Ok false) = (after ≡ before) × gave (Whole came)
ReadsPiece gave came before after (Err File) = gave (Broken came)
ReadsPiece gave came before after (Err Memory) = gave (Begun came)

-- a read: the name of the file, and what it gave
pub record FileRead : Type 0 where
  pub name : List ℕ
  pub content : Content

abbrev pub one_read : List ℕ → Content → List FileRead
one_read name content = record { name = name; content = content } ∷ []

abbrev pub two_reads : List ℕ → Content → List ℕ → Content → List FileRead
two_reads name content next_name next_content = record { name = name; content = content } ∷ one_read next_name next_content

-- Between these states of the files these reads were made, in this order, and no others. A single read leads from
-- one state to the next as `gives` says.
abbrev pub MadeReads : {F : Type 0} → (F → List ℕ → Content → F → Type 0) → F → F → List FileRead → Type 0
MadeReads gives before after [] = after ≡ before
MadeReads gives before after (read ∷ []) = gives before read.name read.content after
MadeReads {F} gives before after (read ∷ next ∷ reads) = (between : F) × gives before read.name read.content between × MadeReads gives between after (next ∷ reads)
