-- What comes of opening and reading a file.
use Rattle.std.proofs.Common.{ℕ, List, [], Err, refl, inl, inr}
use Rattle.command_line.specs.declared.files.FileError.{FileError}
use Rattle.command_line.specs.declared.files.FileError.TheVariants.{File, Memory}
use Rattle.command_line.specs.Errors.{fault_of_file}
use Rattle.command_line.specs.Files.{Content, ReadsFile, OpensFile, ReadsPiece}
use Rattle.dbusfan_tool.specs.FirstBytes.{FailsToRead}

module _ (gave : Content → Type 0) where
  pub not_opened : (error : FileError) → OpensFile gave (Err error) → ReadsFile gave (Err error)
  not_opened File gives = ([], gives)
  not_opened Memory gives = tt

  pub no_piece : (came before after : List ℕ) (error : FileError) → ReadsPiece gave came before after (Err error) → ReadsFile gave (Err error)
  no_piece came before after File gives = (came, gives)
  no_piece came before after Memory gives = tt

  pub fails_to_read : (error : FileError) → ReadsFile gave (Err error) → FailsToRead gave (fault_of_file error)
  fails_to_read File gives = inl (gives.0, refl, gives.1)
  fails_to_read Memory gives = inr refl
