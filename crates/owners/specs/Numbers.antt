-- The numbers and names of errors, and the numbers of replies (D-Bus Specification, "Message Bus Messages").
use Rattle.std.specs.Prelude.{ℕ, List, codes}
use Rattle.owners.specs.declared.error.ClaimError.{ClaimError}
use Rattle.owners.specs.declared.error.ClaimError.TheVariants as errors
use Rattle.owners.specs.declared.answer.NameReply.{NameReply}
use Rattle.owners.specs.declared.answer.NameReply.TheVariants as replies

abbrev pub claim_error_number : ClaimError → ℕ
claim_error_number errors.NamesFull = 1
claim_error_number errors.QueueFull = 2
claim_error_number errors.BadName = 3
claim_error_number errors.Reserved = 4

abbrev pub claim_error_name : ClaimError → List ℕ
claim_error_name errors.NamesFull = codes "NamesFull"
claim_error_name errors.QueueFull = codes "QueueFull"
claim_error_name errors.BadName = codes "BadName"
claim_error_name errors.Reserved = codes "Reserved"

-- the number that RequestName or ReleaseName is answered with
abbrev pub name_reply_number : NameReply → ℕ
name_reply_number replies.PrimaryOwner = 1
name_reply_number replies.InQueue = 2
name_reply_number replies.Exists = 3
name_reply_number replies.AlreadyOwner = 4
name_reply_number replies.Released = 1
name_reply_number replies.NonExistent = 2
name_reply_number replies.NotOwner = 3
