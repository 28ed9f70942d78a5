-- The numbers and the names of the faults, and what is said of them (own).
use Rattle.std.specs.Prelude.{ℕ, List, Option, Some, None, codes}
use Rattle.bpf_code.specs.Numbers.{text_at}
use Rattle.bpf_verify.specs.declared.error.VerifyError.{VerifyError}
use Rattle.bpf_verify.specs.declared.error.VerifyError.TheVariants.{Empty, TooMany, Code, ZeroDivisor, Shift, Scratch, Jump, Last, Unset, Ancillary, NoMemory}

-- a fault's number
abbrev pub verify_error_number : VerifyError → ℕ
verify_error_number Empty = 1
verify_error_number TooMany = 2
verify_error_number (Code place) = 3
verify_error_number (ZeroDivisor place) = 4
verify_error_number (Shift place) = 5
verify_error_number (Scratch place) = 6
verify_error_number (Jump place) = 7
verify_error_number (Last place) = 8
verify_error_number (Unset place) = 9
verify_error_number (Ancillary place) = 10
verify_error_number NoMemory = 11

abbrev pub verify_error_name : VerifyError → List ℕ
verify_error_name Empty = codes "Empty"
verify_error_name TooMany = codes "TooMany"
verify_error_name (Code place) = codes "Code"
verify_error_name (ZeroDivisor place) = codes "ZeroDivisor"
verify_error_name (Shift place) = codes "Shift"
verify_error_name (Scratch place) = codes "Scratch"
verify_error_name (Jump place) = codes "Jump"
verify_error_name (Last place) = codes "Last"
verify_error_name (Unset place) = codes "Unset"
verify_error_name (Ancillary place) = codes "Ancillary"
verify_error_name NoMemory = codes "NoMemory"

-- what is wrong, for people
abbrev pub verify_error_sentence : VerifyError → List ℕ
verify_error_sentence Empty = codes "there is no instruction"
verify_error_sentence TooMany = codes "there are more than 4,096 instructions"
verify_error_sentence (Code place) = codes "there is no such instruction"
verify_error_sentence (ZeroDivisor place) = codes "it divides by 0"
verify_error_sentence (Shift place) = codes "it shifts by 32 or more"
verify_error_sentence (Scratch place) = codes "scratch words are 0 to 15"
verify_error_sentence (Jump place) = codes "it jumps out of the program"
verify_error_sentence (Last place) = codes "the last instruction has to be a return"
verify_error_sentence (Unset place) = codes "a way to it does not store the scratch word that it reads"
verify_error_sentence (Ancillary place) = codes "it loads a word that no message has"
verify_error_sentence NoMemory = codes "there is no memory"

-- the place of the instruction that is at fault
abbrev pub verify_error_place : VerifyError → Option ℕ
verify_error_place Empty = None
verify_error_place TooMany = None
verify_error_place (Code place) = Some place
verify_error_place (ZeroDivisor place) = Some place
verify_error_place (Shift place) = Some place
verify_error_place (Scratch place) = Some place
verify_error_place (Jump place) = Some place
verify_error_place (Last place) = Some place
verify_error_place (Unset place) = Some place
verify_error_place (Ancillary place) = Some place
verify_error_place NoMemory = None

abbrev pub verify_error_text : VerifyError → List ℕ
verify_error_text error = text_at (verify_error_name error) (verify_error_place error)
