-- What is printed of why a bus gave no answer (own).
use Rattle.std.specs.Prelude.{ℕ, ◌++◌, List, codes, string_bytes}
use Rattle.message_value.specs.Errors.{name_of}
use Rattle.bus_client.specs.declared.error.ClientError.{ClientError}
use Rattle.bus_client.specs.declared.error.ClientError.TheVariants.{Socket, Auth, Message, Answered, NoMemory}

abbrev pub client_error_text : ClientError → List ℕ
client_error_text Socket = codes "socket"
client_error_text Auth = codes "auth"
client_error_text (Message fault) = codes "message " ++ name_of fault
client_error_text (Answered refusal) = codes "error " ++ string_bytes refusal.name
client_error_text NoMemory = codes "memory"
