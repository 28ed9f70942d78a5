-- What a call of `feed` answers (own).
use Rattle.std.specs.Prelude.{ℕ, List, [], Result, Ok, Err}
use Rattle.auth.specs.declared.server.Fed.{Fed}
use Rattle.auth.specs.declared.server.AuthError.{AuthError}

-- the answer that was given; to a refused client there is none
abbrev pub answer_in : Result Fed AuthError → List ℕ
answer_in (Ok fed) = fed.answer.items
answer_in (Err fault) = []
