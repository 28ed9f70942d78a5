-- The names of the errors (own).
use Rattle.std.specs.Prelude.{ℕ, List, codes}
use Rattle.published.specs.declared.publisher.PublishError.{PublishError}
use Rattle.published.specs.declared.publisher.PublishError.TheVariants.{NoMemory, Ended}

abbrev pub publish_error_name : PublishError → List ℕ
publish_error_name NoMemory = codes "NoMemory"
publish_error_name Ended = codes "Ended"
