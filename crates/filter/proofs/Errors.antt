-- Errors that are passed on.
use Rattle.std.proofs.Common.{◌≡◌, sym, ap, ◌∙◌}
use Rattle.std.specs.Prelude.{Result, Ok, Err, IsErrAnd}
use Rattle.filter.specs.declared.error.FaultAt.{FaultAt}
use Rattle.filter.specs.declared.error.FilterError.{FilterError}
use Rattle.filter.specs.declared.error.FilterError.TheVariants as errors
use Rattle.filter.specs.Reading.{Finds}

pub finds_err : {X Y : Type 0} (view : X → Y) (result : Result X FilterError) (read : Result Y FaultAt) (error : FilterError) → IsErrAnd result (λ e. e ≡ error) → ((fault : FaultAt) → error ≡ errors.Fault fault → read ≡ Err fault) → Finds view result read
finds_err view (Ok x) read error is evidence = absurd is
finds_err view (Err (errors.Fault fault)) read error is evidence = evidence fault (sym is)
finds_err view (Err errors.NoMemory) read error is evidence = tt

pub found_err : {X Y : Type 0} (view : X → Y) (read : Result Y FaultAt) (error : FilterError) (fault : FaultAt) → Finds view (Err error) read → error ≡ errors.Fault fault → read ≡ Err fault
found_err view read (errors.Fault f) fault is same = let e : f ≡ fault = cc in is ∙ ap (λ x. Err x) e
found_err view read errors.NoMemory fault is same = absurd (cc)
