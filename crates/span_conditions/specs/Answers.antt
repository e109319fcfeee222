-- What a function of rows returns: what is meant, or out of memory.
use Rattle.std.specs.Prelude.{◌≡◌, Result, Ok, Err, Some, None, List}
use Rattle.span_expr.specs.declared.cell.Failure.{Failure}
use Rattle.span_expr.specs.declared.cell.Failure.TheVariants.{Fault, OutOfMemory}
use Rattle.span_query.specs.Rows.{OrFault, append_results}

-- It is what is meant, or its fault; nothing is stated where memory ran out.
abbrev pub Gives : {A : Type 0} → Result A Failure → OrFault A → Type 0
Gives (Ok x) o = o ≡ Some x
Gives (Err Fault) o = o ≡ None
Gives (Err OutOfMemory) o = Unit {0}

-- What is meant was put into place, or it is the fault; nothing is stated where memory ran out.
abbrev pub Puts : {A : Type 0} → Result (Unit {0}) Failure → OrFault A → A → Type 0
Puts (Ok done) o new = o ≡ Some new
Puts (Err Fault) o new = o ≡ None
Puts (Err OutOfMemory) o new = Unit {0}

-- What is meant was added to a list, or it is the fault; nothing is stated where memory ran out.
abbrev pub Adds : {A : Type 0} → Result (Unit {0}) Failure → OrFault (List A) → List A → List A → Type 0
Adds (Ok done) o old new = append_results (Some old) o ≡ Some new
Adds (Err Fault) o old new = o ≡ None
Adds (Err OutOfMemory) o old new = Unit {0}
