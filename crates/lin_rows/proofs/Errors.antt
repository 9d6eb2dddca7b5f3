-- What a `?` that returns an error hands on.
use Rattle.std.proofs.Common.{◌≡◌, sym, subst, Result, Ok, Err}
use Rattle.std.specs.Prelude.{IsErrAnd, IfErr}

pub err_holds : {T E : Type 0} (r : Result T E) (s : E) (Q : E → Type 0) → IsErrAnd r (λ e. e ≡ s) → Q s → IfErr r Q
err_holds (Ok x) s Q h q = tt
err_holds (Err e) s Q h q = subst Q (sym h) q
