-- Several facts of one result.
use Rattle.std.proofs.Common.{◌≡◌, Result, Ok, Err, Option, None, Some}
use Rattle.std.specs.Prelude.{IfOk}

pub if_ok2 : {T E : Type 0} (r : Result T E) (A B Q : T → Type 0) → ((x : T) → A x → B x → Q x) → IfOk r A → IfOk r B → IfOk r Q
if_ok2 (Ok x) A B Q f a b = f x a b
if_ok2 (Err e) A B Q f a b = tt

pub none_some : {T : Type 0} (x : T) → let o : Option T = None in o ≡ Some x → ⊥
none_some x e = cc
