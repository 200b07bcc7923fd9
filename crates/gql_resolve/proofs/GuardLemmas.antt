-- What is known of a result that is there.
use Rattle.std.proofs.Common.{◌≡◌, Result, Ok, Err, IfOk, refl}

pub when_ok : {T E : Type 0} (r : Result T E) (P : T → Type 0) → ((x : T) → r ≡ Ok x → P x) → IfOk r P
when_ok (Ok x) P f = f x refl
when_ok (Err e) P f = tt
