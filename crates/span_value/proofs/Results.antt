-- What a result is, it is alone.
use Rattle.std.proofs.Common.{◌≡◌, Result, Ok}

pub ok_same : {A E : Type 0} (r : Result A E) (x y : A) → r ≡ Ok x → r ≡ Ok y → x ≡ y
ok_same r x y first second = cc
