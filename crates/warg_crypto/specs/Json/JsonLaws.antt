-- Steps of what is written and read that succeeded.
use Rattle.std.specs.Prelude.{◌≡◌, Result, Ok, Err, refl}
use Rattle.warg_crypto.specs.declared.json.error.JsonError.{JsonError}
use Rattle.warg_crypto.specs.Json.Json.{json_result, ◌>>=◌}

-- what was written is the one that was meant
pub ok_same : {A : Type 0} (x y : A) → json_result x ≡ Ok y → x ≡ y
ok_same x y e = cc

-- both steps of a sequence succeeded
pub bind_ok : {A B : Type 0} (r : Result A JsonError) (f : A → Result B JsonError) (y : B) → (r >>= f) ≡ Ok y
    → (x : A) × (r ≡ Ok x) × (f x ≡ Ok y)
bind_ok (Ok x) f y e = (x, refl, e)
bind_ok (Err d) f y e = cc e
