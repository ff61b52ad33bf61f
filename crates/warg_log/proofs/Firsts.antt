-- Where the first of several offences is none, none of them is there.
use Rattle.std.proofs.Common.{◌≡◌, Bool, true, false, Option, Some, None, refl}
use Rattle.std.specs.Option.{option_map, option_or}
use Rattle.warg_log.specs.Offences.{unless}

pub or_first : {A : Type 0} (a b : Option A) → option_or a b ≡ None → a ≡ None
or_first None b h = refl
or_first (Some x) b h = h

pub or_second : {A : Type 0} (a b : Option A) → option_or a b ≡ None → b ≡ None
or_second None b h = h
or_second (Some x) b h = cc

pub unmapped : {A B : Type 0} (f : A → B) (o : Option A) → option_map f o ≡ None → o ≡ None
unmapped f None h = refl
unmapped f (Some x) h = cc

pub unless_holds : {O : Type 0} (b : Bool) (o : O) → unless b o ≡ None → b ≡ true
unless_holds true o h = refl
unless_holds false o h = cc
