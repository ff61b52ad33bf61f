use Rattle.std.proofs.Common.{◌≡◌, ℕ, ◌+◌, ◌*◌, ◌%◌, ◌^◌, ◌<◌, List, [], ◌∷◌, take, length, get_or, refl, sym, ◌∙◌, ap}
use Rattle.std.proofs.lemmas.List.Sums.{fold_more}
use Rattle.warg_primes.proofs.Congruent.{Same, same, same_mod, both_times, both_plus}
use Rattle.warg_modular.specs.BigEndian.{big_endian}
use Rattle.warg_modular.specs.Value.{value}

big_endian_more : (bs : List ℕ) (i : ℕ) → i < length bs → big_endian (take (i + 1) bs) ≡ big_endian (take i bs) * 256 + get_or bs i 0
unfolding big_endian
big_endian_more bs i h = fold_more (λ a b. a * 256 + b) 0 bs i 0 h

pub more_bytes : (bs : List ℕ) (i m r : ℕ) → i < length bs → r ≡ big_endian (take i bs) % m → (r * 256 + get_or bs i 0) % m ≡ big_endian (take (i + 1) bs) % m
more_bytes bs i m r h e =
    let s : Same m (r * 256 + get_or bs i 0) (big_endian (take i bs) * 256 + get_or bs i 0) = both_plus (both_times (same_mod m r _ e) (same 256)) (same (get_or bs i 0)) in
    s.is ∙ ap (λ v. v % m) (sym (big_endian_more bs i h))

pub no_bytes : (bs : List ℕ) → value record { l0 = 0; l1 = 0; l2 = 0; l3 = 0 } ≡ big_endian (take 0 bs) % 2 ^ 256
unfolding value big_endian
no_bytes [] = refl
no_bytes (b ∷ bs) = refl
