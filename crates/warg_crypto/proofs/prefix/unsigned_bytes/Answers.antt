use Rattle.std.proofs.Common.{◌≡◌, ◌∷◌, ◌++◌, ◌<◌, ◌+◌, ◌%◌, ◌/◌, [], ℕ, List, length, take, arith, sym, ap, ◌∙◌, append_assoc}
use Rattle.std.proofs.lemmas.List.{take_more_set}
use Rattle.warg_crypto.specs.Prefix.{unsigned_of}
use Rattle.warg_crypto.proofs.PrefixLemmas.{length-front, more_groups, one_group, room, unsigned_of-some}
use Rattle.warg_crypto.proofs.prefix.unsigned_bytes.Goals as goal

pub bounds-buffer-len : goal.bounds-buffer-len
bounds-buffer-len c =
    let ten : length c.groups.buffer ≡ 10 = omega arith in
    omega (arith, room c.groups.len c.groups.rest c.args.number c.groups.buffer ten c.groups.invariant.inside c.ranges.number.fits c.groups.invariant.so_far c.groups-test.true)

pub groups-preserved : goal.groups-preserved
groups-preserved c =
    let ten : length c.groups.buffer ≡ 10 = omega arith in
    let space = room c.groups.len c.groups.rest c.args.number c.groups.buffer ten c.groups.invariant.inside c.ranges.number.fits c.groups.invariant.so_far c.groups-test.true in
    let front = take c.groups.len c.groups.buffer in
    let within : c.groups.len < length c.groups.buffer = omega (arith, space) in
    record {
      inside = omega (arith, space);
      so_far =
          ap (λ (l : List ℕ). l ++ unsigned_of (c.groups.rest / 128)) (take_more_set c.groups.buffer c.groups.len (c.groups.rest % 128 + 128) within)
          ∙ append_assoc front ((c.groups.rest % 128 + 128) ∷ []) (unsigned_of (c.groups.rest / 128))
          ∙ ap (λ (l : List ℕ). front ++ l) (sym (more_groups c.groups.rest c.groups-test.true))
          ∙ c.groups.invariant.so_far;
    }

pub bounds-buffer-len-2 : goal.bounds-buffer-len-2
bounds-buffer-len-2 c =
    let ten : length c.groups.buffer ≡ 10 = omega arith in
    omega (arith, unsigned_of-some c.groups.rest, length-front c.groups.len c.groups.rest c.args.number c.groups.buffer ten c.groups.invariant.inside c.ranges.number.fits c.groups.invariant.so_far)

pub shared_ref_as_front-result : goal.shared_ref_as_front-result
shared_ref_as_front-result c =
    let ten : length c.groups.buffer ≡ 10 = omega arith in
    omega (arith, unsigned_of-some c.groups.rest, length-front c.groups.len c.groups.rest c.args.number c.groups.buffer ten c.groups.invariant.inside c.ranges.number.fits c.groups.invariant.so_far)

pub returns : goal.returns
returns c =
    let ten : length c.groups.buffer ≡ 10 = omega arith in
    let within : c.groups.len < length c.groups.buffer = omega (arith, unsigned_of-some c.groups.rest, length-front c.groups.len c.groups.rest c.args.number c.groups.buffer ten c.groups.invariant.inside c.ranges.number.fits c.groups.invariant.so_far) in
    take_more_set c.groups.buffer c.groups.len c.groups.rest within
    ∙ ap (λ (l : List ℕ). take c.groups.len c.groups.buffer ++ l) (sym (one_group c.groups.rest c.groups-test.false))
    ∙ c.groups.invariant.so_far
