use Rattle.std.proofs.Common.{◌+◌, ◌++◌, [], get_or, drop, sym, ◌∙◌, ap, arith, append_assoc}
use Rattle.std.specs.List.{concat}
use Rattle.std.proofs.lemmas.List.{append-nil}
use Rattle.warg_merkle.specs.MapProof.ShortForms.{others_of}
use Rattle.warg_merkle.proofs.MapProofLemmas.Steps.{of_top, of_more_out, of_more_in}
use Rattle.warg_merkle.proofs.map_proof.build.push_others.Goals as goal
use Rattle.warg_merkle.proofs.map_proof.build.push_others.Goals.{then-not-is_right+in_ok-extend_from_slice, else-not-is_right}

pub loop-height-preserved : goal.loop-height-preserved
loop-height-preserved c =
    let (high, taken) = c.loop-height.invariant in
    let h = c.loop-height.height in
    let bits = c.args.left_out.now in
    let path = c.args.path.now in
    let bytes = c.loop-height.bytes.items in
    let rest = others_of (h + 1) bits (drop (h + 1) path) in
    elim c.if-not-is_right.branch [
      | then-not-is_right+in_ok-extend_from_slice w ↦
          let more = of_more_in h bits path (omega arith) (sym w.if-not-is_right.ensures) in
          rw w.bytes-is (
            omega arith,
            ap (λ b. b ++ concat rest) w.in_ok-extend_from_slice.ensures.items
                ∙ ap (λ p. (bytes ++ p) ++ concat rest) w.as_slice.ensures
                ∙ append_assoc bytes (get_or path h []) (concat rest)
                ∙ ap (λ os. bytes ++ concat os) (sym more)
                ∙ taken,
          )
      | else-not-is_right w ↦
          let more = of_more_out h bits path (omega arith) (sym w.if-not-is_right.ensures) in
          rw w.bytes-is (omega arith, ap (λ os. bytes ++ concat os) (sym more) ∙ taken)
    ]

pub returns : goal.returns
returns c =
    let (high, taken) = c.loop-height.invariant in
    let bytes = c.loop-height.bytes.items in
    sym (append-nil bytes) ∙ ap (λ os. bytes ++ concat os) (sym (of_top c.loop-height.height c.args.left_out.now c.args.path.now (omega arith))) ∙ taken
