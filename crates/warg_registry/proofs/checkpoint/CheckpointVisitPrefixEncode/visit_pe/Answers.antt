use Rattle.std.proofs.Common.{List, ℕ, subst, OnOk}
use Rattle.warg_crypto.proofs.Visits.{on_err, on_err-map, stops_first, stops_second}
use Rattle.std.specs.Prelude.{codes}
use Rattle.warg_crypto.specs.Prefix.{unsigned_of}
use Rattle.warg_registry.specs.PrefixEncodings.{hash_encoding_of}
use Rattle.warg_registry.proofs.Pieces.{pieces_4}
use Rattle.warg_registry.proofs.checkpoint.CheckpointVisitPrefixEncode.visit_pe.Goals as goal

pub returns-in_err-visit_str_raw-clause-err : goal.returns-in_err-visit_str_raw-clause-err
returns-in_err-visit_str_raw-clause-err g c = on_err c.from_residual.result (stops_first _ _ _ _ _ _ c.in_err-visit_str_raw.ensures.err)

pub returns-in_err-visit_unsigned-clause-err : goal.returns-in_err-visit_unsigned-clause-err
returns-in_err-visit_unsigned-clause-err g c = on_err c.from_residual-in_err-visit_unsigned.result (stops_second _ _ _ _ _ _ _ c.in_ok-visit_str_raw.ensures.ok (stops_first _ _ _ _ _ _ c.in_err-visit_unsigned.ensures.err))

pub returns-in_err-visit_hash-clause-err : goal.returns-in_err-visit_hash-clause-err
returns-in_err-visit_hash-clause-err g c = on_err c.from_residual-in_err-visit_hash.result (stops_second _ _ _ _ _ _ _ c.in_ok-visit_str_raw.ensures.ok (stops_second _ _ _ _ _ _ _ c.in_ok-visit_unsigned.ensures.ok (stops_first _ _ _ _ _ _ c.in_err-visit_hash.ensures.err)))

pub returns-clause-err : goal.returns-clause-err
returns-clause-err g c = on_err-map c.visit_hash-2.result (λ x. (stops_second _ _ _ _ _ _ _ c.in_ok-visit_str_raw.ensures.ok (stops_second _ _ _ _ _ _ _ c.in_ok-visit_unsigned.ensures.ok (stops_second _ _ _ _ _ _ _ c.in_ok-visit_hash.ensures.ok x)))) c.visit_hash-2.ensures.err

pub returns-clause-ok : goal.returns-clause-ok
returns-clause-ok g c = λ m h.
    subst (λ (l : List ℕ). OnOk c.visit_hash-2.result (g.BV.ByteVisitor.has_seen c.visit_hash-2.new.visitor.visitor.now l))
    (pieces_4 m (codes "WARG-CHECKPOINT-V0") (unsigned_of c.args.self.now.log_length) (hash_encoding_of c.args.self.now.log_root) (hash_encoding_of c.args.self.now.map_root))
    (c.visit_hash-2.ensures.ok _ (c.in_ok-visit_hash.ensures.ok _ (c.in_ok-visit_unsigned.ensures.ok _ (c.in_ok-visit_str_raw.ensures.ok m h))))
