use Rattle.std.proofs.Common.{List, ℕ, subst, OnOk, append_assoc}
use Rattle.warg_crypto.proofs.Visits.{on_err, on_err-map, stops_first, stops_second}
use Rattle.std.specs.Prelude.{codes}
use Rattle.warg_registry.specs.PrefixEncodings.{hash_encoding_of}
use Rattle.warg_registry.proofs.leaf.MapLeafVisitPrefixEncode.visit_pe.Goals as goal

pub returns-in_err-visit_str_raw-clause-err : goal.returns-in_err-visit_str_raw-clause-err
returns-in_err-visit_str_raw-clause-err g c = on_err c.from_residual.result (stops_first _ _ _ _ _ _ c.in_err-visit_str_raw.ensures.err)

pub returns-clause-err : goal.returns-clause-err
returns-clause-err g c = rw (← c.from.ensures) (on_err-map c.visit_hash.result (λ x. (stops_second _ _ _ _ _ _ _ c.in_ok-visit_str_raw.ensures.ok x)) c.visit_hash.ensures.err)

pub returns-clause-ok : goal.returns-clause-ok
returns-clause-ok g c = λ m h. rw (← c.from.ensures)
    (subst (λ (l : List ℕ). OnOk c.visit_hash.result (g.BV.ByteVisitor.has_seen c.visit_hash.new.visitor.visitor.now l))
    (append_assoc m (codes "WARG-MAP-LEAF-V0") (hash_encoding_of c.from.result))
    (c.visit_hash.ensures.ok _ (c.in_ok-visit_str_raw.ensures.ok m h)))
