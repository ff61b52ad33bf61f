use Rattle.std.proofs.Common.{Result, Ok, Err, ap, ◌∙◌, sym, refl}
use Rattle.std.specs.Str.{bytes_eq}
use Rattle.std.specs.Option.{option_and_then}
use Rattle.std.specs.Result.{IsOk, OnOk}
use Rattle.std.specs.Vec.{vec_items}
use Rattle.std.specs.Cmp.Lexicographic.{nat_list_eq_equiv}
use Rattle.std.proofs.lemmas.Map.Made.{update_all_distinct}
use Rattle.indexmap.specs.IndexMap.{get}
use Rattle.warg_replay.specs.AuditedLog.GrantIndexes.{number_in}
use Rattle.warg_replay.proofs.audited_log.grant_index.GrantIndex.commit.Goals as goal

taken : {T E : Type 0} (r : Result T E) (Q : Type 0) → IsOk r → OnOk r Q → Q
taken (Ok x) Q ok h = h
taken (Err e) Q ok h = cc

pub returns-clause-holdings : goal.returns-clause-holdings
returns-clause-holdings g c = λ k p. ap (option_and_then (λ v. number_in g.P.PartialEq.eq (vec_items v) p)) ((taken c.append-2.result _ (c.append-2.ensures.succeeds c.requires.keys) c.append-2.ensures.inserts).0 k
    ∙ update_all_distinct nat_list_eq_equiv bytes_eq (λ x y. refl) (get bytes_eq c.args.self.now.holdings) c.args.draft.holdings.entries k c.requires.unique)
