use Rattle.std.proofs.Common.{refl, sym, subst}
use Rattle.std.specs.Prelude.{◌≡◌}
use Rattle.std.proofs.lemmas.Result.{on_ok_weaker}
use Rattle.warg_crypto.specs.declared.hash.AnyHash.{AnyHash}
use Rattle.warg_crypto.specs.Json.Json.{IsReadBack}
use Rattle.warg_crypto.specs.Json.JsonTexts.{hash_in, hash_json}
use Rattle.warg_package_log.specs.ReleaseJson.{release_state_in, release_state_json}
use Rattle.warg_package_log.specs.ReleaseMap.{release_view}
use Rattle.warg_package_log.specs.declared.release.ReleaseState.{ReleaseState}
use Rattle.warg_package_log.proofs.SavableReleases.{release_reads_back, released_reads_back, yanked_reads_back}
use Rattle.warg_package_log.proofs.release.saved.ReleaseSavedValue.can_save.Goals as goal

pub returns-in-Released-clause-ok : goal.returns-in-Released-clause-ok
returns-in-Released-clause-ok c = rw (c.in_ok-check_time.ensures.ok.1, c.in-Released.is) (_, refl)

pub returns-in-Released-clause-back : goal.returns-in-Released-clause-back
returns-in-Released-clause-back c = λ versions.
    release_reads_back (release_view c.args.self.now)
    (subst (λ (h : AnyHash). IsReadBack hash_json hash_in (λ a b. a ≡ b) h) c.from.ensures c.hash_reads_back.ensures)
    c.in_ok-check_time.ensures.back
    (subst (λ (s : ReleaseState). IsReadBack release_state_json release_state_in (λ a b. a ≡ b) s) (sym c.in-Released.is)
    (released_reads_back c.in-Released.content c.hash_reads_back-in-Released.ensures))
    versions

pub returns-in-Yanked-clause-ok : goal.returns-in-Yanked-clause-ok
returns-in-Yanked-clause-ok c =
    on_ok_weaker c.check_time-in-Yanked.result (λ text. rw (c.in_ok-check_time.ensures.ok.1, c.in-Yanked.is, text.1) (_, refl)) c.check_time-in-Yanked.ensures.ok

pub returns-in-Yanked-clause-back : goal.returns-in-Yanked-clause-back
returns-in-Yanked-clause-back c =
    on_ok_weaker c.check_time-in-Yanked.result (λ timed versions.
    release_reads_back (release_view c.args.self.now)
    (subst (λ (h : AnyHash). IsReadBack hash_json hash_in (λ a b. a ≡ b) h) c.from.ensures c.hash_reads_back.ensures)
    c.in_ok-check_time.ensures.back
    (subst (λ (s : ReleaseState). IsReadBack release_state_json release_state_in (λ a b. a ≡ b) s) (sym c.in-Yanked.is)
    (yanked_reads_back c.in-Yanked.by c.in-Yanked.timestamp timed))
    versions) c.check_time-in-Yanked.ensures.back
