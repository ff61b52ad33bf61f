use Rattle.warg_transparency.proofs.contradictions.shows_answer.Goals as goal

pub returns-in-Some : goal.returns-in-Some
returns-in-Some c = rw c.in-Some.is (λ is. c.verify_presence.ensures.shown is, λ shown. c.verify_presence.ensures.exact.1 shown.leads)

pub returns-in-None : goal.returns-in-None
returns-in-None c = rw c.in-None.is (λ is. c.verify_absence.ensures.shown is, λ shown. c.verify_absence.ensures.exact.1 shown.leads)
