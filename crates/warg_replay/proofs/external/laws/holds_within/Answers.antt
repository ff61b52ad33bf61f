use Rattle.warg_replay.proofs.Tellings.{told-within, within-told}
use Rattle.warg_replay.proofs.external.laws.holds_within.Goals as goal

pub returns : goal.returns
returns c = λ b t. (told-within b t, within-told b t)
