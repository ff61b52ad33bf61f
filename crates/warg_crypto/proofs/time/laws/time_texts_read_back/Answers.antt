use Rattle.warg_crypto.specs.Time.TimeTextLaws.{time_of-seconds_text}
use Rattle.warg_crypto.proofs.time.laws.time_texts_read_back.Goals as goal

pub returns : goal.returns
returns c = λ t text own e. time_of-seconds_text t.seconds t.nanos text own.nanos own.seconds e
