use Rattle.span_version_laws.proofs.Live.{live_is_kept}
use Rattle.span_version_laws.proofs.live_is_kept.Goals as goal

pub returns : goal.returns
returns c = live_is_kept
