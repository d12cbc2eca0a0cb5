use Rattle.host.proofs.values.Recorded.{recorded}
use Rattle.host.proofs.values.info.Goals as goal

pub returns : goal.returns
returns c = recorded _ _ _ _ _ _ c.get_info-a.ensures c.put_info.ensures
