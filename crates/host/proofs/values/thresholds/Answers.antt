use Rattle.host.proofs.values.Recorded.{recorded}
use Rattle.host.proofs.values.thresholds.Goals as goal

pub returns : goal.returns
returns c = recorded _ _ _ _ _ _ c.get_rx_tx_threshold-a.ensures c.put_thresholds.ensures
