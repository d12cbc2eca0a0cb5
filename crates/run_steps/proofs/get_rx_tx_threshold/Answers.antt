use Rattle.definition_runs.specs.Run.{did_thresholds}
use Rattle.run_steps.proofs.get_rx_tx_threshold.Goals as goal

pub returns : goal.returns
returns c = λ one two base memory. did_thresholds c.get_rx_tx_threshold.ensures
