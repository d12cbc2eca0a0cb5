-- The definitions that the proofs of this crate open: the effect of each call, and how the code goes by it. Assumes nothing.
use Rattle.std.specs.Prelude.{⊤}
use Rattle.definition.specs.Status.{pick}
use Rattle.definition.specs.Pair.{with_signals, with_thresholds, with_read_disabled}
use Rattle.definition.specs.Effect.{if_open, own_bit, keeping_waits}
use Rattle.definition.specs.Shutdown.{shutting, shut_reading, shut_effect}
use Rattle.definition.specs.Close.{close_effect}
use Rattle.definition.specs.Disposition.{writing, peer_writing, reading, dispose_effect}
use Rattle.definition.specs.Threshold.{read_threshold_effect, write_threshold_effect}
use Rattle.endpoint.specs.ends.Outcome.{kept_ends}
use Rattle.endpoint.specs.ends.AtOnce.{own_changed, peer_changed, visit_of, own_after, peer_after, visits_of, first_two, moved_by, more_by}
use Rattle.control.specs.ByEffect.{visit_at, changed_end, moved_last}

unfoldable pub control_opened : ⊤
unfolding pick with_signals with_thresholds with_read_disabled if_open own_bit keeping_waits shutting shut_reading shut_effect close_effect writing peer_writing reading dispose_effect read_threshold_effect write_threshold_effect kept_ends own_changed peer_changed visit_of own_after peer_after visits_of first_two moved_by more_by visit_at changed_end moved_last
control_opened = tt
