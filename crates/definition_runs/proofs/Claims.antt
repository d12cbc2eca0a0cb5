-- Each claim by its proof. Assumes nothing.
use Rattle.definition_runs.specs.Claims.{Claims}
use Rattle.definition_runs.proofs.runs.Match.{calls_match}
use Rattle.definition_runs.proofs.runs.Whole.{runs_match}
use Rattle.definition_runs.proofs.runs.Exists.{runs_exist_lem}
use Rattle.definition_runs.proofs.TwoRuns.{two_runs}
use Rattle.definition_runs.proofs.Example.{examples}
use Rattle.definition_runs.proofs.Refused.{refused-changes-nothing, memory-at_exit}
use Rattle.definition_runs.proofs.RunsSound.{runs_are_sound}
use Rattle.definition_runs.proofs.cases.Lines.{lines_match}
use Rattle.definition.proofs.cases.Edges.{at_the_edges, in_order, packets_in_order, cancels_in_order}
use Rattle.definition_runs.proofs.Cancels.{cancel-frees}
use Rattle.definition_runs.proofs.Copies.{ring_copies_lem, every_entry_lem, call_copies_lem, copy_examples_lem}
use Rattle.definition.proofs.cases.Copies.{copies_in_order}
use Rattle.definition.proofs.cases.Damaged.{damaged_records, lent_slices_lem, first-lengths, create_arguments}

pub claims : Claims
claims =
    record {
      two_runs = two_runs;
      runs_exist = runs_exist_lem;
      examples = examples;
      refused = refused-changes-nothing;
      memory = memory-at_exit;
      sound = runs_are_sound;
      calls = calls_match;
      runs = runs_match;
      lines = lines_match;
      edges = at_the_edges;
      orders = in_order;
      packets = packets_in_order;
      frees = cancel-frees;
      cancels = cancels_in_order;
      ring_copies = ring_copies_lem;
      every_entry = every_entry_lem;
      call_copies = call_copies_lem;
      copy_examples = copy_examples_lem;
      copies = copies_in_order;
      damaged = damaged_records;
      lent = lent_slices_lem;
      firsts = first-lengths;
      create = create_arguments;
    }
