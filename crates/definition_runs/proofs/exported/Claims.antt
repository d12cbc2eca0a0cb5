-- Each claim by its proof. Assumes nothing.
use Rattle.definition_runs.specs.Exported.{ExportedClaims}
use Rattle.definition_runs.proofs.exported.Steps.{calls_are_steps, refused_leaves}
use Rattle.definition_runs.proofs.exported.Runs.{create-starts, runs_are_runs}
use Rattle.definition_runs.proofs.exported.Exist.{runs_exist_lem}
use Rattle.definition_runs.proofs.exported.TwoRuns.{creates-alike, exported_two_runs}

pub claims : ExportedClaims
claims =
    record {
      calls = calls_are_steps;
      refused = refused_leaves;
      create = create-starts;
      runs = runs_are_runs;
      exist = runs_exist_lem;
      creates = creates-alike;
      two_runs = exported_two_runs;
    }
