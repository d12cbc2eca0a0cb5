use Rattle.host_claims.proofs.hold.Statement.{statement}
use Rattle.host_claims.proofs.hold.Tie as tie
use Rattle.definition_runs.proofs.exported.Claims.{claims}

returns : tie.Need-returns
returns c = claims

pub hold_spec : {M : Type 1} → statement M
hold_spec = tie.close (tie.spec returns)
