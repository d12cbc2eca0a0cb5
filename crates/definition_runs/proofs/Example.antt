-- The runs with two memories, by the claim and by computation. Assumes nothing.
use Prim.Native.Nat.{ℕ}
use mathlib.Core.Path.{refl}
use mathlib.Core.List.{List}
use Rattle.definition.specs.cases.Scripts.{stream_kind, datagram_kind, create}
use Rattle.definition_runs.specs.Example.{salary, filler, stream_salary, stream_filler, empty_slices, used_slices, outcomes_of, last_of, create_of, sources_of, OnDatagrams, OnStreams, Examples}
use Rattle.definition.specs.Calls.{Input, Slices}
use Rattle.definition_runs.specs.Run.{Run}
use Rattle.definition_runs.proofs.runs.Exists.{runs_exist_lem}
use Rattle.definition_runs.proofs.TwoRuns.{two_runs}

run_of : (kind : ℕ) (l : Slices) (is : List Input) → Run (create kind 7) l l is (create_of kind l) (outcomes_of kind l is) (last_of kind l is)
unfolding create_of outcomes_of last_of
run_of kind l is = runs_exist_lem (create kind 7) l l is

on-datagrams : OnDatagrams
unfolding outcomes_of sources_of
on-datagrams =
    record {
      run1 = run_of datagram_kind empty_slices salary;
      run2 = run_of datagram_kind used_slices filler;
      alike =
          two_runs (create datagram_kind 7) empty_slices empty_slices used_slices used_slices (record { ring = refl; table = refl }) (record { ring = refl; table = refl }) salary filler refl
          _ _ _ _ _ _ (run_of datagram_kind empty_slices salary) (run_of datagram_kind used_slices filler);
      first = refl;
      second = refl;
      sources = refl;
    }

on-streams : OnStreams
unfolding outcomes_of sources_of
on-streams =
    record {
      run1 = run_of stream_kind empty_slices stream_salary;
      run2 = run_of stream_kind used_slices stream_filler;
      alike =
          two_runs (create stream_kind 7) empty_slices empty_slices used_slices used_slices (record { ring = refl; table = refl }) (record { ring = refl; table = refl })
          stream_salary stream_filler refl
          _ _ _ _ _ _ (run_of stream_kind empty_slices stream_salary) (run_of stream_kind used_slices stream_filler);
      first = refl;
      second = refl;
      sources = refl;
    }

pub examples : Examples
unfolding outcomes_of
examples = record { datagrams = on-datagrams; streams = on-streams; rings = refl; cancels = refl; cancels' = refl }
