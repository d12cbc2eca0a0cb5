-- What a run of calls is, and what is claimed of runs. 01 "Two runs", "Status and answer word".
--   Run        a run of the code, by what each call ensures
--   TwoRuns    the lines of origins, and any list of calls run twice
--   Laws       a refused call changes nothing; memory at exit; no call of a run is INTERNAL; how many places a cancel frees
--   Copies     the copies between a ring and memory are those with the remainder at every byte. 02 (ii)
--   Example    runs with two memories, computed through the claim
--   Claims     all claims as one record; proofs/Claims has its proof, and the crate claims binds it to a function
--   Exported   the same for the calls that a kernel links; proofs/exported has its proofs, and the crate host_claims binds them
pub mod Run
pub mod TwoRuns
pub mod Laws
pub mod Copies
pub mod Example
pub mod Claims
pub mod Exported
