-- Tables of cases, computed through the definitions:
--   Lines          what a line of the listing shows of a call, and the lines of a run, computed
--   Edges          01 "At the edges": P1 to P14. Scripts: how the calls and lines of a case are written
--   Orders         orders of tests, rights, thresholds, info, memory at exit. Packets: waits and packets
--   Cancels        02 (i): cancel, on runs and on a table that no run leaves
--   Copies         02 (ii): copies out of a ring and into it, and places
--   Promises       what each promise says of one state, and what no line of a listing shows: queues, reading flags, words of a closed end
--   Damaged        01 "Status and answer word": damaged records, own enable, a closed full peer.
--                  States: what the states of single calls are made of; EveryCall: every call
--   Lends          01 "Status and answer word": short slices. FirstLengths: first lengths. LentCalls: the calls of both
--   Creates        01 "Status and answer word": create's arguments
pub mod Cancels
pub mod Copies
pub mod Creates
pub mod Damaged
pub mod Edges
pub mod EveryCall
pub mod FirstLengths
pub mod Lends
pub mod LentCalls
pub mod Lines
pub mod Orders
pub mod Packets
pub mod Promises
pub mod Scripts
pub mod States
