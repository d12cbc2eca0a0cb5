-- Where each paragraph of document 01 is defined. Every name is defined once.
--   Status and answer word    Status: statuses, answers, the answer word. Tests: the record, the slices, the handle. Create
--   Signal word and packets   Signal: the word. Port: the 128 places, wait, take, cancel (02 (i)).
--                             Effect: what a call does to both ends, the changes of words in their order, and the pair after it
--   Delivered bytes           Ring: a queue in its ring, and the copies with the remainder at every byte (02 (ii)).
--                             Write, Read, Threshold, Disposition, Shutdown, Close, each with its effect
--   Info record               Info
--   Calls over user memory    Memory: ranges, the count, the lookup. Write, Read, Disposition and Shutdown have these calls behind the plain ones
--   Two runs                  Calls: every call as data, with what it answers and leaves, computed
--   At the edges              cases: P1 to P14 and the other tables, computed through the definitions
-- Pair has the pair's record and its ends by the caller's handle.
pub mod Status
pub mod Signal
pub mod Ring
pub mod Pair
pub mod Tests
pub mod Port
pub mod Effect
pub mod Memory
pub mod Create
pub mod Write
pub mod Read
pub mod Threshold
pub mod Disposition
pub mod Shutdown
pub mod Close
pub mod Info
pub mod Calls
pub mod cases
