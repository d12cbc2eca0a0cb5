-- 01 "Script program".
--   Tag        the number of each tag
--   Record     a record of a script: its tag, its length, its body
--   Call       the call that a record makes, on the pair and on what the program lends
--   Line       one line of the listing
--   Listing    the machine that a script drives, and the listing of a whole script, from bytes to bytes
pub mod Tag
pub mod Record
pub mod Call
pub mod Line
pub mod Listing
pub mod cases
