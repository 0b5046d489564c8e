-- How the reader finds the word of which a text may be the statement. No public clause speaks of it: what is found is listed again
-- and compared with the text, so these are the code's own affair, and what may be written is said by the other files alone.
pub mod ArmRows
pub mod Candidates
pub mod Names
pub mod Parts
pub mod Starts
pub mod ThumbRows
