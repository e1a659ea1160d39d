-- How what became of the points comes to an outcome.
pub mod Outcomes
-- Laws of the calls on an envelope, for the crates above.
pub mod CallLaws
-- With hard on, what is found lies between the limits.
pub mod HardLaws
-- Laws of its edits that the crates above cite too: what is accepted is valid, what is refused changes nothing, and 1.
pub mod EditLaws
pub mod JoinLaws
-- What `valid` and `typed` say of an envelope's parts, and that edits keep numbers in range of their types.
pub mod ValidParts
pub mod TypedParts
pub mod TypedLists
pub mod TypedLaws
pub mod TypedLookup
