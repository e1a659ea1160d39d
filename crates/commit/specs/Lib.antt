-- The commit of a merge that was asked first, 02's F-3: what is promised beyond its contract. The contract is the session's (`Obeys`).
pub mod Promised
