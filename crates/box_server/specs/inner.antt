-- What inner clauses cite; a reader of the contracts needs none of it.
pub mod ServerCodes
pub mod LastIndexes
pub mod Insides
pub mod Carrying
pub mod Drafts
pub mod Drafted
pub mod Checks
pub mod Opening
pub mod Rooms
pub mod Taking
-- What inner clauses cite; a reader of the contracts needs none of it.
pub mod Loading
