-- What inner clauses cite; a reader of the contracts needs none of it.
pub mod Resolved
pub mod WhatSteps
pub mod BareSteps
pub mod Indexed
pub mod DeclCodes
