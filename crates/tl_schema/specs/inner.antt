-- What inner clauses cite; a reader of the contracts needs none of it.
pub mod SchemaCodes
pub mod SameNameSteps
pub mod Arities
pub mod VariableSteps
pub mod WhatSteps
pub mod AskedForms
pub mod BareForms
pub mod ConditionSteps
pub mod TakenNumbers
pub mod MarkedSteps
pub mod CheckSteps
pub mod SchemaParts
pub mod NamesNoted
pub mod TypeFaults
pub mod TypeSteps
