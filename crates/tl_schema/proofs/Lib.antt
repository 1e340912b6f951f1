pub mod Deciding
pub mod BareParts
pub mod AppliedTypes
pub mod SameNames
pub mod Results
pub mod SmallPrograms
pub mod FieldConditions
mod NameCases
mod HeadFamilies
mod Repeats
mod ArityCases
mod ListParts
mod Misapplied
pub mod Calls
pub mod UnknownVariables
pub mod Firsts
pub mod IndexesDecided
pub mod TypesDecided
pub mod WritingDecided
pub mod SameNameFirst
pub mod UnknownTypeFirst
pub mod UnknownVariableFirst
pub mod BadResultFirst
pub mod NotBareFirst
pub mod BadFlagFirst
pub mod OneArity
pub mod WrongArityFirst
pub mod CheckSequence
pub mod CheckOrder
pub mod BareDecided
pub mod TakesNoneDecided
pub mod SameNumberFirst
pub mod BareCycleFirst
pub mod EmptyElementFirst
mod ReferenceCycles
mod KnownNumbers
mod MarkedArguments
mod MeantEntries
mod NumberTests
mod NumberedIndexes
pub mod MeantTypes
mod DeclaredEntries
mod EmptyArguments
pub mod OneSchema
pub mod OneType
pub mod OneAnswer
mod TypeSteps
pub mod ClosedFormed
pub mod Members
pub mod BareShapes
pub mod FormedTypes
pub mod FieldsFormed
pub mod AskedFormed
pub mod ResultsFormed
pub mod Forms
pub mod Views
