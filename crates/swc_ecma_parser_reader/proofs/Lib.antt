pub mod Notes
pub mod Steps
pub mod Takes
pub mod Words
pub mod CleanStarts
mod FallsHeads
mod FallsDeclarations
mod FallsBlocks
mod FallsSimple
mod FallsJumps
mod FallsLoops
mod FallsWith
mod FallsIf
mod FallsFor
mod FallsLabels
mod FallsSwitch
mod FallsTry
mod FallsFunctions
pub mod Falls
pub mod expressions
pub mod patterns
pub mod classes
pub mod decorators
pub mod Loops
pub mod Meets
pub mod Behind
pub mod Errors
pub mod Between
pub mod Recovered
pub mod SoundRecovered
pub mod StatementEnds
pub mod SoundEnds
pub mod Strays
pub mod SoundParts
pub mod SoundFor
pub mod SoundFunctions
mod SoundBelow
mod SoundHeads
mod SoundBlocks
mod SoundSimple
mod SoundJumps
mod SoundLoops
mod SoundWith
mod SoundIf
mod SoundSwitch
mod SoundTry
mod SoundLabels
mod SoundDeclarations
pub mod Sound
pub mod SoundScripts
pub mod Plain
pub mod Opens
pub mod Chains
pub mod Answered
pub mod Calm
pub mod Below
pub mod Using
pub mod HeadWords
pub mod AwaitWords
pub mod Declarators
pub mod PlainParameters
mod CompleteHeads
mod CompleteJumps
mod CompleteDeclarations
mod CompleteSimple
pub mod CompleteParts
mod CompleteFor
mod CompleteFirst
pub mod First
mod CompleteBlocks
mod CompleteFunctions
mod CompleteSwitch
mod CompleteTry
mod CompleteLabels
mod CompleteForLoops
mod CompleteLoops
mod CompleteWith
mod CompleteIf
pub mod Complete
pub mod CompleteScripts
pub mod Unique
pub mod Empty
pub mod Told
pub mod Shallow
mod LimitsBelow
mod LimitsHeads
mod LimitsDeclarations
mod LimitsBlocks
mod LimitsSimple
mod LimitsJumps
mod LimitsLoops
mod LimitsWith
mod LimitsIf
mod LimitsFor
mod LimitsLabels
mod LimitsSwitch
mod LimitsTry
mod LimitsFunctions
pub mod Limits
pub mod KeepsParts
mod KeepsBelow
mod KeepsHeads
mod KeepsDeclarations
pub mod KeepsBlocks
mod KeepsSimple
mod KeepsJumps
mod KeepsLoops
mod KeepsWith
mod KeepsIf
mod KeepsFor
mod KeepsLabels
mod KeepsSwitch
pub mod KeepsTry
pub mod KeepsFunctions
pub mod Keeps
pub mod Objects
pub mod Spans
pub mod Refusals
pub mod Entries
pub mod Statements
pub mod Calls
