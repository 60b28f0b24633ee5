pub mod Tests
pub mod Naming
pub mod SupportedIn
pub mod SupportedBegins
pub mod Ended
pub mod UsingParts
pub mod AwaitHeads
pub mod Marks
pub mod Decorated
pub mod Widens
pub mod Unnoted
pub mod Narrows
pub mod StatementEntries
pub mod FunctionExprs
pub mod MethodParts
pub mod Arrows
pub mod Binding
pub mod FewFlags
pub mod Tabled
pub mod language
mod Examples
mod Spelling
mod SpellingParts
mod SpelledExpressions
mod SpelledForms
mod SpelledPatterns
mod SpelledFunctions
pub mod Beginnings
mod Inversions
mod Unspelled
mod UnspelledForms
mod UnspelledPatterns
mod UnspelledAwait
mod SpellingItems
mod SpelledStatements
mod SpelledLoops
mod SpelledDirectives
mod SpelledItems
mod ReadWithFaults
pub mod ExpressionBegins
pub mod StatementBegins
pub mod Using
pub mod AwaitUsing
mod UnspelledStatements
mod UnspelledItems
