pub mod Items
pub mod Languages
pub mod ListLaws
pub mod StatementLaws
pub mod ItemLaws
