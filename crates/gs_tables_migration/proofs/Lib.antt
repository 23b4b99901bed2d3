pub mod SortedTrees
pub mod WholeMembers
pub mod WholeItems
pub mod PutMembers
pub mod WholeDocuments
pub mod SecondTrees
pub mod MigratedTexts
