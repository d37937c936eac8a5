pub mod Parts
pub mod SheetCalls
