pub mod SheetPlans
