pub mod PlanRecords
pub mod Records
