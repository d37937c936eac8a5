pub mod PlanFiles
