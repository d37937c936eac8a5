pub mod Dividing
pub mod SetParts
pub mod PlanOdds
pub mod OddsFiles
pub mod MadeSheets
