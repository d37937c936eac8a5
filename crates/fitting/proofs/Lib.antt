pub mod EachFits
pub mod GameFits
pub mod NodeKinds
pub mod Refusals
