pub mod GameLists
