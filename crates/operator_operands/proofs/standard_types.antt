pub mod StandardTables
