pub mod TextFunctions
