pub mod Echoes
