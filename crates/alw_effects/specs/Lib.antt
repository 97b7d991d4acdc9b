pub mod Pieces
pub mod Effects
pub mod Before
