-- What the theorems speak of: tables and paths of f32 values, pairs that do not step back, and demand 3 of one table.
pub mod Stated
pub mod Swept
