-- The numbers and the table of each kind, one by one. Assumes nothing.
use Prim.Native.Nat.{ℕ, zero, suc, ◌≤◌}
use mathlib.Core.Path.{◌≡◌, refl, sym}
use mathlib.Core.Bool.{true, false, false≢true}
use native.Mathlib.Omega.{arith}
use Rattle.path_segment.specs.Segments.{width_of, tables_of, has_table}

-- ---- bounds

pub width-most : (kind : ℕ) → width_of kind ≤ 11
unfolding width_of
width-most zero = omega arith
width-most (suc zero) = omega arith
width-most (suc (suc zero)) = omega arith
width-most (suc (suc (suc zero))) = omega arith
width-most (suc (suc (suc (suc zero)))) = omega arith
width-most (suc (suc (suc (suc (suc kind))))) = omega arith

pub tables-most : (kind : ℕ) → tables_of kind ≤ 1
unfolding tables_of
tables-most zero = omega arith
tables-most (suc zero) = omega arith
tables-most (suc (suc zero)) = omega arith
tables-most (suc (suc (suc zero))) = omega arith
tables-most (suc (suc (suc (suc zero)))) = omega arith
tables-most (suc (suc (suc (suc (suc kind))))) = omega arith

-- a kind has one table or none
pub one_table : (kind : ℕ) → has_table kind ≡ true → tables_of kind ≡ 1
unfolding has_table tables_of
one_table zero e = absurd (false≢true e)
one_table (suc zero) e = refl
one_table (suc (suc zero)) e = refl
one_table (suc (suc (suc zero))) e = refl
one_table (suc (suc (suc (suc zero)))) e = absurd (false≢true e)
one_table (suc (suc (suc (suc (suc kind))))) e = absurd (false≢true e)

pub none-table : (kind : ℕ) → has_table kind ≡ false → tables_of kind ≡ 0
unfolding has_table tables_of
none-table zero e = refl
none-table (suc zero) e = absurd (false≢true (sym e))
none-table (suc (suc zero)) e = absurd (false≢true (sym e))
none-table (suc (suc (suc zero))) e = absurd (false≢true (sym e))
none-table (suc (suc (suc (suc zero)))) e = refl
none-table (suc (suc (suc (suc (suc kind))))) e = refl
