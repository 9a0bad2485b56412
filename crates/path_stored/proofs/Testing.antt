-- The tests of a stored path, kind by kind, table by table and command number by command number, as loops make them. Assumes nothing.
use Prim.Native.Nat.{ℕ, zero, suc, ◌+◌, ◌-◌, ◌*◌, ◌≤◌, ◌<◌}
use mathlib.Core.Path.{◌≡◌, refl, sym, ap, ◌∙◌}
use mathlib.Core.Bool.{Bool, true, false, ◌&&◌, and_assoc}
use mathlib.Core.List.{List}
use native.Mathlib.Numerals.{add-one}
use native.Mathlib.Omega.{arith}
use lib.Dec.{leb, ltb}
use lib.Ieee.{Float, nan}
use lib.ListN.{length, get_or, take, drop, drop_of_length-le, length-take, length-drop}
use lib.Seq.{drop-cons, take-take, get_or-take, get_or-drop}
use Rattle.table.specs.Sound.{table_is_sound, row_is_sound}
use Rattle.path_segment.specs.Segments.{table_at}
use Rattle.path_stored.specs.Stored.{are_known, tables_are_sound, never_fall}

-- nothing is left to test
none_left : (b : Bool) → b ≡ (b && true)
none_left true = refl
none_left false = refl

-- ---- kinds
module _ (kinds : List ℕ) (known : Bool) (i : ℕ) where
  -- one more test
  pub known_next : i < length kinds → (known && are_known (drop i kinds)) ≡ ((known && ltb (get_or kinds i 0) 5) && are_known (drop (i + 1) kinds))
  unfolding are_known
  known_next inside = rw (add-one, drop-cons kinds i 0 inside, and_assoc known)

  -- no kind is left
  pub known-end : length kinds ≤ i → known ≡ (known && are_known (drop i kinds))
  unfolding are_known
  known-end past = rw (drop_of_length-le kinds past) (none_left known)

-- ---- tables
abbrev pub sound_at : List Float → ℕ → Bool
sound_at tables n = table_is_sound (table_at tables (33 * n)).entries (table_at tables (33 * n)).total

pub sound-next : (tables : List Float) (n : ℕ) → tables_are_sound tables n ≡ true → sound_at tables n ≡ true → tables_are_sound tables (n + 1) ≡ true
unfolding tables_are_sound
sound-next tables n e f = rw (add-one, e, f)

unsound-on : (tables : List Float) (m n : ℕ) → m ≤ n → tables_are_sound tables m ≡ false → tables_are_sound tables n ≡ false
unfolding tables_are_sound
unsound-on tables m zero h e = ap (tables_are_sound tables) (let z : 0 ≡ m = omega arith in z) ∙ e
unsound-on tables m (suc n) h e = go (native.Mathlib.Decide.dec_lt n m) (λ g. unsound-on tables m n g e)
  where
    go : Dec (n < m) → (m ≤ n → tables_are_sound tables n ≡ false) → tables_are_sound tables (suc n) ≡ false
    go (yes a) f = ap (tables_are_sound tables) (let z : suc n ≡ m = omega arith in z) ∙ e
    go (no a) f = rw (f (omega arith))

-- an unsound table among the first n
pub sound-stop : (tables : List Float) (m n : ℕ) → m < n → tables_are_sound tables m ≡ true → sound_at tables m ≡ false → false ≡ tables_are_sound tables n
sound-stop tables m n h e f = sym (unsound-on tables (suc m) n h (unfold tables_are_sound in rw (e, f)))

-- the row of a table: its entries and its total
row_of : (row : List Float) → length row ≡ 33 → row_is_sound row ≡ table_is_sound (take 32 row) (get_or row 32 nan)
unfolding row_is_sound
row_of row e = let z : length row - 1 ≡ 32 = omega arith in rw z refl

pub row-part : (tables : List Float) (n : ℕ) → 33 * n + 33 ≤ length tables → row_is_sound (take (33 * n + 33 - 33 * n) (drop (33 * n) tables)) ≡ sound_at tables n
row-part tables n room =
    let z : 33 * n + 33 - 33 * n ≡ 33 = omega arith in
    let rest = drop (33 * n) tables in
    let size : length (take 33 rest) ≡ 33 = simp (length-take, length-drop) (omega arith) in
    ap (λ (k : ℕ). row_is_sound (take k rest)) z ∙ row_of (take 33 rest) size
    ∙ ap (λ (entries : List Float). table_is_sound entries (get_or (take 33 rest) 32 nan)) (take-take 32 33 rest (omega arith))
    ∙ ap (table_is_sound (take 32 rest)) (get_or-take 33 rest 32 nan (omega arith) ∙ get_or-drop (33 * n) tables 32 nan)

-- ---- command numbers
module _ (commands : List ℕ) (rise : Bool) (previous k : ℕ) where
  -- one more test
  pub falls-next : k < length commands → (rise && never_fall previous (drop k commands)) ≡ ((rise && leb previous (get_or commands k 0)) && never_fall (get_or commands k 0) (drop (k + 1) commands))
  unfolding never_fall
  falls-next inside = rw (add-one, drop-cons commands k 0 inside, and_assoc rise)

  -- no number is left
  pub falls-end : length commands ≤ k → rise ≡ (rise && never_fall previous (drop k commands))
  unfolding never_fall
  falls-end past = rw (drop_of_length-le commands past) (none_left rise)
