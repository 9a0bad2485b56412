-- `season_sheet::lines::put_row` meets its contract: each row is a case of its definition. Assumes nothing.
use borrow.Author.Rules.{rules}
use Prim.Native.Nat.{ℕ, suc, ◌≤◌, ◌<◌}
use mathlib.Core.Path.{◌≡◌, refl}
use native.Mathlib.Omega.{arith}
use Rattle.station_lines.proofs.Putting.{within-as}
use Rattle.season_sheet.specs.Sheet.{name_of}
use Rattle.season_sheet.proofs.lines.put_row.Goals as goal

pub returns-in-1 : goal.returns-in-1
unfolding name_of
returns-in-1 c = rw c.in-1.is (within-as 40 _ c.put_header.ensures.put refl (omega (arith, c.put_header.ensures.within)))

pub returns-in-2 : goal.returns-in-2
unfolding name_of
returns-in-2 c = rw c.in-2.is (within-as 40 _ c.put_header-in-2.ensures.put refl (omega (arith, c.put_header-in-2.ensures.within)))

pub returns-in-3 : goal.returns-in-3
unfolding name_of
returns-in-3 c = rw c.in-3.is (within-as 40 _ c.put_header-in-3.ensures.put refl (omega (arith, c.put_header-in-3.ensures.within)))

pub returns-in-4 : goal.returns-in-4
unfolding name_of
returns-in-4 c = rw c.in-4.is (within-as 40 _ c.put_header-in-4.ensures.put refl (omega (arith, c.put_header-in-4.ensures.within)))

pub returns-in-5 : goal.returns-in-5
unfolding name_of
returns-in-5 c = rw c.in-5.is (within-as 40 _ c.put_header-in-5.ensures.put refl (omega (arith, c.put_header-in-5.ensures.within)))

pub returns-in-6 : goal.returns-in-6
unfolding name_of
returns-in-6 c = rw c.in-6.is (within-as 40 _ c.put_header-in-6.ensures.put refl (omega (arith, c.put_header-in-6.ensures.within)))

pub returns-in-7 : goal.returns-in-7
unfolding name_of
returns-in-7 c = rw c.in-7.is (within-as 40 _ c.put_header-in-7.ensures.put refl (omega (arith, c.put_header-in-7.ensures.within)))

pub returns-in-8 : goal.returns-in-8
unfolding name_of
returns-in-8 c = rw c.in-8.is (within-as 40 _ c.put_header-in-8.ensures.put refl (omega (arith, c.put_header-in-8.ensures.within)))

pub returns-in-9 : goal.returns-in-9
unfolding name_of
returns-in-9 c = rw c.in-9.is (within-as 40 _ c.put_header-in-9.ensures.put refl (omega (arith, c.put_header-in-9.ensures.within)))

pub returns-in-10 : goal.returns-in-10
unfolding name_of
returns-in-10 c = rw c.in-10.is (within-as 40 _ c.put_header-in-10.ensures.put refl (omega (arith, c.put_header-in-10.ensures.within)))

pub returns-in-11 : goal.returns-in-11
unfolding name_of
returns-in-11 c = rw c.in-11.is (within-as 40 _ c.put_header-in-11.ensures.put refl (omega (arith, c.put_header-in-11.ensures.within)))

pub returns-in-12 : goal.returns-in-12
unfolding name_of
returns-in-12 c = rw c.in-12.is (within-as 40 _ c.put_header-in-12.ensures.put refl (omega (arith, c.put_header-in-12.ensures.within)))

pub returns-in-13 : goal.returns-in-13
unfolding name_of
returns-in-13 c = rw c.in-13.is (within-as 40 _ c.put_header-in-13.ensures.put refl (omega (arith, c.put_header-in-13.ensures.within)))

pub returns-in-14 : goal.returns-in-14
unfolding name_of
returns-in-14 c = rw c.in-14.is (within-as 40 _ c.put_header-in-14.ensures.put refl (omega (arith, c.put_header-in-14.ensures.within)))

pub returns-in-15 : goal.returns-in-15
unfolding name_of
returns-in-15 c = rw c.in-15.is (within-as 40 _ c.put_header-in-15.ensures.put refl (omega (arith, c.put_header-in-15.ensures.within)))

pub returns-in-16 : goal.returns-in-16
unfolding name_of
returns-in-16 c = rw c.in-16.is (within-as 40 _ c.put_header-in-16.ensures.put refl (omega (arith, c.put_header-in-16.ensures.within)))

pub returns-in-17 : goal.returns-in-17
unfolding name_of
returns-in-17 c = rw c.in-17.is (within-as 40 _ c.put_header-in-17.ensures.put refl (omega (arith, c.put_header-in-17.ensures.within)))

pub returns-in-18 : goal.returns-in-18
unfolding name_of
returns-in-18 c = rw c.in-18.is (within-as 40 _ c.put_header-in-18.ensures.put refl (omega (arith, c.put_header-in-18.ensures.within)))

pub returns-in-19 : goal.returns-in-19
unfolding name_of
returns-in-19 c = rw c.in-19.is (within-as 40 _ c.put_header-in-19.ensures.put refl (omega (arith, c.put_header-in-19.ensures.within)))

pub returns-in-20 : goal.returns-in-20
unfolding name_of
returns-in-20 c = rw c.in-20.is (within-as 40 _ c.put_header-in-20.ensures.put refl (omega (arith, c.put_header-in-20.ensures.within)))

pub returns-in-21 : goal.returns-in-21
unfolding name_of
returns-in-21 c = rw c.in-21.is (within-as 40 _ c.put_header-in-21.ensures.put refl (omega (arith, c.put_header-in-21.ensures.within)))

pub returns-in-22 : goal.returns-in-22
unfolding name_of
returns-in-22 c = rw c.in-22.is (within-as 40 _ c.put_header-in-22.ensures.put refl (omega (arith, c.put_header-in-22.ensures.within)))

pub returns-in-23 : goal.returns-in-23
unfolding name_of
returns-in-23 c = rw c.in-23.is (within-as 40 _ c.put_header-in-23.ensures.put refl (omega (arith, c.put_header-in-23.ensures.within)))

-- the rows below the last are told apart one by one
up : (n row : ℕ) → n ≤ row → (row ≡ n → ⊥) → suc n ≤ row
up n row h g = omega arith

last_row : (row : ℕ) → 24 ≤ row → row < 25 → row ≡ 24
last_row row h g = omega arith

pub returns-in_default : goal.returns-in_default
unfolding name_of
returns-in_default c =
    let row1 = up 1 _ c.requires.0 c.in_default.in_default-own.rest.0.0.0.0.0.0.0.0.0.0.0.0.0.0.0.0.0.0.0.0.0.0.1 in
    let row2 = up 2 _ row1 c.in_default.in_default-own.rest.0.0.0.0.0.0.0.0.0.0.0.0.0.0.0.0.0.0.0.0.0.1 in
    let row3 = up 3 _ row2 c.in_default.in_default-own.rest.0.0.0.0.0.0.0.0.0.0.0.0.0.0.0.0.0.0.0.0.1 in
    let row4 = up 4 _ row3 c.in_default.in_default-own.rest.0.0.0.0.0.0.0.0.0.0.0.0.0.0.0.0.0.0.0.1 in
    let row5 = up 5 _ row4 c.in_default.in_default-own.rest.0.0.0.0.0.0.0.0.0.0.0.0.0.0.0.0.0.0.1 in
    let row6 = up 6 _ row5 c.in_default.in_default-own.rest.0.0.0.0.0.0.0.0.0.0.0.0.0.0.0.0.0.1 in
    let row7 = up 7 _ row6 c.in_default.in_default-own.rest.0.0.0.0.0.0.0.0.0.0.0.0.0.0.0.0.1 in
    let row8 = up 8 _ row7 c.in_default.in_default-own.rest.0.0.0.0.0.0.0.0.0.0.0.0.0.0.0.1 in
    let row9 = up 9 _ row8 c.in_default.in_default-own.rest.0.0.0.0.0.0.0.0.0.0.0.0.0.0.1 in
    let row10 = up 10 _ row9 c.in_default.in_default-own.rest.0.0.0.0.0.0.0.0.0.0.0.0.0.1 in
    let row11 = up 11 _ row10 c.in_default.in_default-own.rest.0.0.0.0.0.0.0.0.0.0.0.0.1 in
    let row12 = up 12 _ row11 c.in_default.in_default-own.rest.0.0.0.0.0.0.0.0.0.0.0.1 in
    let row13 = up 13 _ row12 c.in_default.in_default-own.rest.0.0.0.0.0.0.0.0.0.0.1 in
    let row14 = up 14 _ row13 c.in_default.in_default-own.rest.0.0.0.0.0.0.0.0.0.1 in
    let row15 = up 15 _ row14 c.in_default.in_default-own.rest.0.0.0.0.0.0.0.0.1 in
    let row16 = up 16 _ row15 c.in_default.in_default-own.rest.0.0.0.0.0.0.0.1 in
    let row17 = up 17 _ row16 c.in_default.in_default-own.rest.0.0.0.0.0.0.1 in
    let row18 = up 18 _ row17 c.in_default.in_default-own.rest.0.0.0.0.0.1 in
    let row19 = up 19 _ row18 c.in_default.in_default-own.rest.0.0.0.0.1 in
    let row20 = up 20 _ row19 c.in_default.in_default-own.rest.0.0.0.1 in
    let row21 = up 21 _ row20 c.in_default.in_default-own.rest.0.0.1 in
    let row22 = up 22 _ row21 c.in_default.in_default-own.rest.0.1 in
    let row23 = up 23 _ row22 c.in_default.in_default-own.rest.1 in
    let e : c.args.row ≡ 24 = last_row _ row23 c.requires.1 in
    rw e (within-as 40 _ c.put_header-in_default.ensures.put refl (omega (arith, c.put_header-in_default.ensures.within)))
