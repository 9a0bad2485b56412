-- `decimal_tens::tens` meets its contract: each arm's number is computed from the definition at the arm's key, and no key is left past the table.
-- Assumes nothing.
use Rattle.decimal_tens.specs.Tens.{tens_of}
use Rattle.decimal_tens.proofs.Entries.{entry, past}
use Rattle.decimal_tens.proofs.tens.Goals as goal

pub returns-in-0 : goal.returns-in-0
unfolding tens_of
returns-in-0 c = entry 0 _ _ c.in-0.is tt

pub returns-in-1 : goal.returns-in-1
unfolding tens_of
returns-in-1 c = entry 1 _ _ c.in-1.is tt

pub returns-in-2 : goal.returns-in-2
unfolding tens_of
returns-in-2 c = entry 2 _ _ c.in-2.is tt

pub returns-in-3 : goal.returns-in-3
unfolding tens_of
returns-in-3 c = entry 3 _ _ c.in-3.is tt

pub returns-in-4 : goal.returns-in-4
unfolding tens_of
returns-in-4 c = entry 4 _ _ c.in-4.is tt

pub returns-in-5 : goal.returns-in-5
unfolding tens_of
returns-in-5 c = entry 5 _ _ c.in-5.is tt

pub returns-in-6 : goal.returns-in-6
unfolding tens_of
returns-in-6 c = entry 6 _ _ c.in-6.is tt

pub returns-in-7 : goal.returns-in-7
unfolding tens_of
returns-in-7 c = entry 7 _ _ c.in-7.is tt

pub returns-in-8 : goal.returns-in-8
unfolding tens_of
returns-in-8 c = entry 8 _ _ c.in-8.is tt

pub returns-in-9 : goal.returns-in-9
unfolding tens_of
returns-in-9 c = entry 9 _ _ c.in-9.is tt

pub returns-in-10 : goal.returns-in-10
unfolding tens_of
returns-in-10 c = entry 10 _ _ c.in-10.is tt

pub returns-in-11 : goal.returns-in-11
unfolding tens_of
returns-in-11 c = entry 11 _ _ c.in-11.is tt

pub returns-in-12 : goal.returns-in-12
unfolding tens_of
returns-in-12 c = entry 12 _ _ c.in-12.is tt

pub returns-in-13 : goal.returns-in-13
unfolding tens_of
returns-in-13 c = entry 13 _ _ c.in-13.is tt

pub returns-in-14 : goal.returns-in-14
unfolding tens_of
returns-in-14 c = entry 14 _ _ c.in-14.is tt

pub returns-in-15 : goal.returns-in-15
unfolding tens_of
returns-in-15 c = entry 15 _ _ c.in-15.is tt

pub returns-in-16 : goal.returns-in-16
unfolding tens_of
returns-in-16 c = entry 16 _ _ c.in-16.is tt

pub returns-in-17 : goal.returns-in-17
unfolding tens_of
returns-in-17 c = entry 17 _ _ c.in-17.is tt

pub returns-in-18 : goal.returns-in-18
unfolding tens_of
returns-in-18 c = entry 18 _ _ c.in-18.is tt

pub returns-in-19 : goal.returns-in-19
unfolding tens_of
returns-in-19 c = entry 19 _ _ c.in-19.is tt

pub returns-in-20 : goal.returns-in-20
unfolding tens_of
returns-in-20 c = entry 20 _ _ c.in-20.is tt

pub returns-in-21 : goal.returns-in-21
unfolding tens_of
returns-in-21 c = entry 21 _ _ c.in-21.is tt

pub returns-in-22 : goal.returns-in-22
unfolding tens_of
returns-in-22 c = entry 22 _ _ c.in-22.is tt

pub returns-in-23 : goal.returns-in-23
unfolding tens_of
returns-in-23 c = entry 23 _ _ c.in-23.is tt

pub returns-in-24 : goal.returns-in-24
unfolding tens_of
returns-in-24 c = entry 24 _ _ c.in-24.is tt

pub returns-in-25 : goal.returns-in-25
unfolding tens_of
returns-in-25 c = entry 25 _ _ c.in-25.is tt

pub returns-in-26 : goal.returns-in-26
unfolding tens_of
returns-in-26 c = entry 26 _ _ c.in-26.is tt

pub returns-in-27 : goal.returns-in-27
unfolding tens_of
returns-in-27 c = entry 27 _ _ c.in-27.is tt

pub returns-in-28 : goal.returns-in-28
unfolding tens_of
returns-in-28 c = entry 28 _ _ c.in-28.is tt

pub returns-in-29 : goal.returns-in-29
unfolding tens_of
returns-in-29 c = entry 29 _ _ c.in-29.is tt

pub returns-in-30 : goal.returns-in-30
unfolding tens_of
returns-in-30 c = entry 30 _ _ c.in-30.is tt

pub returns-in-31 : goal.returns-in-31
unfolding tens_of
returns-in-31 c = entry 31 _ _ c.in-31.is tt

pub returns-in-32 : goal.returns-in-32
unfolding tens_of
returns-in-32 c = entry 32 _ _ c.in-32.is tt

pub returns-in-33 : goal.returns-in-33
unfolding tens_of
returns-in-33 c = entry 33 _ _ c.in-33.is tt

pub returns-in-34 : goal.returns-in-34
unfolding tens_of
returns-in-34 c = entry 34 _ _ c.in-34.is tt

pub returns-in-35 : goal.returns-in-35
unfolding tens_of
returns-in-35 c = entry 35 _ _ c.in-35.is tt

pub returns-in-36 : goal.returns-in-36
unfolding tens_of
returns-in-36 c = entry 36 _ _ c.in-36.is tt

pub returns-in-37 : goal.returns-in-37
unfolding tens_of
returns-in-37 c = entry 37 _ _ c.in-37.is tt

pub returns-in-38 : goal.returns-in-38
unfolding tens_of
returns-in-38 c = entry 38 _ _ c.in-38.is tt

pub returns-in-39 : goal.returns-in-39
unfolding tens_of
returns-in-39 c = entry 39 _ _ c.in-39.is tt

pub returns-in-40 : goal.returns-in-40
unfolding tens_of
returns-in-40 c = entry 40 _ _ c.in-40.is tt

pub returns-in-41 : goal.returns-in-41
unfolding tens_of
returns-in-41 c = entry 41 _ _ c.in-41.is tt

pub returns-in-42 : goal.returns-in-42
unfolding tens_of
returns-in-42 c = entry 42 _ _ c.in-42.is tt

pub returns-in-43 : goal.returns-in-43
unfolding tens_of
returns-in-43 c = entry 43 _ _ c.in-43.is tt

pub returns-in-44 : goal.returns-in-44
unfolding tens_of
returns-in-44 c = entry 44 _ _ c.in-44.is tt

pub returns-in-45 : goal.returns-in-45
unfolding tens_of
returns-in-45 c = entry 45 _ _ c.in-45.is tt

pub returns-in-46 : goal.returns-in-46
unfolding tens_of
returns-in-46 c = entry 46 _ _ c.in-46.is tt

pub returns-in-47 : goal.returns-in-47
unfolding tens_of
returns-in-47 c = entry 47 _ _ c.in-47.is tt

pub returns-in-48 : goal.returns-in-48
unfolding tens_of
returns-in-48 c = entry 48 _ _ c.in-48.is tt

pub returns-in-49 : goal.returns-in-49
unfolding tens_of
returns-in-49 c = entry 49 _ _ c.in-49.is tt

pub returns-in-50 : goal.returns-in-50
unfolding tens_of
returns-in-50 c = entry 50 _ _ c.in-50.is tt

pub returns-in-51 : goal.returns-in-51
unfolding tens_of
returns-in-51 c = entry 51 _ _ c.in-51.is tt

pub returns-in-52 : goal.returns-in-52
unfolding tens_of
returns-in-52 c = entry 52 _ _ c.in-52.is tt

pub returns-in-53 : goal.returns-in-53
unfolding tens_of
returns-in-53 c = entry 53 _ _ c.in-53.is tt

pub returns-in-54 : goal.returns-in-54
unfolding tens_of
returns-in-54 c = entry 54 _ _ c.in-54.is tt

pub returns-in-55 : goal.returns-in-55
unfolding tens_of
returns-in-55 c = entry 55 _ _ c.in-55.is tt

pub returns-in-56 : goal.returns-in-56
unfolding tens_of
returns-in-56 c = entry 56 _ _ c.in-56.is tt

pub returns-in-57 : goal.returns-in-57
unfolding tens_of
returns-in-57 c = entry 57 _ _ c.in-57.is tt

pub returns-in-58 : goal.returns-in-58
unfolding tens_of
returns-in-58 c = entry 58 _ _ c.in-58.is tt

pub returns-in-59 : goal.returns-in-59
unfolding tens_of
returns-in-59 c = entry 59 _ _ c.in-59.is tt

pub returns-in-60 : goal.returns-in-60
unfolding tens_of
returns-in-60 c = entry 60 _ _ c.in-60.is tt

pub returns-in-61 : goal.returns-in-61
unfolding tens_of
returns-in-61 c = entry 61 _ _ c.in-61.is tt

pub returns-in-62 : goal.returns-in-62
unfolding tens_of
returns-in-62 c = entry 62 _ _ c.in-62.is tt

pub returns-in-63 : goal.returns-in-63
unfolding tens_of
returns-in-63 c = entry 63 _ _ c.in-63.is tt

pub returns-in-64 : goal.returns-in-64
unfolding tens_of
returns-in-64 c = entry 64 _ _ c.in-64.is tt

pub returns-in-65 : goal.returns-in-65
unfolding tens_of
returns-in-65 c = entry 65 _ _ c.in-65.is tt

pub returns-in-66 : goal.returns-in-66
unfolding tens_of
returns-in-66 c = entry 66 _ _ c.in-66.is tt

pub returns-in-67 : goal.returns-in-67
unfolding tens_of
returns-in-67 c = entry 67 _ _ c.in-67.is tt

pub returns-in-68 : goal.returns-in-68
unfolding tens_of
returns-in-68 c = entry 68 _ _ c.in-68.is tt

pub returns-in-69 : goal.returns-in-69
unfolding tens_of
returns-in-69 c = entry 69 _ _ c.in-69.is tt

pub returns-in-70 : goal.returns-in-70
unfolding tens_of
returns-in-70 c = entry 70 _ _ c.in-70.is tt

pub returns-in-71 : goal.returns-in-71
unfolding tens_of
returns-in-71 c = entry 71 _ _ c.in-71.is tt

pub returns-in-72 : goal.returns-in-72
unfolding tens_of
returns-in-72 c = entry 72 _ _ c.in-72.is tt

pub returns-in-73 : goal.returns-in-73
unfolding tens_of
returns-in-73 c = entry 73 _ _ c.in-73.is tt

pub returns-in-74 : goal.returns-in-74
unfolding tens_of
returns-in-74 c = entry 74 _ _ c.in-74.is tt

pub returns-in-75 : goal.returns-in-75
unfolding tens_of
returns-in-75 c = entry 75 _ _ c.in-75.is tt

pub returns-in-76 : goal.returns-in-76
unfolding tens_of
returns-in-76 c = entry 76 _ _ c.in-76.is tt

pub returns-in-77 : goal.returns-in-77
unfolding tens_of
returns-in-77 c = entry 77 _ _ c.in-77.is tt

pub returns-in-78 : goal.returns-in-78
unfolding tens_of
returns-in-78 c = entry 78 _ _ c.in-78.is tt

pub returns-in-79 : goal.returns-in-79
unfolding tens_of
returns-in-79 c = entry 79 _ _ c.in-79.is tt

pub returns-in-80 : goal.returns-in-80
unfolding tens_of
returns-in-80 c = entry 80 _ _ c.in-80.is tt

pub returns-in-81 : goal.returns-in-81
unfolding tens_of
returns-in-81 c = entry 81 _ _ c.in-81.is tt

pub returns-in-82 : goal.returns-in-82
unfolding tens_of
returns-in-82 c = entry 82 _ _ c.in-82.is tt

pub returns-in-83 : goal.returns-in-83
unfolding tens_of
returns-in-83 c = entry 83 _ _ c.in-83.is tt

pub returns-in-84 : goal.returns-in-84
unfolding tens_of
returns-in-84 c = entry 84 _ _ c.in-84.is tt

pub returns-in-85 : goal.returns-in-85
unfolding tens_of
returns-in-85 c = entry 85 _ _ c.in-85.is tt

pub returns-in-86 : goal.returns-in-86
unfolding tens_of
returns-in-86 c = entry 86 _ _ c.in-86.is tt

pub returns-in-87 : goal.returns-in-87
unfolding tens_of
returns-in-87 c = entry 87 _ _ c.in-87.is tt

pub returns-in-88 : goal.returns-in-88
unfolding tens_of
returns-in-88 c = entry 88 _ _ c.in-88.is tt

pub returns-in-89 : goal.returns-in-89
unfolding tens_of
returns-in-89 c = entry 89 _ _ c.in-89.is tt

pub returns-in-90 : goal.returns-in-90
unfolding tens_of
returns-in-90 c = entry 90 _ _ c.in-90.is tt

pub returns-in-91 : goal.returns-in-91
unfolding tens_of
returns-in-91 c = entry 91 _ _ c.in-91.is tt

pub returns-in-92 : goal.returns-in-92
unfolding tens_of
returns-in-92 c = entry 92 _ _ c.in-92.is tt

pub returns-in-93 : goal.returns-in-93
unfolding tens_of
returns-in-93 c = entry 93 _ _ c.in-93.is tt

pub returns-in-94 : goal.returns-in-94
unfolding tens_of
returns-in-94 c = entry 94 _ _ c.in-94.is tt

pub returns-in-95 : goal.returns-in-95
unfolding tens_of
returns-in-95 c = entry 95 _ _ c.in-95.is tt

pub returns-in-96 : goal.returns-in-96
unfolding tens_of
returns-in-96 c = entry 96 _ _ c.in-96.is tt

pub returns-in-97 : goal.returns-in-97
unfolding tens_of
returns-in-97 c = entry 97 _ _ c.in-97.is tt

pub returns-in-98 : goal.returns-in-98
unfolding tens_of
returns-in-98 c = entry 98 _ _ c.in-98.is tt

pub returns-in-99 : goal.returns-in-99
unfolding tens_of
returns-in-99 c = entry 99 _ _ c.in-99.is tt

pub returns-in-100 : goal.returns-in-100
unfolding tens_of
returns-in-100 c = entry 100 _ _ c.in-100.is tt

pub returns-in-101 : goal.returns-in-101
unfolding tens_of
returns-in-101 c = entry 101 _ _ c.in-101.is tt

pub returns-in-102 : goal.returns-in-102
unfolding tens_of
returns-in-102 c = entry 102 _ _ c.in-102.is tt

pub returns-in_default : goal.returns-in_default
unfolding tens_of
returns-in_default c = past _ c.in_default.in_default-own.rest
