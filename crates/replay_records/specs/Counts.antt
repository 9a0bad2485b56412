-- How many answers were replayed and how many differ, modulo 2 ^ 32. Definitions only.
use Rattle.std.specs.Prelude.{◌+◌, ◌%◌, ◌^◌, Bool, cond}
use Rattle.replay_records.specs.declared.counts.Count.{Count}

abbrev pub none_yet : Count
none_yet = record { replayed = 0; different = 0 }

-- one answer more, which agrees or differs
abbrev pub seen_as : Count → Bool → Count
seen_as count agrees = record { replayed = (count.replayed + 1) % 2 ^ 32; different = cond agrees count.different ((count.different + 1) % 2 ^ 32) }
