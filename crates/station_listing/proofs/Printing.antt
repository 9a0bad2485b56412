-- The three sections, put one after the other. Assumes nothing.
use Prim.Native.Nat.{ℕ, ◌+◌, ◌≤◌}
use mathlib.Core.Path.{◌≡◌, refl, ap, subst}
use mathlib.Core.List.{List}
use native.Mathlib.Omega.{arith}
use lib.ListN.{length}
use Rattle.commands.specs.declared.command.PathCommand.{PathCommand}
use Rattle.svg.specs.Texts.{Outcome, commands, refusal, commands_of, offsets_of}
use Rattle.path_stored.specs.Buffers.{Buffers}
use Rattle.station_lines.specs.Lines.{header_line}
use Rattle.station_lines.specs.Put.{PutWithin}
use Rattle.station_lines.proofs.Putting.{within-as, within-then}
use Rattle.station_commands.specs.Passes.{command_lines, FewCommands, Listed}
use Rattle.station_sections.specs.Sections.{segment_lines, station_lines}
use Rattle.station_listing.specs.Stations.{commands_word, segments_word, stations_word, sections_of, Sized, Printed}

pub few-commands : {text : List ℕ} {places : ℕ} → Sized text places → FewCommands (commands_of text)
few-commands k = rw k.reads k.few

pub listed-within : (offsets : List ℕ) (o : Outcome) (from : ℕ) (before after : List ℕ) (next : ℕ) → Listed offsets o from before after next → next ≤ from + 17920
listed-within offsets (commands list) from before after next p = p.within
listed-within offsets (refusal reason) from before after next p = absurd p

listed-lines :
    {from : ℕ} {before after : List ℕ} {next : ℕ} {list : List PathCommand} (offsets : List ℕ) (o : Outcome) → o ≡ commands list → Listed offsets o from before after next
    → PutWithin 17920 (command_lines list offsets) from before after next
listed-lines {from} {before} {after} {next} {list} offsets (commands other) e p =
    let f : other ≡ list = cc in subst (λ (l : List PathCommand). PutWithin 17920 (command_lines l offsets) from before after next) f p
listed-lines offsets (refusal reason) e p = absurd p

pub printed :
    {text : List ℕ} {places : ℕ} (b : Buffers) {count : ℕ} {out₀ out₁ out₂ out₃ out₄ out₅ out₆ : List ℕ} {at₁ at₂ at₃ at₄ at₅ r : ℕ}
    → Sized text places
    → PutWithin 30 (header_line commands_word places) 0 out₀ out₁ at₁
    → Listed (offsets_of text) (commands_of text) at₁ out₁ out₂ at₂
    → PutWithin 30 (header_line segments_word (length b.kinds)) at₂ out₂ out₃ at₃
    → PutWithin 5632 (segment_lines b.kinds b.lengths b.commands) at₃ out₃ out₄ at₄
    → PutWithin 30 (header_line stations_word count) at₄ out₄ out₅ at₅
    → PutWithin 44000 (station_lines b count) at₅ out₅ out₆ r
    → Printed text b count out₀ out₆ r
unfolding sections_of
printed {text} b k p l c d e f =
    let first = within-as 30 (header_line commands_word (length k.list)) p.put (ap (header_line commands_word) k.count) p.within in
    let all = within-then first (within-then (listed-lines (offsets_of text) (commands_of text) k.reads l) (within-then c (within-then d (within-then e f)))) in
    record { list = k.list; reads = k.reads; put = within-as 69632 _ all.put refl (omega (arith, all.within)) }
