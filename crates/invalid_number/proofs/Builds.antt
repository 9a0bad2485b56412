-- Building from a text, through C too, and the station tool: where the answer is 4 with k, an exponent without a digit has its e at k.
use Prim.Native.Nat.{ℕ, suc}
use mathlib.Core.Path.{◌≡◌, refl, sym, ap, ◌∙◌}
use mathlib.Core.Bool.{Bool, true, false, cond}
use mathlib.Core.List.{List, [], ◌∷◌}
use mathlib.Core.Logic.{◌⊎◌, inl, inr}
use native.Mathlib.Omega.{arith}
use lib.Dec.{ltb}
use lib.Ieee.{Float}
use lib.Ieee.Scale.{finite}
use lib.ListN.{length, get_or, drop}
use Rattle.std.specs.Prelude.{Option, Some, None, Result}
use Rattle.answers.specs.Answers.{Answer, refused, accepted}
use Rattle.answers.specs.declared.refusals.Refusal.{Refusal}
use Rattle.answers.specs.declared.refusals.Refusal.TheVariants.{TooLong, NoRoom, NotFinite, RotationRange, InvalidNumber}
use Rattle.answers.specs.declared.refusals.Values.{Values}
use Rattle.answers.specs.declared.refusals.Values.TheVariants.{Three}
use Rattle.floats.specs.Floats.{zero_f}
use Rattle.commands.specs.Stored.{letters_of, numbers_of}
use Rattle.commands.specs.declared.command.PathCommand.{PathCommand}
use Rattle.svg.specs.Texts.{Outcome, commands, refusal as unread, commands_of, offsets_of}
use Rattle.path_segment.specs.declared.segments.PathSegment.{PathSegment}
use Rattle.path_stored.specs.Buffers.{Buffers}
use Rattle.path_stored.specs.Layout.{laid_wholly}
use Rattle.path_drawing.specs.Building.{Built, path, refusal, prepend, length_after, follow, build_from, build_of, drawers_of}
use Rattle.path_drawing.specs.Drawing.{fresh_of, draw_of}
use Rattle.path_drawing.specs.declared.pens.Pen.{Pen}
use Rattle.path_drawing.specs.declared.strokes.Drawn.{Drawn}
use Rattle.path_drawing.specs.declared.strokes.Drawn.TheVariants.{Moved, Segment}
use Rattle.path_build.specs.Answers.{roomed, answered, answer_of, is_short, counts_of, values, Answers}
use Rattle.path_build.specs.Paths.{lent_of}
use Rattle.path_storing.specs.declared.sites.Sizes.{Sizes}
use Rattle.path_build.specs.declared.room.Counts.{Counts}
use Rattle.path_text.specs.Builds.{built_from, build_read_of, build_text_of, drawers_text_of, BuildFromText}
use Rattle.kihavute_paths.specs.Paths.{PathBuilt}
use Rattle.station_lines.specs.Lines.{refusal_line}
use Rattle.station_listing.specs.Stations.{sections_of, built_of, read_of, plan_of, judged_of, stations_of}
use Rattle.invalid_number.specs.Cause.{Bare, Caused}
use Rattle.invalid_number.proofs.Steps.{OutcomeCaused, text-caused}
use Rattle.invalid_number.proofs.Entries.{cond_either, AnswerCaused, refused-caused, accepted-caused, reported, long-caused}

module _ (text : List ℕ) where
  abbrev BuiltCaused : Built → Type 0
  BuiltCaused (path list) = Unit
  BuiltCaused (refusal x) = Caused text x

  -- refusals of building and of room are not 4
  infinite-caused : (n : ℕ) → Caused text (NotFinite n)
  infinite-caused n k e = let z : ◌≡◌ {A = ℕ} 0 1 = cc in absurd (omega arith)

  rotation-caused : (n : ℕ) → Caused text (RotationRange n)
  rotation-caused n k e = let z : ◌≡◌ {A = ℕ} 0 1 = cc in absurd (omega arith)

  room-caused : (needs : Values) → Caused text (NoRoom needs)
  room-caused needs k e = let z : ◌≡◌ {A = ℕ} 0 1 = cc in absurd (omega arith)

  -- ---- a list of commands

  prepended : (segment : PathSegment) (rest : Built) → BuiltCaused rest → BuiltCaused (prepend segment rest)
  prepended segment (path list) h = tt
  prepended segment (refusal x) h = h

  followed :
      (k : ℕ) (before : Float) (drawn : Option Drawn) (rest : ℕ → Float → Pen → Built) → ((j : ℕ) (length : Float) (pen : Pen) → BuiltCaused (rest j length pen))
      → BuiltCaused (follow k before drawn rest)
  followed k before (Some (Moved next)) rest h = h k before next
  followed k before (Some (Segment segment next)) rest h =
      cond_either BuiltCaused (finite (length_after before segment)) (prepend segment (rest (suc k) (length_after before segment) next)) (refusal (NotFinite k))
      (prepended segment (rest (suc k) (length_after before segment) next) (h (suc k) (length_after before segment) next)) (infinite-caused k)
  followed k before None rest h = rotation-caused k

  from-caused : (list : List PathCommand) (k : ℕ) (before : Float) (pen : Pen) → BuiltCaused (build_from list k before pen)
  unfolding build_from
  from-caused [] k before pen = tt
  from-caused (command ∷ list) k before pen = followed k before (draw_of pen command) (build_from list) (from-caused list)

  list-caused : (list : List PathCommand) → BuiltCaused (build_of list)
  unfolding build_of
  list-caused list = from-caused list 0 zero_f fresh_of

  -- ---- a text

  outcome-built : (outcome : Outcome) → OutcomeCaused text outcome → BuiltCaused (built_from outcome)
  outcome-built (commands list) h = list-caused list
  outcome-built (unread x) h = h

  read-built : BuiltCaused (build_read_of text)
  unfolding build_read_of
  read-built =
      cond_either BuiltCaused (ltb 65536 (length text)) (refusal (TooLong (length text))) (built_from (commands_of text)) (long-caused text (length text))
      (outcome-built (commands_of text) (text-caused text))

  roomed-built : (lent : Counts) (built : Built) → BuiltCaused built → BuiltCaused (roomed lent built)
  roomed-built lent (path list) h = cond_either BuiltCaused (is_short (counts_of list) lent) _ (path list) (room-caused _) tt
  roomed-built lent (refusal x) h = h

  answered-built : (built : Built) → BuiltCaused built → AnswerCaused text (answered built)
  answered-built (path list) h = accepted-caused text (values (counts_of list))
  answered-built (refusal x) h = refused-caused text x h

  text-built : (lent : Counts) → AnswerCaused text (answered (build_text_of text lent))
  text-built lent = answered-built (build_text_of text lent) (roomed-built lent (build_read_of text) read-built)

  -- any result that the contract of `path_text::build_from_text` allows
  pub build-text-bare :
      {b b' : Buffers} (r : Result Sizes Refusal) → BuildFromText text b r b' → (answer_of r).number ≡ 4 → (k : ℕ) × ((answer_of r).values ≡ k ∷ []) × Bare text k
  build-text-bare {b} {b'} r p e =
      let f = text-built (lent_of b) (sym (ap (λ (a : Answer). a.number) p.answer) ∙ e) in
      (f.0, ap (λ (a : Answer). a.values) p.answer ∙ f.1, f.2)

  -- and of `kihavute_build_text`
  pub kihavute-build-text-bare :
      {b b' : Buffers} {answer answer' : List ℕ} (returned : ℕ) → PathBuilt (build_text_of text (lent_of b)) (drawers_text_of text) b answer returned b' answer' → returned ≡ 4
      → (k : ℕ) × (get_or answer' 0 0 ≡ k) × Bare text k
  kihavute-build-text-bare {b} {b'} {answer} {answer'} returned p e =
      reported text (answered (build_text_of text (lent_of b))) answer returned answer' (text-built (lent_of b)) p.reported e

-- ---- the station tool

-- a listing is its sections, or the line of a refusal; where that refusal is 4, it is at the e of an exponent without a digit in the path's text
abbrev pub LineCaused : List ℕ → List ℕ → Type 0
LineCaused text line = (reason : Refusal) × ((line ≡ refusal_line reason) × Caused text reason)

abbrev pub Sections : List ℕ → Type 0
Sections line = (list : List PathCommand) × ((offsets : List ℕ) × ((b : Buffers) × ((count : ℕ) × (line ≡ sections_of list offsets b count))))

built-line : (text : List ℕ) (count : ℕ) (list : List PathCommand) (offsets : List ℕ) (built : Built) → BuiltCaused text built → Sections (built_of count list offsets built) ⊎ LineCaused text (built_of count list offsets built)
built-line text count list offsets (path segments) h = inl (list, (offsets, (laid_wholly segments (drawers_of list), (count, refl))))
built-line text count list offsets (refusal x) h = inr (x, (refl, h))

read-line : (text : List ℕ) (count : ℕ) (offsets : List ℕ) (outcome : Outcome) → OutcomeCaused text outcome → Sections (read_of count offsets outcome) ⊎ LineCaused text (read_of count offsets outcome)
unfolding read_of
read-line text count offsets (commands list) h =
    cond_either (λ (line : List ℕ). Sections line ⊎ LineCaused text line) (ltb 256 (length (letters_of list))) _ (built_of count list offsets (build_of list))
    (inr (NoRoom (Three (length (letters_of list)) (length (numbers_of list)) (length offsets)), (refl, room-caused text _))) (built-line text count list offsets (build_of list) (list-caused text list))
read-line text count offsets (unread x) h = inr (x, (refl, h))

-- of a plan whose first line is right
pub listing-bare : (count : ℕ) (text : List ℕ) → Sections (plan_of count text) ⊎ LineCaused text (plan_of count text)
unfolding plan_of
listing-bare count text =
    cond_either (λ (line : List ℕ). Sections line ⊎ LineCaused text line) (ltb 4096 (length text)) (refusal_line (TooLong 4097)) (read_of count (offsets_of text) (commands_of text))
    (inr (TooLong 4097, (refl, long-caused text 4097))) (read-line text count (offsets_of text) (commands_of text) (text-caused text))
