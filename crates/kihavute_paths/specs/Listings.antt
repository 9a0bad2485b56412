-- What the station tool's work gives to C. Definitions only.
use Rattle.std.specs.Prelude.{ℕ, ◌≡◌, cond, List, [], ◌∷◌, length}
use Rattle.answers.specs.Answers.{Answer, accepted, refused}
use Rattle.answers.specs.Report.{short, written}
use Rattle.answers.specs.declared.refusals.Refusal.TheVariants.{NoRoom}
use Rattle.answers.specs.declared.refusals.Values.TheVariants.{One}
use Rattle.station_listing.specs.Stations as Tool
use Rattle.station_listing.specs.Stations.{stations_of}
use Rattle.c_answer.specs.Given.{Given}

-- the listing's length, or 8 with that length
abbrev pub listing_given : List ℕ → List ℕ → Answer
listing_given input output = cond (Tool.short input output) (refused (NoRoom (One (length (stations_of input))))) (accepted (length (stations_of input) ∷ []))

-- the listing is written from the output's start; with an answer or an output that is too short nothing is
pub record PlanListed (input output answer : List ℕ) (returned : ℕ) (output' answer' : List ℕ) : Type 0 where
  pub given : Given (listing_given input output) answer returned answer'
  pub bytes : output' ≡ cond (short answer) output (cond (Tool.short input output) output (written (stations_of input) output))
