-- Many progresses along one path (document 01, "The answers"): each as the single query gives it, in the order of the progresses. Refused with 12, then with 8. Definitions only.
use Rattle.std.specs.Prelude.{ℕ, ◌*◌, ◌≤◌, ◌<◌, ◌≡◌, Bool, ◌||◌, cond, List, [], ◌∷◌, ◌++◌, ltb, length, Float, Result, Ok, Err}
use Rattle.answers.specs.declared.refusals.Refusal.{Refusal}
use Rattle.answers.specs.declared.refusals.Refusal.TheVariants.{BadPath, NoRoom}
use Rattle.answers.specs.declared.refusals.Values.{Values}
use Rattle.answers.specs.declared.refusals.Values.TheVariants.{Two, Three}
use Rattle.answers.specs.Answers.{Answer, accepted, refused}
use Rattle.answers.specs.Report.{written}
use Rattle.table.specs.Sound.{SoundPath}
use Rattle.table.specs.Spots.{spot_of}
use Rattle.flight.specs.declared.Flight.{Flight}
use Rattle.flight.specs.Flights.{segment_given}
use Rattle.path_stored.specs.Buffers.{Buffers}
use Rattle.path_stored.specs.Stored.{is_stored, most_segments}
use Rattle.path_query.specs.Flights.{flight_of}

-- ---- what is given for each progress

-- one for each progress
unfoldable pub each : {A : Type 0} → (Float → A) → List Float → List A
each f [] = []
each f (progress ∷ progresses) = f progress ∷ each f progresses

-- the number of the segment, or 4294967295 where there is none
abbrev pub segments_for : Buffers → List Float → List ℕ
segments_for b progresses = each (λ p. segment_given (flight_of b p).segment) progresses

abbrev pub raws_for : Buffers → List Float → List Float
raws_for b progresses = each (λ p. (flight_of b p).raw.value) progresses

-- x, y, tangent x, tangent y
abbrev pub numbers_of : Flight → List Float
numbers_of flight = flight.position.x ∷ flight.position.y ∷ flight.tangent.x ∷ flight.tangent.y ∷ []

unfoldable pub numbers_for : Buffers → List Float → List Float
numbers_for b [] = []
numbers_for b (progress ∷ progresses) = numbers_of (flight_of b progress) ++ numbers_for b progresses

-- ---- the answers

-- 8: "all else is right and a lent output is too short", with "the count needed of each output, in the call's order"
unfoldable pub batch_of : Buffers → Bool → Values → ℕ → Result ℕ Refusal
batch_of b short needs count = cond (is_stored b) (cond short (Err (NoRoom needs)) (Ok count)) (Err BadPath)

-- by how many progresses there are, and how many places of each output
abbrev pub places_of : Buffers → ℕ → ℕ → ℕ → Result ℕ Refusal
places_of b count segments raws = batch_of b (ltb segments count || ltb raws count) (Two count count) count

abbrev pub flights_of : Buffers → ℕ → ℕ → ℕ → ℕ → Result ℕ Refusal
flights_of b count segments raws out = batch_of b (ltb segments count || (ltb raws count || ltb out (4 * count))) (Three count count (4 * count)) count

abbrev pub batch_answer : Result ℕ Refusal → Answer
batch_answer (Ok count) = accepted (count ∷ [])
batch_answer (Err refusal) = refused refusal

-- "A refusal writes to no output."
abbrev pub given_by : {A : Type 0} → Result ℕ Refusal → List A → List A
given_by (Ok count) elements = elements
given_by (Err refusal) elements = []

pub record Places (b : Buffers) (progresses : List Float) (segments : List ℕ) (raws : List Float) (r : Result ℕ Refusal) (segments' : List ℕ) (raws' : List Float) : Type 0 where
  pub answer : r ≡ places_of b (length progresses) (length segments) (length raws)
  pub segments_after : segments' ≡ written (given_by (places_of b (length progresses) (length segments) (length raws)) (segments_for b progresses)) segments
  pub raws_after : raws' ≡ written (given_by (places_of b (length progresses) (length segments) (length raws)) (raws_for b progresses)) raws

-- the batch's answer, by what it is lent
abbrev pub flights_by : Buffers → List Float → List ℕ → List Float → List Float → Result ℕ Refusal
flights_by b progresses segments raws out = flights_of b (length progresses) (length segments) (length raws) (length out)

pub record Flights (b : Buffers) (progresses : List Float) (segments : List ℕ) (raws out : List Float) (r : Result ℕ Refusal) (segments' : List ℕ) (raws' out' : List Float) : Type 0 where
  pub answer : r ≡ flights_by b progresses segments raws out
  pub segments_after : segments' ≡ written (given_by (flights_by b progresses segments raws out) (segments_for b progresses)) segments
  pub raws_after : raws' ≡ written (given_by (flights_by b progresses segments raws out) (raws_for b progresses)) raws
  pub out_after : out' ≡ written (given_by (flights_by b progresses segments raws out) (numbers_for b progresses)) out

-- ---- what the loops ask and leave

-- the segment of each progress
abbrev pub found_for : List Float → List Float → List ℕ
found_for lengths progresses = each (λ p. (spot_of lengths p).segment) progresses

-- and how far along it each lies; what a pass that finds both asks and leaves
abbrev pub alongs_for : List Float → List Float → List Float
alongs_for lengths progresses = each (λ p. (spot_of lengths p).progress.value) progresses

pub record SpotsRoom (lengths progresses : List Float) (segments : List ℕ) (alongs : List Float) : Type 0 where
  pub path : SoundPath lengths
  pub few : length lengths ≤ most_segments
  pub segments_room : length progresses ≤ length segments
  pub alongs_room : length progresses ≤ length alongs

pub record FilledSpots (lengths progresses : List Float) (segments : List ℕ) (alongs : List Float) (segments' : List ℕ) (alongs' : List Float) : Type 0 where
  pub segments_are : segments' ≡ written (found_for lengths progresses) segments
  pub alongs_are : alongs' ≡ written (alongs_for lengths progresses) alongs

-- what a pass that finds the segments alone asks
pub record SegmentsRoom (lengths progresses : List Float) (segments : List ℕ) : Type 0 where
  pub path : SoundPath lengths
  pub few : length lengths ≤ most_segments
  pub segments_room : length progresses ≤ length segments

pub record PlacesRoom (b : Buffers) (progresses : List Float) (segments : List ℕ) (raws : List Float) : Type 0 where
  pub some : 0 < length b.kinds
  pub segments_room : length progresses ≤ length segments
  pub raws_room : length progresses ≤ length raws

pub record FilledPlaces (b : Buffers) (progresses : List Float) (segments : List ℕ) (raws : List Float) (segments' : List ℕ) (raws' : List Float) : Type 0 where
  pub segments_are : segments' ≡ written (segments_for b progresses) segments
  pub raws_are : raws' ≡ written (raws_for b progresses) raws

pub record FlightsRoom (b : Buffers) (progresses : List Float) (segments : List ℕ) (raws out : List Float) : Type 0 where
  pub places : PlacesRoom b progresses segments raws
  pub out_room : 4 * length progresses ≤ length out

pub record FilledFlights (b : Buffers) (progresses : List Float) (segments : List ℕ) (raws out : List Float) (segments' : List ℕ) (raws' out' : List Float) : Type 0 where
  pub places : FilledPlaces b progresses segments raws segments' raws'
  pub out_is : out' ≡ written (numbers_for b progresses) out
