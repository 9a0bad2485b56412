-- What the station tool's work gives, by the lengths of the answer and of the output. Assumes nothing.
use Prim.Native.Nat.{ℕ, ◌≤◌, ◌<◌}
use mathlib.Core.Path.{◌≡◌, refl, sym, ap, ◌∙◌}
use mathlib.Core.List.{List, [], ◌∷◌}
use native.Mathlib.Omega.{arith}
use borrow.Author.Tests.{lt-ltb, le-ltb}
use lib.ListN.{length}
use Rattle.answers.specs.Answers.{accepted, refused}
use Rattle.answers.specs.declared.refusals.Refusal.TheVariants.{NoRoom}
use Rattle.answers.specs.declared.refusals.Values.TheVariants.{One}
use Rattle.station_listing.specs.Stations.{Stations, stations_of}
use Rattle.c_answer.specs.Given.{Given}
use Rattle.c_answer.proofs.Giving.{given-same, given-short}
use Rattle.kihavute_paths.specs.Listings.{listing_given, PlanListed}

module _ (input output answer : List ℕ) where
  -- an answer that is too short: nothing is listed
  pub not_listed : length answer < 8 → PlanListed input output answer 255 output answer
  not_listed h = record { given = given-short (listing_given input output) answer h; bytes = rw (lt-ltb (length answer) 8 h) }

  module _ (answer' output' : List ℕ) (r returned : ℕ) (long : 8 ≤ length answer) (p : Stations input output r output') where
    size : r ≡ length (stations_of input)
    size = p.takes.count

    pub no_room : length output < r → Given (refused (NoRoom (One r))) answer returned answer' → PlanListed input output answer returned output' answer'
    no_room h g =
        let less : length output < length (stations_of input) = omega (arith, size) in
        record {
          given = given-same _ _ (ap (λ (n : ℕ). refused (NoRoom (One n))) size ∙ rw (lt-ltb (length output) (length (stations_of input)) less) refl) g;
          bytes = rw (le-ltb (length answer) 8 long) p.bytes;
        }

    pub listed : r ≤ length output → Given (accepted (r ∷ [])) answer returned answer' → PlanListed input output answer returned output' answer'
    listed h g =
        let room : length (stations_of input) ≤ length output = omega (arith, size) in
        record {
          given = given-same _ _ (ap (λ (n : ℕ). accepted (n ∷ [])) size ∙ rw (le-ltb (length output) (length (stations_of input)) room) refl) g;
          bytes = rw (le-ltb (length answer) 8 long) p.bytes;
        }

  -- any two allowed results are equal
  pub listing-unique :
      (r s : ℕ) (output₁ output₂ answer₁ answer₂ : List ℕ)
      → PlanListed input output answer r output₁ answer₁
      → PlanListed input output answer s output₂ answer₂
      → (r ≡ s) × (output₁ ≡ output₂) × (answer₁ ≡ answer₂)
  listing-unique r s output₁ output₂ answer₁ answer₂ p q = (
    p.given.code ∙ sym q.given.code,
    p.bytes ∙ sym q.bytes,
    p.given.places ∙ sym q.given.places,
  )
