-- The stations of an accepted plan: in order, and each at the progress k/(n - 1), rounded to the nearest. Assumes nothing.
use Prim.Native.Nat.{ℕ, ◌-◌, ◌^◌, ◌≤◌, ◌<◌}
use mathlib.Core.Path.{◌≡◌, sym, subst}
use mathlib.Core.Bool.{false}
use mathlib.Core.List.{List}
use native.Mathlib.Omega.{arith}
use lib.Dec.{T}
use lib.IntN.{pos}
use lib.ListN.{length}
use lib.Ieee.{binary32, round, of_int, lt}
use lib.Ieee.Exact.{HasValue}
use lib.Ieee.Back.{round_whole}
use Rattle.floats.specs.Floats.{epsilon_f}
use Rattle.table.specs.Spots.{path_total}
use Rattle.decimal.proofs.Quotients.{div-at}
use Rattle.decimal_nearest.specs.Nearest.{NearestTo}
use Rattle.decimal_nearest.proofs.Rounded.{round-nearest}
use Rattle.path_stored.specs.Layout.{lengths_of_all}
use Rattle.station_sections.specs.Sections.{progress_of}
use Rattle.station_listing.specs.Ordered.{Accepted}
use Rattle.station_listing.proofs.Asking.{asked}
use Rattle.station_listing.proofs.Ordering.{built, listing-enclosed}
use Rattle.received.specs.Stations.{StationsAt}

whole : (n : ℕ) → n ≤ 2 ^ 24 → HasValue (of_int binary32 (pos n)) false n 1
unfolding of_int
whole n h = round_whole binary32 false n h

module _ (n : ℕ) (least : 2 ≤ n) (most : n ≤ 1000) (k : ℕ) (inside : k < n) where
  pub station-progress : progress_of n k ≡ round binary32 false k (n - 1)
  unfolding progress_of
  station-progress = div-at binary32 (of_int binary32 (pos k)) (of_int binary32 (pos (n - 1))) k (n - 1) (omega arith) (whole k (omega arith)) (whole (n - 1) (omega arith))

  pub station-nearest : NearestTo false k (n - 1) (progress_of n k)
  station-nearest = subst (NearestTo false k (n - 1)) (sym station-progress) (round-nearest false k (n - 1) (omega arith))

-- of any plan whose path has a segment and is longer than 2^-23
pub listing-stations : (input : List ℕ) (a : Accepted input) → 0 < length a.segments → T (lt epsilon_f (path_total (lengths_of_all a.segments))) → StationsAt (built a) a.count
listing-stations input a some long =
    let ask = asked input _ 0 a.asks in
    record { ordered = listing-enclosed input a some long; nearest = λ k inside. station-nearest a.count ask.least ask.most k inside }
