-- `season_feed::sheet_of` meets its contract: fed at once, then told. Assumes nothing.
use borrow.Author.Rules.{rules}
use Prim.Native.Nat.{ℕ}
use mathlib.Core.Path.{refl}
use lib.ListN.{length-replicate}
use Rattle.season_feed.proofs.Wholes.{ready-fed, ready-fresh, told-whole}
use Rattle.season_feed.proofs.memory.sheet_of.Goals as goal

pub feed-state-requires : goal.feed-state-requires
feed-state-requires c = ready-fresh c.start.ensures (length-replicate {A = ℕ} 4096 0) refl

pub sheet-requires : goal.sheet-requires
sheet-requires c =
    ready-fed (ready-fresh c.start.ensures (length-replicate {A = ℕ} 4096 0) refl) c.feed-state.ensures

pub returns : goal.returns
returns c =
    told-whole _ _ _ _ c.start.ensures (length-replicate {A = ℕ} 4096 0) refl c.feed-state.ensures c.sheet.ensures
