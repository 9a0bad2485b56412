-- `station_listing::flights::fly` meets its contract: the list is built in buffers that are long enough, and what they hold is listed. Assumes nothing.
use borrow.Author.Rules.{rules}
use native.Mathlib.Omega.{arith}
use Rattle.station_listing.proofs.Lent.{full, sized, unbuilt, flight, used, ready, listed}
use Rattle.station_listing.proofs.flights.fly.Goals as goal

pub returns-in-Err : goal.returns-in-Err
returns-in-Err c =
    unbuilt c.requires.0 c.build_path.ensures
    (full (search rules) (search rules) (search rules) (search rules) (search rules))
    c.in-Err.is _ c.put_refusal.ensures

-- ---- the places in use
pub slice_bounds-kinds-end : goal.slice_bounds-kinds-end
slice_bounds-kinds-end c =
    let u = used c.requires.0 c.build_path.ensures
    (full (search rules) (search rules) (search rules) (search rules) (search rules))
    c.in-Ok.is in
    omega (arith, u.0)

pub slice_bounds-fields-end : goal.slice_bounds-fields-end
slice_bounds-fields-end c =
    let u = used c.requires.0 c.build_path.ensures
    (full (search rules) (search rules) (search rules) (search rules) (search rules))
    c.in-Ok.is in
    omega (arith, u.1)

pub slice_bounds-tables-end : goal.slice_bounds-tables-end
slice_bounds-tables-end c =
    let u = used c.requires.0 c.build_path.ensures
    (full (search rules) (search rules) (search rules) (search rules) (search rules))
    c.in-Ok.is in
    omega (arith, u.2)

pub slice_bounds-lengths-end : goal.slice_bounds-lengths-end
slice_bounds-lengths-end c =
    let u = used c.requires.0 c.build_path.ensures
    (full (search rules) (search rules) (search rules) (search rules) (search rules))
    c.in-Ok.is in
    omega (arith, u.0)

pub slice_bounds-commands-end : goal.slice_bounds-commands-end
slice_bounds-commands-end c =
    let u = used c.requires.0 c.build_path.ensures
    (full (search rules) (search rules) (search rules) (search rules) (search rules))
    c.in-Ok.is in
    omega (arith, u.0)

-- ---- the listing
pub print-requires : goal.print-requires
print-requires c =
    let flown = flight c.requires.0 c.build_path.ensures
    (full (search rules) (search rules) (search rules) (search rules) (search rules))
    c.in-Ok.is in
    (sized c.requires.0, ready c.requires.0 flown c.requires.1 c.requires.2)

pub returns-in-Ok : goal.returns-in-Ok
returns-in-Ok c =
    let flown = flight c.requires.0 c.build_path.ensures
    (full (search rules) (search rules) (search rules) (search rules) (search rules))
    c.in-Ok.is in
    listed c.requires.0 flown c.print.ensures
