use Rattle.ds_base.specs.declared.processors.Proc.TheVariants.{Nine, Seven}
use Rattle.ds_places.specs.AddressTables.{regions_of}
use Rattle.ds_places.proofs.Regions.{place_of-stands, place_by-only}
use Rattle.ds_places.proofs.tables.place.Goals as goal

pub returns-in-Nine-clause-stands : goal.returns-in-Nine-clause-stands
returns-in-Nine-clause-stands c = rw (c.in-Nine.is, c.place_for_nine.ensures.value) (place_of-stands Nine c.args.wramcnt c.args.at)

pub returns-in-Nine-clause-only : goal.returns-in-Nine-clause-only
returns-in-Nine-clause-only c = rw (c.in-Nine.is, c.place_for_nine.ensures.value) (place_by-only (regions_of Nine c.args.wramcnt) c.args.at)

pub returns-in-Seven-clause-stands : goal.returns-in-Seven-clause-stands
returns-in-Seven-clause-stands c = rw (c.in-Seven.is, c.place_for_seven.ensures.value) (place_of-stands Seven c.args.wramcnt c.args.at)

pub returns-in-Seven-clause-only : goal.returns-in-Seven-clause-only
returns-in-Seven-clause-only c = rw (c.in-Seven.is, c.place_for_seven.ensures.value) (place_by-only (regions_of Seven c.args.wramcnt) c.args.at)
