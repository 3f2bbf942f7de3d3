-- A way does what every case of specs/Cases.antt says of it, computed on the definitions of its tick.
-- Assumes nothing.
use mathlib.Core.Path.{◌≡◌, refl}
use mathlib.Core.List.{map}
use Rattle.line_rules.specs.Sending.{odd_ones, parity_bit, part}
use Rattle.line_rules.specs.Receiving.{sample}
use Rattle.link_rules.specs.Transmitting.{transmit}
use Rattle.link_rules.specs.Hearing.{receive}
use Rattle.way_rules.specs.Along.{way_tick}
use Rattle.way_rules.specs.Cases.{run, cases}

pub way_cases : map run cases ≡ cases
unfolding odd_ones parity_bit part sample transmit receive way_tick cases
way_cases = refl
