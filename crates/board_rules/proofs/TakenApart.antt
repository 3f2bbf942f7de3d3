-- C takes an answer apart as it was put together: where the value fits, nothing is lost in one number.
-- Assumes nothing.
use Prim.Native.Nat.{◌/◌, ◌%◌, ◌<◌}
use mathlib.Core.Path.{◌≡◌}
use mathlib.Core.List.{List}
use lib.Arith.{digits_div, digits_mod}
use Rattle.ins2651_rules.specs.declared.Device.{Device}
use Rattle.board_rules.specs.declared.Board.{Board}
use Rattle.board_rules.specs.Ports.{Call}
use Rattle.board_rules.specs.Runs.{weight, said, answer}

module _ (b : Board) (room : List Device) (c : Call) (fits : (said b room c).value < weight c) where
  pub answer_refusal : answer b room c / weight c ≡ (said b room c).refusal
  unfolding answer
  answer_refusal = digits_div (said b room c).refusal fits

  pub answer_value : answer b room c % weight c ≡ (said b room c).value
  unfolding answer
  answer_value = digits_mod (said b room c).refusal fits
