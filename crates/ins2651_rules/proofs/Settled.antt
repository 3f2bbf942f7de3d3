-- A device in range is taken as it is, any other as one just reset; and the one just reset is in range.
-- Assumes nothing.
use mathlib.Core.Path.{◌≡◌, refl, ap, ◌∙◌}
use mathlib.Core.Bool.{Bool, true, false}
use Rattle.line_rules.proofs.Choice.{all}
use Rattle.link_rules.proofs.SenderRange.{idle_sender_in}
use Rattle.link_rules.proofs.ReceiverRange.{idle_receiver_in}
use Rattle.ins2651_rules.specs.declared.Device.{Device}
use Rattle.ins2651_rules.specs.Status.{status_byte}
use Rattle.ins2651_rules.specs.Shape.{reset_device}
use Rattle.ins2651_rules.specs.Ranges.{in_range, settled}

pub settled_is : (d : Device) → in_range d ≡ true → settled d ≡ d
unfolding settled
settled_is d h = rw h

pub settled_out : (d : Device) → in_range d ≡ false → settled d ≡ reset_device
unfolding settled
settled_out d h = rw h

pub reset_in : in_range reset_device ≡ true
unfolding in_range status_byte
reset_in = all (all (all (all refl idle_sender_in) idle_receiver_in) refl) refl

pub settled_in : (d : Device) → in_range (settled d) ≡ true
settled_in d = go (in_range d) refl
  where
    go : (b : Bool) → in_range d ≡ b → in_range (settled d) ≡ true
    go true h = ap in_range (settled_is d h) ∙ h
    go false h = ap in_range (settled_out d h) ∙ reset_in
