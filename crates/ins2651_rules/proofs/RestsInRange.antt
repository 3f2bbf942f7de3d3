-- The range of a device with no frame and no character under way: less is to be asked, and the answer is the same.
-- Assumes nothing.
use mathlib.Core.Path.{◌≡◌, refl, ap₂, ◌∙◌}
use mathlib.Core.Bool.{Bool, true, false, ◌&&◌}
use Rattle.line_rules.specs.Sending.{on}
use Rattle.link_rules.specs.declared.SenderHalf.{SenderHalf}
use Rattle.link_rules.specs.declared.ReceiverHalf.{ReceiverHalf}
use Rattle.link_rules.specs.Hearing.{under_way}
use Rattle.link_rules.specs.Within.{sender_in_range, receiver_in_range, sender_rests_in_range, receiver_rests_in_range}
use Rattle.ins2651_rules.specs.declared.Device.{Device}
use Rattle.ins2651_rules.specs.Ranges.{registers_in_range, pins_in_range, flags_in_range, status_in_range, in_range, shown_in_range, rests_in_range}

sender_rests : (s : SenderHalf) → on s.frame.place ≡ false → sender_rests_in_range s ≡ sender_in_range s
unfolding sender_in_range
sender_rests s e = rw e

receiver_rests : (r : ReceiverHalf) → under_way r.state ≡ false → receiver_rests_in_range r ≡ receiver_in_range r
unfolding receiver_in_range
receiver_rests r e = rw e

-- what the status shows is asked last
shown_last : (g p s r f t : Bool) → (g && s && r && (p && f && t)) ≡ (g && p && s && r && f && t)
shown_last false p s r f t = refl
shown_last true false false r f t = refl
shown_last true false true false f t = refl
shown_last true false true true f t = refl
shown_last true true false r f t = refl
shown_last true true true false f t = refl
shown_last true true true true f t = refl

pub rests_in_range_lem : (d : Device) → on d.sender.frame.place ≡ false → under_way d.receiver.state ≡ false → (rests_in_range d && shown_in_range d) ≡ in_range d
unfolding in_range rests_in_range
rests_in_range_lem d s r =
    ap₂ (λ (u v : Bool). registers_in_range d.registers && u && v && shown_in_range d) (sender_rests d.sender s) (receiver_rests d.receiver r)
    ∙ shown_last (registers_in_range d.registers) (pins_in_range d.pins) (sender_in_range d.sender) (receiver_in_range d.receiver) (flags_in_range d.flags) (status_in_range d)
