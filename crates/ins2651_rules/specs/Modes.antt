-- What the mode registers and a command say, bit by bit: document 01, "Registers", with request P1 on what clears the error flags.
-- Assumes nothing.
use Rattle.std.specs.Prelude.{ℕ, ◌+◌, ◌*◌, ◌/◌, ◌%◌, Bool, cond, not, ◌||◌, eqb}
use Rattle.line_rules.specs.declared.Format.{Format}
use Rattle.ins2651_rules.specs.declared.Registers.{Registers}

-- whether the bit of weight w is 1: 1 for bit 0, 2 for bit 1, .. 128 for bit 7
abbrev pub has : ℕ → ℕ → Bool
has w v = eqb (v / w % 2) 1

-- == mode 1 and mode 2 ==

-- mode 1 bits 1-0: 01 = 1, 10 = 16, 11 = 64; an internal clock makes it 16
abbrev pub factor_of : ℕ → Bool → ℕ
factor_of m internal = cond internal 16 (cond (eqb (m % 4) 1) 1 (cond (eqb (m % 4) 2) 16 64))

-- mode 1 bits 7-6: 01 = 1, 10 = 1½, 11 = 2 stop bits, in ticks; 3/2 rounded down makes 1½ one tick where F = 1
abbrev pub stop_of : ℕ → ℕ → ℕ
stop_of m F = cond (eqb (m / 64) 1) F (cond (eqb (m / 64) 2) (3 * F / 2) (2 * F))

-- mode 1 bits 3-2: length 5 to 8; 4: parity on; 5: even
unfoldable pub format_of : ℕ → Bool → Format
format_of m internal =
    record {
      factor = factor_of m internal;
      length = 5 + m / 4 % 4;
      parity = m / 16 % 2;
      even = m / 32 % 2;
      stop = stop_of m (factor_of m internal);
    }

-- mode 2 bit 5: internal transmit clock
abbrev pub send_format : Registers → Format
send_format r = format_of r.mode1 (has 32 r.mode2)

-- mode 2 bit 4: internal receive clock
abbrev pub receive_format : Registers → Format
receive_format r = format_of r.mode1 (has 16 r.mode2)

-- == command ==

abbrev pub transmit_enable : ℕ → Bool
transmit_enable v = has 1 v

abbrev pub data_terminal_ready : ℕ → Bool
data_terminal_ready v = has 2 v

abbrev pub receive_enable : ℕ → Bool
receive_enable v = has 4 v

abbrev pub force_break : ℕ → Bool
force_break v = has 8 v

abbrev pub reset_error : ℕ → Bool
reset_error v = has 16 v

abbrev pub request_to_send : ℕ → Bool
request_to_send v = has 32 v

-- a command that leaves receive off, whatever receive was before
abbrev pub receive_off : ℕ → Bool
receive_off v = not (receive_enable v)

-- the commands that clear framing, overrun and parity: reset error, and every one that leaves receive off (P1)
abbrev pub command_clears : ℕ → Bool
command_clears v = reset_error v || receive_off v
