-- What crosses between the ends beside envelopes (01, Clock; Keys). A clock message is the two stamps of crate clock. Where a
-- call hands over nothing, zeros stand in the message's place (D8). Assumes nothing.
use Rattle.std.specs.Prelude.{ℕ}
use Rattle.clock.specs.declared.Stamps.{Stamps}
use Rattle.ends.specs.Keys.{no_key}
use Rattle.protocol.specs.declared.KeyMessage.{KeyMessage}
use Rattle.protocol.specs.declared.Acknowledgement.{Acknowledgement}

abbrev pub no_stamps : Stamps
no_stamps = record { rx = 0; tx = 0 }

abbrev pub no_key_message : KeyMessage
no_key_message = record { llid = 0; number = 0; key = no_key }

-- the kinds of acknowledgements
abbrev pub clock_kind : ℕ
clock_kind = 1

abbrev pub key_kind : ℕ
key_kind = 2

abbrev pub no_acknowledgement : Acknowledgement
no_acknowledgement = record { kind = 0; number = 0 }

abbrev pub of_clock : Acknowledgement
of_clock = record { kind = clock_kind; number = 0 }

abbrev pub of_key : ℕ → Acknowledgement
of_key number = record { kind = key_kind; number = number }
