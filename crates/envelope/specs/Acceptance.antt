-- What the call that seals or opens a payload refuses (01, When the reader says no: 14, 1). Assumes nothing.
use Rattle.std.specs.Prelude.{Bool, not, ℕ, ◌*◌, ◌%◌, eqb, leb, ltb}
use Rattle.octets.specs.BigEndian.{six_octets}
use Rattle.octets.specs.Choice.{both}
use Rattle.octets.specs.Eqs.{eq_octets, max_eqs}
use Rattle.refusal.specs.declared.Refusal.TheVariants.{OutOfRange, BadLength}
use Rattle.refusal.specs.Order.{refuse_if}
use Rattle.envelope.specs.Channels.{channel_fits}
use Rattle.envelope.specs.declared.Nonce.{Nonce}
use Rattle.refusal.specs.Verdict.{Verdict, no_refusal}

-- n octets are a payload of 0 to 4,194,303 EQs, and the output has as many
unfoldable pub lengths_fit : ℕ → ℕ → Bool
lengths_fit n m = both (eqb (n % eq_octets) 0) (both (leb n (eq_octets * max_eqs)) (eqb m n))

unfoldable pub nonce_fits : Nonce → Bool
nonce_fits n = both (channel_fits n.channel) (both (ltb n.mac six_octets) (ltb n.clock six_octets))

-- 14, then 1, also where the envelope is clear (D63)
unfoldable pub seal_verdict : ℕ → ℕ → Nonce → Verdict
seal_verdict n m nonce = refuse_if (not (lengths_fit n m)) BadLength (refuse_if (not (nonce_fits nonce)) OutOfRange no_refusal)
