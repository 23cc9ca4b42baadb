-- What arrives of a group at a unit keeps the invariant. Assumes nothing.
use mathlib.Core.Path.{◌≡◌, refl}
use mathlib.Core.List.{List}
use Prim.Native.Nat.{ℕ}
use Rattle.unicast.specs.Setting.{Setting}
use Rattle.unicast.specs.History.{InFlight, clock_message, key_message, envelope}
use Rattle.line.specs.Events.{arrive_group}
use Rattle.line.specs.Run.{State, alone, group_in_flight_at, group_message_arriving, group_in_flight_arriving, step}
use Rattle.line.specs.Premises.{DueOfGroup, Fits}
use Rattle.line.proofs.GroupEnvelopeSteps.{envelope_right, envelope_onu}
use Rattle.line.proofs.GroupMessageSteps.{message_right, message_onu}
use Rattle.line.proofs.Invariant.{Invariant}
use Rattle.line.proofs.MemberSteps.{alone_stays}

in_flight_right : (w : Setting) (s : State) (u g k : ℕ) (out : List ℕ) (i : Invariant w s) (d : DueOfGroup s u g k out) (x : InFlight)
    → group_in_flight_at s u g k ≡ x
    → Invariant w (group_in_flight_arriving s u g k out x)
unfolding group_in_flight_arriving
in_flight_right w s u g k out i d (clock_message m c t) e = i
in_flight_right w s u g k out i d (key_message m t) e = message_right w s u g k out i d m t e
in_flight_right w s u g k out i d (envelope x) e = envelope_right w s u g k out i d x e

pub arrive_group_right : (w : Setting) (s : State) (u g k : ℕ) (out : List ℕ) → Invariant w s → Fits w s (arrive_group u g k out)
    → Invariant w (step s (arrive_group u g k out))
unfolding step
arrive_group_right w s u g k out i d = in_flight_right w s u g k out i d (group_in_flight_at s u g k) refl

-- what arrives of a group leaves the OLT, the units and their own lines
in_flight_untouched : (w : Setting) (s : State) (u g k : ℕ) (out : List ℕ) (i : Invariant w s) (d : DueOfGroup s u g k out) (x : InFlight)
    → group_in_flight_at s u g k ≡ x
    → alone (group_in_flight_arriving s u g k out x) ≡ alone s
unfolding group_in_flight_arriving group_message_arriving
in_flight_untouched w s u g k out i d (clock_message m c t) e = refl
in_flight_untouched w s u g k out i d (key_message m t) e = alone_stays s u _ _ _ (message_onu w s u g k out i d m t e)
in_flight_untouched w s u g k out i d (envelope x) e = alone_stays s u _ _ _ (envelope_onu w s u g k out i d x e)

pub arrive_group_untouched : (w : Setting) (s : State) → Invariant w s → (u g k : ℕ) (out : List ℕ) → DueOfGroup s u g k out
    → alone (step s (arrive_group u g k out)) ≡ alone s
unfolding step
arrive_group_untouched w s i u g k out d = in_flight_untouched w s u g k out i d (group_in_flight_at s u g k) refl
