-- A line that is frozen for good: the last switch to a unit, to key A, is a key's life ago and unconfirmed, and nothing that is under way or may
-- still be sent confirms it. Whatever follows, the OLT sends nothing more to that unit and offers it nothing. Assumes nothing.
use Rattle.std.specs.Prelude.{◌≡◌, Bool, true, false, not, ℕ, ◌+◌, ◌<◌, ◌≤◌, Err}
use mathlib.Core.List.{List, Memᴰ}
use Rattle.refusal.specs.Number.{verdict_number}
use Rattle.refusal.specs.Order.{refuse_if}
use Rattle.refusal.specs.declared.Refusal.TheVariants.{OutOfRange, UnknownLlid, ClockNotSet, OfferPending, ChannelTaken, KeyTooOld, BadLength}
use Rattle.clock.specs.Ticks.{key_life}
use Rattle.envelope.specs.Channels.{downstream, upstream}
use Rattle.ends.specs.Flags.{is_up}
use Rattle.ends.specs.Identities.{has}
use Rattle.ends.specs.Limits.{max_changes}
use Rattle.ends.specs.Occupancy.{taken}
use Rattle.ends.specs.Table.{unit_at}
use Rattle.ends.specs.declared.FirstSend.{FirstSend}
use Rattle.ends.specs.declared.UnitRecord.{UnitRecord}
use Rattle.protocol.specs.OltCalls.{offer_of, retry_of}
use Rattle.protocol.specs.OnuTraffic.{busy_up}
use Rattle.traffic.specs.Passages.{misfit}
use Rattle.traffic.specs.Sends.{olt_send_of, onu_send_of}
use Rattle.unicast.specs.Setting.{Setting}
use Rattle.unicast.specs.History.{Envelope, envelope, Lane}
use Rattle.unicast.specs.Events.{Event}
use Rattle.unicast.specs.Run.{State, start, run, lane_at, onu_at}
use Rattle.unicast.specs.Premises.{Fresh, Meets}
use Rattle.progress.specs.Progress.{confirmed_by, Moving}

-- the unit has had no envelope under key A, and those that left for it are lost: they were due before
pub record Untold (now : ℕ) (l : Lane) : Type 0 where
  pub behind : l.keys.number < l.keys.switches
  pub lost : (e : Envelope) → Memᴰ (envelope e) l.transit.towards → e.number ≡ l.keys.switches → e.left + l.path.down < now

-- the unit has had one and has answered under key A, a key's life ago by its own count, whatever its delay up becomes
pub record Silent (now : ℕ) (l : Lane) (first : FirstSend) : Type 0 where
  pub told : l.keys.number ≡ l.keys.switches
  pub begun : first.noted ≡ 1
  pub old : first.at + key_life + l.site.up ≤ now + max_changes

-- either, by whether the unit has answered
abbrev pub Stopped : Bool → ℕ → Lane → FirstSend → Type 0
Stopped false now l first = Untold now l
Stopped true now l first = Silent now l first

-- the line of a unit that has that LLID; down and up are the first sends that the OLT and the unit note
pub record FrozenLine (answered : Bool) (llid now : ℕ) (l : Lane) (down up : FirstSend) : Type 0 where
  pub registered : l.entry.registered ≡ true
  pub named : has l.site.identity llid ≡ true
  -- C = A - 1
  pub unconfirmed : l.keys.switches ≡ confirmed_by l + 1
  -- the OLT's first send under key A is a key's life ago
  pub begun : down.noted ≡ 1
  pub old : down.at + key_life ≤ now
  -- the unit's envelopes under key A that are under way are lost, and it sends no more of them
  pub lost : (e : Envelope) → Memᴰ e l.transit.from → e.number ≡ l.keys.switches → e.left + l.path.up < now
  pub unit : Stopped answered now l up

-- the OLT's record of the unit
abbrev pub record_at : State → ℕ → UnitRecord
record_at s u = unit_at s.olt (lane_at s u).entry.place

abbrev pub Frozen : Bool → State → ℕ → ℕ → Type 0
Frozen answered s u llid = FrozenLine answered llid s.history.now (lane_at s u) (record_at s u).keys.first (onu_at s u).first

-- by an LLID of the unit: every send that is not refused 14, 1, 5 or 12 is refused 13, every offer 6 or ahead of it 5, every retry 8, and where
-- the unit has answered every send of its own that is not refused 14, 1, 2, 5 or 12 is refused 13; it does not come to its next key
pub record Refuses (answered : Bool) (s : State) (u llid : ℕ) : Type 0 where
  pub sends : (channel : ℕ) (p out : List ℕ) → (olt_send_of s.olt llid channel p out).answer.number
      ≡ verdict_number
      (refuse_if (misfit p out) BadLength
      (refuse_if (not (downstream channel)) OutOfRange
      (refuse_if (not (is_up (record_at s u).clock.acknowledged)) ClockNotSet
      (refuse_if (taken s.olt.shared.channels channel s.olt.shared.tick) ChannelTaken (Err KeyTooOld)))))
  pub offers : (key : List ℕ) → (offer_of s.olt llid key).number
      ≡ verdict_number (refuse_if (not (is_up (record_at s u).clock.acknowledged)) ClockNotSet (Err OfferPending))
  pub retries : (retry_of s.olt llid).number ≡ 8
  pub answers : answered ≡ true → (other channel : ℕ) (p out : List ℕ) → (onu_send_of (onu_at s u) other channel p out).answer.number
      ≡ verdict_number
      (refuse_if (misfit p out) BadLength
      (refuse_if (not (upstream channel)) OutOfRange
      (refuse_if (not (has (onu_at s u).identity other)) UnknownLlid
      (refuse_if (not (is_up (onu_at s u).clock.synced)) ClockNotSet
      (refuse_if (busy_up (onu_at s u) channel) ChannelTaken (Err KeyTooOld))))))
  pub still : (key : List ℕ) → Moving s u llid key → ⊥

-- from a list that leads to a frozen line, whatever follows
abbrev pub ForGood : Type 0
ForGood =
    (answered : Bool) (w : Setting) (es later : List Event) (u llid : ℕ) → Fresh w → Meets w (start w) es → Frozen answered (run (start w) es) u llid
    → Meets w (run (start w) es) later
    → Frozen answered (run (run (start w) es) later) u llid × Refuses answered (run (run (start w) es) later) u llid
