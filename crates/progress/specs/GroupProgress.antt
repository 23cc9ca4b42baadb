-- A group never freezes: a continuation for any group, from wherever it stands, after which every joined member that is synced has opened the
-- group's next envelope, also one that missed keys. It reads the history alone, so it is also what a host does. Assumes nothing.
use Rattle.std.specs.Prelude.{◌≡◌, Bool, true, ◌⊎◌, ℕ, zero, suc, ◌+◌, ◌-◌, ◌*◌, ◌<◌, ◌≤◌, max, leb, ltb, length, get_or}
use mathlib.Core.List.{List, [], ◌∷◌, ◌++◌, map, Memᴰ}
use Rattle.octets.specs.Choice.{pick}
use Rattle.clock.specs.Ticks.{max_tick, max_round_trip}
use Rattle.ends.specs.Identities.{has}
use Rattle.ends.specs.Limits.{max_key_number}
use Rattle.ends.specs.declared.Identity.{Identity}
use Rattle.group_protocol.specs.Head.{group_at}
use Rattle.group_protocol.specs.GroupCalls.{members_set}
use Rattle.unicast.specs.Setting.{Setting}
use Rattle.unicast.specs.History.{Envelope, is_synced}
use Rattle.unicast.specs.Events as units
use Rattle.unicast.specs.Run as run
use Rattle.unicast.specs.Run.{lane_at}
use Rattle.unicast.specs.Premises.{Fresh}
use Rattle.unicast.specs.Bounds.{longest}
use Rattle.line.specs.History.{GroupArrival, GroupLane, is_member, is_joined}
use Rattle.line.specs.Events.{Event, advance, offer, retry, send_down, arrive_group}
use Rattle.line.specs.Run.{State, alone, joined_by, group_lane_at, now, lanes, start, runs}
use Rattle.line.specs.Premises.{NewKey, Meets}
use Rattle.line.specs.Claim.{GroupOpened}
use Rattle.line.specs.Without.{plain}
use Rattle.progress.specs.Progress.{clock_round}

---- the members

-- u comes before v by f, and has its place in a list
abbrev pub before : (ℕ → ℕ) → ℕ → ℕ → Bool
before f u v = leb (f u) (f v)

unfoldable pub placed : (ℕ → ℕ) → ℕ → List ℕ → List ℕ
placed f u [] = u ∷ []
placed f u (v ∷ vs) = pick (before f u v) (u ∷ v ∷ vs) (v ∷ placed f u vs)

-- those below n that pass the test, in the order of f, and the most that f is of them
unfoldable pub ordered : (ℕ → Bool) → (ℕ → ℕ) → ℕ → List ℕ
ordered p f zero = []
ordered p f (suc n) = pick (p n) (placed f n (ordered p f n)) (ordered p f n)

unfoldable pub most_of : (ℕ → Bool) → (ℕ → ℕ) → ℕ → ℕ
most_of p f zero = 0
most_of p f (suc n) = pick (p n) (max (f n) (most_of p f n)) (most_of p f n)

abbrev pub member_of : State → ℕ → ℕ → Bool
member_of s g u = is_member (group_lane_at s g) (lane_at (alone s) u)

abbrev pub down_to : State → ℕ → ℕ
down_to s u = (lane_at (alone s) u).path.down

-- the group's members in the order of their delays down, and the longest of these
abbrev pub members_of : State → ℕ → List ℕ
members_of s g = ordered (member_of s g) (down_to s) (length (lanes s))

abbrev pub longest_down : State → ℕ → ℕ
longest_down s g = most_of (member_of s g) (down_to s) (length (lanes s))

---- the rounds, each from the state in which it starts

-- one after the other
unfoldable pub and_then : (State → List Event) → (State → List Event) → State → List Event
and_then f g s = f s ++ g (runs s (f s))

-- what leaves now arrives at each of these units, as the last of its queue, when it is due; so many ticks of its way have passed
unfoldable pub arrivals : State → ℕ → ℕ → List ℕ → List Event
arrivals s g passed [] = []
arrivals s g passed (u ∷ us) =
    advance (down_to s u - passed) ∷ arrive_group u g (length (get_or (group_lane_at s g).towards u [])) [] ∷ arrivals s g (down_to s u) us

-- a retry where an offer is outstanding, else an offer
abbrev pub key_call : ℕ → List ℕ → Bool → Event
key_call llid key outstanding = pick outstanding (retry llid) (offer llid key)

-- an offer is outstanding where there is one more than switches; and the arrivals
unfoldable pub key_round : ℕ → List ℕ → State → List Event
key_round g key s =
    let l = group_lane_at s g in
    key_call l.llid key (ltb l.keys.switches (length l.keys.offers)) ∷ arrivals s g 0 (members_of s g)

-- until every channel is free, and an interval more, so that the next send is a switch
abbrev pub wait_for : State → ℕ → ℕ
wait_for s g = longest + (group_lane_at s g).entry.interval

unfoldable pub waited : ℕ → State → List Event
waited g s = advance (wait_for s g) ∷ []

-- an empty envelope on channel 0, and its arrivals
unfoldable pub envelope_round : ℕ → State → List Event
envelope_round g s = send_down (group_lane_at s g).llid 0x00 [] [] ∷ arrivals s g 0 (members_of s g)

-- the continuation
unfoldable pub group_recipe : ℕ → List ℕ → State → List Event
group_recipe g key = and_then (key_round g key) (and_then (waited g) (envelope_round g))

-- the ticks and the events that it takes at most
abbrev pub group_limit : State → ℕ → ℕ
group_limit s g = wait_for s g + 2 * longest_down s g

abbrev pub group_events : State → ℕ → ℕ
group_events s g = 3 + 4 * length (members_of s g)

---- the members' clocks, where an offer waits for them

-- the first of the LLIDs that the unit has
unfoldable pub name_in : Identity → List ℕ → ℕ
name_in i [] = 0
name_in i (x ∷ xs) = pick (has i x) x (name_in i xs)

-- an LLID by which the group's registration named the unit
abbrev pub name_of : State → ℕ → ℕ → ℕ
name_of s g u = name_in (lane_at (alone s) u).site.identity (group_lane_at s g).roster

-- until nothing is under way to the unit, and its clock's round
unfoldable pub clock_of : ℕ → ℕ → run.State → List units.Event
clock_of u llid s = units.advance longest ∷ clock_round u llid (run.step s (units.advance longest))

-- of one member after the other
unfoldable pub clocks_of : ℕ → List ℕ → State → List Event
clocks_of g [] s = []
clocks_of g (u ∷ us) s = and_then (λ t. map plain (clock_of u (name_of t g u) (alone t))) (clocks_of g us) s

-- the clocks, and then the continuation
unfoldable pub restoring : ℕ → List ℕ → State → List Event
restoring g key = and_then (λ s. clocks_of g (members_of s g) s) (group_recipe g key)

abbrev pub restoring_limit : State → ℕ → ℕ
restoring_limit s g = length (members_of s g) * (longest + max_round_trip) + wait_for s g + 2 * max_round_trip

abbrev pub restoring_events : State → ℕ → ℕ
restoring_events s g = 3 + 11 * length (members_of s g)

---- the claim

-- every member's clock is acknowledged at the OLT
abbrev pub ClocksSet : State → ℕ → Type 0
ClocksSet s g = members_set s.head.olt (group_at s.head g).members ≡ true

-- the group can come to its next key: its offer is outstanding; or it can be made, since every member's clock is acknowledged and the key is new
pub record GroupMoving (s : State) (g : ℕ) (key : List ℕ) : Type 0 where
  pub registered : (group_lane_at s g).entry.registered ≡ true
  pub below : (group_lane_at s g).keys.switches < max_key_number
  pub offers : ((group_lane_at s g).keys.switches < length (group_lane_at s g).keys.offers) ⊎ (ClocksSet s g × NewKey s key)
  pub in_range : now s + group_limit s g ≤ max_tick

-- the envelope has arrived at the unit, which opened it
pub record OpenedAt (w : Setting) (g : GroupLane) (u : ℕ) (e : Envelope) : Type 0 where
  pub arrival : GroupArrival
  pub among : Memᴰ arrival g.arrived
  pub there : arrival.unit ≡ u
  pub is : arrival.envelope ≡ e
  pub opened : GroupOpened w g arrival

-- a list of events brings the group to key n
pub record GroupBrings (w : Setting) (s : State) (g n ticks events : ℕ) (es : List Event) : Type 0 where
  pub meets : Meets w s es
  pub switches : (group_lane_at (runs s es) g).keys.switches ≡ n
  -- the group's next envelope is under key n, and every joined member that is synced opens it, also one that missed keys
  pub next : Envelope
  pub sent : (group_lane_at (runs s es) g).sent ≡ (group_lane_at s g).sent ++ (next ∷ [])
  pub numbered : next.number ≡ n
  pub opened : (u : ℕ) → member_of s g u ≡ true → is_joined (joined_by s u) (group_lane_at s g).llid ≡ true
      → is_synced (lane_at (alone s) u) ≡ true
      → OpenedAt w (group_lane_at (runs s es) g) u next
  pub soon : now (runs s es) ≤ now s + ticks
  pub short : length es ≤ events
  -- the units' own lines are as they were
  pub units : lanes (runs s es) ≡ lanes s

-- from fresh ends and a list that meets the premises, wherever it leads
abbrev pub GroupProgress : Type 0
GroupProgress =
    (w : Setting) (es : List Event) (g : ℕ) (key : List ℕ) → Fresh w → Meets w (start w) es → GroupMoving (runs (start w) es) g key
    → GroupBrings w (runs (start w) es) g ((group_lane_at (runs (start w) es) g).keys.switches + 1) (group_limit (runs (start w) es) g)
    (group_events (runs (start w) es) g) (group_recipe g key (runs (start w) es))

---- from any registered group

pub record Restorable (s : State) (g : ℕ) (key : List ℕ) : Type 0 where
  pub registered : (group_lane_at s g).entry.registered ≡ true
  pub below : (group_lane_at s g).keys.switches < max_key_number
  pub new : NewKey s key
  pub in_range : now s + restoring_limit s g ≤ max_tick

-- every joined member opens the group's next envelope, under key n: it is synced by then
pub record Restores (w : Setting) (s : State) (g n ticks events : ℕ) (es : List Event) : Type 0 where
  pub meets : Meets w s es
  pub switches : (group_lane_at (runs s es) g).keys.switches ≡ n
  pub next : Envelope
  pub sent : (group_lane_at (runs s es) g).sent ≡ (group_lane_at s g).sent ++ (next ∷ [])
  pub numbered : next.number ≡ n
  pub opened : (u : ℕ) → member_of s g u ≡ true → is_joined (joined_by s u) (group_lane_at s g).llid ≡ true
      → OpenedAt w (group_lane_at (runs s es) g) u next
  pub soon : now (runs s es) ≤ now s + ticks
  pub short : length es ≤ events

abbrev pub GroupRestored : Type 0
GroupRestored =
    (w : Setting) (es : List Event) (g : ℕ) (key : List ℕ) → Fresh w → Meets w (start w) es → Restorable (runs (start w) es) g key
    → Restores w (runs (start w) es) g ((group_lane_at (runs (start w) es) g).keys.switches + 1) (restoring_limit (runs (start w) es) g)
    (restoring_events (runs (start w) es) g) (restoring g key (runs (start w) es))
