-- What has come to pass on the line, groups included, from the calls and their answers alone: no field of an end's record is read here
-- (02, C-14, C-16; 01, The line). What a unit's own line notes is as without groups. Assumes nothing.
use Rattle.std.specs.Prelude.{Bool, false, List, [], ◌∷◌, ◌++◌, map, ℕ, suc, ◌+◌, eqb, ltb, length, drop, get_or, set}
use Rattle.octets.specs.Lists.{tabulate}
use Rattle.octets.specs.Choice.{both, either, pick}
use Rattle.ends.specs.Identities.{among, llids_of, meets}
use Rattle.protocol.specs.declared.Passage.{Passage}
use Rattle.group_protocol.specs.declared.Answer.{Answer}
use Rattle.unicast.specs.Setting.{Delays}
use Rattle.unicast.specs.History as units
use Rattle.unicast.specs.History.{Envelope, InFlight, envelope, Entry, Keys, Lane, due}
use Rattle.unicast.specs.Run.{fresh_lane, no_site}

-- an acknowledgement of a group's key that an accepted call of that unit handed over, and when
pub record GroupAnswered : Type 0 where
  pub unit : ℕ
  pub answer : Answer
  pub tick : ℕ

-- an envelope of a group that arrived at a unit: whether the unit had joined the group's LLID by then, had since accepted the message of
-- the envelope's key, and was synced; the number, count, runs and output of its receipt, and what it was opened with
pub record GroupArrival : Type 0 where
  pub unit : ℕ
  pub envelope : Envelope
  pub joined : Bool
  pub took : Bool
  pub synced : Bool
  pub number : ℕ
  pub count : ℕ
  pub runs : ℕ
  pub output : List ℕ
  pub passage : Passage

-- one group's line. The nth accepted offer gives key n; `acknowledged` and `number` of the keys are a unit's and stay as they were. What is
-- under way of the group is a queue for each unit; the units' own queues are beside it: what arrives left its delay ago, so only what left
-- at one tick could change places, and that is allowed here
pub record GroupLane : Type 0 where
  pub llid : ℕ
  pub entry : Entry
  -- the LLIDs by which its registration named the members
  pub roster : List ℕ
  pub keys : Keys
  pub towards : List (List InFlight)
  pub answered : List GroupAnswered
  pub sent : List Envelope
  pub arrived : List GroupArrival

-- a group that a unit joined, and the numbers of the key messages that it has accepted since
pub record Membership : Type 0 where
  pub llid : ℕ
  pub took : List ℕ

pub record History : Type 0 where
  -- the units' own lines
  pub units : units.History
  -- the groups that each unit joined
  pub joined : List (List Membership)
  pub groups : List GroupLane

-- a group has no path of its own: what is sent to it goes by each member's
abbrev pub no_path : Delays
no_path = record { up = 0; down = 0 }

-- a line of no unit
abbrev pub no_lane : Lane
no_lane = fresh_lane no_site

-- a unit that the group's registration named
unfoldable pub is_member : GroupLane → Lane → Bool
is_member g l = both l.entry.registered (meets (llids_of l.site.identity) g.roster)

-- an accepted send to the group is a switch: there is an offer more than switches, and it is due
unfoldable pub group_switching : GroupLane → ℕ → Bool
group_switching g now = both (ltb g.keys.switches (length g.keys.offers)) (due g.entry g.keys now)

-- the number of a group's envelope counts the switches so far, its own too
unfoldable pub group_number : GroupLane → ℕ → ℕ
group_number g now = pick (group_switching g now) (g.keys.switches + 1) g.keys.switches

---- what an accepted call or an arrival adds to a group's line

unfoldable pub group_with : GroupLane → Keys → List (List InFlight) → List Envelope → GroupLane
group_with g k towards sent =
    record {
      llid = g.llid;
      entry = g.entry;
      roster = g.roster;
      keys = k;
      towards = towards;
      answered = g.answered;
      sent = sent;
      arrived = g.arrived;
    }

-- x leaves for each member among the units
unfoldable pub leaving_for : GroupLane → List Lane → InFlight → List (List InFlight)
leaving_for g ls x =
    tabulate 0 (length ls) (λ u. pick (is_member g (get_or ls u no_lane)) (get_or g.towards u [] ++ (x ∷ [])) (get_or g.towards u []))

-- a key message leaves: at an offer, which gives a key more, and at a retry
unfoldable pub group_offered : List ℕ → GroupLane → GroupLane
group_offered key g =
    group_with g
    (record {
      offers = g.keys.offers ++ (key ∷ []);
      acknowledged = g.keys.acknowledged;
      switches = g.keys.switches;
      switched = g.keys.switched;
      number = g.keys.number;
    })
    g.towards g.sent

unfoldable pub group_leaving : List Lane → InFlight → GroupLane → GroupLane
group_leaving ls x g = group_with g g.keys (leaving_for g ls x) g.sent

-- an envelope that the OLT sent to the group; where it is a switch, that is counted
unfoldable pub group_sent : ℕ → List Lane → Envelope → GroupLane → GroupLane
group_sent now ls e g =
    group_with g
    (record {
      offers = g.keys.offers;
      acknowledged = g.keys.acknowledged;
      switches = e.number;
      switched = pick (group_switching g now) now g.keys.switched;
      number = g.keys.number;
    })
    (leaving_for g ls (envelope e)) (g.sent ++ (e ∷ []))

-- the kth of what is under way of the group to that unit arrives: what left before it and has not arrived is lost
unfoldable pub group_taken : ℕ → ℕ → GroupLane → GroupLane
group_taken u k g = group_with g g.keys (set g.towards u (drop (suc k) (get_or g.towards u []))) g.sent

-- a unit's accepted call handed over an acknowledgement of the group's key
unfoldable pub group_answered : GroupAnswered → GroupLane → GroupLane
group_answered a g =
    record {
      llid = g.llid;
      entry = g.entry;
      roster = g.roster;
      keys = g.keys;
      towards = g.towards;
      answered = g.answered ++ (a ∷ []);
      sent = g.sent;
      arrived = g.arrived;
    }

unfoldable pub group_arrived : GroupArrival → GroupLane → GroupLane
group_arrived r g =
    record {
      llid = g.llid;
      entry = g.entry;
      roster = g.roster;
      keys = g.keys;
      towards = g.towards;
      answered = g.answered;
      sent = g.sent;
      arrived = g.arrived ++ (r ∷ []);
    }

---- a unit's path changes (02, C-16)

-- the acknowledgements of that unit may leave again from now on
unfoldable pub answer_again : ℕ → ℕ → GroupAnswered → GroupAnswered
answer_again u now a = pick (eqb a.unit u) (record { unit = a.unit; answer = a.answer; tick = now }) a

-- what is under way of the group to that unit is lost
unfoldable pub group_moved : ℕ → ℕ → GroupLane → GroupLane
group_moved u now g =
    record {
      llid = g.llid;
      entry = g.entry;
      roster = g.roster;
      keys = g.keys;
      towards = set g.towards u [];
      answered = map (answer_again u now) g.answered;
      sent = g.sent;
      arrived = g.arrived;
    }

---- the groups that a unit joined

unfoldable pub is_joined : List Membership → ℕ → Bool
is_joined ms llid = among llid (map (λ (m : Membership). m.llid) ms)

-- since it joined the group's LLID it has accepted the message of key n
unfoldable pub has_taken : List Membership → ℕ → ℕ → Bool
has_taken [] llid n = false
has_taken (m ∷ ms) llid n = either (both (eqb m.llid llid) (among n m.took)) (has_taken ms llid n)

unfoldable pub joining : ℕ → List Membership → List Membership
joining llid ms = ms ++ (record { llid = llid; took = [] } ∷ [])

-- the message of key n was accepted
unfoldable pub taking : ℕ → ℕ → List Membership → List Membership
taking llid n ms = map (λ (m : Membership). pick (eqb m.llid llid) (record { llid = m.llid; took = m.took ++ (n ∷ []) }) m) ms
