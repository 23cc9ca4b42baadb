-- What holds of a group at the OLT and at a unit holds when the line knows more, or channels are free later.
-- Assumes nothing.
use mathlib.Core.Path.{◌≡◌, refl, sym, ◌∙◌, ap}
use mathlib.Core.Bool.{Bool, true, false}
use mathlib.Core.List.{List}
use Prim.Native.Nat.{ℕ, ◌≤◌}
use native.Mathlib.Omega.{arith}
use Rattle.octets.specs.Choice.{both}
use Rattle.ends.specs.Identities.{llids_of, meets}
use Rattle.ends.specs.Occupancy.{free_from}
use Rattle.ends.specs.declared.Channels.{Channels}
use Rattle.ends.specs.declared.FirstSend.{FirstSend}
use Rattle.group_protocol.specs.Subscriber.{find_joined}
use Rattle.group_protocol.specs.declared.GroupRecord.{GroupRecord}
use Rattle.group_protocol.specs.declared.Joined.{Joined}
use Rattle.group_protocol.specs.declared.Memberships.{Memberships}
use Rattle.group_protocol.specs.declared.Subscriber.{Subscriber}
use Rattle.unicast.specs.Setting.{Setting}
use Rattle.unicast.specs.History.{Envelope, InFlight, Lane}
use Rattle.unicast.proofs.Past.{sent_carried, arrived_carried}
use Rattle.line.specs.History.{GroupArrival, GroupLane, Membership, is_member}
use Rattle.line.proofs.Invariant.{lane_of, arrival_in, GroupSend, GroupArrived, Recorded, joined_for, KeyHeld, Follows}
use Rattle.line.proofs.Queues.{Grown, itself, knows, under_carried}

---- at a unit

pub held_moved : (g g' : GroupLane) (offered offered' : ℕ) (j : Joined) (n : ℕ) → Grown g g' offered → offered ≤ offered' → KeyHeld g offered j n
    → KeyHeld g' offered' j n
held_moved g g' offered offered' j n k h r =
    record { some = r.some; most = omega (arith, r.most); key = r.key ∙ k.keys n r.some r.most }

-- the line knows more, and the unit may have become a member
pub follows_moved : (g g' : GroupLane) (active active' offered offered' : ℕ) (member member' : Bool) (ms : List Membership) (j : Joined)
    (xs : List InFlight) → Grown g g' offered → active ≤ active' → offered ≤ offered' → (member' ≡ false → member ≡ false)
    → Follows g active offered member ms j xs → Follows g' active' offered' member' ms j xs
follows_moved g g' active active' offered offered' member member' ms j xs k a b c f =
    record {
      low = omega (arith, f.low);
      kept = λ e. held_moved g g' offered offered' j _ k b (f.kept e);
      held = λ e. held_moved g g' offered offered' j _ k b (f.held e);
      took = λ n t. f.took n (rw k.llid at t);
      queue = under_carried g g' j.keys.active j.keys.active active active' offered offered' xs k (omega arith) a b f.queue;
      stranger = λ e. f.stranger (c e);
    }

-- of what a unit joined only its memberships matter
pub joined_for_same : (x y : Subscriber) (llid : ℕ) → x.memberships ≡ y.memberships → joined_for x llid ≡ joined_for y llid
unfolding joined_for find_joined
joined_for_same x y llid e = ap (λ (m : Memberships). joined_for (record { onu = x.onu; memberships = m }) llid) e

---- members

-- once a member, always a member
pub member_stays : (g g' : GroupLane) (l l' : Lane) → g'.roster ≡ g.roster → l'.site ≡ l.site
    → (l.entry.registered ≡ true → l'.entry.registered ≡ true)
    → is_member g' l' ≡ false → is_member g l ≡ false
unfolding is_member both
member_stays g g' l l' e f r h = by_registered l.entry.registered refl where
  by_registered : (t : Bool) → l.entry.registered ≡ t → both t (meets (llids_of l.site.identity) g.roster) ≡ false
  by_registered false p = refl
  by_registered true p = rw (r p, f, e) at h

---- at the OLT

pub send_moved : (w : Setting) (c c' : Channels) (first : FirstSend) (active : ℕ) (g g' : GroupLane) (e : Envelope) (top : ℕ) → Grown g g' top
    → active ≤ top
    → ((i : ℕ) → free_from c i ≤ free_from c' i) → GroupSend w c first active g e → GroupSend w c' first active g' e
send_moved w c c' first active g g' e top n h rises s =
    let p = s.spent in
    record {
      direction = s.direction;
      llid = s.llid ∙ sym n.llid;
      down = s.down;
      fits = s.fits;
      spent = record { most = p.most; passed = omega (arith, p.passed, rises e.channel); noted = p.noted };
      right = sent_carried w (lane_of g) (lane_of g') top (knows g g' top n) e (omega (arith, p.most)) s.right;
    }

pub arrived_moved : (w : Setting) (g g' : GroupLane) (a : GroupArrival) (top : ℕ) → Grown g g' top → a.envelope.number ≤ top → GroupArrived w g a
    → GroupArrived w g' a
arrived_moved w g g' a top n h r =
    record {
      sent = n.sent a.envelope r.sent;
      clear = λ p q. arrived_carried w (lane_of g) (lane_of g') top (knows g g' top n) (arrival_in a) h (r.clear p q);
      sealed = λ p t q. arrived_carried w (lane_of g) (lane_of g') top (knows g g' top n) (arrival_in a) h (r.sealed p t q);
      unsynced = r.unsynced;
    }

-- channels are free from no earlier
pub recorded_beside : (w : Setting) (c c' : Channels) (now : ℕ) (g : GroupLane) (r : GroupRecord) → ((i : ℕ) → free_from c i ≤ free_from c' i)
    → Recorded w c now g r → Recorded w c' now g r
recorded_beside w c c' now g r rises q =
    record {
      llid = q.llid;
      counted = q.counted;
      listed = q.listed;
      mid = q.mid;
      next = q.next;
      stored = q.stored;
      timing = q.timing;
      sends = λ e m.
          send_moved w c c' r.keys.first r.keys.active g g e r.keys.active (itself g r.keys.active) (omega arith) rises (q.sends e m);
      spaced = q.spaced;
      arrived = q.arrived;
    }
